-- The journal of a seat's conversation.
use Rattle.std.proofs.Common.{◌≡◌, ℕ, inl, inr, List, [], ◌∷◌, ◌++◌, refl, ap}
use Rattle.pb_generations.specs.Words.{Has, IsEntry, Entry, Received, entries_by}

abbrev pub entry : ℕ → Received → Entry
entry seat r = record { seat = seat; step = r.step; answer = r.answer }

pub by_append : (seat : ℕ) (a b : List Received) → entries_by seat (a ++ b) ≡ entries_by seat a ++ entries_by seat b
by_append seat [] b = refl
by_append seat (r ∷ a) b = ap (λ l. entry seat r ∷ l) (by_append seat a b)

-- each of its steps is an entry
pub said_there : (seat : ℕ) (said : List Received) (r : Received) → Has said r → IsEntry (entries_by seat said) seat r.step r.answer
said_there seat [] r is = absurd is
said_there seat (x ∷ said) r (inl is) = inl (ap (entry seat) is)
said_there seat (x ∷ said) r (inr is) = inr (said_there seat said r is)
