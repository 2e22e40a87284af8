-- A seat's list and the journal: what stands in one stands in the other, and each transaction begins once.
use Rattle.std.proofs.Common.{arith, ◌≡◌, ℕ, ◌<◌, Bool, true, false, cond, not, nat_lt, ◌||◌, List, [], ◌∷◌, filter, Option, Some, None, inl, inr, refl, sym, ap, subst, ◌∙◌, eq-eqb, ◌==◌}
use Rattle.std.specs.List.{list_any}
use Rattle.std.proofs.lemmas.Bool.{eqb-true, ltb-true}
use Rattle.pb_worker.specs.Words.{Ts, Reason, Step, Answer, Work, is_out, StateOf, step_reason, Entry, Received, entries_of, Has, IsEntry, JournalLeads, names_start, entries_naming, is_begin, BeginsOnce, TellsTransactions, told}
use Rattle.pb_core.proofs.Keeps.{machine_seats}
use Rattle.pb_worker.proofs.Starts.{HasTwice}

-- ---- lists of which some items are kept

has_kept : {A : Type 0} (b : Bool) (x : A) (xs : List A) (y : A) → Has xs y → Has (cond b (x ∷ xs) xs) y
has_kept b x xs y h = grind arith

twice_kept : {A : Type 0} (b : Bool) (x : A) (xs : List A) (y : A) → HasTwice xs y → HasTwice (cond b (x ∷ xs) xs) y
twice_kept b x xs y t = grind arith

-- an item that passes the test is one of those that do
has_filtered : {A : Type 0} (p : A → Bool) (xs : List A) (x : A) → p x ≡ true → Has xs x → Has (filter p xs) x
has_filtered p [] x is h = absurd h
has_filtered p (y ∷ xs) x is (inl e) = subst (λ b. Has (cond b (y ∷ filter p xs) (filter p xs)) x) (sym (ap p e ∙ is)) (inl e)
has_filtered p (y ∷ xs) x is (inr h) = has_kept (p y) y (filter p xs) x (has_filtered p xs x is h)

twice_filtered : {A : Type 0} (p : A → Bool) (xs : List A) (x : A) → p x ≡ true → HasTwice xs x → HasTwice (filter p xs) x
twice_filtered p [] x is t = absurd t
twice_filtered p (y ∷ xs) x is (inl t) = subst (λ b. HasTwice (cond b (y ∷ filter p xs) (filter p xs)) x) (sym (ap p t.0 ∙ is)) (inl (t.0, has_filtered p xs x is t.1))
twice_filtered p (y ∷ xs) x is (inr t) = twice_kept (p y) y (filter p xs) x (twice_filtered p xs x is t)

twice_has : {A : Type 0} (xs : List A) (x : A) → HasTwice xs x → Has xs x
twice_has [] x t = absurd t
twice_has (y ∷ xs) x (inl t) = inr t.1
twice_has (y ∷ xs) x (inr t) = inr (twice_has xs x t)

-- ---- a seat's list

-- what its seat received
abbrev as_received : Entry → Received
as_received e = record { step = e.step; answer = e.answer }

-- the entry of this seat
abbrev its_entry : ℕ → Received → Entry
its_entry seat r = record { seat = seat; step = r.step; answer = r.answer }

is_entry : (seat : ℕ) (e : Entry) (r : Received) → (e.seat == seat) ≡ true → as_received e ≡ r → e ≡ its_entry seat r
is_entry seat e r own is = let same : e.seat ≡ seat = eqb-true e.seat seat own in λ i. record { seat = same i; step = (is i).step; answer = (is i).answer }

has_entry : (b : Bool) (seat : ℕ) (e : Entry) (es : List Entry) (r : Received) → (e.seat == seat) ≡ b → Has (cond b (as_received e ∷ entries_of seat es) (entries_of seat es)) r
    → (Has (entries_of seat es) r → Has es (its_entry seat r)) → Has (e ∷ es) (its_entry seat r)
has_entry b seat e es r own h more = grind arith

-- what a seat's entries record stands in the journal
pub in_journal : (seat : ℕ) (j : List Entry) (r : Received) → Has (entries_of seat j) r → IsEntry j seat r.step r.answer
in_journal seat [] r h = absurd h
in_journal seat (e ∷ es) r h = has_entry (e.seat == seat) seat e es r refl h (in_journal seat es r)

-- and what stands there of a seat is recorded by its entries
pub in_list : (seat : ℕ) (j : List Entry) (r : Received) → IsEntry j seat r.step r.answer → Has (entries_of seat j) r
in_list seat [] r h = absurd h
in_list seat (e ∷ es) r (inl is) = grind arith
in_list seat (e ∷ es) r (inr h) = has_kept (e.seat == seat) (as_received e) (entries_of seat es) r (in_list seat es r h)

twice_entry : (b : Bool) (seat : ℕ) (e : Entry) (es : List Entry) (r : Received) → (e.seat == seat) ≡ b → HasTwice (cond b (as_received e ∷ entries_of seat es) (entries_of seat es)) r
    → (HasTwice (entries_of seat es) r → HasTwice es (its_entry seat r)) → HasTwice (e ∷ es) (its_entry seat r)
twice_entry b seat e es r own t more = grind (arith, is_entry, in_journal)

twice_in_journal : (seat : ℕ) (j : List Entry) (r : Received) → HasTwice (entries_of seat j) r → HasTwice j (its_entry seat r)
twice_in_journal seat [] r t = absurd t
twice_in_journal seat (e ∷ es) r t = twice_entry (e.seat == seat) seat e es r refl t (twice_in_journal seat es r)

-- ---- one begin

right_false : (a b : Bool) → (a || b) ≡ false → b ≡ false
right_false a b e = grind arith

none_later : (es : List Entry) (e : Entry) → list_any (λ (d : Entry). is_begin d.step) es ≡ false → is_begin e.step ≡ true → Has es e → ⊥
none_later [] e none is h = h
none_later (d ∷ es) e none is (inl same) = grind arith
none_later (d ∷ es) e none is (inr h) = none_later es e (right_false (is_begin d.step) (list_any (λ (d : Entry). is_begin d.step) es) none) is h

-- of the entries that name one start one is a begin
one_begin : (es : List Entry) (d e : Entry) → BeginsOnce es → is_begin d.step ≡ true → is_begin e.step ≡ true → Has es d → Has es e → d ≡ e
one_begin es d e once p q h k = grind (arith, none_later)

-- and it stands there once
not_again : (es : List Entry) (e : Entry) → BeginsOnce es → is_begin e.step ≡ true → HasTwice es e → ⊥
not_again es e once is t = grind (arith, none_later, twice_has)

module _ (journal : List Entry) (state : StateOf) (tells : TellsTransactions journal state) (u : Ts) where
  abbrev begin_by : ℕ → Work → Entry
  begin_by seat work = record { seat = seat; step = Step.Begin work; answer = Answer.At u }

  abbrev names : Entry → Bool
  names e = names_start u.0 e.step e.answer

  named : (u.0 == u.0) ≡ true
  named = eq-eqb u.0 u.0 refl

  -- what began with one start was of one seat, and for one work
  pub same_begin : (j k : ℕ) (v w : Work) → IsEntry journal j (Step.Begin v) (Answer.At u) → IsEntry journal k (Step.Begin w) (Answer.At u) → (j ≡ k) × (v ≡ w)
  same_begin j k v w h i =
      let e : begin_by j v ≡ begin_by k w = one_begin (entries_naming u.0 journal) (begin_by j v) (begin_by k w) (tells.begins u.0) refl refl (has_filtered names journal (begin_by j v) named h) (has_filtered names journal (begin_by k w) named i) in
      let step : Step.Begin v ≡ Step.Begin w = ap (λ (z : Entry). z.step) e in
      (ap (λ (z : Entry). z.seat) e, cc)

  pub begun_once : (seat : ℕ) (work : Work) → HasTwice (entries_of seat journal) (told (Step.Begin work) (Answer.At u)) → ⊥
  begun_once seat work t =
      not_again (entries_naming u.0 journal) (begin_by seat work) (tells.begins u.0) refl (twice_filtered names journal (begin_by seat work) named (twice_in_journal seat journal (told (Step.Begin work) (Answer.At u)) t))

-- ---- a transaction is of one of the table's seats

-- where none of some reasons applies, the second does not
second_reason : (a b : Bool) (p q : Reason) (rest : Option Reason) → cond a (Some p) (cond (not b) (Some q) rest) ≡ None → b ≡ true
second_reason a b p q rest e = grind arith

has_seat : (state : StateOf) (seat : ℕ) (work : Work) → step_reason state seat (Step.Begin work) ≡ None → seat < state.seats
has_seat state seat work e = ltb-true seat state.seats (second_reason (is_out state) (nat_lt seat state.seats) Reason.OutOfTimestamps Reason.NotOfSeat _ e)

-- no step changes how many seats there are
seats_stay : (old : StateOf) (es : List Entry) (new : StateOf) → JournalLeads old es new → new.seats ≡ old.seats
seats_stay old [] new r = ap (λ (z : StateOf). z.seats) r
seats_stay old (e ∷ es) new r = seats_stay r.0 es new r.2 ∙ machine_seats old e.seat e.step e.answer r.0 r.1

-- a seat of the table began each transaction
pub begun_by_seat : (old : StateOf) (es : List Entry) (new : StateOf) (seat : ℕ) (work : Work) (u : Ts) → JournalLeads old es new → IsEntry es seat (Step.Begin work) (Answer.At u) → seat < new.seats
begun_by_seat old [] new seat work u r h = absurd h
begun_by_seat old (e ∷ es) new seat work u r (inl is) = grind (arith, seats_stay, has_seat, r.1.allowed, new.seats, old.seats)
begun_by_seat old (e ∷ es) new seat work u r (inr h) = begun_by_seat r.0 es new seat work u r.2 h
