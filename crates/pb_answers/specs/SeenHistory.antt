-- What the entries of a table show, against the history of the journal that led to it.
use Rattle.std.specs.Prelude.{◌≡◌, ◌↔◌, ℕ, Option, Some}
use Rattle.pb_history.specs.Journals.{OfLegal}
use Rattle.pb_script.specs.Committed.{IsSeenAt, IsWrite}
use Rattle.pb_answers.specs.Words.{Cell, Content, Newest, NoLock}
use Rattle.pb_answers.specs.Seen.{IsSeenIn, written_at}

-- After a legal journal that leaves no lock, what the entries show of a snapshot is what the committed transactions of the journal
-- make it, as the report of a journal has it.
abbrev pub SeenIsHistory : Type 0
SeenIsHistory = OfLegal (λ _ _ _ journal state. ((x : Cell) → NoLock state.entries x) → (s : ℕ) (x : Cell) (r : Option Newest) → IsSeenIn state.entries s x r → IsSeenAt state.observers journal s x r)

-- After such a journal, the entries have a write of a commit exactly where a committed transaction of the journal made it.
abbrev pub WrittenIsHistory : Type 0
WrittenIsHistory = OfLegal (λ _ _ _ journal state. ((x : Cell) → NoLock state.entries x) → (x : Cell) (c : ℕ) (k : Content) → (written_at state.entries x c ≡ Some k) ↔ IsWrite state.observers journal x c k)
