-- Tables that keep the same changes are the same, and so are those whose new observers have caught up. The laws of this crate cite it.
use Rattle.std.specs.Prelude.{◌≡◌, ℕ, ◌≤◌, List, ◌++◌, Some, slice_get}
use Rattle.pb_keeper.specs.Keeps.{CatchesUp, IsChosenOf, Keeps}
use Rattle.pb_keeper.specs.Stats.{KeptTable}
use Rattle.law_replays.specs.Words.{MAX_RECORD_BYTES, Writes, ObserverOf}

-- the program of each is judged for a record of a size that there is, as every accepted one is
abbrev pub AreJudged : List ObserverOf → Type 0
AreJudged observers = (n : ℕ) (o : ObserverOf) → slice_get observers n ≡ Some o → o.program.record_size ≤ MAX_RECORD_BYTES

-- entries, marks, clock and transactions follow from the changes since a generation began, from the table that it began with, and from its
-- limit of entries
abbrev pub ReplayHasOneOutcome : Type 0
ReplayHasOneOutcome = (limit : ℕ) (first : KeptTable) (changes : List Writes) (a b : KeptTable) → AreJudged first.state.observers → Keeps limit first changes a → Keeps limit first changes b → a.state ≡ b.state

-- Where a table that keeps changes goes on with some of its observers, and gets others, which catch up with so many runs at most,
-- entries, marks, clock and transactions follow from the table that it goes on with, from the observers, and from that number.
abbrev pub CatchingUpHasOneOutcome : Type 0
CatchingUpHasOneOutcome =
    (limit : ℕ) (first : KeptTable) (changes : List Writes) (old between a b : KeptTable) (places : List ℕ) (front more : List ObserverOf) → AreJudged (front ++ more) → Keeps limit first changes old
    → IsChosenOf places front old between → (f : CatchesUp more between a) → (g : CatchesUp more between b) → f.bound ≡ g.bound → a.state ≡ b.state
