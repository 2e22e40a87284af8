-- What a cell shows to a program in a snapshot, by what was written there.
use Rattle.std.specs.Prelude.{◌≡◌, ◌↔◌, ◌⊎◌, ℕ, List, Some, None}
use Rattle.law_journals.specs.Words.{Cell, Content, Reply, ObserverOf, Entry, IsSnapshot, NoSnapshot, IsValueAt}

-- a value is shown, and of a deletion or a stamp that there is none
abbrev pub Shows : Content → Reply → Type 0
Shows (Content.Value v) reply = reply ≡ Some v
Shows Content.Deleted reply = reply ≡ None
Shows (Content.Stamp t) reply = reply ≡ None

-- by the newest write to x in the snapshot at s; where there is none, that there is no value
abbrev pub ShowsAt : List ObserverOf → List Entry → ℕ → Cell → Reply → Type 0
ShowsAt observers journal s x reply =
    (NoSnapshot observers journal s x × (reply ≡ None))
    ⊎ ((start : ℕ) × (commit : ℕ) × (content : Content) × IsSnapshot observers journal s x start commit content × Shows content reply)

-- so it is of the replies of each run of a journal, and of the value at its acknowledgment
abbrev pub ValuesAreShown : Type 0
ValuesAreShown = (observers : List ObserverOf) (journal : List Entry) (s : ℕ) (x : Cell) (reply : Reply) → IsValueAt observers journal s x reply ↔ ShowsAt observers journal s x reply
