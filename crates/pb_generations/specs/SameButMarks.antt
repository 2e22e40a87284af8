-- Journals that are the same but for steps of marks. What a table holds for its transactions, and what it answers to them, doesn't
-- depend on its marks. So where its observers change, its journal, renumbered and but for those steps, is one of a table that was
-- opened with another list.
use Rattle.std.specs.Prelude.{◌≡◌, ℕ, Bool, true, false, not, List, filter}
use Rattle.pb_generations.specs.Words.{ObserverOf, StateOf, Step, IsLegal, Entry}

-- it looks for a mark, or takes one off
abbrev pub is_of_marks : Step → Bool
is_of_marks (Step.NextMark after) = true
is_of_marks (Step.Sweep x) = true
is_of_marks _ = false

-- the entries of the other steps, in their order
abbrev pub without_marks : List Entry → List Entry
without_marks journal = filter (λ e. not (is_of_marks e.step)) journal

-- two journals are the same but for steps that look for marks or take them off
abbrev pub SameButMarks : List Entry → List Entry → Type 0
SameButMarks past journal = without_marks past ≡ without_marks journal

-- a legal journal leads to the state, and is the same as this one but for steps of marks
pub record IsLegalButMarks (observers : List ObserverOf) (seats clock : ℕ) (journal : List Entry) (state : StateOf) : Type 0 where
  pub past : List Entry
  pub same : SameButMarks past journal
  pub legal : IsLegal observers seats clock past state
