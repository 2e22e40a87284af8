-- What keeps observers at work: marks are found, and go once all are up to date (OSDI 2010, section 2.4).
use Rattle.std.specs.Prelude.{◌≡◌, true, false, ◌⊎◌}
use Rattle.std.specs.declared.cmp.Ordering.TheVariants.{Less}
use Rattle.pb_history.specs.Words.{Cell, cell_cmp, ComesAfter, Step, Answer, StateOf, is_marked, SomeBehind}

-- where a marked cell comes after the given one, a marked cell after it is answered, which is that one or comes before it
abbrev pub TellsFirstMark : StateOf → Step → Answer → Type 0
TellsFirstMark old (Step.NextMark after) answer =
    (x : Cell) → is_marked old.marks x ≡ true → ComesAfter after x
    → (y : Cell) × (answer ≡ Answer.Marked y) × (is_marked old.marks y ≡ true) × ComesAfter after y × ((y ≡ x) ⊎ (cell_cmp y x ≡ Less))
TellsFirstMark old _ answer = Unit {0}

-- a cell that is swept has no mark where all observers are up to date on it
abbrev pub TellsUnmarked : StateOf → Step → StateOf → Type 0
TellsUnmarked old (Step.Sweep x) new = (SomeBehind old.observers old.entries x → ⊥) → is_marked new.marks x ≡ false
TellsUnmarked old _ new = Unit {0}
