-- Marks are found, and go once all observers are up to date.
use Rattle.std.proofs.Common.{arith, ◌≡◌, ℕ, true, cond, ◌⊎◌, inl, inr, Option, Some, None, refl, ap, ◌∙◌, is_some, Less, Equal, Greater}
use Rattle.std.specs.Ordering.{ordering_reverse}
use Rattle.std.specs.FinMap as map
use Rattle.pb_history.specs.Words.{Cell, cell_cmp, cell_cmp_total, cell_cmp-IsAntisymmetric, Marks, ComesAfter, IsNextMark, Step, Answer, StateOf, is_marked, StepCase, TableStep}
use Rattle.pb_history.specs.Progress.{TellsFirstMark, TellsUnmarked}
use Rattle.pb_history.proofs.Updates.{same_cell, same_cell_itself}

-- of two cells one comes first
pub first_of_two : (x y : Cell) → ((y ≡ x) ⊎ (cell_cmp y x ≡ Less)) ⊎ (cell_cmp x y ≡ Less)
first_of_two x y =
    elim (cell_cmp y x) as (λ r. cell_cmp y x ≡ r → ((y ≡ x) ⊎ (cell_cmp y x ≡ Less)) ⊎ (cell_cmp x y ≡ Less)) [
      | Less ↦ λ e. inl (inr e)
      | Equal ↦ λ e. inl (inl (cell_cmp-IsAntisymmetric y x e))
      | Greater ↦ λ e. inr (cell_cmp_total.antisymm x y ∙ ap ordering_reverse e)
    ] refl

-- the first marked cell is at most any other
at_most_others : (marks : Marks) (after : Option Cell) (y : Cell) → IsNextMark marks after (Some y) → (x : Cell) → is_marked marks x ≡ true → ComesAfter after x → (y ≡ x) ⊎ (cell_cmp y x ≡ Less)
at_most_others marks after y h x marked comes = grind (arith, first_of_two)

module _ (old : StateOf) (seat : ℕ) (new : StateOf) where
  case_first : (step : Step) (answer : Answer) → StepCase old seat step answer new → TellsFirstMark old step answer
  case_first (Step.NextMark after) (Answer.Marked y) m = λ x marked comes. (y, refl, m.first.0, m.first.1, at_most_others old.marks after y m.first x marked comes)
  case_first (Step.NextMark after) Answer.NoMark m = λ x marked comes. let unmarked = m.none x comes in absurd cc
  case_first (Step.NextMark after) _ m = absurd m
  case_first _ _ m = tt

  case_unmarks : (step : Step) (answer : Answer) → StepCase old seat step answer new → TellsUnmarked old step new
  unfolding same_cell
  case_unmarks (Step.Sweep x) Answer.NoMark m = λ nobody. ap (λ (z : StateOf). is_marked z.marks x) m.new_is ∙ m.unmarked
  case_unmarks (Step.Sweep x) Answer.StillBehind m = λ nobody. absurd (nobody m.behind)
  case_unmarks (Step.Sweep x) Answer.Done m = λ nobody.
      ap (λ (z : StateOf). is_marked z.marks x) m.new_is
      ∙ ap is_some (map.get-remove cell_cmp_total old.marks x x ∙ ap (λ b. cond b None (map.get old.marks x)) (same_cell_itself x))
  case_unmarks (Step.Sweep x) _ m = absurd m
  case_unmarks _ _ m = tt

pub finds_first : (old : StateOf) (seat : ℕ) (step : Step) (answer : Answer) (new : StateOf) → TableStep old seat step answer new → TellsFirstMark old step answer
finds_first old seat step answer new m = case_first old seat new step answer m.taken

pub step_unmarks : (old : StateOf) (seat : ℕ) (step : Step) (answer : Answer) (new : StateOf) → TableStep old seat step answer new → TellsUnmarked old step new
step_unmarks old seat step answer new m = case_unmarks old seat new step answer m.taken
