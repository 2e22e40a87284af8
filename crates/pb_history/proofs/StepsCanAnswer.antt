-- What a step is answered is one of the answers of its kind.
use Rattle.std.proofs.Common.{arith, ℕ}
use Rattle.pb_history.specs.Words.{Step, Answer, StateOf, StepCase, TableStep, CanAnswer}

module _ (old : StateOf) (seat : ℕ) (new : StateOf) where
  case_answers : (step : Step) (answer : Answer) → StepCase old seat step answer new → CanAnswer step answer
  case_answers step answer c = grind arith

pub steps_answer : (old : StateOf) (seat : ℕ) (step : Step) (answer : Answer) (new : StateOf) → TableStep old seat step answer new → CanAnswer step answer
steps_answer old seat step answer new m = case_answers old seat new step answer m.taken
