-- The reasons to refuse a step are listed by rising numbers.
use Rattle.std.proofs.Common.{ℕ, arith}
use Rattle.pb_history.specs.Words.{Step, StateOf, step_reasons}
use Rattle.pb_history.specs.Refusals.{RiseAbove}

pub step_reasons_rise : (state : StateOf) (seat : ℕ) (step : Step) → RiseAbove 0 (step_reasons state seat step)
step_reasons_rise state seat step = grind arith
