-- What comes of a step: its answer and the state that it leaves, together.
use Rattle.std.specs.Prelude.{◌≡◌}
use Rattle.pb_history.specs.Words.{Answer, StateOf}

-- two answers, each with the state that is left, are the same
pub record AreSame (a : Answer) (new : StateOf) (b : Answer) (other : StateOf) : Type 0 where
  pub answer : a ≡ b
  pub state : new ≡ other
