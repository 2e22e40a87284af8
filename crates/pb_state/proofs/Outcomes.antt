-- What a result brings, whichever it is.
use Rattle.std.proofs.Common.{arith, Result, OnErr}

-- what holds anyway holds of a call that was refused
pub err_always : {A E : Type 0} (r : Result A E) (Q : Type 0) → Q → OnErr r Q
err_always r h q = grind arith
