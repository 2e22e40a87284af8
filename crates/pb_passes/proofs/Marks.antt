-- From mark to mark.
use Rattle.std.proofs.Common.{arith, ◌≡◌, ◌≢◌, Option}
use Rattle.pb_passes.specs.Words.{Cell, Step, Answer, CanAnswer}

-- an answer that names no cell reports that there is no mark
pub no_mark : (after : Option Cell) (a : Answer) → CanAnswer (Step.NextMark after) a → ((x : Cell) → a ≢ Answer.Marked x) → a ≡ Answer.NoMark
no_mark after a can isnt = grind arith
