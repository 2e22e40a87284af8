use Rattle.std.proofs.Common.{arith}
use Rattle.pb_parse.proofs.script.words.value_of_word.Goals as goal

pub returns-in-Ok : goal.returns-in-Ok
returns-in-Ok c = grind arith
