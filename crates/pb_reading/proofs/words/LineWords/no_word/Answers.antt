use Rattle.std.proofs.Common.{rules}
use Rattle.pb_reading.proofs.FirstPart.{left_over}
use Rattle.pb_reading.proofs.words.LineWords.no_word.Goals as goal

pub returns-then-is_some : goal.returns-then-is_some
returns-then-is_some g c = left_over c.args.form c.args.self.now.rest (search rules)
