use Rattle.pb_asm.proofs.NumbersBeyond.{line_told}
use Rattle.pb_asm.proofs.RangeToldOnly.{range_is, told_only}
use Rattle.pb_asm.proofs.text.numbers_out_of_range_are_told.Goals as goal

pub returns-clause-read : goal.returns-clause-read
returns-clause-read c = range_is

pub returns-clause-told : goal.returns-clause-told
returns-clause-told c = line_told

pub returns-clause-only : goal.returns-clause-only
returns-clause-only c = told_only
