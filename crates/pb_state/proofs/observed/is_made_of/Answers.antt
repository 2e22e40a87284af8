use Rattle.std.proofs.Common.{arith}
use Rattle.pb_state.proofs.SameRuns.{other_program, other_record, by_start}
use Rattle.pb_state.proofs.observed.is_made_of.Goals as goal

pub returns-then-not-is_of : goal.returns-then-not-is_of
returns-then-not-is_of c = other_program c.args.finished.now c.args.program.now c.args.change.now c.args.start.0 (λ is. let no = c.if-not-is_of.ensures.1 is in cc)

pub returns-then-not-is_same : goal.returns-then-not-is_same
returns-then-not-is_same c = grind (arith, other_record, c.if-not-is_of.false, c.args.finished.now, c.args.program.now, c.args.change.now, c.record.ensures)

pub returns : goal.returns
returns c = grind (arith, by_start, c.if-not-is_of.false, c.record.ensures, c.if-not-is_same.false, c.args.finished.now, c.args.program.now, c.args.change.now, c.eq.result, c.eq.ensures, c.start.ensures)
