use Rattle.std.proofs.Common.{arith, rules, ◌∙◌}
use Rattle.std.proofs.lemmas.Result.{err_from_is_err_and}
use Rattle.pb_parse.specs.Words.{writes_of}
use Rattle.pb_parse.specs.ScriptLines.{batch_of}
use Rattle.pb_parse.proofs.PartByPart.{goes_on, ends_at_part, last_part}
use Rattle.pb_parse.proofs.script.lines.writes_in.Goals as goal

pub loop-first-preserved : goal.loop-first-preserved
loop-first-preserved c = (search rules, goes_on (writes_of c.loop-first.writes.items) _ c.loop-first.rest.now c.in-Some.first.now c.in-Some.after.now (batch_of c.args.line.now) c.in-Some.ensures.cases c.in_ok-add.ensures c.loop-first.invariant.1)

pub returns-in_err-add : goal.returns-in_err-add
returns-in_err-add c =
    let p = err_from_is_err_and c.from_residual-in_err-add.result c.from_residual-in_err-add.ensures.1 in
    rw (p.1, p.2) (ends_at_part (writes_of c.loop-first.writes.items) c.loop-first.rest.now c.in-Some.first.now c.in-Some.after.now (batch_of c.args.line.now) _ c.in-Some.ensures.cases c.in_err-add.ensures c.loop-first.invariant.1)

pub returns-in_err-add-2 : goal.returns-in_err-add-2
returns-in_err-add-2 c = grind (arith, err_from_is_err_and, last_part, c.from_residual-in_err-add-2.result, c.loop-first.writes.items, c.loop-first.rest.now, c.args.line.now, c.in_default.ensures.cases, c.in_err-add-2.ensures)

pub returns : goal.returns
returns c = last_part (writes_of c.loop-first.writes.items) c.loop-first.rest.now (batch_of c.args.line.now) c.in_default.ensures.cases c.loop-first.invariant.1 ∙ c.in_ok-add-2.ensures
