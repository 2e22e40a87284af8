use Rattle.std.proofs.Common.{sym, ◌∙◌}
use Rattle.pb_script.proofs.Trims.{trim_is, trim_more}
use Rattle.pb_script.proofs.reports.lines.+trim_zeros.Goals as goal

pub returns-then-last-ne0-clause-bytes : goal.returns-then-last-ne0-clause-bytes
returns-then-last-ne0-clause-bytes t c = sym (trim_is c.args.bytes.now c.in-Some.front.now c.in-Some.last.now c.in-Some.ensures.cases.0 c.if-last-ne0.true)

pub returns-clause-bytes : goal.returns-clause-bytes
returns-clause-bytes t c = c.trim_zeros.ensures.bytes ∙ sym (trim_more c.args.bytes.now c.in-Some.front.now c.in-Some.last.now c.in-Some.ensures.cases.0 c.if-last-ne0.false (sym c.is_empty.ensures ∙ c.if-is_empty.false))
