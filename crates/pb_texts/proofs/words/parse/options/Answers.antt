use Rattle.std.proofs.Common.{arith, ap, sym, ◌∙◌}
use Rattle.clap.proofs.KindLemmas.{fails_by_from}
use Rattle.pb_reading.specs.Reading.{texts_of}
use Rattle.pb_texts.specs.CommandLines.{command_in}
use Rattle.pb_texts.proofs.Faults.{has_kind_still, asked_faultless, unasked_fault, asked_in_range}
use Rattle.pb_texts.proofs.words.parse.options.Goals as goal

pub returns-in_err-matches-clause-kinds : goal.returns-in_err-matches-clause-kinds
returns-in_err-matches-clause-kinds c = grind (arith, fails_by_from, has_kind_still, c.args.words.now, c.from_residual.result, c.in_err-matches.ensures.kinds)

pub returns-in-Some-clause-kinds : goal.returns-in-Some-clause-kinds
returns-in-Some-clause-kinds c = asked_faultless (texts_of c.args.words.now) _ c.in_ok-matches.ensures.kinds (ap command_in (sym c.in_ok-matches.ensures.subcommand) ∙ sym c.in-Some.ensures)

pub returns-in-Some-clause-range : goal.returns-in-Some-clause-range
returns-in-Some-clause-range c = asked_in_range (texts_of c.args.words.now) c.in-Some.options (ap command_in (sym c.in_ok-matches.ensures.subcommand) ∙ sym c.in-Some.ensures)

pub returns-clause-kinds : goal.returns-clause-kinds
returns-clause-kinds c = grind (arith, unasked_fault, c.args.words.now, c.in_ok-plus_error-in-None.ensures, c.in_ok-matches.ensures.kinds, c.in_ok-matches.ensures.subcommand, c.in-None.ensures)
