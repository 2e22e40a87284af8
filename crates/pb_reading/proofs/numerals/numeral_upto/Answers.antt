use Rattle.std.proofs.Common.{sym, ◌∙◌}
use Rattle.pb_reading.proofs.NumeralValues.{none_fits}
use Rattle.pb_reading.proofs.numerals.numeral_upto.Goals as goal

pub returns-in_default-clause-value : goal.returns-in_default-clause-value
returns-in_default-clause-value g c = none_fits _ c.args.form c.args.range c.args.greatest c.args.word.now c.in_default.field-0 c.ranges.greatest.fits (sym c.is_numeral.ensures ∙ c.if-not-is_numeral.false) c.in_default.ensures.value.0
