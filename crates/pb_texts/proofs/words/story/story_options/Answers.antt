use Rattle.std.proofs.Common.{arith, ap, sym, option_map, ◌∙◌}
use Rattle.clap.proofs.KindLemmas.{fails_by_from}
use Rattle.pb_reading.specs.Reading.{texts_of}
use Rattle.pb_texts.specs.StoryLines.{story_in, story_request}
use Rattle.pb_texts.proofs.Faults.{has_kind_still}
use Rattle.pb_texts.proofs.StoryFaults.{asked_faultless}
use Rattle.pb_texts.proofs.words.story.story_options.Goals as goal

pub returns-in_err-matches-clause-kinds : goal.returns-in_err-matches-clause-kinds
returns-in_err-matches-clause-kinds c = grind (arith, fails_by_from, has_kind_still, c.args.words.now, c.from_residual.result, c.in_err-matches.ensures.kinds)

pub returns-in-Some-clause-kinds : goal.returns-in-Some-clause-kinds
returns-in-Some-clause-kinds c = asked_faultless (texts_of c.args.words.now) _ c.in_ok-matches.ensures.kinds (ap story_in (sym c.in_ok-matches.ensures.subcommand) ∙ (sym c.in_ok-options.ensures ∙ ap (option_map story_request) c.in-Some.is))

pub returns-clause-kinds : goal.returns-clause-kinds
returns-clause-kinds c = grind arith
