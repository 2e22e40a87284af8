use Rattle.std.proofs.Common.{ap, subst, ◌∙◌}
use Rattle.std.proofs.lemmas.Result.{IfOk-weaker}
use Rattle.clap.specs.Words.{App, FailsBy, fault_of, is_simple, is_simple_and_free, subcommand_of}
use Rattle.pb_reading.specs.Reading.{texts_of}
use Rattle.pb_texts.proofs.words.story.story_matches.Goals as goal

pub returns-clause-kinds : goal.returns-clause-kinds
returns-clause-kinds c =
    subst (λ (a : App). FailsBy (fault_of a (texts_of c.args.words.now)) c.try_get_matches_from.result) c.in_ok-command.ensures
    (c.try_get_matches_from.ensures.kinds (ap is_simple_and_free c.in_ok-command.ensures))

pub returns-clause-subcommand : goal.returns-clause-subcommand
returns-clause-subcommand c =
    IfOk-weaker c.try_get_matches_from.result _ _
    (λ m h. (h (ap is_simple c.in_ok-command.ensures)).1 ∙ ap (λ (a : App). subcommand_of a (texts_of c.args.words.now)) c.in_ok-command.ensures)
    c.try_get_matches_from.ensures.matches
