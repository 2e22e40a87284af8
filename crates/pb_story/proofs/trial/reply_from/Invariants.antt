use Rattle.std.proofs.Common.{◌≡◌, drop, map}
use Rattle.pb_story.specs.Words.{content_in}
use Rattle.pb_story.specs.Trials.{held_by}
use Rattle.pb_story.proofs.trial.reply_from.Given as goal

abbrev pub invariant-loop-given : goal.invariant-loop-given
invariant-loop-given l = content_in (map held_by (drop l.given-index l.cells)) l.cell ≡ content_in (map held_by l.cells) l.cell
