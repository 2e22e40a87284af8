use Rattle.std.proofs.Common.{take}
use Rattle.pb_story.specs.Words.{taking}
use Rattle.pb_story.specs.Stories.{AreTold}
use Rattle.pb_story.proofs.story.tell_events.Given as goal

abbrev pub invariant-loop-number : goal.invariant-loop-number
invariant-loop-number g l = AreTold l.excerpt l.fn.world (take l.number l.events) l.world (taking g.S.Sink.taken g.S.Sink.failed l.fn.sink l.sink)
