use Rattle.std.proofs.Common.{arith, rules, ◌≡◌, ◌<◌, Some, Err, length, subst, refl, sym, slice_get}
use Rattle.std.proofs.lemmas.Option.{slice_get_read}
use Rattle.pb_story.specs.Words.{taking}
use Rattle.pb_story.specs.Stories.{LinesEnd}
use Rattle.pb_story.proofs.Retelling.{told_more, told_to}
use Rattle.pb_story.proofs.story.tell_events.Goals as goal

pub returns-in_err-tell_event : goal.returns-in_err-tell_event
returns-in_err-tell_event g c =
    let l = c.loop-number in
    let inside : l.number < length c.args.events.now = search rules in
    let at : slice_get c.args.events.now l.number ≡ Some c.index-events-number.result = slice_get_read c.args.events.now _ l.number _ refl inside c.index-events-number.is in
    let same : c.from_residual.result ≡ Err c.in_err-tell_event.field-0.0 = search rules in
    let now = g.S.Sink.taken c.tell_event.new.sink in
    let failed = g.S.Sink.failed c.tell_event.new.sink in
    let whole = taking g.S.Sink.taken g.S.Sink.failed c.args.sink.now c.tell_event.new.sink in
    subst (λ r. LinesEnd c.args.excerpt.now c.args.world.now c.args.events.now c.tell_event.new.world whole r) (sym same)
    (told_to c.args.excerpt.now c.args.world.now c.args.events.now l.number l.world c.tell_event.new.world c.index-events-number.result
    (g.S.Sink.taken c.args.sink.now) (g.S.Sink.taken l.sink) now (g.S.Sink.failed l.sink) failed c.in_err-tell_event.field-0.0 at l.invariant c.in_err-tell_event.ensures)

pub loop-number-preserved : goal.loop-number-preserved
loop-number-preserved g c = grind (arith, slice_get_read, told_more, c.loop-number, c.args.events.now, c.index-events-number.result, c.index-events-number.is, c.args.excerpt.now, c.args.world.now, c.tell_event.new.world, g.S.Sink.taken, c.args.sink.now, c.tell_event.new.sink, g.S.Sink.failed, c.in_ok-tell_event.ensures)
