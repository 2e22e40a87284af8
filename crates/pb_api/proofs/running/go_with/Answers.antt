use Rattle.std.proofs.Common.{map, drop, ◌+◌}
use Rattle.pb_api.specs.Runs.{reply_given}
use Rattle.pb_api.proofs.Stops.{waits_for_reply, stops_at_end, stops_last, goes_on_with, left_with_next, left_with_none}
use Rattle.pb_api.proofs.running.go_with.Goals as goal

pub reply-requires : goal.reply-requires
reply-requires c = waits_for_reply c.loop-given.vm c.follow.new.self c.in-Asks.field-0 c.in-Asks.ensures.follows

pub returns-in-Ended : goal.returns-in-Ended
returns-in-Ended c =
    let on = stops_at_end c.args.vm.now c.loop-given.vm (map reply_given (drop c.loop-given.given-index c.args.replies.now)) (map reply_given c.args.replies.now)
    c.loop-given.invariant c.follow.new.self c.in-Ended.field-0 c.in-Ended.ensures.follows in
    record { given = on.0; stops = on.1 }

pub loop-given-preserved : goal.loop-given-preserved
loop-given-preserved c =
    goes_on_with c.args.vm.now c.loop-given.vm c.follow.new.self c.reply.new.self c.in-Asks.field-0 c.reply_from.result
    (map reply_given (drop (c.loop-given.given-index + 1) c.args.replies.now)) (map reply_given c.args.replies.now)
    (left_with_next c.args.vm.now c.loop-given.vm c.args.replies.now c.loop-given.given-index _ c.reply_from.result (map reply_given c.args.replies.now)
    c.loop-given-test.true c.reply_from.ensures c.loop-given.invariant)
    c.in-Asks.ensures.follows c.reply.ensures.replied

pub returns : goal.returns
returns c =
    let on = stops_last c.args.vm.now c.loop-given.vm (map reply_given c.args.replies.now) c.follow-2.result c.follow-2.new.self
    (left_with_none c.args.vm.now c.loop-given.vm c.args.replies.now c.loop-given.given-index (map reply_given c.args.replies.now) c.loop-given-test.false c.loop-given.invariant)
    c.follow-2.ensures.follows in
    record { given = on.0; stops = on.1 }
