use Rattle.std.proofs.Common.{◌∙◌, map, sym}
use Rattle.pb_api.specs.Runs.{reply_given}
use Rattle.pb_api.proofs.Stops.{reached_at_ask, reached_at_end}
use Rattle.pb_api.proofs.running.reach.Goals as goal

pub returns-in-Asking : goal.returns-in-Asking
returns-in-Asking c =
    reached_at_ask c.args.vm c.go_with.new.vm c.args.replies.now c.asking.result c.go_with.ensures.given c.in-Asking.ask c.taken-instructions.result
    (sym c.phase.ensures.phase ∙ c.in-Asking.is) c.go_with.ensures.stops c.phase.ensures.runnable c.taken-instructions.ensures.taken c.asking.ensures

pub returns-in-Over : goal.returns-in-Over
returns-in-Over c =
    reached_at_end c.args.vm c.go_with.new.vm (map reply_given c.args.replies.now) c.ended-in-Over.result c.go_with.ensures.given
    c.in-Over.field-0 c.finish.result c.taken-instructions.result (sym c.phase.ensures.phase ∙ c.in-Over.is) c.go_with.ensures.stops c.finish.ensures
    c.taken-instructions.ensures.taken c.ended-in-Over.ensures
