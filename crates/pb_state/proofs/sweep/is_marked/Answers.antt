use Rattle.pb_state.proofs.Walking.{fewer_left}
use Rattle.pb_state.proofs.sweep.is_marked.Goals as goal

pub loop-next-smaller : goal.loop-next-smaller
loop-next-smaller g c = fewer_left c.args.table.now.contents.marks c.loop-next.last c.in-Some.next c.in-Some.ensures
