use Rattle.pb_api.proofs.Made.{made_next}
use Rattle.pb_api.proofs.running.writes_made.Goals as goal

pub loop-at-preserved : goal.loop-at-preserved
loop-at-preserved c =
    made_next c.args.writes.now c.loop-at.at c.loop-at.made c.index-writes-at.result c.write_made.result
    c.loop-at-test.true c.requires c.loop-at.invariant c.index-writes-at.is c.write_made.ensures
