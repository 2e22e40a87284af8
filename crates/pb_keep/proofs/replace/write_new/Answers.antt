use Rattle.pb_keep.proofs.Replacing.{begun_with_fewer}
use Rattle.pb_keep.proofs.replace.write_new.Goals as goal

pub returns-in-Ok-wrote-clause-begun : goal.returns-in-Ok-wrote-clause-begun
returns-in-Ok-wrote-clause-begun g c = λ known.
    let begun = c.in-Ok-wrote.ensures.begun (c.close_new.ensures.clean known) in
    (c.snapshot_into-wrote.new.log.end, begun_with_fewer _ _ _ _ _ _ _ _ _ (c.close_new.ensures.seen known) (c.close_new.ensures.may_leave known) begun)

pub returns-in-Ok-wrote-clause-versions : goal.returns-in-Ok-wrote-clause-versions
returns-in-Ok-wrote-clause-versions g c = c.in-Ok-wrote.ensures.versions
