use Rattle.std.proofs.Common.{IsTrue, subst}
use Rattle.pb_keep.specs.Conversations.{keeper_view}
use Rattle.pb_keep.specs.FirstOpened.{IsOpenedTo}
use Rattle.percobpf_keep.proofs.questions.open_first.Goals as goal

pub returns-clause-made : goal.returns-clause-made
returns-clause-made g c = λ written.
    let old = c.args.keeper.now in
    let new = c.open_first.new.self in
    subst (λ t. IsTrue (g.D.Disk.is_clean new.log.disk) → IsOpenedTo old.state.observers t (g.D.Disk.seen old.log.disk) c.args.most (keeper_view g.D.Disk.seen g.D.Disk.may_leave new written) c.in_ok-open_first.field-0)
    c.as_bytes.ensures.value (c.in_ok-open_first.ensures.made written)
