use Rattle.std.proofs.Common.{◌++◌, ◌∷◌, [], ap, ◌∙◌, sym}
use Rattle.pb_state.proofs.Taking.{take_with_next}
use Rattle.pb_state.proofs.cells.batch_list.Goals as goal

pub loop-next-preserved : goal.loop-next-preserved
loop-next-preserved c =
    c.in_ok-push.ensures.items ∙ ap (λ xs. xs ++ c.at.result ∷ []) c.loop-next.invariant ∙ sym (take_with_next c.args.batch.now c.loop-next.next c.at.result c.at.ensures)
