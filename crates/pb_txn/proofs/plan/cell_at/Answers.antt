use Rattle.std.proofs.Common.{◌<◌, ◌-◌, length, slice_get, Some, slice_index_or, sym, ap, subst, ◌∙◌}
use Rattle.pb_txn.specs.Words.{Declared}
use Rattle.pb_txn.specs.Places.{declared_cells}
use Rattle.pb_txn.proofs.CellsAt.{after_first}
use Rattle.pb_txn.proofs.plan.cell_at.Goals as goal

pub returns-else-place-eq0 : goal.returns-else-place-eq0
returns-else-place-eq0 c =
    let k = c.args.place in
    let d = c.index-writes-place.result in
    let is = c.in-Run.is in
    let lt = subst (λ (w : Declared). k < length (declared_cells w)) is c.requires in
    ap (λ (w : Declared). slice_get (declared_cells w) k) is
    ∙ after_first _ c.in-Run.ended.writes k d c.if-place-eq0.false lt
    ∙ ap (λ ws. Some (slice_index_or ws (k - 1) d).0) (sym (c.writes.ensures ∙ ap (λ f. f.writes) c.get-finished.ensures))
