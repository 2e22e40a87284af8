use Rattle.std.proofs.Common.{arith, ◌≡◌, ◌<◌, length, sym, ap, ◌∙◌, subst}
use Rattle.pb_store.specs.Contents.{after_edits, AreOfRow}
use Rattle.pb_store.specs.TableOf.{TableOf}
use Rattle.pb_store.specs.Tiles.{tiles_of, joined, IsTiling, IsPlace}
use Rattle.pb_store.proofs.Routing.{tiles_kept, firsts_kept}
use Rattle.pb_store.proofs.Applying.{result_cases, err_then, tiling_after, joined_after}
use Rattle.pb_store.proofs.table.Table.apply.Given.{Over}
use Rattle.pb_store.proofs.table.Table.apply.Goals as goal
use Rattle.pb_store.proofs.table.Table.apply.Goals.{After-apply}
use Rattle.pb_base.proofs.Logic.{ok_then}

module _ (g : Over) (c : After-apply g) where
  within : c.place_in-i.result < length c.self.inside.parts.items
  within = subst (λ ps. c.place_in-i.result < length ps) c.deref.ensures.value c.place_in-i.ensures.within

  of_row : AreOfRow c.row.result.0 c.args.edits.now
  of_row = grind arith

  place : IsPlace (tiles_of g.T.Tablet.contents c.self.inside.parts.items) c.place_in-i.result c.row.result.0
  place = subst (λ ps. IsPlace (tiles_of g.T.Tablet.contents ps) c.place_in-i.result c.row.result.0) c.deref.ensures.value c.place_in-i.ensures.place

  held : joined (tiles_of g.T.Tablet.contents c.self.inside.parts.items) ≡ c.args.self.now.contents
  held = ap (λ (h : TableOf). h.contents) c.self.view_is

pub invariant_of-self : goal.invariant_of-self
invariant_of-self g c =
    let at = (goal.at.invariant_of-self g c).After-apply in
    result_cases c.apply.result _ _ _ c.apply.ensures.ok c.apply.ensures.err
    (λ done. tiling_after g.T.Tablet.contents c.self.inside.parts.items c.place_in-i.result c.index_mut-part.result.now c.apply.new.self
    (within g at) c.index_mut-part.ensures.value c.args.edits.now c.row.result.0 (of_row g at) c.self.invariant (place g at) done)
    (λ same. subst IsTiling (sym (tiles_kept g.T.Tablet.contents c.self.inside.parts.items c.place_in-i.result c.index_mut-part.result.now c.apply.new.self
    (within g at) c.index_mut-part.ensures.value same)) c.self.invariant)

pub returns-clause-ok : goal.returns-clause-ok
returns-clause-ok g c =
    let at = (goal.at.returns-clause-ok g c).After-apply in
    ok_then c.apply.result _ _
    (λ done. joined_after g.T.Tablet.contents c.self.inside.parts.items c.place_in-i.result c.index_mut-part.result.now c.apply.new.self
    (within g at) c.index_mut-part.ensures.value c.args.edits.now c.row.result.0 (of_row g at) c.self.invariant (place g at) done
    ∙ ap (after_edits c.args.edits.now) (held g at))
    c.apply.ensures.ok

pub returns-clause-err : goal.returns-clause-err
returns-clause-err g c = grind (arith, err_then, tiles_kept, within, held, c.apply.result, g.T.Tablet.contents, c.self.inside.parts.items, c.place_in-i.result, c.index_mut-part.result.now, c.apply.new.self, c.index_mut-part.ensures.value, c.apply.ensures.err)

pub returns-clause-firsts : goal.returns-clause-firsts
returns-clause-firsts g c = grind (arith, firsts_kept, within, c.self.inside.parts.items, c.place_in-i.result, c.index_mut-part.result.now, c.apply.new.self, c.index_mut-part.ensures.value, c.self.view_is)
