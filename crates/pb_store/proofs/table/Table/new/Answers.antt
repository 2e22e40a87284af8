use Rattle.std.proofs.Common.{sym, ap, ◌∙◌, arith}
use Rattle.pb_store.specs.Tiles.{tiles_of, rise_from_zero, all_nothing}
use Rattle.pb_store.proofs.Routing.{length-tiles_of}
use Rattle.pb_store.proofs.Fresh.{tiling_of_nothing, joined-nothing, refused_unrisen}
use Rattle.pb_store.proofs.table.Table.new.Goals as goal
use Rattle.pb_base.proofs.Logic.{nonzero_positive}

pub returns-then-not-rises-clause-refused : goal.returns-then-not-rises-clause-refused
returns-then-not-rises-clause-refused g c = grind (arith, nonzero_positive, refused_unrisen, length-tiles_of, c.args.parts, c.if-is_empty.ensures, c.refusal-then-not-rises.result, g.T.Tablet.contents, c.deref.ensures.value, c.deref.result.now, c.deref.ensures.len, c.if-not-rises.ensures, c.refusal-then-not-rises.ensures)

pub invariant_of-result : goal.invariant_of-result
invariant_of-result g c =
    tiling_of_nothing (tiles_of g.T.Tablet.contents c.args.parts.items)
    (ap (λ ps. rise_from_zero (tiles_of g.T.Tablet.contents ps)) (sym c.deref.ensures.value) ∙ sym c.if-not-rises.ensures)
    (ap (λ ps. all_nothing (tiles_of g.T.Tablet.contents ps)) (sym c.deref-2.ensures.value) ∙ sym c.if-not-are_empty.ensures)

pub returns-clause-contents : goal.returns-clause-contents
returns-clause-contents g c = grind (arith, joined-nothing, g.T.Tablet.contents, c.args.parts.items, c.deref-2.ensures.value, c.if-not-are_empty.ensures)
