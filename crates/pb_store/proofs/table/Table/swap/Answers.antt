use Rattle.std.proofs.Common.{◌≡◌, ◌<◌, length, sym, ◌∙◌, subst, set, arith}
use Rattle.std.proofs.lemmas.List.{get_or_default}
use Rattle.pb_store.specs.TableOf.{firsts_of}
use Rattle.pb_store.specs.Tiles.{tiles_of, joined, IsTiling}
use Rattle.pb_store.proofs.Fresh.{nothing_from_test}
use Rattle.pb_store.proofs.Routing.{tiles_kept, firsts_kept, length-firsts_of}
use Rattle.pb_store.proofs.table.Table.swap.Given.{Over}
use Rattle.pb_store.proofs.table.Table.swap.Goals as goal
use Rattle.pb_store.proofs.table.Table.swap.Goals.{After-clear_tablet-2}

pub copy_all-requires : goal.copy_all-requires
copy_all-requires g c = nothing_from_test (g.T.Tablet.contents c.args.tablet) (sym c.if-not-is_empty.ensures)

module _ (g : Over) (c : After-clear_tablet-2 g) where
  within : c.args.place < length c.self.inside.parts.items
  within = grind (arith, length-firsts_of, c.places-places.result, c.self.inside.parts.items, c.places-places.ensures.places, c.self.view_is, c.if-place-places.false)

  one : c.index.result.now ≡ c.index_mut-part.result.now
  one = c.index.ensures ∙ get_or_default c.self.inside.parts.items c.args.place c.index.result.now c.index_mut-part.result.now within ∙ sym c.index_mut-part.ensures.value

  copied : g.T.Tablet.contents c.replace-old.new.dest ≡ g.T.Tablet.contents c.index_mut-part.result.now.1
  copied = grind (arith, one, g.T.Tablet.contents, c.replace-old.ensures.after, c.copy_all.result, c.in_default, c.copy_all.ensures)

  same : tiles_of g.T.Tablet.contents (set c.self.inside.parts.items c.args.place (c.index_mut-part.result.now.0, c.replace-old.new.dest)) ≡ tiles_of g.T.Tablet.contents c.self.inside.parts.items
  same = tiles_kept g.T.Tablet.contents c.self.inside.parts.items c.args.place c.index_mut-part.result.now c.replace-old.new.dest within c.index_mut-part.ensures.value copied

  firsts : firsts_of (set c.self.inside.parts.items c.args.place (c.index_mut-part.result.now.0, c.replace-old.new.dest)) ≡ firsts_of c.self.inside.parts.items
  firsts = firsts_kept c.self.inside.parts.items c.args.place c.index_mut-part.result.now c.replace-old.new.dest within c.index_mut-part.ensures.value

pub invariant_of-self : goal.invariant_of-self
invariant_of-self g c = subst IsTiling (sym (same g c)) c.self.invariant

pub returns-clause-same : goal.returns-clause-same
returns-clause-same g c = (λ i. record { contents = joined (same g c i); firsts = firsts g c i }) ∙ c.self.view_is
