use Rattle.std.proofs.Common.{arith, subst}
use Rattle.pb_memtablet.specs.Places.{IsFound}
use Rattle.pb_memtablet.proofs.Spots.{true_holds, without-removed, without-gap}
use Rattle.pb_memtablet.proofs.sorted.take_from.Goals as goal

pub returns-in-Ok-clause-items : goal.returns-in-Ok-clause-items
returns-in-Ok-clause-items g c =
    let found = subst (λ es. IsFound g.K.Ord.cmp es c.args.key.now c.in-Ok.i) c.deref.ensures.value c.in-Ok.ensures.found in
    without-removed g.met.K.Ord.total c.args.entries.now.items c.remove.new.self.items c.args.key.now c.in-Ok.i (true_holds _ c.requires) found c.remove.ensures.items

pub returns-in-Err-clause-items : goal.returns-in-Err-clause-items
returns-in-Err-clause-items g c = grind (arith, without-gap, true_holds, g.K.Ord.cmp, c.args.key.now, c.in-Err.field-0, c.deref.ensures.value, c.in-Err.ensures.gap, g.met.K.Ord.total, c.args.entries.now.items, c.requires)
