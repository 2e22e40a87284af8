use Rattle.std.proofs.lemmas.Grind.{common_steps}
use Rattle.std.proofs.Common.{◌≡◌, subst, arith, get_or, Less, Equal}
use Rattle.pb_memtablet.proofs.Spots.{true_holds, as_read, found_at, gap_between}
use Rattle.pb_memtablet.proofs.sorted.search_from.Goals as goal
use Rattle.pb_base.proofs.Logic.{turned_order}

pub returns-in-Equal-clause-found : goal.returns-in-Equal-clause-found
returns-in-Equal-clause-found g c =
    found_at g.met.K.Ord.total c.args.entries.now c.args.key.now c.loop-low.next (true_holds _ c.requires) (omega arith)
    (λ d. turned_order g.met.K.Ord.total c.args.key.now _ Equal (as_read g.met.K.Ord.total c.args.entries.now (g.K.Ord.cmp c.args.key.now) c.loop-low.next c.index-entries-next.result c.cmp.result Equal (omega arith) c.index-entries-next.is c.cmp.ensures c.in-Equal.is d))

pub returns-clause-gap : goal.returns-clause-gap
returns-clause-gap g c =
    let met : c.loop-low.high ≡ c.loop-low.low = omega (arith, c.loop-low.invariant.ordered) in
    gap_between g.met.K.Ord.total c.args.entries.now c.args.key.now c.loop-low.low (true_holds _ c.requires) (omega (arith, c.loop-low.invariant.within, c.loop-low.invariant.ordered)) c.loop-low.invariant.below
    (λ d more. subst (λ n. g.K.Ord.cmp c.args.key.now (get_or c.args.entries.now n d).0 ≡ Less) met (c.loop-low.invariant.above (omega (arith, met, more)) d))

pub loop-low-preserved : goal.loop-low-preserved
loop-low-preserved g c = grind (arith, common_steps)
