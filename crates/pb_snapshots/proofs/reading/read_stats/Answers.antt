use Rattle.std.proofs.Common.{◌≡◌, ◌++◌, ◌∷◌, [], length, subst, sym, ap, arith, length-append}
use Rattle.std.specs.List.{flat_map, AllByRecursion}
use Rattle.pb_snapshots.specs.Snapshot.{stats_bytes, FitsStats}
use Rattle.pb_snapshots.proofs.Versions.{stats_takes}
use Rattle.pb_snapshots.proofs.Lists.{length-stats, stats_none, recursion_push, one_more}
use Rattle.pb_snapshots.proofs.reading.read_stats.Goals as goal

pub returns-in_default-clause-none : goal.returns-in_default-clause-none
returns-in_default-clause-none c =
    let all = c.loop.all.items in
    let short = stats_none c.loop.rest.now (sym c.in_default.ensures) in
    omega (arith, short, c.loop.invariant.count, c.loop-test.true, ap length c.loop.invariant.whole, length-append (flat_map stats_bytes all) c.loop.rest.now, length-stats all)

pub loop-preserved : goal.loop-preserved
loop-preserved c =
    let all = c.loop.all.items in
    let x = c.in-Some.stats in
    let more : c.push.new.self.items ≡ all ++ x ∷ [] = c.in_ok-push.ensures.items in
    let took = stats_takes c.loop.rest.now (x, c.in-Some.more.now) c.loop.invariant.rest (sym c.in-Some.ensures) in
    record {
      whole = one_more stats_bytes all x c.push.new.self.items c.args.bytes.now c.loop.rest.now c.in-Some.more.now more c.loop.invariant.whole took.0.parts;
      count = omega (arith, c.loop.invariant.count, ap length more, length-append all (x ∷ []));
      fits = subst (AllByRecursion FitsStats) (sym more) (recursion_push FitsStats all x c.loop.invariant.fits took.1);
      rest = took.0.rest_fits;
    }
