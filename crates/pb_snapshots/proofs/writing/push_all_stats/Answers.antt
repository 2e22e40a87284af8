use Rattle.std.proofs.Common.{◌≡◌, ◌++◌, ◌∷◌, ◌+◌, [], List, take, get_or, ap, subst, sym, ◌∙◌}
use Rattle.std.specs.List.{flat_map, AllByRecursion}
use Rattle.std.proofs.lemmas.List.{take_more, flat_map_more}
use Rattle.pb_snapshots.specs.Words.{ObserverStats}
use Rattle.pb_snapshots.specs.Snapshot.{stats_bytes, FitsStats}
use Rattle.pb_snapshots.proofs.Lists.{recursion_push}
use Rattle.pb_snapshots.proofs.writing.push_all_stats.Goals as goal

pub loop-stats-preserved : goal.loop-stats-preserved
loop-stats-preserved c =
    let xs = c.args.all.now in
    let i = c.loop-stats.stats-index in
    let old = c.args.bytes.now.items in
    let none : ObserverStats = record { runs = 0; nonzero = 0; conflicts = 0; asks = 0; instructions = 0 } in
    let x = get_or xs i none in
    let more : take (i + 1) xs ≡ take i xs ++ x ∷ [] = take_more xs i none c.loop-stats-test.true in
    record {
      added = c.in_ok-push_stats.ensures.added ∙ ap (λ t. t ++ stats_bytes x) c.loop-stats.invariant.added ∙ flat_map_more stats_bytes old (take i xs) x ∙ ap (λ (t : List ObserverStats). old ++ flat_map stats_bytes t) (sym more);
      fits = subst (AllByRecursion FitsStats) (sym more) (recursion_push FitsStats (take i xs) x c.loop-stats.invariant.fits c.in_ok-push_stats.ensures.fits);
    }
