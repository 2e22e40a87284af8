use Rattle.std.proofs.Common.{◌≡◌, ◌++◌, ◌<◌, ◌*◌, length, sym, ap, ◌∙◌, arith, length-append}
use Rattle.std.specs.List.{flat_map, AllByRecursion}
use Rattle.pb_snapshots.specs.Snapshot.{FitsStats, stats_bytes, version_bytes}
use Rattle.pb_snapshots.proofs.Lists.{one_head, all_stats_one, length-stats, at_some, at_none}
use Rattle.pb_snapshots.proofs.reading.read_snapshot.Goals as goal

-- no clock and no number of observers
pub returns-in_default-clause-none : goal.returns-in_default-clause-none
returns-in_default-clause-none c s fits same =
    c.in_default.ensures.none s.clock (length s.stats) (flat_map stats_bytes s.stats ++ flat_map version_bytes s.cells) same

-- too few stats
pub returns-in_default-2-clause-none : goal.returns-in_default-2-clause-none
returns-in_default-2-clause-none c s fits same =
    let own = flat_map stats_bytes s.stats ++ flat_map version_bytes s.cells in
    let within = c.in-Some.ensures.within in
    let head = one_head c.in-Some.clock s.clock c.in-Some.count (length s.stats) c.in-Some.rest.now own within.0 fits.clock within.1 fits.count (sym c.in-Some.ensures.some ∙ same) in
    let few : length c.in-Some.rest.now < 40 * c.in-Some.count = at_none c.in_ok-stats.field-0 _ c.in_default-2.is c.in_ok-stats.ensures.none in
    omega (arith, few, head.1, ap length head.2, length-append (flat_map stats_bytes s.stats) (flat_map version_bytes s.cells), length-stats s.stats)

-- something else than versions
pub returns-in_default-3-clause-none : goal.returns-in_default-3-clause-none
returns-in_default-3-clause-none c s fits same =
    let own = flat_map stats_bytes s.stats ++ flat_map version_bytes s.cells in
    let within = c.in-Some.ensures.within in
    let head = one_head c.in-Some.clock s.clock c.in-Some.count (length s.stats) c.in-Some.rest.now own within.0 fits.clock within.1 fits.count (sym c.in-Some.ensures.some ∙ same) in
    let stats = c.in-Some-2.stats.items in
    let rest = c.in-Some-2.rest.now in
    let count : length stats ≡ c.in-Some.count = at_some c.in_ok-stats.field-0 _ _ c.in-Some-2.is c.in_ok-stats.ensures.count in
    let front : c.in-Some.rest.now ≡ flat_map stats_bytes stats ++ rest = at_some c.in_ok-stats.field-0 _ _ c.in-Some-2.is c.in_ok-stats.ensures.bytes in
    let bounds : AllByRecursion FitsStats stats = at_some c.in_ok-stats.field-0 _ _ c.in-Some-2.is c.in_ok-stats.ensures.fits in
    let others = all_stats_one stats s.stats rest (flat_map version_bytes s.cells) (count ∙ head.1) bounds fits.stats (sym front ∙ head.2) in
    at_none c.in_ok-cells.field-0 _ c.in_default-3.is c.in_ok-cells.ensures.none s.cells fits.cells others.1
