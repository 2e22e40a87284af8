use Rattle.std.proofs.Common.{◌-◌, drop, length, rules, take}
use Rattle.std.proofs.lemmas.Fn.{always_returns_same}
use Rattle.pb_memtablet.specs.Chunks.{starts_by}
use Rattle.pb_memtablet.proofs.Spots.{true_holds}
use Rattle.pb_memtablet.proofs.Pieces.{rest_is, rest_is_partitioned, home_at_rest, started_at_rest}
use Rattle.pb_memtablet.proofs.chunks.home_of.Goals as goal

pub returns-then-is_home-clause-started : goal.returns-then-is_home-clause-started
returns-then-is_home-clause-started g c more d = c.is_home.ensures.started c.if-is_home.true more d

pub returns-clause-home : goal.returns-clause-home
returns-clause-home g c =
    let R = g.K.Ord.cmp in
    let cs = c.args.chunks.now in
    let k = c.args.key.now in
    let s = true_holds _ c.requires.chunks.sorted in
    let rest = take (length cs - 1) (drop 1 cs) in
    let point = c.partition_point.ensures.partitioned (λ m. starts_by R k m.items) (always_returns_same _ _ _ (λ a r f' q. search rules)) (rest_is_partitioned R g.met.K.Ord.total cs rest k (rest_is cs) s c.requires.chunks.each) in
    home_at_rest R g.met.K.Ord.total cs rest k (rest_is cs) c.partition_point.result c.requires.some c.partition_point.ensures.bound s c.requires.chunks.each point.0 point.1

pub returns-clause-started : goal.returns-clause-started
returns-clause-started g c more d =
    let R = g.K.Ord.cmp in
    let cs = c.args.chunks.now in
    let k = c.args.key.now in
    let s = true_holds _ c.requires.chunks.sorted in
    let rest = take (length cs - 1) (drop 1 cs) in
    let point = c.partition_point.ensures.partitioned (λ m. starts_by R k m.items) (always_returns_same _ _ _ (λ a r f' q. search rules)) (rest_is_partitioned R g.met.K.Ord.total cs rest k (rest_is cs) s c.requires.chunks.each) in
    started_at_rest R g.met.K.Ord.total cs rest k (rest_is cs) c.partition_point.result d more point.0
