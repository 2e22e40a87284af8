use Rattle.std.proofs.Common.{◌≡◌, ◌+◌, true, subst, suc, drop, rules, arith}
use Rattle.pb_memtablet.specs.Chunks.{chunk_entries, starts_by, AreAbove}
use Rattle.pb_memtablet.proofs.Spots.{true_holds}
use Rattle.pb_memtablet.proofs.Pieces.{below_start}
use Rattle.pb_memtablet.proofs.chunks.is_home.Goals as goal

pub returns-clause-home : goal.returns-clause-home
returns-clause-home g c t =
    let R = g.K.Ord.cmp in
    let cs = c.args.chunks.now in
    let k = c.args.key.now in
    let here : starts_by R k c.index-chunks-place.result.items ≡ true = search rules in
    let one : c.args.place + 1 ≡ suc c.args.place = omega arith in
    record {
      within = omega arith;
      below = below_start R g.met.K.Ord.total cs k c.args.place c.index-chunks-place.result (omega arith) c.index-chunks-place.is (true_holds _ c.requires.sorted) here;
      above = subst (λ n. AreAbove R k (chunk_entries (drop n cs))) one (c.is_below_next.ensures c.if-not-is_below_next.false);
    }
