use Rattle.std.proofs.Common.{arith, ◌≡◌, [], length, subst}
use Rattle.std.proofs.lemmas.List.{append-nil}
use Rattle.std.proofs.lemmas.List.Elements.{All-drop}
use Rattle.pb_memtablet.specs.BlockCounts.{AreCounts}
use Rattle.pb_memtablet.proofs.Homes.{made_on_success}
use Rattle.pb_memtablet.proofs.Pieces.{is_zero}
use Rattle.pb_memtablet.proofs.Counted.{counts_go_on}
use Rattle.pb_memtablet.proofs.counts.count_blocks.Goals as goal
use Rattle.pb_base.proofs.Logic.{empty_by_length}

pub loop-rest-preserved : goal.loop-rest-preserved
loop-rest-preserved g c = grind (arith, made_on_success, counts_go_on, All-drop, c.loop-rest, c.push.result, c.push.ensures.items, c.unwrap.ensures, c.args.chunks.now, c.split_at.result.0.now, c.split_at.result.1.now, c.count_entries.result, c.min.result, c.min.ensures, c.split_at.ensures.front, c.split_at.ensures.back, c.count_entries.ensures)

pub returns-clause-counts : goal.returns-clause-counts
returns-clause-counts g c =
    let none : c.loop-rest.rest.now ≡ [] = empty_by_length c.loop-rest.rest.now (is_zero (length c.loop-rest.rest.now) c.loop-rest-test.ensures) in
    subst (λ q. AreCounts q c.args.chunks.now) (append-nil c.loop-rest.counts.items) (c.loop-rest.invariant.counts [] none)
