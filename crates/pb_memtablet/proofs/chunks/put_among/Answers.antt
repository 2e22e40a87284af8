use Rattle.std.proofs.Common.{◌≡◌, get_or, ◌<◌, ◌+◌, cond, length, set, arith, sym, ap, subst, T, vec_len}
use Rattle.std.specs.FinMap.{put, is_sorted}
use Rattle.std.specs.FinMap.Entries.{is_sorted-put}
use Rattle.std.proofs.lemmas.List.Elements.{All-set}
use Rattle.pb_memtablet.specs.declared.chunks.TheConstants.{CHUNK}
use Rattle.pb_memtablet.specs.Chunks.{chunk_entries, IsChunk}
use Rattle.pb_memtablet.proofs.Spots.{true_holds}
use Rattle.pb_memtablet.proofs.Pieces.{home_sorted, put-in_home, length-set_in, at_most_one}
use Rattle.pb_memtablet.proofs.Counted.{block_is_counted, count_is_small, counts_after, byte_of}
use Rattle.pb_memtablet.proofs.chunks.put_among.Goals as goal
use Rattle.pb_memtablet.proofs.chunks.put_among.Goals.{After-put_in-is_new}
use Rattle.pb_base.proofs.Logic.{test_is_true}

pub put_in-is_new-requires-clause-sorted : goal.put_in-is_new-requires-clause-sorted
put_in-is_new-requires-clause-sorted g c =
    let R = g.K.Ord.cmp in
    let home = c.roomy_home-home in
    test_is_true _ (home_sorted R g.met.K.Ord.total home.new.chunks.items c.args.key home.result c.index_mut.result.now home.ensures.home c.index_mut.ensures.value
    (subst (λ l. T (is_sorted R l)) (sym home.ensures.entries) (true_holds _ c.requires.chunks.sorted)))

-- all entries after the put, which changed one chunk
entries_are : (g : _) (c : After-put_in-is_new g) → chunk_entries (set c.roomy_home-home.new.chunks.items c.roomy_home-home.result c.put_in-is_new.new.entries) ≡ put g.K.Ord.cmp c.args.key c.args.value (chunk_entries c.args.chunks.now.items)
entries_are g c = grind (arith, put-in_home, g.K.Ord.cmp, c.roomy_home-home, g.met.K.Ord.total, c.args.key, c.args.value, c.index_mut.result.now, c.put_in-is_new.new.entries, c.index_mut.ensures.value, c.put_in-is_new.ensures.items)

pub returns-clause-entries : goal.returns-clause-entries
returns-clause-entries g c = entries_are g (goal.at.returns-clause-entries g c).After-put_in-is_new

pub returns-clause-grown : goal.returns-clause-grown
returns-clause-grown g c =
    let home = c.roomy_home-home in
    let m = c.index_mut.result.now in
    let n = c.put_in-is_new.new.entries in
    let more : length n.items + 0 ≡ length m.items + cond c.put_in-is_new.result 1 0 = omega (arith, m.ok.0, n.ok.0, c.put_in-is_new.ensures.len) in
    let all = length-set_in home.new.chunks.items home.result m n (cond c.put_in-is_new.result 1 0) 0 home.ensures.home.within c.index_mut.ensures.value more in
    omega (arith, all, ap length home.ensures.entries)

pub returns-clause-chunks : goal.returns-clause-chunks
returns-clause-chunks g c =
    let R = g.K.Ord.cmp in
    let home = c.roomy_home-home in
    let m = c.index_mut.result.now in
    let n = c.put_in-is_new.new.entries in
    let old : IsChunk m = rw c.index_mut.ensures.value (home.ensures.each home.result m home.ensures.home.within) in
    let short : vec_len m < CHUNK = rw c.index_mut.ensures.value (home.ensures.not_full m) in
    record {
      sorted = test_is_true _ (subst (λ l. T (is_sorted R l)) (sym (entries_are g (goal.at.returns-clause-chunks g c).After-put_in-is_new)) (is_sorted-put R g.met.K.Ord.total c.args.key c.args.value _ (true_holds _ c.requires.chunks.sorted)));
      each = All-set IsChunk home.new.chunks.items home.result n (record { filled = omega (arith, old.filled, c.put_in-is_new.ensures.len); fits = omega (arith, short, at_most_one c.put_in-is_new.result, c.put_in-is_new.ensures.len); roomy = omega (arith, old.roomy, c.put_in-is_new.ensures.capacity) }) home.ensures.each;
    }

pub index_mut-requires-2 : goal.index_mut-requires-2
index_mut-requires-2 g c =
    let home = c.roomy_home-home in
    let counted = block_is_counted home.new.counts.items home.new.chunks.items home.result c.block_of.result home.ensures.counts home.ensures.home.within c.block_of.ensures in
    omega (arith, counted, home.new.counts.ok.0)

pub overflow_add-index_mut : goal.overflow_add-index_mut
overflow_add-index_mut g c =
    let home = c.roomy_home-home in
    let had = c.index_mut-2.result.now in
    let counted = block_is_counted home.new.counts.items home.new.chunks.items home.result c.block_of.result home.ensures.counts home.ensures.home.within c.block_of.ensures in
    let small = count_is_small home.new.counts.items home.new.chunks.items c.block_of.result had home.ensures.counts home.ensures.each counted in
    omega (arith, small, c.index_mut-2.ensures.value, c.from.ensures, byte_of c.put_in-is_new.result, at_most_one c.put_in-is_new.result)

pub returns-clause-counts : goal.returns-clause-counts
returns-clause-counts g c =
    let home = c.roomy_home-home in
    let m = c.index_mut.result.now in
    let n = c.put_in-is_new.new.entries in
    let had = c.index_mut-2.result.now in
    let new = c.put_in-is_new.result in
    let more : length n.items + 0 ≡ length m.items + cond new 1 0 = omega (arith, m.ok.0, n.ok.0, c.put_in-is_new.ensures.len) in
    let counted : had + c.from.result + 0 ≡ get_or home.new.counts.items c.block_of.result had + cond new 1 0 = omega (arith, c.index_mut-2.ensures.value, c.from.ensures, byte_of new) in
    counts_after home.new.counts.items home.new.chunks.items home.result c.block_of.result m n (cond new 1 0) 0 (had + c.from.result) had home.ensures.counts home.ensures.home.within c.block_of.ensures c.index_mut.ensures.value more counted
