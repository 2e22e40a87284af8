use Rattle.std.proofs.Common.{◌≡◌, ◌-◌, get_or, ◌<◌, ◌+◌, cond, length, set, arith, sym, ap, ◌∙◌, subst, T, vec_len, All}
use Rattle.std.specs.FinMap.{is_sorted}
use Rattle.std.specs.FinMap.Entries.{is_sorted-where_key}
use Rattle.std.proofs.lemmas.List.Elements.{All-set}
use Rattle.pb_memtablet.specs.Chunks.{chunk_entries, IsChunk, IsHome}
use Rattle.pb_memtablet.proofs.Spots.{true_holds}
use Rattle.pb_memtablet.proofs.Homes.{without}
use Rattle.pb_memtablet.proofs.Pieces.{home_sorted, without-in_home, length-taken_from, retired_chunk, still_filled, remove-set, All-remove}
use Rattle.pb_memtablet.proofs.Counted.{block_is_counted, taken_was_counted, counts_after, byte_of}
use Rattle.pb_memtablet.proofs.chunks.take_among.Goals as goal
use Rattle.pb_memtablet.proofs.chunks.take_among.Goals.{Else-is_empty-2, After-retire_chunk}
use Rattle.pb_base.proofs.Logic.{test_is_true}

pub take_from-taken-requires : goal.take_from-taken-requires
take_from-taken-requires g c =
    let R = g.K.Ord.cmp in
    let i = c.noted_home-home.result in
    let h : IsHome R c.args.chunks.now.items c.args.key.now i = subst (λ l. IsHome R l c.args.key.now i) c.deref.ensures.value c.noted_home-home.ensures.home in
    test_is_true _ (home_sorted R g.met.K.Ord.total c.args.chunks.now.items c.args.key.now i c.index_mut.result.now h c.index_mut.ensures.value (true_holds _ c.requires.chunks.sorted))

-- all entries where the chunk still has some
entries_else : (g : _) (c : Else-is_empty-2 g) → chunk_entries (set c.args.chunks.now.items c.noted_home-home.result c.take_from-taken.new.entries) ≡ without g.K.Ord.cmp c.args.key.now (chunk_entries c.args.chunks.now.items)
entries_else g c = grind (arith, without-in_home, c.noted_home-home.result, g.K.Ord.cmp, c.args.chunks.now.items, c.args.key.now, c.deref.ensures.value, c.noted_home-home.ensures.home, g.met.K.Ord.total, c.index_mut.result.now, c.take_from-taken.new.entries, c.index_mut.ensures.value, c.take_from-taken.ensures.items)

pub returns-else-is_empty-2-clause-entries : goal.returns-else-is_empty-2-clause-entries
returns-else-is_empty-2-clause-entries g c = entries_else g (goal.at.returns-else-is_empty-2-clause-entries g c).Else-is_empty-2

pub returns-else-is_empty-2-clause-shrunk : goal.returns-else-is_empty-2-clause-shrunk
returns-else-is_empty-2-clause-shrunk g c =
    let i = c.noted_home-home.result in
    let lt : i < length c.args.chunks.now.items = omega (arith, c.noted_home-home.ensures.home.within, ap length c.deref.ensures.value) in
    length-taken_from c.args.chunks.now.items i c.index_mut.result.now c.take_from-taken.new.entries c.take_from-taken.result lt c.index_mut.ensures.value c.take_from-taken.ensures.len

pub returns-else-is_empty-2-clause-chunks : goal.returns-else-is_empty-2-clause-chunks
returns-else-is_empty-2-clause-chunks g c =
    let R = g.K.Ord.cmp in
    let cs = c.args.chunks.now.items in
    let i = c.noted_home-home.result in
    let m = c.index_mut.result.now in
    let n = c.take_from-taken.new.entries in
    let lt : i < length cs = omega (arith, c.noted_home-home.ensures.home.within, ap length c.deref.ensures.value) in
    let old : IsChunk m = rw c.index_mut.ensures.value (c.requires.chunks.each i m lt) in
    let some : 0 < vec_len n = still_filled cs i n c.index.result.now lt c.index.ensures c.if-is_empty-2.ensures in
    record {
      sorted = test_is_true _ (subst (λ l. T (is_sorted R l)) (sym (entries_else g (goal.at.returns-else-is_empty-2-clause-chunks g c).Else-is_empty-2)) (is_sorted-where_key R _ _ (true_holds _ c.requires.chunks.sorted)));
      each = All-set IsChunk cs i n (record { filled = some; fits = omega (arith, old.fits, c.take_from-taken.ensures.len); roomy = omega (arith, old.roomy, c.take_from-taken.ensures.capacity) }) c.requires.chunks.each;
    }

-- all entries where the chunk became empty and was taken out
entries_then : (g : _) (c : After-retire_chunk g) → chunk_entries c.retire_chunk.new.chunks.items ≡ without g.K.Ord.cmp c.args.key.now (chunk_entries c.args.chunks.now.items)
entries_then g c =
    let i = c.noted_home-home.result in
    let cs = c.args.chunks.now.items in
    let h : IsHome g.K.Ord.cmp cs c.args.key.now i = subst (λ l. IsHome g.K.Ord.cmp l c.args.key.now i) c.deref.ensures.value c.noted_home-home.ensures.home in
    retired_chunk cs c.retire_chunk.new.chunks.items i c.take_from-taken.new.entries c.index.result.now h.within c.retire_chunk.ensures.chunks c.index.ensures c.if-is_empty-2.ensures
    ∙ without-in_home g.K.Ord.cmp g.met.K.Ord.total cs c.args.key.now i c.index_mut.result.now c.take_from-taken.new.entries h c.index_mut.ensures.value c.take_from-taken.ensures.items

pub returns-then-is_empty-2-clause-entries : goal.returns-then-is_empty-2-clause-entries
returns-then-is_empty-2-clause-entries g c = entries_then g (goal.at.returns-then-is_empty-2-clause-entries g c).After-retire_chunk

pub returns-then-is_empty-2-clause-shrunk : goal.returns-then-is_empty-2-clause-shrunk
returns-then-is_empty-2-clause-shrunk g c =
    let i = c.noted_home-home.result in
    let cs = c.args.chunks.now.items in
    let n = c.take_from-taken.new.entries in
    let lt : i < length cs = omega (arith, c.noted_home-home.ensures.home.within, ap length c.deref.ensures.value) in
    ap (λ es. length es + cond c.take_from-taken.result 1 0) (retired_chunk cs c.retire_chunk.new.chunks.items i n c.index.result.now lt c.retire_chunk.ensures.chunks c.index.ensures c.if-is_empty-2.ensures)
    ∙ length-taken_from cs i c.index_mut.result.now n c.take_from-taken.result lt c.index_mut.ensures.value c.take_from-taken.ensures.len

pub returns-then-is_empty-2-clause-chunks : goal.returns-then-is_empty-2-clause-chunks
returns-then-is_empty-2-clause-chunks g c =
    let R = g.K.Ord.cmp in
    let cs = c.args.chunks.now.items in
    let i = c.noted_home-home.result in
    record {
      sorted = test_is_true _ (subst (λ l. T (is_sorted R l)) (sym (entries_then g (goal.at.returns-then-is_empty-2-clause-chunks g c).After-retire_chunk)) (is_sorted-where_key R _ _ (true_holds _ c.requires.chunks.sorted)));
      each = subst (All IsChunk) (sym (c.retire_chunk.ensures.chunks ∙ remove-set cs i c.take_from-taken.new.entries)) (All-remove IsChunk cs i c.requires.chunks.each);
    }

pub count_blocks-requires-clause-each : goal.count_blocks-requires-clause-each
count_blocks-requires-clause-each g c =
    subst (All IsChunk) (sym (c.deref-then-is_empty-2.ensures.value ∙ c.retire_chunk.ensures.chunks ∙ remove-set c.args.chunks.now.items c.noted_home-home.result c.take_from-taken.new.entries))
    (All-remove IsChunk c.args.chunks.now.items c.noted_home-home.result c.requires.chunks.each)

pub index_mut-requires-else-is_empty-2 : goal.index_mut-requires-else-is_empty-2
index_mut-requires-else-is_empty-2 g c =
    let lt : c.noted_home-home.result < length c.args.chunks.now.items = omega (arith, c.noted_home-home.ensures.home.within, ap length c.deref.ensures.value) in
    let counted = block_is_counted c.args.counts.now.items c.args.chunks.now.items c.noted_home-home.result c.block_of.result c.requires.counts lt c.block_of.ensures in
    omega (arith, counted, c.args.counts.now.ok.0)

pub overflow_sub-index_mut : goal.overflow_sub-index_mut
overflow_sub-index_mut g c =
    let lt : c.noted_home-home.result < length c.args.chunks.now.items = omega (arith, c.noted_home-home.ensures.home.within, ap length c.deref.ensures.value) in
    let m = c.index_mut.result.now in
    let n = c.take_from-taken.new.entries in
    let taken = c.take_from-taken.result in
    let had = c.index_mut-else-is_empty-2.result.now in
    let less : length n.items + cond taken 1 0 ≡ length m.items = omega (arith, m.ok.0, n.ok.0, c.take_from-taken.ensures.len) in
    let counted = taken_was_counted c.args.counts.now.items c.args.chunks.now.items c.noted_home-home.result c.block_of.result m n (cond taken 1 0) had c.requires.counts lt c.block_of.ensures c.index_mut.ensures.value less in
    omega (arith, counted, c.index_mut-else-is_empty-2.ensures.value, c.from.ensures, byte_of taken)

pub returns-else-is_empty-2-clause-counts : goal.returns-else-is_empty-2-clause-counts
returns-else-is_empty-2-clause-counts g c =
    let lt : c.noted_home-home.result < length c.args.chunks.now.items = omega (arith, c.noted_home-home.ensures.home.within, ap length c.deref.ensures.value) in
    let m = c.index_mut.result.now in
    let n = c.take_from-taken.new.entries in
    let taken = c.take_from-taken.result in
    let had = c.index_mut-else-is_empty-2.result.now in
    let less : length n.items + cond taken 1 0 ≡ length m.items = omega (arith, m.ok.0, n.ok.0, c.take_from-taken.ensures.len) in
    let was_counted = taken_was_counted c.args.counts.now.items c.args.chunks.now.items c.noted_home-home.result c.block_of.result m n (cond taken 1 0) had c.requires.counts lt c.block_of.ensures c.index_mut.ensures.value less in
    let counted : (had - c.from.result) + cond taken 1 0 ≡ get_or c.args.counts.now.items c.block_of.result had + 0 = omega (arith, was_counted, c.index_mut-else-is_empty-2.ensures.value, c.from.ensures, byte_of taken) in
    counts_after c.args.counts.now.items c.args.chunks.now.items c.noted_home-home.result c.block_of.result m n 0 (cond taken 1 0) (had - c.from.result) had c.requires.counts lt c.block_of.ensures c.index_mut.ensures.value (omega (arith, less)) counted
