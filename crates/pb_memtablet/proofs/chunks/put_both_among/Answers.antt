use Rattle.std.proofs.Common.{◌≡◌, ◌<◌, ◌≤◌, ◌+◌, ◌∙◌, ap, drop, length, set, get_or, insert, arith, sym, subst, T, Vec, vec_len}
use Rattle.std.specs.FinMap.{put, is_sorted}
use Rattle.std.specs.FinMap.Entries.{is_sorted-put}
use Rattle.std.proofs.lemmas.List.Elements.{All-set}
use Rattle.pb_memtablet.specs.declared.chunks.TheConstants.{CHUNK}
use Rattle.pb_memtablet.specs.Places.{IsGap}
use Rattle.pb_memtablet.specs.Chunks.{chunk_entries, AreAbove, IsChunk, IsHome}
use Rattle.pb_memtablet.proofs.Spots.{true_holds}
use Rattle.pb_memtablet.proofs.Pieces.{home_sorted, pair-in_home, length-set_in, read_again, same_again}
use Rattle.pb_memtablet.proofs.Counted.{block_is_counted, count_is_small, counts_after}
use Rattle.pb_memtablet.proofs.chunks.put_both_among.Goals as goal
use Rattle.pb_memtablet.proofs.chunks.put_both_among.Goals.{After-index_mut, After-insert_both}
use Rattle.pb_base.proofs.Logic.{test_is_true}

pub gap_for_both-requires : goal.gap_for_both-requires
gap_for_both-requires g c =
    rw c.deref-2.ensures.value (test_is_true _ (home_sorted g.K.Ord.cmp g.met.K.Ord.total c.args.chunks.now.items c.args.key c.noted_home-home.result c.index-2.result.now
    (subst (λ l. IsHome g.K.Ord.cmp l c.args.key c.noted_home-home.result) c.deref.ensures.value c.noted_home-home.ensures.home) c.index-2.ensures (true_holds _ c.requires.chunks.sorted)))

-- the chunk that was found is the first key's, before anything changed
home_is : (g : _) (c : After-index_mut g) → IsHome g.K.Ord.cmp c.args.chunks.now.items c.args.key c.noted_home-home.result
home_is g c = subst (λ l. IsHome g.K.Ord.cmp l c.args.key c.noted_home-home.result) c.deref.ensures.value c.noted_home-home.ensures.home

within : (g : _) (c : After-index_mut g) → c.noted_home-home.result < length c.args.chunks.now.items
within g c = (home_is g c).within

-- what the search went through is what changes
as_searched : (g : _) (c : After-index_mut g) → c.deref-2.result.now ≡ c.index_mut.result.now.items
as_searched g c =
    c.deref-2.ensures.value ∙ ap (λ (m : Vec _ _). m.items) (same_again c.args.chunks.now.items c.noted_home-home.result c.index_mut.result.now c.index-2.result.now (within g c) c.index_mut.ensures.value c.index-2.ensures)

pub insert_both-requires-clause-within : goal.insert_both-requires-clause-within
insert_both-requires-clause-within g c =
    let same = ap length (as_searched g (goal.at.insert_both-requires-clause-within g c).After-index_mut) in
    let low : c.in-Some.place ≤ length c.deref-2.result.now = c.in-Some.ensures.within in
    omega (arith, same, low, c.index_mut.result.now.ok.0)

-- the chunk is one that has room for both
old_chunk : (g : _) (c : After-index_mut g) → IsChunk c.index_mut.result.now
old_chunk g c = rw c.index_mut.ensures.value (c.requires.chunks.each c.noted_home-home.result c.index_mut.result.now (within g c))

has_room : (g : _) (c : After-index_mut g) → vec_len c.index_mut.result.now + 2 ≤ CHUNK
has_room g c =
    omega (arith, c.if-len.false, c.len.ensures, read_again c.args.chunks.now.items c.noted_home-home.result c.index_mut.result.now c.index.result.now (within g c) c.index_mut.ensures.value c.index.ensures)

pub insert_both-requires-clause-room : goal.insert_both-requires-clause-room
insert_both-requires-clause-room g c =
    let at = (goal.at.insert_both-requires-clause-room g c).After-index_mut in
    let room = has_room g at in
    omega (arith, room, (old_chunk g at).roomy)

-- all entries after the call
entries_are : (g : _) (c : After-insert_both g) → IsHome g.K.Ord.cmp c.args.chunks.now.items c.args.key c.noted_home-home.result → c.deref-2.result.now ≡ c.index_mut.result.now.items
    → chunk_entries (set c.args.chunks.now.items c.noted_home-home.result c.insert_both.new.elements) ≡ put g.K.Ord.cmp c.args.next c.args.next_value (put g.K.Ord.cmp c.args.key c.args.value (chunk_entries c.args.chunks.now.items))
entries_are g c home same =
    let R = g.K.Ord.cmp in
    let i = c.noted_home-home.result in
    pair-in_home R g.met.K.Ord.total c.args.chunks.now.items c.args.key c.args.next c.args.value c.args.next_value i c.in-Some.place c.index_mut.result.now c.insert_both.new.elements
    home c.index_mut.ensures.value (true_holds _ c.requires.chunks.sorted)
    (subst (λ es. IsGap R es c.args.key c.in-Some.place) same c.in-Some.ensures.first)
    (subst (λ es. IsGap R (insert es c.in-Some.place (c.args.key, c.args.value)) c.args.next (c.in-Some.place + 1)) same c.in-Some.ensures.second)
    (λ d past. subst (λ cs. length (get_or cs i d).items ≤ c.in-Some.place → AreAbove R c.args.next (chunk_entries (drop (i + 1) cs))) c.deref-3.ensures.value (c.fits_before_next.ensures c.if-not-fits_before_next.false d) past)
    c.insert_both.ensures.items

pub index_mut-requires-2 : goal.index_mut-requires-2
index_mut-requires-2 g c =
    let lt = within g (goal.at.index_mut-requires-2 g c).After-index_mut in
    let counted = block_is_counted c.args.counts.now.items c.args.chunks.now.items c.noted_home-home.result c.block_of.result c.requires.counts lt c.block_of.ensures in
    omega (arith, counted, c.args.counts.now.ok.0)

pub overflow_add-index_mut : goal.overflow_add-index_mut
overflow_add-index_mut g c =
    let lt = within g (goal.at.overflow_add-index_mut g c).After-index_mut in
    let had = c.index_mut-2.result.now in
    let counted = block_is_counted c.args.counts.now.items c.args.chunks.now.items c.noted_home-home.result c.block_of.result c.requires.counts lt c.block_of.ensures in
    let small = count_is_small c.args.counts.now.items c.args.chunks.now.items c.block_of.result had c.requires.counts c.requires.chunks.each counted in
    omega (arith, small, c.index_mut-2.ensures.value)

pub returns-clause-entries : goal.returns-clause-entries
returns-clause-entries g c =
    let here = goal.at.returns-clause-entries g c in
    entries_are g here.After-insert_both (home_is g here.After-index_mut) (as_searched g here.After-index_mut)

-- the chunk has two entries more
two_more : (g : _) (c : After-insert_both g) → length c.insert_both.new.elements.items + 0 ≡ length c.index_mut.result.now.items + 2
two_more g c = omega (arith, c.index_mut.result.now.ok.0, c.insert_both.new.elements.ok.0, c.insert_both.ensures.len)

pub returns-clause-grown : goal.returns-clause-grown
returns-clause-grown g c =
    let here = goal.at.returns-clause-grown g c in
    let all = length-set_in c.args.chunks.now.items c.noted_home-home.result c.index_mut.result.now c.insert_both.new.elements 2 0 (within g here.After-index_mut) c.index_mut.ensures.value (two_more g here.After-insert_both) in
    omega (arith, all)

pub returns-clause-chunks : goal.returns-clause-chunks
returns-clause-chunks g c =
    let R = g.K.Ord.cmp in
    let here = goal.at.returns-clause-chunks g c in
    let at = here.After-index_mut in
    let n = c.insert_both.new.elements in
    let old = old_chunk g at in
    let room = has_room g at in
    let once = is_sorted-put R g.met.K.Ord.total c.args.key c.args.value _ (true_holds _ c.requires.chunks.sorted) in
    record {
      sorted = test_is_true _ (subst (λ l. T (is_sorted R l)) (sym (entries_are g here.After-insert_both (home_is g at) (as_searched g at))) (is_sorted-put R g.met.K.Ord.total c.args.next c.args.next_value _ once));
      each = All-set IsChunk c.args.chunks.now.items c.noted_home-home.result n (record { filled = omega (arith, c.insert_both.ensures.len); fits = omega (arith, room, c.insert_both.ensures.len); roomy = omega (arith, old.roomy, c.insert_both.ensures.capacity) }) c.requires.chunks.each;
    }

pub returns-clause-counts : goal.returns-clause-counts
returns-clause-counts g c =
    let here = goal.at.returns-clause-counts g c in
    let had = c.index_mut-2.result.now in
    let counted : had + 2 + 0 ≡ get_or c.args.counts.now.items c.block_of.result had + 2 = omega (arith, c.index_mut-2.ensures.value) in
    counts_after c.args.counts.now.items c.args.chunks.now.items c.noted_home-home.result c.block_of.result c.index_mut.result.now c.insert_both.new.elements 2 0 (had + 2) had c.requires.counts (within g here.After-index_mut) c.block_of.ensures c.index_mut.ensures.value (two_more g here.After-insert_both) counted
