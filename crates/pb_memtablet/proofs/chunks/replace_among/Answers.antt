use Rattle.std.proofs.Common.{◌≡◌, ◌<◌, ◌+◌, cond, length, set, arith, sym, subst, T}
use Rattle.std.specs.FinMap.{put, is_sorted}
use Rattle.std.specs.FinMap.Entries.{is_sorted-put, is_sorted-where_key}
use Rattle.std.proofs.lemmas.List.Elements.{All-set}
use Rattle.pb_memtablet.specs.Chunks.{chunk_entries, IsChunk, IsHome}
use Rattle.pb_memtablet.proofs.Spots.{true_holds}
use Rattle.pb_memtablet.proofs.Homes.{without}
use Rattle.pb_memtablet.proofs.Pieces.{home_sorted, replaced-in_home, sorted_if, length-set_in}
use Rattle.pb_memtablet.proofs.Counted.{counts_same}
use Rattle.pb_memtablet.proofs.chunks.replace_among.Goals as goal
use Rattle.pb_memtablet.proofs.chunks.replace_among.Goals.{After-index_mut, After-replace_in}
use Rattle.pb_base.proofs.Logic.{test_is_true}

home_is : (g : _) (c : After-index_mut g) → IsHome g.K.Ord.cmp c.args.chunks.now.items c.args.gone.now c.args.likely
home_is g c = subst (λ l. IsHome g.K.Ord.cmp l c.args.gone.now c.args.likely) c.deref.ensures.value (c.is_home.ensures.home c.if-not-is_home.false)

pub replace_in-requires : goal.replace_in-requires
replace_in-requires g c =
    test_is_true _ (home_sorted g.K.Ord.cmp g.met.K.Ord.total c.args.chunks.now.items c.args.gone.now c.args.likely c.index_mut.result.now (home_is g c) c.index_mut.ensures.value (true_holds _ c.requires.sorted))

-- all entries after the call, whether or not one came in the place of another
entries_are : (g : _) (c : After-replace_in g) → chunk_entries (set c.args.chunks.now.items c.args.likely c.replace_in.new.entries)
    ≡ cond c.replace_in.result (put g.K.Ord.cmp c.args.key c.args.value (without g.K.Ord.cmp c.args.gone.now (chunk_entries c.args.chunks.now.items))) (chunk_entries c.args.chunks.now.items)
entries_are g c =
    let home = subst (λ l. IsHome g.K.Ord.cmp l c.args.gone.now c.args.likely) c.deref.ensures.value (c.is_home.ensures.home c.if-not-is_home.false) in
    let next = subst (λ l. IsHome g.K.Ord.cmp l c.args.key c.args.likely) c.deref-else-not-is_home.ensures.value (c.is_home-else-not-is_home.ensures.home c.if-not-is_home-2.false) in
    replaced-in_home g.K.Ord.cmp g.met.K.Ord.total c.args.chunks.now.items c.args.gone.now c.args.key c.args.value c.replace_in.result c.args.likely c.index_mut.result.now c.replace_in.new.entries home next c.index_mut.ensures.value c.replace_in.ensures.items

within : (g : _) (c : After-replace_in g) → c.args.likely < length c.args.chunks.now.items
within g c = (subst (λ l. IsHome g.K.Ord.cmp l c.args.gone.now c.args.likely) c.deref.ensures.value (c.is_home.ensures.home c.if-not-is_home.false)).within

pub returns-clause-entries : goal.returns-clause-entries
returns-clause-entries g c = entries_are g (goal.at.returns-clause-entries g c).After-replace_in

pub returns-clause-as_many : goal.returns-clause-as_many
returns-clause-as_many g c =
    let lt = within g (goal.at.returns-clause-as_many g c).After-replace_in in
    let m = c.index_mut.result.now in
    let n = c.replace_in.new.entries in
    let same : length n.items + 0 ≡ length m.items + 0 = omega (arith, m.ok.0, n.ok.0, c.replace_in.ensures.len) in
    let all = length-set_in c.args.chunks.now.items c.args.likely m n 0 0 lt c.index_mut.ensures.value same in
    omega (arith, all)

pub returns-clause-chunks : goal.returns-clause-chunks
returns-clause-chunks g c =
    let R = g.K.Ord.cmp in
    let after = (goal.at.returns-clause-chunks g c).After-replace_in in
    let lt = within g after in
    let m = c.index_mut.result.now in
    let n = c.replace_in.new.entries in
    let old : IsChunk m = rw c.index_mut.ensures.value (c.requires.each c.args.likely m lt) in
    record {
      sorted = test_is_true _ (subst (λ l. T (is_sorted R l)) (sym (entries_are g after))
          (sorted_if R c.replace_in.result _ _ (is_sorted-put R g.met.K.Ord.total c.args.key c.args.value _ (is_sorted-where_key R _ _ (true_holds _ c.requires.sorted))) (true_holds _ c.requires.sorted)));
      each = All-set IsChunk c.args.chunks.now.items c.args.likely n (record { filled = omega (arith, old.filled, c.replace_in.ensures.len); fits = omega (arith, old.fits, c.replace_in.ensures.len); roomy = omega (arith, old.roomy, c.replace_in.ensures.capacity) }) c.requires.each;
    }

pub returns-clause-counts : goal.returns-clause-counts
returns-clause-counts g c ns a = grind (arith, counts_same, within, c.index_mut.result.now, c.replace_in.new.entries, c.args.chunks.now.items, c.args.likely, c.index_mut.ensures.value, c.replace_in.ensures.len)
