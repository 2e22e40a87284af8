-- What edits make of sorted lists.
use Rattle.std.proofs.Common.{◌≡◌, Bool, not, List, [], ◌∷◌, refl, sym, ap, ◌∙◌, subst, length, drop, arith, Ordering, Less, Equal, Greater}
use Rattle.std.specs.Ordering.{eq_by_cmp}
use Rattle.std.specs.FinMap as map
use Rattle.std.specs.FinMap.{put}
use Rattle.std.specs.FinMap.Entries.{by_order, where_key, is_sorted-put, is_sorted-where_key}
use Rattle.pb_memtablet.specs.Words.{Cell, cell_cmp, cell_cmp_total, cell_cmp-IsAntisymmetric, Slot, Item, slot_cmp, slot_cmp_total, slot_cmp-IsAntisymmetric, Edit, Contents, IsOfSort, nothing, after_edit, after_edits}
use Rattle.pb_memtablet.specs.Listed.{EntryList, MarkList, contents_of, AllOfSort, AreLists}
use Rattle.pb_memtablet.proofs.Spots.{true_holds, put_inserts, without_removes}
use Rattle.pb_base.proofs.Logic.{test_is_true}

both_same : (m n : map.FinMap slot_cmp Item) (p q : map.FinMap cell_cmp (Unit {0})) → m ≡ n → p ≡ q → ◌≡◌ {A = Contents} (record { entries = m; marks = p }) (record { entries = n; marks = q })
both_same m n p q e f = λ i. record { entries = e i; marks = f i }

-- an empty list stands for an empty map
none_listed : {K X : Type 0} (R : K → K → Ordering) → map.from_sorted {X = X} {R = R} [] ≡ map.empty
none_listed R = map.empty_of_len _ (map.len-entries _ ∙ ap length (map.entries-from_sorted R [] tt))

pub contents_of-nothing : contents_of [] [] ≡ nothing
contents_of-nothing = both_same _ _ _ _ (none_listed slot_cmp) (none_listed cell_cmp)

of_sort-put : (es : EntryList) (k : Slot) (v : Item) → IsOfSort k.sort v → AllOfSort es → AllOfSort (put slot_cmp k v es)
of_sort-put [] k v new all = (new, tt)
of_sort-put (e ∷ es) k v new all =
    elim (slot_cmp k e.0) as (λ r. slot_cmp k e.0 ≡ r → AllOfSort (by_order r ((k, v) ∷ e ∷ es) ((e.0, v) ∷ es) (e ∷ put slot_cmp k v es))) [
      | Less ↦ λ p. (new, all)
      | Equal ↦ λ p. (subst (λ (q : Slot). IsOfSort q.sort v) (slot_cmp-IsAntisymmetric k e.0 p) new, all.1)
      | Greater ↦ λ p. (all.0, of_sort-put es k v new all.1)
    ] refl

of_sort-where_key : (es : EntryList) (p : Slot → Bool) → AllOfSort es → AllOfSort (where_key slot_cmp p es)
of_sort-where_key [] p all = tt
of_sort-where_key (e ∷ es) p all = grind (arith, of_sort-where_key es p all.1)

-- ---- one edit
-- fs and ns are what one edit makes of es and ms, and again lists that a tablet may have
pub record IsDone (fs : EntryList) (ns : MarkList) (edit : Edit) (es : EntryList) (ms : MarkList) : Type 0 where
  pub lists : AreLists fs ns
  pub contents : contents_of fs ns ≡ after_edit edit (contents_of es ms)

module _ (es : EntryList) (ms : MarkList) (l : AreLists es ms) where
  lists_put : (k : Slot) (v : Item) → IsOfSort k.sort v → AreLists (put slot_cmp k v es) ms
  lists_put k v new = record {
    entries = test_is_true _ (is_sorted-put slot_cmp slot_cmp_total k v es (true_holds _ l.entries));
    marks = l.marks;
    of_sort = of_sort-put es k v new l.of_sort;
  }

  lists_erased : (p : Slot → Bool) → AreLists (where_key slot_cmp p es) ms
  lists_erased p = record {
    entries = test_is_true _ (is_sorted-where_key slot_cmp p es (true_holds _ l.entries));
    marks = l.marks;
    of_sort = of_sort-where_key es p l.of_sort;
  }

  lists_marked : (k : Cell) → AreLists es (put cell_cmp k tt ms)
  lists_marked k = record { entries = l.entries; marks = test_is_true _ (is_sorted-put cell_cmp cell_cmp_total k tt ms (true_holds _ l.marks)); of_sort = l.of_sort }

  lists_unmarked : (p : Cell → Bool) → AreLists es (where_key cell_cmp p ms)
  lists_unmarked p = record { entries = l.entries; marks = test_is_true _ (is_sorted-where_key cell_cmp p ms (true_holds _ l.marks)); of_sort = l.of_sort }

  -- the lists that were es and ms, after one edit
  pub put_done : (fs : EntryList) (k : Slot) (v : Item) → fs ≡ put slot_cmp k v es → IsOfSort k.sort v → IsDone fs ms (Edit.Put k v) es ms
  put_done fs k v e new = record {
    lists = subst (λ (xs : EntryList). AreLists xs ms) (sym e) (lists_put k v new);
    contents = both_same _ _ _ _ (ap (λ xs. map.from_sorted {R = slot_cmp} xs) e ∙ put_inserts slot_cmp_total slot_cmp-IsAntisymmetric es k v (true_holds _ l.entries)) refl;
  }

  pub erase_done : (fs : EntryList) (k : Slot) → fs ≡ where_key slot_cmp (λ q. not (eq_by_cmp slot_cmp k q)) es → IsDone fs ms (Edit.Erase k) es ms
  erase_done fs k e = record {
    lists = subst (λ (xs : EntryList). AreLists xs ms) (sym e) (lists_erased _);
    contents = both_same _ _ _ _ (ap (λ xs. map.from_sorted {R = slot_cmp} xs) e ∙ without_removes slot_cmp_total slot_cmp-IsAntisymmetric es k (true_holds _ l.entries)) refl;
  }

  pub mark_done : (ns : MarkList) (k : Cell) → ns ≡ put cell_cmp k tt ms → IsDone es ns (Edit.Mark k) es ms
  mark_done ns k e = record {
    lists = subst (AreLists es) (sym e) (lists_marked k);
    contents = both_same _ _ _ _ refl (ap (λ xs. map.from_sorted {R = cell_cmp} xs) e ∙ put_inserts cell_cmp_total cell_cmp-IsAntisymmetric ms k tt (true_holds _ l.marks));
  }

  pub unmark_done : (ns : MarkList) (k : Cell) → ns ≡ where_key cell_cmp (λ q. not (eq_by_cmp cell_cmp k q)) ms → IsDone es ns (Edit.Unmark k) es ms
  unmark_done ns k e = record {
    lists = subst (AreLists es) (sym e) (lists_unmarked _);
    contents = both_same _ _ _ _ refl (ap (λ xs. map.from_sorted {R = cell_cmp} xs) e ∙ without_removes cell_cmp_total cell_cmp-IsAntisymmetric ms k (true_holds _ l.marks));
  }

-- ---- two edits of entries
module _ (fs gs es : EntryList) (ms : MarkList) (xs : List Edit) (a b : Edit) (e : xs ≡ a ∷ b ∷ drop 2 xs) where
  pub both_done : IsDone gs ms a es ms → IsDone fs ms b gs ms → after_edits (drop 2 xs) (contents_of fs ms) ≡ after_edits xs (contents_of es ms)
  both_done once twice = grind arith
