-- What sorted lists answer is what they contain.
use Rattle.std.proofs.Common.{◌≡◌, ◌==◌, ◌&&◌, ℕ, cond, true, false, [], ◌∷◌, Option, None, Some, IfSome, refl, sym, ap, ◌∙◌, subst, length, slice_get, zero, suc, Less, Equal, Greater, is_eq, is_lt}
use Rattle.std.specs.FinMap as map
use Rattle.pb_memtablet.specs.Words.{cell_cmp, Slot, slot_cmp, slot_cmp-IsAntisymmetric, IsOfSort, is_nothing, entries_after}
use Rattle.pb_memtablet.specs.Listed.{EntryList, MarkList, contents_of, AllOfSort, AreLists}
use Rattle.pb_memtablet.proofs.Spots.{true_holds}

-- what a look-up in a slot finds is of the slot's sort
pub of_sort_found : (es : EntryList) (q : Slot) → AllOfSort es → IfSome (map.find slot_cmp q es) (IsOfSort q.sort)
of_sort_found [] q all = tt
of_sort_found (e ∷ es) q all =
    elim (slot_cmp q e.0) as (λ r. slot_cmp q e.0 ≡ r → IfSome (cond (is_eq r) (Some e.1) (map.find slot_cmp q es)) (IsOfSort q.sort)) [
      | Less ↦ λ p. of_sort_found es q all.1
      | Equal ↦ λ p. subst (λ (s : Slot). IsOfSort s.sort e.1) (sym (slot_cmp-IsAntisymmetric q e.0 p)) all.0
      | Greater ↦ λ p. of_sort_found es q all.1
    ] refl

-- and so is what stands at a place
pub of_sort_there : (es : EntryList) (i : ℕ) → AllOfSort es → IfSome (slice_get es i) (λ e. IsOfSort e.0.sort e.1)
of_sort_there [] i all = tt
of_sort_there (e ∷ es) zero all = all.0
of_sort_there (e ∷ es) (suc i) all = of_sort_there es i all.1

-- and what comes next in a walk
pub of_sort_after : (after : Option Slot) (es : EntryList) → AllOfSort es → IfSome (slice_get (entries_after after es) 0) (λ e. IsOfSort e.0.sort e.1)
of_sort_after None es all = of_sort_there es 0 all
of_sort_after (Some slot) [] all = tt
of_sort_after (Some slot) (e ∷ es) all =
    elim (is_lt (slot_cmp slot e.0)) as (λ b. IfSome (slice_get (cond b (e ∷ entries_after (Some slot) es) (entries_after (Some slot) es)) 0) (λ x. IsOfSort x.0.sort x.1)) [
      | true ↦ all.0
      | false ↦ of_sort_after (Some slot) es all.1
    ]

module _ (es : EntryList) (ms : MarkList) (l : AreLists es ms) where
  pub get-listed : (q : Slot) → map.get (contents_of es ms).entries q ≡ map.find slot_cmp q es
  get-listed q = map.get-from_sorted slot_cmp es q (true_holds _ l.entries)

  pub entries-listed : map.entries (contents_of es ms).entries ≡ es
  entries-listed = map.entries-from_sorted slot_cmp es (true_holds _ l.entries)

  marks-listed : map.entries (contents_of es ms).marks ≡ ms
  marks-listed = map.entries-from_sorted cell_cmp ms (true_holds _ l.marks)

  pub len-listed : map.len (contents_of es ms).entries ≡ length es
  len-listed = map.len-entries _ ∙ ap length entries-listed

  pub is_nothing-listed : is_nothing (contents_of es ms) ≡ ((length es == 0) && (length ms == 0))
  is_nothing-listed =
      ap (λ n. (n == 0) && (map.len (contents_of es ms).marks == 0)) len-listed
      ∙ ap (λ n. (length es == 0) && (n == 0)) (map.len-entries _ ∙ ap length marks-listed)
