-- What stands nearest to a place in sorted lists is the newest entry, and the next mark.
use Rattle.std.proofs.Common.{◌≡◌, ◌≢◌, ℕ, ◌<◌, ◌≤◌, inl, inr, [], ◌∷◌, Option, None, Some, IfSome, IfNone, refl, sym, ap, ◌∙◌, subst, arith, zero, suc, is_some, length, get_or, slice_get, T, false, Ordering, Less, Equal, Greater, option_map}
use Rattle.std.proofs.lemmas.Bool.{cases_order}
use Rattle.std.proofs.lemmas.List.{get_or_default}
use Rattle.std.specs.Ordering.{nat_cmp, ordering_then}
use Rattle.std.specs.Cmp.{tied_itself, nat_cmp_is, nat_cmp_total}
use Rattle.std.specs.FinMap as map
use Rattle.pb_memtablet.specs.Words.{Ts, Cell, cell_cmp, cell_cmp_total, Slot, Sort, Item, slot_cmp, slot_cmp_total, slot_cmp-IsAntisymmetric, sort_rank, slot_at, IsOfSort, IsNewest, IsNextMark, ComesAfter}
use Rattle.std.proofs.lemmas.Option.{slice_get_within, get_or_from_slice_get}
use Rattle.pb_memtablet.specs.Places.{IsGap, IsCut}
use Rattle.pb_memtablet.specs.Chunks.{entries_above}
use Rattle.pb_memtablet.proofs.Cuts.{first_above_is, none_above}
use Rattle.pb_memtablet.specs.Listed.{EntryList, MarkList, AllOfSort}
use Rattle.pb_memtablet.proofs.Spots.{find-found, find-gap, found_self, cut_above, cut_below, gap_first, gap_after, not_above_is_below}
use Rattle.pb_base.proofs.Logic.{none_past}

-- slots of one cell and sort go by timestamp
by_ts : (cell : Cell) (sort : Sort) (t u : ℕ) → slot_cmp (slot_at cell sort t) (slot_at cell sort u) ≡ nat_cmp t u
by_ts cell sort t u =
    ap (λ r. ordering_then r (ordering_then (nat_cmp (sort_rank sort) (sort_rank sort)) (nat_cmp t u))) (tied_itself cell_cmp_total cell)
    ∙ ap (λ r. ordering_then r (nat_cmp t u)) (tied_itself nat_cmp_total (sort_rank sort))

-- what is above the highest slot is above those up to it
up_to : (cell : Cell) (sort : Sort) (t high : ℕ) (x : Slot) → t ≤ high → slot_cmp (slot_at cell sort high) x ≡ Less → slot_cmp (slot_at cell sort t) x ≡ Less
up_to cell sort t high x le below =
    elim (cases_order t high) [
      | inl same ↦ ap (λ n. slot_cmp (slot_at cell sort n) x) same ∙ below
      | inr rest ↦ elim rest [
        | inl lt ↦ slot_cmp_total.trans (slot_at cell sort t) (slot_at cell sort high) x (by_ts cell sort t high ∙ sym (nat_cmp_is t high Less lt)) below
        | inr gt ↦ absurd (omega (arith, gt, le))
      ]
    ]

-- a slot of this cell and sort is the one at its timestamp
same_slot : (x : Slot) (cell : Cell) (sort : Sort) → x.cell ≡ cell → x.sort ≡ sort → x ≡ slot_at cell sort x.ts.0
same_slot x cell sort p q = λ i. record { cell = p i; sort = q i; ts = x.ts }

after_apart : (a b c d : Ordering) → ordering_then a (ordering_then b c) ≢ Less → ((a ≡ Equal) → (b ≡ Equal) → ⊥) → ordering_then a (ordering_then b d) ≡ Greater
after_apart a b c d n e = grind arith

-- a slot of another cell or sort that is not above one of these is below them all
apart : (x : Slot) (cell : Cell) (sort : Sort) (high t : ℕ) → slot_cmp (slot_at cell sort high) x ≢ Less → (x.cell ≡ cell → x.sort ≡ sort → ⊥) → slot_cmp (slot_at cell sort t) x ≡ Greater
apart x cell sort high t above other =
    after_apart (cell_cmp cell x.cell) (nat_cmp (sort_rank sort) (sort_rank x.sort)) _ _ above (λ p q.
    let tie : slot_cmp (slot_at cell sort x.ts.0) x ≡ Equal =
    ap (λ r. ordering_then r (ordering_then (nat_cmp (sort_rank sort) (sort_rank x.sort)) (nat_cmp x.ts.0 x.ts.0))) p
    ∙ ap (λ r. ordering_then r (nat_cmp x.ts.0 x.ts.0)) q
    ∙ tied_itself nat_cmp_total x.ts.0 in
    let one = slot_cmp-IsAntisymmetric (slot_at cell sort x.ts.0) x tie in
    other (ap (λ (s : Slot). s.cell) (sym one)) (ap (λ (s : Slot). s.sort) (sym one)))

-- a slot that isn't above the highest has at most its timestamp
not_above : (cell : Cell) (sort : Sort) (high t : ℕ) → slot_cmp (slot_at cell sort high) (slot_at cell sort t) ≢ Less → t ≤ high
not_above cell sort high t n = grind (arith, cases_order, by_ts)

-- the item at a place is of its slot's sort
of_sort_at : (es : EntryList) (i : ℕ) (d : Slot × Item) → AllOfSort es → i < length es → IsOfSort (get_or es i d).0.sort (get_or es i d).1
of_sort_at [] i d all lt = absurd (omega (arith, lt))
of_sort_at (e ∷ es) zero d all lt = all.0
of_sort_at (e ∷ es) (suc i) d all lt = of_sort_at es i d all.1 (omega arith)

module _ (es : EntryList) (s : T (map.is_sorted slot_cmp es)) (cell : Cell) (sort : Sort) (high : Ts) where
  none_at : (q : Slot) (i : ℕ) → IsGap slot_cmp es q i → map.get (map.from_sorted {R = slot_cmp} es) q ≡ None
  none_at q i gap = map.get-from_sorted slot_cmp es q s ∙ find-gap slot_cmp_total es q i s gap

  pub none_lowest : IsCut slot_cmp es (slot_at cell sort high.0) 0 → IsNewest (map.from_sorted es) cell sort high None
  none_lowest cut t le =
      none_at _ 0 (gap_first slot_cmp_total es (slot_at cell sort t) (λ d lt. up_to cell sort t high.0 (get_or es 0 d).0 le (cut_above slot_cmp_total es (slot_at cell sort high.0) 0 d cut lt)))

  module _ (i : ℕ) (e : Slot × Item) (at : e ≡ get_or es i e) (lt : i < length es) (cut : IsCut slot_cmp es (slot_at cell sort high.0) (suc i)) where
    later_above : (t : ℕ) → t ≤ high.0 → (d : Slot × Item) → suc i < length es → slot_cmp (slot_at cell sort t) (get_or es (suc i) d).0 ≡ Less
    later_above t le d more = up_to cell sort t high.0 (get_or es (suc i) d).0 le (cut_above slot_cmp_total es (slot_at cell sort high.0) (suc i) d cut more)

    not_less_here : slot_cmp (slot_at cell sort high.0) e.0 ≢ Less
    not_less_here = subst (λ (x : Slot × Item). slot_cmp (slot_at cell sort high.0) x.0 ≢ Less) (sym at) (cut_below slot_cmp_total es (slot_at cell sort high.0) i e cut)

    none_between : (t : ℕ) → t ≤ high.0 → slot_cmp (slot_at cell sort t) e.0 ≡ Greater → map.get (map.from_sorted {R = slot_cmp} es) (slot_at cell sort t) ≡ None
    none_between t le above =
        none_at _ (suc i) (gap_after slot_cmp_total es (slot_at cell sort t) i e s lt
        (subst (λ (x : Slot × Item). slot_cmp (slot_at cell sort t) x.0 ≡ Greater) at above) (later_above t le))

    pub none_of_other : (e.0.cell ≡ cell → e.0.sort ≡ sort → ⊥) → IsNewest (map.from_sorted es) cell sort high None
    none_of_other other t le = none_between t le (apart e.0 cell sort high.0 t not_less_here other)

    pub newest_here : AllOfSort es → e.0.cell ≡ cell → e.0.sort ≡ sort → IsNewest (map.from_sorted es) cell sort high (Some (e.0.ts, e.1))
    newest_here all p q =
        let same : e.0 ≡ slot_at cell sort e.0.ts.0 = same_slot e.0 cell sort p q in
        let found : map.get (map.from_sorted {R = slot_cmp} es) e.0 ≡ Some e.1 =
        map.get-from_sorted slot_cmp es e.0 s
        ∙ ap (λ (x : Slot × Item). map.find slot_cmp x.0 es) at
        ∙ find-found slot_cmp_total es (get_or es i e).0 i e (found_self slot_cmp_total es i e s lt)
        ∙ ap (λ (x : Slot × Item). Some x.1) (sym at) in
        let of : IsOfSort e.0.sort e.1 = subst (λ (x : Slot × Item). IsOfSort x.0.sort x.1) (sym at) (of_sort_at es i e all lt) in (
          not_above cell sort high.0 e.0.ts.0 (subst (λ x. slot_cmp (slot_at cell sort high.0) x ≢ Less) same not_less_here),
          ap (map.get (map.from_sorted {R = slot_cmp} es)) (sym same) ∙ found,
          subst (λ k. IsOfSort k e.1) q of,
          λ t gt le. none_between t le (ap (slot_cmp (slot_at cell sort t)) same ∙ by_ts cell sort t e.0.ts.0 ∙ sym (nat_cmp_is t e.0.ts.0 Greater gt)),
        )

-- ---- marks
module _ (ms : MarkList) (s : T (map.is_sorted cell_cmp ms)) where
  -- a cell after the given one and below the mark at i is not marked
  unmarked : (after : Option Cell) (i : ℕ) (cell : Cell) → IfSome after (λ a. IsCut cell_cmp ms a i) → IfNone after (i ≡ 0) → i ≤ length ms → ComesAfter after cell
      → ((d : Cell × Unit {0}) → i < length ms → cell_cmp cell (get_or ms i d).0 ≡ Less) → IsGap cell_cmp ms cell i
  unmarked None zero cell cut start le comes above = gap_first cell_cmp_total ms cell above
  unmarked None (suc i) cell cut start le comes above = absurd (omega (arith, start))
  unmarked (Some a) zero cell cut start le comes above = gap_first cell_cmp_total ms cell above
  unmarked (Some a) (suc i) cell cut start le comes above =
      gap_after cell_cmp_total ms cell i (cell, tt) s (omega arith) (not_above_is_below cell_cmp_total a (get_or ms i (cell, tt)).0 cell (cut_below cell_cmp_total ms a i (cell, tt) cut) comes) above

  no_mark : (cell : Cell) (i : ℕ) → IsGap cell_cmp ms cell i → map.contains_key (map.from_sorted {R = cell_cmp} ms) cell ≡ false
  no_mark cell i gap = ap is_some (map.get-from_sorted cell_cmp ms cell s ∙ find-gap cell_cmp_total ms cell i s gap)

  module _ (after : Option Cell) (i : ℕ) (cut : IfSome after (λ a. IsCut cell_cmp ms a i)) (start : IfNone after (i ≡ 0)) where
    pub no_next : i ≡ length ms → IsNextMark (map.from_sorted ms) after None
    no_next end cell comes = no_mark cell i (unmarked after i cell cut start (omega (arith, end)) comes (λ d lt. absurd (omega (arith, end, lt))))

    comes_here : (o : Option Cell) → IfSome o (λ a. IsCut cell_cmp ms a i) → (d : Cell × Unit {0}) → i < length ms → ComesAfter o (get_or ms i d).0
    comes_here None c d lt = tt
    comes_here (Some a) c d lt = cut_above cell_cmp_total ms a i d c lt

    pub next_here : (d : Cell × Unit {0}) → i < length ms → IsNextMark (map.from_sorted ms) after (Some (get_or ms i d).0)
    next_here d lt = (
      ap is_some (map.get-from_sorted cell_cmp ms _ s ∙ find-found cell_cmp_total ms (get_or ms i d).0 i d (found_self cell_cmp_total ms i d s lt)),
      comes_here after cut d lt,
      λ cell comes below. no_mark cell i (unmarked after i cell cut start (omega arith) comes (λ x more. ap (λ (y : Cell × Unit {0}). cell_cmp cell y.0) (get_or_default ms i x d lt) ∙ below)),
    )

  -- ---- the next mark in a list of marks
  pub next_after : (a : Cell) (r : Option (Cell × Unit {0})) → r ≡ slice_get (entries_above cell_cmp a ms) 0 → IsNextMark (map.from_sorted ms) (Some a) (option_map (λ m. m.0) r)
  next_after a None p = no_next (Some a) (length ms) (none_above cell_cmp cell_cmp_total ms a s p) tt refl
  next_after a (Some m) p =
      let first = first_above_is cell_cmp cell_cmp_total ms a s m p in
      subst (λ (x : Cell × Unit {0}). IsNextMark (map.from_sorted ms) (Some a) (Some x.0)) (sym first.is) (next_here (Some a) first.place first.cut tt m first.within)

  pub next_first : (r : Option (Cell × Unit {0})) → r ≡ slice_get ms 0 → IsNextMark (map.from_sorted ms) None (option_map (λ m. m.0) r)
  next_first None p = let le : length ms ≤ 0 = none_past ms 0 p in no_next None 0 tt refl (omega (arith, le))
  next_first (Some m) p =
      let found : slice_get ms 0 ≡ Some m = sym p in
      subst (λ (x : Cell × Unit {0}). IsNextMark (map.from_sorted ms) None (Some x.0)) (get_or_from_slice_get ms 0 m m found) (next_here None 0 tt refl m (slice_get_within ms 0 m found))
