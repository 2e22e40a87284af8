-- What the first entry after a cell's data shows: where it is of another cell, neither lock nor write record stands.
use Rattle.std.proofs.Common.{◌≡◌, ℕ, Bool, true, false, not, cond, List, [], ◌∷◌, Option, None, Some, refl, sym, ap, ◌∙◌, subst, arith, slice_get, T, Ordering, Less, Equal, Greater}
use Rattle.std.specs.Ordering.{nat_cmp, ordering_then, eq_by_cmp, is_eq, is_lt}
use Rattle.std.specs.Cmp.{tied_itself}
use Rattle.std.specs.FinMap as map
use Rattle.std.specs.FinMap.Entries.{find, is_sorted, below_all}
use Rattle.pb_state.specs.Words.{Cell, Slot, Sort, Item, cell_cmp, Entries, NoLock, NoWriteFrom, cell_cmp_total, cell_cmp-IsAntisymmetric, entries_after, primary_of, slot_at, slot_cmp, slot_cmp_total, slot_cmp-IsAntisymmetric, sort_rank, start_of}
use Rattle.pb_state.proofs.Newest.{last}
use Rattle.pb_base.proofs.Logic.{less_if as less, first_holds as first, second_holds as second}

-- ---- sorted entries around a slot q after k
module _ (k q : Slot) (later : slot_cmp k q ≡ Less) where
  -- it isn't one that doesn't come after k
  skipped : (x : Slot × Item) (es : List (Slot × Item)) → (slot_cmp k x.0 ≡ Less → ⊥) → find slot_cmp q (x ∷ es) ≡ find slot_cmp q es
  skipped x es n =
      elim (slot_cmp q x.0) as (λ r. slot_cmp q x.0 ≡ r → cond (is_eq r) (Some x.1) (find slot_cmp q es) ≡ find slot_cmp q es) [
        | Less ↦ λ _. refl
        | Equal ↦ λ e. absurd (n (subst (λ y. slot_cmp k y ≡ Less) (slot_cmp-IsAntisymmetric q x.0 e) later))
        | Greater ↦ λ _. refl
      ] refl

  -- where nothing comes after k, it isn't there
  pub none_after : (es : List (Slot × Item)) → None ≡ slice_get (entries_after (Some k) es) 0 → find slot_cmp q es ≡ None
  none_after [] p = refl
  none_after (x ∷ es) p =
      elim (slot_cmp k x.0) as (λ r. slot_cmp k x.0 ≡ r → None ≡ slice_get (cond (is_lt r) (x ∷ entries_after (Some k) es) (entries_after (Some k) es)) 0 → find slot_cmp q (x ∷ es) ≡ None) [
        | Less ↦ λ _ n. cc
        | Equal ↦ λ e n. skipped x es (λ l. cc) ∙ none_after es n
        | Greater ↦ λ e n. skipped x es (λ l. cc) ∙ none_after es n
      ] refl p

  none_below : (x : Slot) (es : List (Slot × Item)) → slot_cmp q x ≡ Less → T (below_all slot_cmp x es) → find slot_cmp q es ≡ None
  none_below x [] lt h = refl
  none_below x (e ∷ es) lt h =
      ap (λ r. cond (is_eq r) (Some e.1) (find slot_cmp q es)) (slot_cmp_total.trans q x e.0 lt (less _ (first _ _ h))) ∙ none_below x es lt (second _ _ h)

  -- nor is it where the first after k is above it
  pub none_between : (es : List (Slot × Item)) (f : Slot × Item) → T (is_sorted slot_cmp es) → Some f ≡ slice_get (entries_after (Some k) es) 0 → slot_cmp q f.0 ≡ Less → find slot_cmp q es ≡ None
  none_between [] f s p lt = refl
  none_between (x ∷ es) f s p lt =
      elim (slot_cmp k x.0) as (λ r. slot_cmp k x.0 ≡ r → Some f ≡ slice_get (cond (is_lt r) (x ∷ entries_after (Some k) es) (entries_after (Some k) es)) 0 → find slot_cmp q (x ∷ es) ≡ None) [
        | Less ↦ λ _ n.
            let same : f ≡ x = cc in
            let below : slot_cmp q x.0 ≡ Less = subst (λ (y : Slot × Item). slot_cmp q y.0 ≡ Less) same lt in
            ap (λ r. cond (is_eq r) (Some x.1) (find slot_cmp q es)) below ∙ none_below x.0 es below (first _ _ s)
        | Equal ↦ λ e n. skipped x es (λ l. cc) ∙ none_between es f (second _ _ s) n lt
        | Greater ↦ λ e n. skipped x es (λ l. cc) ∙ none_between es f (second _ _ s) n lt
      ] refl p

-- the first after k comes after it
first_is_after : (k : Slot) (es : List (Slot × Item)) (f : Slot × Item) → Some f ≡ slice_get (entries_after (Some k) es) 0 → slot_cmp k f.0 ≡ Less
first_is_after k [] f p = cc
first_is_after k (x ∷ es) f p =
    elim (slot_cmp k x.0) as (λ r. slot_cmp k x.0 ≡ r → Some f ≡ slice_get (cond (is_lt r) (x ∷ entries_after (Some k) es) (entries_after (Some k) es)) 0 → slot_cmp k f.0 ≡ Less) [
      | Less ↦ λ e n. let same : f ≡ x = cc in subst (λ (y : Slot × Item). slot_cmp k y.0 ≡ Less) (sym same) e
      | Equal ↦ λ _ n. first_is_after k es f n
      | Greater ↦ λ _ n. first_is_after k es f n
    ] refl p

by_cell : (a b c : Ordering) → ordering_then a b ≡ Less → (a ≡ Equal → ⊥) → ordering_then a c ≡ Less
by_cell a b c lt n = grind arith

by_sort : (a b c : Ordering) → a ≡ Equal → b ≡ Less → ordering_then a (ordering_then b c) ≡ Less
by_sort a b c e lt = grind arith

-- ---- whether two cells are one
pub other_cell : (a b : Cell) (r : Bool) → r ≡ not (eq_by_cmp cell_cmp a b) → r ≡ true → a ≡ b → ⊥
other_cell a b r is t same =
    let tie : eq_by_cmp cell_cmp a b ≡ true = ap (λ y. eq_by_cmp cell_cmp a y) (sym same) ∙ ap is_eq (tied_itself cell_cmp_total a) in
    let no : not (eq_by_cmp cell_cmp a b) ≡ false = ap not tie in
    cc

pub same_cell : (a b : Cell) (r : Bool) → r ≡ not (eq_by_cmp cell_cmp a b) → r ≡ false → a ≡ b
same_cell a b r is f =
    elim (cell_cmp a b) as (λ o. cell_cmp a b ≡ o → r ≡ not (is_eq o) → a ≡ b) [
      | Less ↦ λ _ n. cc
      | Equal ↦ λ e _. cell_cmp-IsAntisymmetric a b e
      | Greater ↦ λ _ n. cc
    ] refl is

-- ---- after a cell's data
module _ (e : Entries) (x : Cell) where
  -- where they end
  abbrev pub data_end : Slot
  data_end = slot_at x Sort.Data last.0

  after_data : (sort : Sort) (t : ℕ) → nat_cmp 0 (sort_rank sort) ≡ Less → slot_cmp data_end (slot_at x sort t) ≡ Less
  after_data sort t lt = by_sort _ _ _ (tied_itself cell_cmp_total x) lt

  module _ (o : Option (Slot × Item)) (next : o ≡ slice_get (entries_after (Some data_end) (map.entries e)) 0) where
    -- nothing of a sort stands where nothing comes after the data
    nothing_stands : o ≡ None → (sort : Sort) (t : ℕ) → nat_cmp 0 (sort_rank sort) ≡ Less → map.get e (slot_at x sort t) ≡ None
    nothing_stands none sort t lt = map.get-entries e (slot_at x sort t) ∙ none_after data_end (slot_at x sort t) (after_data sort t lt) (map.entries e) (sym none ∙ next)

    -- nor where what comes next is above it
    nothing_before : (f : Slot × Item) → o ≡ Some f → (sort : Sort) (t : ℕ) → nat_cmp 0 (sort_rank sort) ≡ Less → slot_cmp (slot_at x sort t) f.0 ≡ Less → map.get e (slot_at x sort t) ≡ None
    nothing_before f is sort t lt below =
        map.get-entries e (slot_at x sort t) ∙ none_between data_end (slot_at x sort t) (after_data sort t lt) (map.entries e) f (map.entries_sorted e) (sym is ∙ next) below

    above_cell : (f : Slot × Item) → o ≡ Some f → (f.0.cell ≡ x → ⊥) → (sort : Sort) (t : ℕ) → slot_cmp (slot_at x sort t) f.0 ≡ Less
    above_cell f is other sort t = by_cell _ _ _ (first_is_after data_end (map.entries e) f (sym is ∙ next)) (λ tie. other (sym (cell_cmp-IsAntisymmetric x f.0.cell tie)))

    pub free_at_end : o ≡ None → NoLock e x × NoWriteFrom e x 0
    free_at_end none = ((λ u lt. ap primary_of (nothing_stands none Sort.Lock u refl)), (λ c le lt. ap start_of (nothing_stands none Sort.Write c refl)))

    pub free_before_other : (f : Slot × Item) → o ≡ Some f → (f.0.cell ≡ x → ⊥) → NoLock e x × NoWriteFrom e x 0
    free_before_other f is other = (
      (λ u lt. ap primary_of (nothing_before f is Sort.Lock u refl (above_cell f is other Sort.Lock u))),
      (λ c le lt. ap start_of (nothing_before f is Sort.Write c refl (above_cell f is other Sort.Write c))),
    )

    pub unlocked_before_write : (f : Slot × Item) → o ≡ Some f → f.0.cell ≡ x → f.0.sort ≡ Sort.Write → NoLock e x
    unlocked_before_write f is here written u lt =
        ap primary_of (nothing_before f is Sort.Lock u refl
        (by_sort _ _ _ (subst (λ y. cell_cmp x y ≡ Equal) (sym here) (tied_itself cell_cmp_total x)) (ap (λ s. nat_cmp 1 (sort_rank s)) written)))
