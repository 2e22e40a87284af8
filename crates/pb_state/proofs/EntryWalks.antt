-- What a walk over entries meets: one entry after another, each as it stands in its slot. The crates above cite these too.
use Rattle.std.proofs.Common.{◌≡◌, ℕ, ◌<◌, ◌⊎◌, inl, inr, Bool, true, false, cond, T, List, [], ◌∷◌, Option, Some, None, is_some, length, drop, slice_get, filter, refl, sym, ap, ◌∙◌, subst, arith, Ordering, Less, Equal, Greater}
use Rattle.std.specs.Cmp.{IsTotalOrder, tied_itself, Equal-is}
use Rattle.std.specs.Ordering.{eq_by_cmp, is_eq, is_lt, ordering_reverse}
use Rattle.std.specs.FinMap as map
use Rattle.std.specs.FinMap.{IsAntisymmetric}
use Rattle.std.specs.FinMap.Entries.{find, is_sorted, below_all}
use Rattle.pb_state.specs.Words.{Slot, Item, Entries, entries_after, start_of, slot_cmp, slot_cmp_total, slot_cmp-IsAntisymmetric}
use Rattle.pb_base.proofs.Logic.{less_if as less, first_holds as first, second_holds as second}

-- a list whose first item and rest are known
pub first_and_rest : {E : Type 0} (xs ys : List E) (e : E) → Some e ≡ slice_get xs 0 → ys ≡ drop 1 xs → xs ≡ e ∷ ys
first_and_rest [] ys e p r = cc
first_and_rest (x ∷ xs) ys e p r = let same : e ≡ x = cc in ap (λ y. y ∷ xs) (sym same) ∙ ap (λ zs. e ∷ zs) (sym r)

-- the rest is shorter
pub rest_shorter : {E : Type 0} (xs ys : List E) (e : E) → xs ≡ e ∷ ys → length ys < length xs
rest_shorter xs ys e is = let more = ap length is in omega (arith, more)

-- one with no first item is empty
pub none_left : {E : Type 0} (xs : List E) → None ≡ slice_get xs 0 → xs ≡ []
none_left [] p = refl
none_left (x ∷ xs) p = cc

module _ {K X : Type 0} {R : K → K → Ordering} (o : IsTotalOrder R) (exact : IsAntisymmetric R) where
  first_found : (es : List (K × X)) (e : K × X) → Some e ≡ slice_get es 0 → find R e.0 es ≡ Some e.1
  first_found [] e p = cc
  first_found (x ∷ xs) e p =
      let same : e ≡ x = cc in
      subst (λ (y : K × X). find R y.0 (x ∷ xs) ≡ Some y.1) (sym same) (ap (λ r. cond (is_eq r) (Some x.1) (find R x.0 xs)) (tied_itself o x.0))

  -- what is below all keys is below one that is found
  below_found : (x q : K) (v : X) (es : List (K × X)) → T (below_all R x es) → find R q es ≡ Some v → R x q ≡ Less
  below_found x q v [] b h = cc
  below_found x q v (e ∷ es) b h =
      elim (R q e.0) as (λ r. R q e.0 ≡ r → cond (is_eq r) (Some e.1) (find R q es) ≡ Some v → R x q ≡ Less) [
        | Less ↦ λ _ k. below_found x q v es (second _ _ b) k
        | Equal ↦ λ is _. ap (R x) (exact q e.0 is) ∙ less _ (first _ _ b)
        | Greater ↦ λ _ k. below_found x q v es (second _ _ b) k
      ] refl h

  found_later : (x : K × X) (xs : List (K × X)) (e : K × X) → T (is_sorted R (x ∷ xs)) → find R e.0 xs ≡ Some e.1 → find R e.0 (x ∷ xs) ≡ Some e.1
  found_later x xs e s h =
      let lt : R x.0 e.0 ≡ Less = below_found x.0 e.0 e.1 xs (first _ _ s) h in
      ap (λ r. cond (is_eq r) (Some x.1) (find R e.0 xs)) (o.antisymm e.0 x.0 ∙ ap ordering_reverse lt) ∙ h

  -- the first that passes a test is found by its key
  pub first_passed : (p : K → Bool) (es : List (K × X)) (e : K × X) → T (is_sorted R es) → Some e ≡ slice_get (filter (λ y. p y.0) es) 0 → find R e.0 es ≡ Some e.1
  first_passed p [] e s q = cc
  first_passed p (x ∷ xs) e s q =
      elim (p x.0) as (λ b. Some e ≡ slice_get (cond b (x ∷ filter (λ y. p y.0) xs) (filter (λ y. p y.0) xs)) 0 → find R e.0 (x ∷ xs) ≡ Some e.1) [
        | true ↦ λ k. first_found (x ∷ xs) e k
        | false ↦ λ k. found_later x xs e s (first_passed p xs e (second _ _ s) k)
      ] q

-- an entry that a walk meets stands in its slot
pub stands_there : (m : Entries) (after : Option Slot) (e : Slot × Item) → Some e ≡ slice_get (entries_after after (map.entries m)) 0 → map.get m e.0 ≡ Some e.1
stands_there m None e p = map.get-entries m e.0 ∙ first_found slot_cmp_total slot_cmp-IsAntisymmetric (map.entries m) e p
stands_there m (Some k) e p = map.get-entries m e.0 ∙ first_passed slot_cmp_total slot_cmp-IsAntisymmetric (λ s. is_lt (slot_cmp k s)) (map.entries m) e (map.entries_sorted m) p

-- where a write record is, something stands
pub record_there : (o : Option Item) (s : ℕ) → start_of o ≡ Some s → is_some o ≡ true
record_there None s h = cc
record_there (Some i) s h = refl

-- an entry of a list is its first or one of the others
pub here_or_left : (slot : Slot) (item : Item) (q : Slot) (rest : List (Slot × Item)) → is_some (find slot_cmp q ((slot, item) ∷ rest)) ≡ true → (slot ≡ q) ⊎ (is_some (find slot_cmp q rest) ≡ true)
here_or_left slot item q rest h =
    elim (eq_by_cmp slot_cmp q slot) as (λ b. eq_by_cmp slot_cmp q slot ≡ b → is_some (cond b (Some item) (find slot_cmp q rest)) ≡ true → (slot ≡ q) ⊎ (is_some (find slot_cmp q rest) ≡ true)) [
      | true ↦ λ t _. inl (sym (slot_cmp-IsAntisymmetric q slot ((Equal-is (slot_cmp q slot)).0 t)))
      | false ↦ λ _ k. inr k
    ] refl h
