-- What stands beside the cut of a sorted list at a key.
use Rattle.std.proofs.Common.{◌≡◌, ℕ, ◌<◌, ◌≤◌, List, [], ◌∷◌, None, Some, refl, sym, ap, ◌∙◌, arith, zero, suc, length, take, get_or, slice_get, T, Ordering, Less, Equal, Greater}
use Rattle.std.specs.Cmp.{IsTotalOrder}
use Rattle.std.specs.List.{last_or}
use Rattle.std.specs.FinMap.Entries.{is_sorted}
use Rattle.std.proofs.lemmas.Option.{slice_get_within, get_or_from_slice_get}
use Rattle.pb_memtablet.specs.Places.{IsCut}
use Rattle.pb_memtablet.specs.Chunks.{entries_up_to, entries_above}
use Rattle.pb_memtablet.proofs.Spots.{not_less, equal_not_less}
use Rattle.pb_memtablet.proofs.Homes.{entries_up_to-cut, entries_above-cut, last_of_take}
use Rattle.pb_base.proofs.Logic.{first_of_drop as first_of_dropped, none_past}

-- e stands right before the cut
pub record IsLastUpTo {K X : Type 0} (R : K → K → Ordering) (es : List (K × X)) (k : K) (e : K × X) : Type 0 where
  pub place : ℕ
  pub is : e ≡ get_or es place e
  pub within : place < length es
  pub cut : IsCut R es k (suc place)

-- e stands right after it
pub record IsFirstAbove {K X : Type 0} (R : K → K → Ordering) (es : List (K × X)) (k : K) (e : K × X) : Type 0 where
  pub place : ℕ
  pub is : e ≡ get_or es place e
  pub within : place < length es
  pub cut : IsCut R es k place

module _ {K X : Type 0} (R : K → K → Ordering) where
  cut_of : (es : List (K × X)) (k : K) → (i : ℕ) × IsCut R es k i
  cut_of [] k = (0, tt)
  cut_of (e ∷ es) k =
      elim (R k e.0) as (λ r. R k e.0 ≡ r → (i : ℕ) × IsCut R (e ∷ es) k i) [
        | Less ↦ λ p. (0, p)
        | Equal ↦ λ p. let rest = cut_of es k in (suc rest.0, (equal_not_less _ p, rest.1))
        | Greater ↦ λ p. let rest = cut_of es k in (suc rest.0, (not_less _ p, rest.1))
      ] refl

  cut_within : (es : List (K × X)) (k : K) (i : ℕ) → IsCut R es k i → i ≤ length es
  cut_within [] k zero c = omega arith
  cut_within [] k (suc i) c = absurd c
  cut_within (e ∷ es) k zero c = omega arith
  cut_within (e ∷ es) k (suc i) c = let rest = cut_within es k i c.1 in omega (arith, rest)

  last_before : (es : List (K × X)) (k : K) (i : ℕ) (e : K × X) → IsCut R es k i → Some e ≡ last_or None (take i es) → IsLastUpTo R es k e
  last_before es k i e c p = grind (arith, cut_within, last_of_take)

  none_before : (es : List (K × X)) (k : K) (i : ℕ) → IsCut R es k i → None ≡ last_or None (take i es) → IsCut R es k 0
  none_before es k zero c p = c
  none_before [] k (suc i) c p = absurd c
  none_before (e ∷ es) k (suc i) c p =
      let le : suc i ≤ length (e ∷ es) = cut_within (e ∷ es) k (suc i) c in
      let none : None ≡ Some (get_or (e ∷ es) i e) = p ∙ last_of_take None (e ∷ es) i e (omega (arith, le)) in
      cc

  none_behind : (es : List (K × X)) (k : K) (i : ℕ) → IsCut R es k i → None ≡ slice_get es i → IsCut R es k (length es)
  none_behind es k i c p = grind (arith, cut_within, none_past)

  module _ (o : IsTotalOrder R) (es : List (K × X)) (k : K) (s : T (is_sorted R es)) where
    -- the last entry up to k stands right before the cut
    pub last_up_to_is : (e : K × X) → Some e ≡ last_or None (entries_up_to R k es) → IsLastUpTo R es k e
    last_up_to_is e p = let c = cut_of es k in last_before es k c.0 e c.1 (p ∙ ap (last_or None) (entries_up_to-cut R o es k c.0 s c.1))

    pub none_up_to : None ≡ last_or None (entries_up_to R k es) → IsCut R es k 0
    none_up_to p = let c = cut_of es k in none_before es k c.0 c.1 (p ∙ ap (last_or None) (entries_up_to-cut R o es k c.0 s c.1))

    above_is : (i : ℕ) → IsCut R es k i → slice_get (entries_above R k es) 0 ≡ slice_get es i
    above_is i c = ap (λ l. slice_get l 0) (entries_above-cut R o es k i s c) ∙ first_of_dropped es i

    pub first_above_is : (e : K × X) → Some e ≡ slice_get (entries_above R k es) 0 → IsFirstAbove R es k e
    first_above_is e p =
        let c = cut_of es k in
        let found : slice_get es c.0 ≡ Some e = sym (p ∙ above_is c.0 c.1) in
        record { place = c.0; is = sym (get_or_from_slice_get es c.0 e e found); within = slice_get_within es c.0 e found; cut = c.1 }

    -- where no entry is above k, the cut is the end
    pub none_above : None ≡ slice_get (entries_above R k es) 0 → IsCut R es k (length es)
    none_above p = let c = cut_of es k in none_behind es k c.0 c.1 (p ∙ above_is c.0 c.1)
