-- Which observers of a list stand in another one, and where.
use Rattle.std.proofs.Common.{arith, ◌≡◌, ◌<◌, ◌==◌, ◌+◌, ◌⊎◌, inl, inr, ℕ, zero, suc, true, false, List, [], ◌∷◌, ◌++◌, length, take, Option, Some, None, IfSome, IfNone, is_some, slice_get, refl, sym, ap, ◌∙◌, subst}
use Rattle.std.specs.List.{list_any}
use Rattle.std.proofs.lemmas.Bool.{eq-eqb, eqb-true, or_parts}
use Rattle.std.proofs.lemmas.List.{length-append}
use Rattle.pb_keeper.specs.Words.{ObserverOf, AreChosen}
use Rattle.pb_state.proofs.Taking.{take_with_next}
use Rattle.pb_generations.proofs.LongerLists.{stay_in_front}
use Rattle.pb_base.proofs.Logic.{or_cases, not_both, same_some}
use Rattle.pb_keeper.specs.Choosing.{IsOneOf, IsSplit, WhyNotChosen, known_one, nothing, one_twice, other_one}

-- ---- one at the end

got_last : {A : Type 0} (xs : List A) (x : A) → slice_get (xs ++ x ∷ []) (length xs) ≡ Some x
got_last [] x = refl
got_last (z ∷ xs) x = got_last xs x

got_either : {A : Type 0} (xs : List A) (x : A) (n : ℕ) (y : A) → slice_get (xs ++ x ∷ []) n ≡ Some y → (slice_get xs n ≡ Some y) ⊎ ((n ≡ length xs) × (x ≡ y))
got_either [] x zero y is = inr (refl, same_some x y is)
got_either [] x (suc n) y is = absurd cc
got_either (z ∷ xs) x zero y is = inl is
got_either (z ∷ xs) x (suc n) y is = elim (got_either xs x n y is) [
  | inl h ↦ inl h
  | inr p ↦ inr (ap suc p.0, p.1)
]

taken_at : {A : Type 0} (xs : List A) (i n : ℕ) (x : A) → slice_get (take i xs) n ≡ Some x → (n < i) × (slice_get xs n ≡ Some x)
taken_at [] zero n x is = absurd cc
taken_at [] (suc i) n x is = absurd cc
taken_at (y ∷ xs) zero n x is = absurd cc
taken_at (y ∷ xs) (suc i) zero x is = (omega arith, is)
taken_at (y ∷ xs) (suc i) (suc n) x is = let r = taken_at xs i n x is in (let low = r.0 in omega (arith, low), r.1)

-- ---- places

-- a number that is found stands somewhere
place_there : (places : List ℕ) (p : ℕ) → list_any (λ q. q == p) places ≡ true → (n : ℕ) × (slice_get places n ≡ Some p)
place_there [] p any = absurd cc
place_there (q ∷ places) p any = elim (or_cases (q == p) (list_any (λ q. q == p) places) any) [
  | inl here ↦ (zero, ap Some (eqb-true q p here))
  | inr later ↦ let r = place_there places p later in (suc r.0, r.1)
]

no_place : (places : List ℕ) (p n : ℕ) → list_any (λ q. q == p) places ≡ false → slice_get places n ≡ Some p → ⊥
no_place [] p n none is = absurd cc
no_place (q ∷ places) p zero none is = not_both (q == p) (eq-eqb q p (same_some q p is)) (or_parts (q == p) (list_any (λ q. q == p) places) none).0
no_place (q ∷ places) p (suc n) none is = no_place places p n (or_parts (q == p) (list_any (λ q. q == p) places) none).1 is

module _ (places : List ℕ) (old new : List ObserverOf) (i p : ℕ) (o : ObserverOf) (so : AreChosen places old (take i new)) (here : slice_get new i ≡ Some o) (there : slice_get old p ≡ Some o) where
  -- a place that was met before is that of the same observer
  pub stands_twice : list_any (λ q. q == p) places ≡ true → WhyNotChosen old new
  stands_twice any =
      let n = place_there places p any in
      let one = so.each n.0 p n.1 in
      let before = taken_at new i n.0 one.0 one.2 in
      one_twice n.0 i o (λ same. let low = before.0 in omega (arith, low, same)) (subst (λ z. slice_get new n.0 ≡ Some z) (same_some one.0 o (sym one.1 ∙ there)) before.1) here

  abbrev front : List ObserverOf
  front = take i new

  with_one : list_any (λ q. q == p) places ≡ false → AreChosen (places ++ p ∷ []) old (front ++ o ∷ [])
  with_one none = record {
    as_many = let same = so.as_many in omega (arith, length-append front (o ∷ []), length-append places (p ∷ []), same);
    each = λ n q is. elim (got_either places p n q is) [
      | inl h ↦ let e = so.each n q h in (e.0, e.1, stay_in_front front (o ∷ []) n e.0 e.2)
      | inr e ↦ (o, subst (λ r. slice_get old r ≡ Some o) e.1 there, subst (λ k. slice_get (front ++ o ∷ []) k ≡ Some o) (so.as_many ∙ sym e.0) (got_last front o))
    ];
    apart = λ m n q x y. elim (got_either places p m q x) [
      | inl h ↦ elim (got_either places p n q y) [
        | inl k ↦ so.apart m n q h k
        | inr k ↦ absurd (no_place places p m none (subst (λ r. slice_get places m ≡ Some r) (sym k.1) h))
      ]
      | inr h ↦ elim (got_either places p n q y) [
        | inl k ↦ absurd (no_place places p n none (subst (λ r. slice_get places n ≡ Some r) (sym h.1) k))
        | inr k ↦ h.0 ∙ sym k.0
      ]
    ];
  }

  -- one more is chosen
  pub one_more : list_any (λ q. q == p) places ≡ false → AreChosen (places ++ p ∷ []) old (take (i + 1) new)
  one_more none = subst (λ l. AreChosen (places ++ p ∷ []) old l) (sym (take_with_next new i o here)) (with_one none)

-- ---- two lists

module _ (observers : List ObserverOf) (o : ObserverOf) where
  pub listed_if : (place : Option ℕ) → is_some place ≡ true → IfSome place (λ p. slice_get observers p ≡ Some o) → IsOneOf observers o
  listed_if (Some p) is there = (p, there)
  listed_if None is there = absurd cc

  pub unlisted_if : (place : Option ℕ) → is_some place ≡ false → IfNone place (IsOneOf observers o → ⊥) → IsOneOf observers o → ⊥
  unlisted_if (Some p) is absent = absurd cc
  unlisted_if None is absent = absent

-- together they have as many observers
pub as_many : (old new known others : List ObserverOf) → IsSplit old new known others → length known + length others ≡ length new
as_many old new known others nothing = refl
as_many old new known others (known_one before k more o split there) = omega (arith, as_many old before k more split, length-append before (o ∷ []), length-append k (o ∷ []))
as_many old new known others (other_one before k more o split absent) = omega (arith, as_many old before k more split, length-append before (o ∷ []), length-append more (o ∷ []))

-- none of the others stands in the old list
pub others_are_new : (old new known others : List ObserverOf) → IsSplit old new known others → (o : ObserverOf) → IsOneOf others o → IsOneOf old o → ⊥
others_are_new old new known others nothing o there was = absurd cc
others_are_new old new known others (known_one before ks os one split is) o there was = others_are_new old before ks os split o there was
others_are_new old new known others (other_one before ks os one split absent) o there was = elim (got_either os one there.0 o there.1) [
  | inl h ↦ others_are_new old before ks os split o (there.0, h) was
  | inr e ↦ absent (subst (IsOneOf old) (sym e.1) was)
]
