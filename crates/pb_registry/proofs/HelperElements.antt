-- The helpers that an array's elements name, up to one of them.
use Rattle.std.proofs.Common.{◌≡◌, ◌<◌, ◌≤◌, ℕ, ◌+◌, zero, suc, pos, Bool, true, false, Some, None, List, [], ◌∷◌, ◌++◌, map, take, length, get_or, refl, sym, ap, ◌∙◌, arith, is_some, not, ◌&&◌, nat_lt, if◌then◌else◌, option_map, unwrap_or}
use Rattle.std.proofs.lemmas.Bool.{lt-leb}
use Rattle.std.proofs.lemmas.List.{take_more}
use Rattle.serde_json.specs.View.{view}
use Rattle.serde_json.specs.declared.value.Value.{Value}
use Rattle.pb_registry.specs.Words.{HelperSet, helper_of, declared_helper, with_helper}
use Rattle.pb_registry.specs.Helpers.{is_helper, is_named, are_helpers, helper_set, helpers_of}
use Rattle.pb_registry.specs.Manifests.{number_in, numbers_of}
use Rattle.pb_registry.proofs.HelperNumbers.{one_more, one_fault, declared_is, adds_helper, not_added, not_second}
use Rattle.pb_base.proofs.Logic.{right_true as second}

-- the number of a value, 0 where it is none
abbrev pub number_of : Value → ℕ
number_of v = unwrap_or (number_in (view v)) 0

-- the numbers of these values
abbrev pub numbers : List Value → List ℕ
numbers vs = numbers_of (map view vs)

numbers_pushed : (vs : List Value) (v : Value) → numbers (vs ++ v ∷ []) ≡ numbers vs ++ number_of v ∷ []
numbers_pushed [] v = refl
numbers_pushed (w ∷ vs) v = ap (λ ns. number_of w ∷ ns) (numbers_pushed vs v)

-- an element's number stands among all of them, after those of the elements before it
parted : (vs : List Value) (i : ℕ) (d : Value) → i < length vs → (rest : List ℕ) × (numbers vs ≡ numbers (take i vs) ++ number_of (get_or vs i d) ∷ rest)
parted [] i d lt = absurd (omega (arith, lt))
parted (v ∷ vs) zero d lt = (numbers vs, refl)
parted (v ∷ vs) (suc i) d lt = grind (arith, parted vs i d (omega (arith, lt)))

if_second : (a b : Bool) → a ≡ true → (a && b) ≡ false → b ≡ false
if_second a b p h = sym (ap (λ c. c && b) p) ∙ h

-- the element at i has the number n, and those before it name this set
module _ (vs : List Value) (i : ℕ) (v : Value) (lt : i < length vs) (at : get_or vs i v ≡ v) (n : ℕ) (is : n ≡ number_of v) (h : HelperSet) (set : h ≡ helper_set (numbers (take i vs))) where
  fault : (is_helper n && not (is_named n (numbers (take i vs)))) ≡ false → None ≡ helpers_of (numbers vs)
  fault bad =
      let p = parted vs i v lt in
      let whole : numbers vs ≡ numbers (take i vs) ++ n ∷ p.0 = p.1 ∙ ap (λ w. numbers (take i vs) ++ number_of w ∷ p.0) at ∙ ap (λ k. numbers (take i vs) ++ k ∷ p.0) (sym is) in
      sym (ap (λ b. if b then Some (helper_set (numbers vs)) else None) (ap are_helpers whole ∙ one_fault (numbers (take i vs)) n p.0 bad))

  pub beyond_no_helpers : 4 < n → None ≡ helpers_of (numbers vs)
  beyond_no_helpers high = fault (ap (λ b. (nat_lt 0 n && b) && not (is_named n (numbers (take i vs)))) (lt-leb n 4 high) ∙ ap (λ b. b && not (is_named n (numbers (take i vs)))) (not_second (nat_lt 0 n)))

  has : n ≤ 4 → is_some (declared_helper h (pos n)) ≡ (is_helper n && is_named n (numbers (take i vs)))
  has low = ap (λ s. is_some (declared_helper s (pos n))) set ∙ declared_is (numbers (take i vs)) n low

  pub twice_no_helpers : n ≤ 4 → is_some (declared_helper h (pos n)) ≡ true → None ≡ helpers_of (numbers vs)
  twice_no_helpers low there = grind (arith, second, has, fault, not_second)

  pub no_helper : n ≤ 4 → option_map (with_helper h) (helper_of (pos n)) ≡ None → None ≡ helpers_of (numbers vs)
  no_helper low none = grind (arith, not_added, fault)

  pub one_more_helper : (g : HelperSet) → n ≤ 4 → are_helpers (numbers (take i vs)) ≡ true → is_some (declared_helper h (pos n)) ≡ false → option_map (with_helper h) (helper_of (pos n)) ≡ Some g → (are_helpers (numbers (take (i + 1) vs)) ≡ true) × (g ≡ helper_set (numbers (take (i + 1) vs)))
  one_more_helper g low are absent some =
      let a = adds_helper (numbers (take i vs)) n g low (sym (ap (λ s. option_map (with_helper s) (helper_of (pos n))) set) ∙ some) in
      let new : is_named n (numbers (take i vs)) ≡ false = if_second (is_helper n) (is_named n (numbers (take i vs))) a.0 (sym (has low) ∙ absent) in
      let front : numbers (take (i + 1) vs) ≡ numbers (take i vs) ++ n ∷ [] = ap numbers (take_more vs i v lt) ∙ numbers_pushed (take i vs) (get_or vs i v) ∙ ap (λ w. numbers (take i vs) ++ number_of w ∷ []) at ∙ ap (λ k. numbers (take i vs) ++ k ∷ []) (sym is) in
      (ap are_helpers front ∙ one_more (numbers (take i vs)) n are a.0 new, sym (ap helper_set front ∙ a.1))
