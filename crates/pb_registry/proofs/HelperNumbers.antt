-- The helpers of numbers, one after the other.
use Rattle.std.proofs.Common.{◌≡◌, ◌≤◌, ℕ, zero, suc, pos, Bool, true, false, cond, Some, None, List, [], ◌∷◌, ◌++◌, refl, sym, ap, ◌∙◌, arith, is_some, true≢false, not, ◌&&◌, ◌||◌, ◌==◌, option_map, unwrap_or}
use Rattle.std.proofs.lemmas.Bool.{and_parts, or_parts as neither}
use Rattle.std.proofs.lemmas.List.Folds.{list_any-append}
use Rattle.pb_registry.specs.Words.{HelperSet, helper_of, declared_helper, Read, Write, Delete, Start, with_helper}
use Rattle.pb_registry.specs.Helpers.{is_helper, is_named, are_helpers, helper_set}
use Rattle.pb_base.proofs.Logic.{or_false, false_if_not as was_false}

or_true : (b : Bool) → (b || true) ≡ true
or_true b = grind arith

and_false : (a b : Bool) → (a && (b && false)) ≡ false
and_false a b = grind arith

pub not_second : (a : Bool) → (a && false) ≡ false
not_second a = grind arith

not_first : (a : Bool) → (a && true) ≡ false → a ≡ false
not_first a h = grind arith

turned : (m n : ℕ) (b : Bool) → (m == n) ≡ b → (n == m) ≡ b
turned m n b h = grind arith

-- a new helper after distinct ones
pub one_more : (ns : List ℕ) (n : ℕ) → are_helpers ns ≡ true → is_helper n ≡ true → is_named n ns ≡ false → are_helpers (ns ++ n ∷ []) ≡ true
one_more [] n all is new = ap (λ b. b && true) is
one_more (m ∷ ns) n all is new =
    let p = and_parts (is_helper m) (not (is_named m ns) && are_helpers ns) all in
    let q = and_parts (not (is_named m ns)) (are_helpers ns) p.1 in
    let r = neither (m == n) (is_named n ns) new in
    let apart : is_named m (ns ++ n ∷ []) ≡ false = list_any-append (λ x. x == m) ns (n ∷ []) ∙ (λ i. was_false (is_named m ns) q.0 i || (turned m n false r.0 i || false)) in
    λ i. p.0 i && (not (apart i) && one_more ns n q.1 is r.1 i)

-- no helper, or one named before
pub one_fault : (ns : List ℕ) (n : ℕ) (rest : List ℕ) → (is_helper n && not (is_named n ns)) ≡ false → are_helpers (ns ++ n ∷ rest) ≡ false
one_fault [] n rest h = ap (λ b. b && (not (is_named n rest) && are_helpers rest)) (not_first (is_helper n) h)
one_fault (m ∷ ns) n rest h = grind (arith, list_any-append, turned, or_true, not_second, and_false, one_fault ns n rest)

some_if : {A : Type 0} (x : A) (b : Bool) → is_some (cond b (Some x) None) ≡ b
some_if x b = grind arith

-- whether the set has a helper
pub declared_is : (ns : List ℕ) (n : ℕ) → n ≤ 4 → is_some (declared_helper (helper_set ns) (pos n)) ≡ (is_helper n && is_named n ns)
declared_is ns zero low = refl
declared_is ns (suc zero) low = some_if Read (is_named 1 ns)
declared_is ns (suc (suc zero)) low = some_if Write (is_named 2 ns)
declared_is ns (suc (suc (suc zero))) low = some_if Delete (is_named 3 ns)
declared_is ns (suc (suc (suc (suc zero)))) low = some_if Start (is_named 4 ns)
declared_is ns (suc (suc (suc (suc (suc n))))) low = absurd (omega (arith, low))

module _ (ns : List ℕ) where
  there : (n : ℕ) → (n == n) ≡ true → is_named n (ns ++ n ∷ []) ≡ true
  there n e = list_any-append (λ x. x == n) ns (n ∷ []) ∙ ap (λ b. is_named n ns || (b || false)) e ∙ or_true (is_named n ns)

  as_before : (k n : ℕ) → (n == k) ≡ false → is_named k (ns ++ n ∷ []) ≡ is_named k ns
  as_before k n e = list_any-append (λ x. x == k) ns (n ∷ []) ∙ ap (λ b. is_named k ns || (b || false)) e ∙ or_false (is_named k ns)

  -- the set with a helper more
  pub adds_helper : (n : ℕ) (h : HelperSet) → n ≤ 4 → option_map (with_helper (helper_set ns)) (helper_of (pos n)) ≡ Some h → (is_helper n ≡ true) × (helper_set (ns ++ n ∷ []) ≡ h)
  adds_helper zero h low e = absurd (true≢false (sym (ap is_some e)))
  adds_helper (suc zero) h low e = (refl, (λ i. record { read = there 1 refl i; write = as_before 2 1 refl i; delete = as_before 3 1 refl i; start = as_before 4 1 refl i }) ∙ ap (λ o. unwrap_or o h) e)
  adds_helper (suc (suc zero)) h low e = (refl, (λ i. record { read = as_before 1 2 refl i; write = there 2 refl i; delete = as_before 3 2 refl i; start = as_before 4 2 refl i }) ∙ ap (λ o. unwrap_or o h) e)
  adds_helper (suc (suc (suc zero))) h low e = (refl, (λ i. record { read = as_before 1 3 refl i; write = as_before 2 3 refl i; delete = there 3 refl i; start = as_before 4 3 refl i }) ∙ ap (λ o. unwrap_or o h) e)
  adds_helper (suc (suc (suc (suc zero)))) h low e = (refl, (λ i. record { read = as_before 1 4 refl i; write = as_before 2 4 refl i; delete = as_before 3 4 refl i; start = there 4 refl i }) ∙ ap (λ o. unwrap_or o h) e)
  adds_helper (suc (suc (suc (suc (suc n))))) h low e = absurd (omega (arith, low))

  -- no set where there is no such helper
  pub not_added : (n : ℕ) → n ≤ 4 → option_map (with_helper (helper_set ns)) (helper_of (pos n)) ≡ None → is_helper n ≡ false
  not_added n low e = grind arith
