-- A walk over places: at which one a number is found.
use Rattle.std.proofs.Common.{arith, ◌≡◌, ◌≤◌, ◌+◌, ◌==◌, ℕ, zero, suc, false, cond, List, [], ◌∷◌, length, drop, Option, Some, None, option_map, slice_get, refl, sym, ap, ◌∙◌}
use Rattle.std.proofs.lemmas.Bool.{eq-eqb}
use Rattle.pb_base.proofs.Logic.{drop_step}
use Rattle.pb_generations.specs.Chosen.{place_among}

-- ---- what is left of a list

pub none_left : {A : Type 0} (xs : List A) (i : ℕ) → length xs ≤ i → drop i xs ≡ []
none_left [] zero past = refl
none_left [] (suc i) past = refl
none_left (x ∷ xs) zero past = absurd (omega (arith, past))
none_left (x ∷ xs) (suc i) past = none_left xs i (omega (arith, past))

pub next_dropped : {A : Type 0} (xs : List A) (i : ℕ) (x : A) → slice_get xs i ≡ Some x → drop i xs ≡ x ∷ drop (i + 1) xs
next_dropped xs i x here =
    let next : suc i ≡ i + 1 = omega arith in
    drop_step xs i x here ∙ ap (λ k. x ∷ drop k xs) next

-- ---- a number among the rest

-- the place of a number in a list of which the first are left out
abbrev pub found_from : ℕ → List ℕ → ℕ → Option ℕ
found_from i rest p = option_map (λ n. i + n) (place_among rest p)

pub found_here : (places : List ℕ) (i p : ℕ) → slice_get places i ≡ Some p → found_from i (drop i places) p ≡ Some i
unfolding place_among
found_here places i p here =
    let same : i + 0 ≡ i = omega arith in
    ap (λ l. found_from i l p) (next_dropped places i p here) ∙ ap (λ b. option_map (λ n. i + n) (cond b (Some zero) (option_map (λ n. suc n) (place_among (drop (i + 1) places) p)))) (eq-eqb p p refl) ∙ ap Some same

moved : (i : ℕ) (o : Option ℕ) → option_map (λ n. i + n) (option_map (λ n. suc n) o) ≡ option_map (λ n. i + 1 + n) o
moved i None = refl
moved i (Some n) = ap Some (omega arith)

pub found_later : (places : List ℕ) (i p q : ℕ) → slice_get places i ≡ Some q → (q == p) ≡ false → found_from (i + 1) (drop (i + 1) places) p ≡ found_from i (drop i places) p
unfolding place_among
found_later places i p q here other =
    sym (
    ap (λ l. found_from i l p) (next_dropped places i q here)
    ∙ ap (λ b. option_map (λ n. i + n) (cond b (Some zero) (option_map (λ n. suc n) (place_among (drop (i + 1) places) p)))) other
    ∙ moved i (place_among (drop (i + 1) places) p)
    )

pub found_nowhere : (places : List ℕ) (i p : ℕ) → length places ≤ i → found_from i (drop i places) p ≡ None
unfolding place_among
found_nowhere places i p past = ap (λ l. found_from i l p) (none_left places i past)
