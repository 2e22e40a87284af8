-- Zeros at the end, taken off one by one as the code does.
use Rattle.std.proofs.Common.{◌≡◌, ◌≢◌, ℕ, Bool, false, cond, List, [], ◌∷◌, ◌++◌, length, refl, sym, ap, ◌∙◌, ◌==◌, ◌&&◌}
use Rattle.std.specs.List.{list_all}
use Rattle.std.proofs.lemmas.Bool.{ne_eqb, and_right}
use Rattle.pb_script.specs.ReportLines.{trimmed}

abbrev zeros : List ℕ → Bool
zeros bs = list_all (λ c. c == 0) bs

zeros_more : (xs : List ℕ) → zeros (xs ++ 0 ∷ []) ≡ zeros xs
zeros_more [] = refl
zeros_more (x ∷ xs) = ap (λ b. (x == 0) && b) (zeros_more xs)

-- a zero at the end doesn't change what is left, unless it is the only byte
trim_zero : (b : ℕ) (xs : List ℕ) → trimmed (b ∷ (xs ++ 0 ∷ [])) ≡ trimmed (b ∷ xs)
trim_zero b [] = refl
trim_zero b (x ∷ xs) = ap (λ t. cond ((x == 0) && t) (b ∷ []) (b ∷ trimmed (x ∷ (xs ++ 0 ∷ [])))) (zeros_more xs) ∙ ap (λ (t : List ℕ). cond ((x == 0) && zeros xs) (b ∷ []) (b ∷ t)) (trim_zero x xs)

zeros_not : (xs : List ℕ) (z : ℕ) → z ≢ 0 → zeros (xs ++ z ∷ []) ≡ false
zeros_not [] z h = rw (ne_eqb z 0 h) refl
zeros_not (x ∷ xs) z h = and_right (x == 0) (zeros (xs ++ z ∷ [])) (zeros_not xs z h)

-- nothing is taken off after a byte that isn't zero
pub trim_same : (xs : List ℕ) (z : ℕ) → z ≢ 0 → trimmed (xs ++ z ∷ []) ≡ xs ++ z ∷ []
trim_same [] z h = refl
trim_same (x ∷ xs) z h = ap (λ t. cond t (x ∷ []) (x ∷ trimmed (xs ++ z ∷ []))) (zeros_not xs z h) ∙ ap (λ (t : List ℕ). x ∷ t) (trim_same xs z h)

-- so bytes that don't end with a zero stay
pub trim_is : (bs xs : List ℕ) (z : ℕ) → bs ≡ xs ++ z ∷ [] → z ≢ 0 → trimmed bs ≡ bs
trim_is bs xs z e h = ap trimmed e ∙ trim_same xs z h ∙ sym e

-- and those that do are trimmed as they are without it
pub trim_more : (bs xs : List ℕ) (z : ℕ) → bs ≡ xs ++ z ∷ [] → z ≡ 0 → (length xs == 0) ≡ false → trimmed bs ≡ trimmed xs
trim_more bs [] z e n h = absurd cc
trim_more bs (x ∷ xs) z e n h = ap trimmed e ∙ ap (λ k. trimmed (x ∷ (xs ++ k ∷ []))) n ∙ trim_zero x xs
