-- A list of flags set one after the other.
use Rattle.std.proofs.Common.{◌≡◌, ℕ, zero, suc, ◌+◌, ◌<◌, Bool, true, List, [], ◌∷◌, ◌++◌, length, drop, set, replicate, refl, ap, arith, add-one}

-- one more flag set, after those that are
fill_more : (xs : List Bool) (i : ℕ) → i < length xs → set (replicate i true ++ drop i xs) i true ≡ replicate (suc i) true ++ drop (suc i) xs
fill_more [] i h = absurd (omega arith)
fill_more (x ∷ xs) zero h = refl
fill_more (x ∷ xs) (suc i) h = ap (λ t. true ∷ t) (fill_more xs i (omega arith))

-- the same as the loop of `fill` counts it
pub fill_step : (xs ys : List Bool) (i : ℕ) → ys ≡ replicate i true ++ drop i xs → i < length xs → set ys i true ≡ replicate (i + 1) true ++ drop (i + 1) xs
fill_step xs ys i e h = rw (add-one, e) (fill_more xs i h)
