-- Two elements that come side by side.
use Rattle.std.proofs.Common.{◌≡◌, ◌≤◌, ◌+◌, ◌-◌, ◌∙◌, ℕ, zero, suc, List, [], ◌∷◌, ◌++◌, length, take, drop, set, refl, ap, arith}
use Rattle.std.specs.List.{insert, copy_within}

-- what stands before two pushed elements
front : {X : Type 0} → (xs : List X) (a b : X) → take (length xs) (xs ++ a ∷ b ∷ []) ++ drop (suc (suc (length xs))) (xs ++ a ∷ b ∷ []) ≡ xs
front [] a b = refl
front (x ∷ xs) a b = ap (λ l. x ∷ l) (front xs a b)

-- the n elements from i on are moved up by two, over the two that were pushed
abbrev moved : {X : Type 0} → List X → ℕ → ℕ → X → X → List X
moved xs i n a b =
    let d = xs ++ a ∷ b ∷ [] in
    take (suc (suc i)) d ++ take n (drop i d) ++ drop (suc (suc (length xs))) d

-- a pair that comes first, when all others have moved
at_front : {X : Type 0} → (xs : List X) (a b : X) → set (set (moved xs zero (length xs) a b) zero a) (suc zero) b ≡ a ∷ b ∷ xs
at_front [] a b = refl
at_front (x ∷ []) a b = refl
at_front (x ∷ y ∷ zs) a b = ap (λ l. a ∷ b ∷ l) (front (x ∷ y ∷ zs) a b)

-- a pair at any place, when those after it have moved
put_over : {X : Type 0} → (xs : List X) (i n : ℕ) (a b : X) → i ≤ length xs → n ≡ length xs - i → set (set (moved xs i n a b) i a) (suc i) b ≡ take i xs ++ a ∷ b ∷ drop i xs
put_over xs zero n a b le n_is = ap (λ m. set (set (moved xs zero m a b) zero a) (suc zero) b) (omega (arith, n_is)) ∙ at_front xs a b
put_over [] (suc i) n a b le n_is = absurd (omega (arith, le))
put_over (x ∷ xs) (suc i) n a b le n_is = ap (λ l. x ∷ l) (put_over xs i n a b (omega (arith, le)) (omega (arith, n_is)))

-- two inserts side by side put both between what stands before and after
inserted : {X : Type 0} → (xs : List X) (i : ℕ) (a b : X) → i ≤ length xs → insert (insert xs i a) (suc i) b ≡ take i xs ++ a ∷ b ∷ drop i xs
inserted xs zero a b le = refl
inserted [] (suc i) a b le = absurd (omega (arith, le))
inserted (x ∷ xs) (suc i) a b le = ap (λ l. x ∷ l) (inserted xs i a b (omega (arith, le)))

-- both are pushed, what stands from their place on is moved up by two, and they are written there
pub both-inserted : {X : Type 0} → (xs : List X) (i : ℕ) (a b : X) → i ≤ length xs
    → set (set (copy_within (xs ++ a ∷ b ∷ []) i (length xs) (i + 2)) i a) (i + 1) b ≡ insert (insert xs i a) (i + 1) b
both-inserted xs i a b le =
    let n = length xs - i in
    let two : i + 2 ≡ suc (suc i) = omega arith in
    let all : suc (suc i) + n ≡ suc (suc (length xs)) = omega (arith, le) in
    grind (arith, put_over, inserted)
