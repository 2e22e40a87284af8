-- Two lists joined element by element, in the place of the first.
use Rattle.std.proofs.Common.{◌≡◌, ℕ, zero, suc, ◌+◌, ◌<◌, List, [], ◌∷◌, ◌++◌, length, take, drop, set, get_or, refl, ap, arith, add-one}
use Rattle.pb_kinds.specs.Frames.{pointwise}

-- one more element joined, in front of those of the first list that are left
both_more : {A : Type 0} (f : A → A → A) (a b : List A) (i : ℕ) (d : A) → i < length a → length a ≡ length b → set (pointwise f (take i a) (take i b) ++ drop i a) i (f (get_or a i d) (get_or b i d)) ≡ pointwise f (take (suc i) a) (take (suc i) b) ++ drop (suc i) a
both_more f [] b i d h e = absurd (omega arith)
both_more f (x ∷ a) [] i d h e = absurd (omega arith)
both_more f (x ∷ a) (y ∷ b) zero d h e = refl
both_more f (x ∷ a) (y ∷ b) (suc i) d h e = ap (λ t. f x y ∷ t) (both_more f a b i d (omega arith) (omega arith))

-- the same as the loops count it
pub both_step : {A : Type 0} (f : A → A → A) (a b c : List A) (i : ℕ) (d v : A) → c ≡ pointwise f (take i a) (take i b) ++ drop i a → v ≡ f (get_or a i d) (get_or b i d) → i < length a → length a ≡ length b → set c i v ≡ pointwise f (take (i + 1) a) (take (i + 1) b) ++ drop (i + 1) a
both_step f a b c i d v e w h l = rw (add-one, e, w) (both_more f a b i d h l)
