-- A line has an operation, though it may be one of no form.
use Rattle.std.proofs.Common.{◌≡◌, ℕ, Bool, true, false, List, [], ◌∷◌, length, refl, ◌==◌, ◌&&◌, if◌then◌else◌, arith}
use Rattle.std.specs.List.{onto_first}
use Rattle.pb_requests.specs.Words.{cut}

-- a byte goes onto the first of texts, and there are as many then
onto_has : (b : ℕ) (xs : List (List ℕ)) → (length xs == 0) ≡ false → (length (onto_first b xs) == 0) ≡ false
onto_has b [] h = grind arith
onto_has b (x ∷ xs) h = grind arith

either : (c : Bool) (xs ys : List (List ℕ)) → (length xs == 0) ≡ false → (length ys == 0) ≡ false → (length (if c then xs else ys) == 0) ≡ false
either true xs ys h k = h
either false xs ys h k = k

pub cut_has : (s : List ℕ) → (length (cut s) == 0) ≡ false
cut_has [] = refl
cut_has (b ∷ []) = refl
cut_has (b ∷ c ∷ bs) = either ((b == 59) && (c == 32)) ([] ∷ cut bs) (onto_first b (cut (c ∷ bs))) (grind arith) (onto_has b (cut (c ∷ bs)) (cut_has (c ∷ bs)))
