-- Lists by their last element.
use Rattle.std.proofs.Common.{◌≡◌, List, [], ◌∷◌, ◌++◌, refl, ap, ◌∙◌}

pub last_is_some : {A : Type 0} (xs : List A) (x : A) → xs ++ x ∷ [] ≡ [] → ⊥
last_is_some [] x e = absurd cc
last_is_some (a ∷ xs) x e = absurd cc

front : {A : Type 0} (a b : A) (xs ys : List A) → a ∷ xs ≡ b ∷ ys → (a ≡ b) × (xs ≡ ys)
front a b xs ys e = (cc, cc)

pub one_last : {A : Type 0} (xs ys : List A) (x y : A) → xs ++ x ∷ [] ≡ ys ++ y ∷ [] → (xs ≡ ys) × (x ≡ y)
one_last [] [] x y e = (refl, (front x y [] [] e).0)
one_last [] (b ∷ ys) x y e = absurd (last_is_some ys y (cc))
one_last (a ∷ xs) [] x y e = absurd (last_is_some xs x ((front a y (xs ++ x ∷ []) [] e).1))
one_last (a ∷ xs) (b ∷ ys) x y e =
    let h = front a b (xs ++ x ∷ []) (ys ++ y ∷ []) e in
    let t = one_last xs ys x y h.1 in
    (ap (λ z. z ∷ xs) h.0 ∙ ap (λ l. b ∷ l) t.0, t.1)
