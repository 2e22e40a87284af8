-- Whether two values are one, as a truth value. Every type with a code has it, since codes are trees of numbers. By it
-- a definition can compute that a declared run is the expected one, where a body compares the two field by field.
use Rattle.std.proofs.Common.{◌≡◌, Bool, true, false, ◌&&◌, ◌==◌, refl, sym, ap, ◌∙◌, eq-eqb}
use Rattle.std.proofs.lemmas.Bool.{eqb-true}
use Rattle.std.specs.Coded.{Coded}
use base.Stored.{Gv, gnil, gnum, gcons}

-- the same shape, with the same number at each leaf
abbrev same_tree : Gv → Gv → Bool
same_tree gnil gnil = true
same_tree gnil (gnum m) = false
same_tree gnil (gcons c d) = false
same_tree (gnum n) gnil = false
same_tree (gnum n) (gnum m) = n == m
same_tree (gnum n) (gcons c d) = false
same_tree (gcons a b) gnil = false
same_tree (gcons a b) (gnum m) = false
same_tree (gcons a b) (gcons c d) = same_tree a c && same_tree b d

-- the same code; the two laws below alone unfold it, so that all else goes by them and not by trees
unfoldable pub same : {A : Type 0} → Coded A → A → A → Bool
same k x y = same_tree (k.code x) (k.code y)

-- both are true where their conjunction is
both : (a b : Bool) → (a && b) ≡ true → (a ≡ true) × (b ≡ true)
both true b e = (refl, e)
both false b e = cc

-- trees that are found to be the same are one
one_tree : (a b : Gv) → same_tree a b ≡ true → a ≡ b
one_tree gnil gnil e = refl
one_tree gnil (gnum m) e = cc
one_tree gnil (gcons c d) e = cc
one_tree (gnum n) gnil e = cc
one_tree (gnum n) (gnum m) e = ap gnum (eqb-true n m e)
one_tree (gnum n) (gcons c d) e = cc
one_tree (gcons a b) gnil e = cc
one_tree (gcons a b) (gnum m) e = cc
one_tree (gcons a b) (gcons c d) e =
    let p = both (same_tree a c) (same_tree b d) e in
    let l = one_tree a c p.0 in
    let r = one_tree b d p.1 in
    λ i. gcons (l i) (r i)

-- each tree is found to be the same as itself
itself : (a : Gv) → same_tree a a ≡ true
itself gnil = refl
itself (gnum n) = eq-eqb n n refl
itself (gcons a b) = rw (itself a, itself b) refl

-- where it is true, they are one
pub same_is : {A : Type 0} (k : Coded A) (x y : A) → same k x y ≡ true → x ≡ y
unfolding same
same_is k x y e = k.inj x y (one_tree (k.code x) (k.code y) e)

-- where they are one, it is true
pub is_same : {A : Type 0} (k : Coded A) (x y : A) → x ≡ y → same k x y ≡ true
unfolding same
is_same k x y e = ap (λ z. same_tree (k.code x) (k.code z)) (sym e) ∙ itself (k.code x)
