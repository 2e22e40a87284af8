-- Lemmas of tests, options, orders and lists that the library of the language has not, or not in this form.
use Rattle.std.proofs.Common.{◌≡◌, Bool, true, false, ◌&&◌, Option, Some, None, refl, T, ℕ, zero, suc, List, [], ◌∷◌, drop, slice_get, ◌<◌, arith, ◌≤◌, length, not, cond, sym, subst, Result, OnOk, ◌⊎◌, ap, ◌∙◌, is_some, ◌==◌, ◌||◌, nat_lt, nat_le, Ordering, Less}
use Rattle.std.specs.Ordering.{is_lt, ordering_reverse}
use Rattle.std.proofs.lemmas.Bool.{eqb-false}
use Rattle.std.specs.Cmp.{IsTotalOrder}

-- of two tests that hold together each holds
pub and_true : (a b : Bool) → (a && b) ≡ true → (a ≡ true) × (b ≡ true)
and_true a b e = grind arith

-- what has no value is none
pub none_is : {A : Type 0} (o : Option A) → is_some o ≡ false → o ≡ None
none_is o h = grind arith

-- equal options have equal values
pub same_some : {A : Type 0} (x y : A) → Some x ≡ Some y → x ≡ y
same_some x y e = cc

-- an order that is less, by its test
pub less_if : (o : Ordering) → T (is_lt o) → o ≡ Less
less_if o p = grind arith

-- of two tests that hold together the first does
pub first_holds : (a b : Bool) → T (a && b) → T a
first_holds a b p = grind arith

-- and the second
pub second_holds : (a b : Bool) → T (a && b) → T b
second_holds a b p = grind arith

-- two tests that hold hold together
pub both_hold : (a b : Bool) → T a → T b → T (a && b)
both_hold a b p q = grind arith

-- what is left from a place on begins with the item there
pub drop_step : {A : Type 0} (xs : List A) (i : ℕ) (x : A) → slice_get xs i ≡ Some x → drop i xs ≡ x ∷ drop (suc i) xs
drop_step [] zero x e = cc
drop_step [] (suc i) x e = cc
drop_step (y ∷ ys) zero x e = cc
drop_step (y ∷ ys) (suc i) x e = drop_step ys i x e

-- the first of what is left is the item at that place
pub first_of_drop : {E : Type 0} (es : List E) (i : ℕ) → slice_get (drop i es) 0 ≡ slice_get es i
first_of_drop [] zero = refl
first_of_drop [] (suc i) = refl
first_of_drop (e ∷ es) zero = refl
first_of_drop (e ∷ es) (suc i) = first_of_drop es i

-- a number that is not zero is positive
pub nonzero_positive : (n : ℕ) → (n == 0) ≡ false → 0 < n
nonzero_positive n h = let k = eqb-false n 0 h in grind arith

-- a place without an item lies past the end
pub none_past : {E : Type 0} (es : List E) (i : ℕ) → None ≡ slice_get es i → length es ≤ i
none_past [] i p = omega arith
none_past (e ∷ es) zero p = cc
none_past (e ∷ es) (suc i) p = let rest = none_past es i p in omega (arith, rest)

-- none is no value
pub none_some : {A : Type 0} (s : A) → None ≡ Some s → ⊥
none_some s e = cc

-- an option has one value
pub one_value : {A : Type 0} (o : Option A) (x y : A) → o ≡ Some x → o ≡ Some y → x ≡ y
one_value o x y p q = cc

-- no test both holds and fails
pub not_both : (b : Bool) → b ≡ true → b ≡ false → ⊥
not_both b p q = absurd cc

-- a test, or one that fails, is the test
pub or_false : (b : Bool) → (b || false) ≡ b
or_false b = grind arith

-- a test that holds is true
pub test_is_true : (b : Bool) → T b → b ≡ true
test_is_true b t = grind arith

-- a test whose opposite holds fails
pub false_if_not : (b : Bool) → not b ≡ true → b ≡ false
false_if_not b h = grind arith

-- and one whose opposite fails holds
pub true_if_not : (b : Bool) → not b ≡ false → b ≡ true
true_if_not b e = grind arith

-- a choice is one of its two branches, by its test
pub chosen_branch : {A : Type 0} (b : Bool) (x y z : A) → cond b x y ≡ z → ((b ≡ true) × (x ≡ z)) ⊎ ((b ≡ false) × (y ≡ z))
chosen_branch b x y z h = grind arith

-- the test of less holds of less
pub less_holds : (o : Ordering) → o ≡ Less → T (is_lt o)
less_holds o e = subst (λ r. T (is_lt r)) (sym e) tt

-- and a value is not none
pub some_none : {A : Type 0} (x : A) → Some x ≡ None → ⊥
some_none x e = cc

-- a list of no length is empty
pub empty_by_length : {X : Type 0} (xs : List X) → length xs ≡ 0 → xs ≡ []
empty_by_length [] n = refl
empty_by_length (x ∷ xs) n = absurd (omega (arith, n))

-- the second of two tests that hold together
pub right_true : (a b : Bool) → (a && b) ≡ true → b ≡ true
right_true a b e = grind arith

-- what follows from a success, where something follows from that
pub ok_then : {A E : Type 0} (r : Result A E) (P Q : Type 0) → (P → Q) → OnOk r P → OnOk r Q
ok_then r h k f p = grind arith

-- a number is itself, by the test
pub same_number : (c : ℕ) → (c == c) ≡ true
same_number c = grind arith

-- of two tests one of which holds one holds
pub or_cases : (a b : Bool) → (a || b) ≡ true → (a ≡ true) ⊎ (b ≡ true)
or_cases a b e = grind arith

-- a choice between a value and itself is that value
pub same_both : {A : Type 0} (b : Bool) (x : A) → x ≡ cond b x x
same_both b x = grind arith

-- an order the other way round is turned
pub turned_order : {K : Type 0} {R : K → K → Ordering} → IsTotalOrder R → (x y : K) (r : Ordering) → R x y ≡ r → R y x ≡ ordering_reverse r
turned_order o x y r e = o.antisymm y x ∙ ap ordering_reverse e

-- a number below another, by the test
pub below_true : (a b : ℕ) → nat_lt a b ≡ true → a < b
below_true a b e = grind arith

-- and one at most another
pub le_true : (n m : ℕ) → nat_le n m ≡ true → n ≤ m
le_true n m h = grind arith

-- what has a value is not none
pub not_none : {A : Type 0} (o : Option A) (x : A) → o ≡ Some x → o ≡ None → ⊥
not_none o x p q = absurd cc
