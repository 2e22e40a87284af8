-- Functions of a timestamp, and of a cell and a timestamp, changed at one place, and lists with an item more.
use Rattle.std.proofs.Common.{arith, ◌≡◌, ◌≢◌, ℕ, zero, suc, ◌<◌, Bool, true, false, cond, ◌⊎◌, ◌&&◌, List, [], ◌∷◌, ◌++◌, Option, Some, None, refl, ap, ◌∙◌, inl, inr, nat_eq, length, get_or, Contains}
use Rattle.std.specs.Ordering.{is_eq, eq_by_cmp}
use Rattle.std.specs.Cmp.{Equal-is, tied_itself}
use Rattle.std.proofs.lemmas.Bool.{eqb-true, eq-eqb, false_from_ne_true as not_true}
use Rattle.pb_history.specs.Words.{Cell, cell_cmp, cell_cmp_total, cell_cmp-IsAntisymmetric}
use Rattle.pb_history.specs.History.{Has}
use Rattle.pb_base.proofs.Logic.{and_true}

-- whether two cells are one, kept folded, since proofs need only what it shows
unfoldable pub same_cell : Cell → Cell → Bool
same_cell x y = eq_by_cmp cell_cmp x y

pub same_cell_is : (x y : Cell) → same_cell x y ≡ true → x ≡ y
unfolding same_cell
same_cell_is x y e = cell_cmp-IsAntisymmetric x y ((Equal-is (cell_cmp x y)).0 e)

pub same_cell_itself : (x : Cell) → same_cell x x ≡ true
unfolding same_cell
same_cell_itself x = ap is_eq (tied_itself cell_cmp_total x)

-- whether cell and timestamp are those of a change
abbrev pub at_place : Cell → ℕ → Cell → ℕ → Bool
at_place y u x s = same_cell y x && nat_eq u s

-- they aren't both, so that the change leaves what stands there
abbrev pub Apart : Cell → ℕ → Cell → ℕ → Type 0
Apart y u x s = y ≡ x → u ≡ s → ⊥

at_place_is : (y : Cell) (u : ℕ) (x : Cell) (s : ℕ) → at_place y u x s ≡ true → (y ≡ x) × (u ≡ s)
at_place_is y u x s e = let p = and_true _ _ e in (same_cell_is y x p.0, eqb-true u s p.1)

pub at_place_itself : (x : Cell) (s : ℕ) → at_place x s x s ≡ true
at_place_itself x s = ap (λ b. b && nat_eq s s) (same_cell_itself x) ∙ eq-eqb s s refl

-- a place is that of the change, or apart from it
pub at_or_apart : (y : Cell) (u : ℕ) (x : Cell) (s : ℕ) → ((y ≡ x) × (u ≡ s)) ⊎ Apart y u x s
at_or_apart y u x s = grind arith

pub apart_test : (y : Cell) (u : ℕ) (x : Cell) (s : ℕ) → Apart y u x s → at_place y u x s ≡ false
apart_test y u x s h = not_true _ (λ e. let p = at_place_is y u x s e in h p.0 p.1)

module _ {A : Type 0} where
  abbrev pub set2 : (Cell → ℕ → A) → Cell → ℕ → A → Cell → ℕ → A
  set2 f x s v = λ y u. cond (at_place y u x s) v (f y u)

  pub set2_here : (f : Cell → ℕ → A) (x : Cell) (s : ℕ) (v : A) → set2 f x s v x s ≡ v
  set2_here f x s v = ap (λ b. cond b v (f x s)) (at_place_itself x s)

  pub set2_there : (f : Cell → ℕ → A) (x : Cell) (s : ℕ) (v : A) (y : Cell) (u : ℕ) → Apart y u x s → set2 f x s v y u ≡ f y u
  set2_there f x s v y u h = ap (λ b. cond b v (f y u)) (apart_test y u x s h)

  pub placed_or_before : (f : Cell → ℕ → Option A) (x : Cell) (s : ℕ) (v : A) (y : Cell) (u : ℕ) (w : A) → cond (at_place y u x s) (Some v) (f y u) ≡ Some w → ((y ≡ x) × (u ≡ s) × (v ≡ w)) ⊎ ((f y u ≡ Some w) × Apart y u x s)
  placed_or_before f x s v y u w e = grind (arith, at_or_apart, at_place_itself, apart_test)

  pub left_after_clearing : (f : Cell → ℕ → Option A) (x : Cell) (s : ℕ) (y : Cell) (u : ℕ) (w : A) → cond (at_place y u x s) None (f y u) ≡ Some w → (f y u ≡ Some w) × Apart y u x s
  left_after_clearing f x s y u w e = grind (arith, at_or_apart, at_place_itself, apart_test)

  abbrev pub set1 : (ℕ → A) → ℕ → A → ℕ → A
  set1 f s v = λ u. cond (nat_eq u s) v (f u)

  pub set1_here : (f : ℕ → A) (s : ℕ) (v : A) → set1 f s v s ≡ v
  set1_here f s v = ap (λ b. cond b v (f s)) (eq-eqb s s refl)

  pub set1_there : (f : ℕ → A) (s : ℕ) (v : A) (u : ℕ) → (u ≡ s → ⊥) → set1 f s v u ≡ f u
  set1_there f s v u h = ap (λ b. cond b v (f u)) (not_true _ (λ e. h (eqb-true u s e)))

  -- what stands after a change, at the place or elsewhere
  pub changed_or_before : (f : ℕ → A) (s : ℕ) (v : A) (u : ℕ) (w : A) → cond (nat_eq u s) v (f u) ≡ w → ((u ≡ s) × (v ≡ w)) ⊎ ((f u ≡ w) × (u ≡ s → ⊥))
  changed_or_before f s v u w e = grind arith

  pub set2_none : (f : Cell → ℕ → Option A) (x : Cell) (s : ℕ) (y : Cell) (u : ℕ) → f y u ≡ None → cond (at_place y u x s) None (f y u) ≡ None
  set2_none f x s y u e = elim (at_place y u x s) as (λ b. cond b None (f y u) ≡ None) [ true ↦ refl | false ↦ e ]

pub none_if : {A : Type 0} (o : Option A) → ((w : A) → o ≡ Some w → ⊥) → o ≡ None
none_if o h = grind arith

pub same_number : (a b : ℕ) → (a ≡ b) ⊎ (a ≢ b)
same_number a b = grind arith

set1_same_at : {A : Type 0} (f : ℕ → A) (s : ℕ) (v : A) → f s ≡ v → (u : ℕ) → set1 f s v u ≡ f u
set1_same_at f s v e u = grind arith

-- what stands there already
pub set1_same : {A : Type 0} (f : ℕ → A) (s : ℕ) (v : A) → f s ≡ v → set1 f s v ≡ f
set1_same f s v e i u = set1_same_at f s v e u i

-- ---- a list with an item more

pub has_front : {A : Type 0} (xs : List A) (y z : A) → Has xs z → Has (xs ++ y ∷ []) z
has_front [] y z h = absurd h
has_front (x ∷ xs) y z (inl e) = inl e
has_front (x ∷ xs) y z (inr h) = inr (has_front xs y z h)

pub has_before : {A : Type 0} (xs ys : List A) (z : A) → Has xs z → Has (xs ++ ys) z
has_before [] ys z h = absurd h
has_before (x ∷ xs) ys z (inl e) = inl e
has_before (x ∷ xs) ys z (inr h) = inr (has_before xs ys z h)

pub has_last : {A : Type 0} (xs : List A) (y : A) → Has (xs ++ y ∷ []) y
has_last [] y = inl refl
has_last (x ∷ xs) y = inr (has_last xs y)

-- an item of a list with one more is that one, or was there
pub has_more : {A : Type 0} (xs : List A) (y z : A) → Has (xs ++ y ∷ []) z → (y ≡ z) ⊎ Has xs z
has_more [] y z (inl e) = inl e
has_more [] y z (inr h) = absurd h
has_more (x ∷ xs) y z (inl e) = inr (inl e)
has_more (x ∷ xs) y z (inr h) = elim (has_more xs y z h) [ inl e ↦ inl e | inr g ↦ inr (inr g) ]

-- a member of the second of two joined lists
pub has_right : {A : Type 0} (xs ys : List A) (x : A) → Has ys x → Has (xs ++ ys) x
has_right [] ys x h = h
has_right (y ∷ xs) ys x h = inr (has_right xs ys x h)

-- a member of two joined lists is one of either
pub has_which : {A : Type 0} (xs ys : List A) (z : A) → Has (xs ++ ys) z → Has xs z ⊎ Has ys z
has_which [] ys z h = inr h
has_which (x ∷ xs) ys z (inl e) = inl (inl e)
has_which (x ∷ xs) ys z (inr h) = elim (has_which xs ys z h) [ inl k ↦ inl (inr k) | inr k ↦ inr k ]

-- a member stands at some place, and what stands at a place is a member
pub has_contains : {A : Type 0} (xs : List A) (x : A) → Has xs x → Contains xs x
has_contains [] x h = absurd h
has_contains (y ∷ xs) x (inl e) = (zero, omega arith, e)
has_contains (y ∷ xs) x (inr h) = let c = has_contains xs x h in (suc c.0, (let lt = c.1 in omega arith), c.2)

pub has_at : {A : Type 0} (xs : List A) (k : ℕ) (x : A) → k < length xs → get_or xs k x ≡ x → Has xs x
has_at [] k x lt e = absurd (omega arith)
has_at (y ∷ xs) zero x lt e = inl e
has_at (y ∷ xs) (suc k) x lt e = inr (has_at xs k x (omega arith) e)
