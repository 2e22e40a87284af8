-- Of distinct cells, prewritten one after another, the next comes at its time, and in the end there are all.
use Rattle.std.proofs.Common.{◌≡◌, ℕ, zero, suc, ◌≤◌, Bool, true, false, cond, not, ◌&&◌, ◌||◌, List, [], ◌∷◌, ◌++◌, length, map, take, Option, Some, refl, sym, ap, arith, slice_get, is_none}
use Rattle.std.specs.List.{list_all}
use Rattle.std.specs.Ordering.{eq_by_cmp, is_eq}
use Rattle.std.specs.Cmp.{tied_itself}
use Rattle.pb_txn.specs.Words.{Cell, Content, cell_cmp, cell_cmp_total, Writes, content_in, primary_in, are_distinct, is_in, is_before_primary}
use Rattle.std.proofs.lemmas.Bool.{or_from as neither, or_right as or_true}
use Rattle.pb_base.proofs.Logic.{same_some as some_is, and_true as both}
use Rattle.pb_base.proofs.SameCells.{cell_is, same_cells}

-- ---- the first items of a list

-- the first so many, and the one that comes next
pub take_one : {A : Type 0} (xs : List A) (k : ℕ) (x : A) → slice_get xs k ≡ Some x → take k xs ++ x ∷ [] ≡ take (suc k) xs
take_one [] k x e = absurd cc
take_one (y ∷ ys) zero x e = let is : y ≡ x = cc in ap (λ z. z ∷ []) (sym is)
take_one (y ∷ ys) (suc k) x e = ap (λ zs. y ∷ zs) (take_one ys k x e)

-- no more than all
pub take_all : {A : Type 0} (xs : List A) (k : ℕ) → length xs ≤ k → take k xs ≡ xs
take_all [] zero le = refl
take_all [] (suc k) le = refl
take_all (y ∷ ys) zero le = absurd (omega (arith, le))
take_all (y ∷ ys) (suc k) le = ap (λ zs. y ∷ zs) (take_all ys k (omega (arith, le)))

-- ---- cells that are the same

cell_itself : (x : Cell) → eq_by_cmp cell_cmp x x ≡ true
cell_itself x = ap is_eq (tied_itself cell_cmp_total x)

-- ---- the cells of writes

-- the cells that are written, in declared order
abbrev pub cells_in : Writes → List Cell
cells_in ws = map (λ (w : Cell × Content). w.0) ws

here_or : (b : Bool) (c : Content) (o : Option Content) → is_none o ≡ false → is_none (cond b (Some c) o) ≡ false
here_or b c o e = grind arith

first_here : (b : Bool) (c : Content) (o : Option Content) → b ≡ true → is_none (cond b (Some c) o) ≡ false
first_here b c o e = grind arith

-- each of these cells is declared, so that no step about it is refused with 45
pub has_content : (ws : Writes) (k : ℕ) (x : Cell) → slice_get (cells_in ws) k ≡ Some x → is_none (content_in ws x) ≡ false
has_content [] k x e = absurd cc
has_content (w ∷ ws) zero x e = first_here (eq_by_cmp cell_cmp x w.0) w.1 (content_in ws x) (same_cells x w.0 (sym (some_is w.0 x e)))
has_content (w ∷ ws) (suc k) x e = here_or (eq_by_cmp cell_cmp x w.0) w.1 (content_in ws x) (has_content ws k x e)

-- a cell that isn't written is none of the cells
apart : (ws : Writes) (k : ℕ) (x y : Cell) → is_none (content_in ws y) ≡ true → slice_get (cells_in ws) k ≡ Some x → eq_by_cmp cell_cmp y x ≡ false
apart ws k x y n e = grind (arith, has_content, cell_is)

-- none of the cells before it
pub not_before : (ws : Writes) (k : ℕ) (x : Cell) → are_distinct ws ≡ true → slice_get (cells_in ws) k ≡ Some x → is_in (take k (cells_in ws)) x ≡ false
not_before [] k x d e = absurd cc
not_before (w ∷ ws) zero x d e = refl
not_before (w ∷ ws) (suc k) x d e =
    let p = both (is_none (content_in ws w.0)) (are_distinct ws) d in
    neither (eq_by_cmp cell_cmp w.0 x) (is_in (take k (cells_in ws)) x) (apart ws k x w.0 p.0 e) (not_before ws k x p.1 e)

known_first : (a b : Bool) → a ≡ true → (not a && b) ≡ false
known_first a b e = grind arith

known_then : (a b c : Bool) → b ≡ true → (a && not (b || c)) ≡ false
known_then a b c e = grind arith

-- it is the primary, or that is one of the cells before it
pub in_order : (ws : Writes) (k : ℕ) (x : Cell) → slice_get (cells_in ws) k ≡ Some x → is_before_primary (primary_in ws) (take k (cells_in ws)) x ≡ false
in_order ws k x e = grind (arith, known_first, same_cells, some_is, known_then, cell_itself)

-- one more cell, and those that were in the list still are
more : (y : Cell) (xs : List Cell) (ws : Writes) → list_all (λ w. is_in xs w.0) ws ≡ true → list_all (λ w. is_in (y ∷ xs) w.0) ws ≡ true
more y xs [] e = refl
more y xs (w ∷ ws) e =
    let p = both (is_in xs w.0) (list_all (λ v. is_in xs v.0) ws) e in
    (λ i. or_true (eq_by_cmp cell_cmp y w.0) (is_in xs w.0) p.0 i && more y xs ws p.1 i)

-- with all cells prewritten the stamp comes at its time
pub all_in : (ws : Writes) → list_all (λ w. is_in (cells_in ws) w.0) ws ≡ true
all_in [] = refl
all_in (w ∷ ws) = λ i. first i && more w.0 (cells_in ws) ws (all_in ws) i where
  first : (eq_by_cmp cell_cmp w.0 w.0 || is_in (cells_in ws) w.0) ≡ true
  first = ap (λ b. b || is_in (cells_in ws) w.0) (cell_itself w.0)
