-- What is newest at each cell, as writes come one by one.
use Rattle.std.specs.BTreeMap as tree
use Rattle.std.proofs.Common.{◌≡◌, ◌≢◌, ℕ, ◌≤◌, ◌<◌, inl, inr, true, false, cond, List, [], ◌∷◌, ◌++◌, Option, Some, None, sym, ap, subst, ◌∙◌, arith, ◌&&◌, Ordering, Equal}
use Rattle.std.specs.Cmp.{eq_by_cmp_equiv}
use Rattle.std.proofs.lemmas.Bool.{cases_Bool, ltb-true, ltb-false, and_cases as one_false}
use Rattle.std.proofs.lemmas.List.Elements.{Contains-append_left, Contains-push, Contains-push_cases}
use Rattle.pb_script.specs.Words.{Cell, cell_cmp, cell_cmp_total, cell_cmp-IsAntisymmetric, is_data}
use Rattle.pb_script.specs.declared.reports.lines.Newest.{Newest}
use Rattle.pb_script.specs.declared.reports.newest.Put.{Put}
use Rattle.pb_script.specs.Reports.{IsNewestPut, IsTold, is_later, newest_in}
use Rattle.pb_base.proofs.Logic.{and_true as both_true}

is_equal : (o : Ordering) → tree.is_at {K = ℕ} (λ _. o) 0 ≡ true → o ≡ Equal
is_equal o h = grind arith

-- a key that is found is the cell itself, as cells that compare alike are one
same_cell : (a b : Cell) → tree.is_at (cell_cmp a) b ≡ true → a ≡ b
same_cell a b h = cell_cmp-IsAntisymmetric a b (is_equal (cell_cmp a b) h)

other_cell : (a b : Cell) → tree.is_at (cell_cmp a) b ≡ false → a ≢ b
other_cell a b h e = let r = (eq_by_cmp_equiv cell_cmp_total).refl a in let k = subst (λ (x : Cell). tree.is_at (cell_cmp a) x ≡ false) (sym e) h in absurd cc

-- another cell stays
other : (puts : List Put) (p : Put) (x : Cell) (r : Option Newest) → p.cell ≢ x → IsNewestPut puts x r → IsNewestPut (puts ++ p ∷ []) x r
other puts p x None apart h = λ q k e. elim (Contains-push_cases puts p q k) [ inl m ↦ h q m e | inr s ↦ apart (ap (λ (y : Put). y.cell) s ∙ e) ]
other puts p x (Some n) apart h =
    (Contains-append_left puts (p ∷ []) _ h.0, λ q k e. elim (Contains-push_cases puts p q k) [ inl m ↦ h.1 q m e | inr s ↦ absurd (apart (ap (λ (y : Put). y.cell) s ∙ e)) ])

-- the greatest so far
top : (puts : List Put) (p : Put) (r : Option Newest) → is_later r p.commit ≡ true → IsNewestPut puts p.cell r → IsNewestPut (puts ++ p ∷ []) p.cell (Some (newest_in p))
top puts p None later h =
    (Contains-push puts p, λ q k e. elim (Contains-push_cases puts p q k) [ inl m ↦ absurd (h q m e) | inr s ↦ let c : p.commit.0 ≡ q.commit.0 = ap (λ (y : Put). y.commit.0) s in omega arith ])
top puts p (Some n) later h =
    let lt : n.commit.0 < p.commit.0 = ltb-true _ _ later in
    (Contains-push puts p, λ q k e. elim (Contains-push_cases puts p q k) [ inl m ↦ let b = h.1 q m e in omega arith | inr s ↦ let c : p.commit.0 ≡ q.commit.0 = ap (λ (y : Put). y.commit.0) s in omega arith ])

-- not the greatest
lower : (puts : List Put) (p : Put) (r : Option Newest) → is_later r p.commit ≡ false → IsNewestPut puts p.cell r → IsNewestPut (puts ++ p ∷ []) p.cell r
lower puts p None later h = absurd cc
lower puts p (Some n) later h =
    let le : p.commit.0 ≤ n.commit.0 = ltb-false _ _ later in
    (Contains-append_left puts (p ∷ []) _ h.0, λ q k e. elim (Contains-push_cases puts p q k) [ inl m ↦ h.1 q m e | inr s ↦ let c : p.commit.0 ≡ q.commit.0 = ap (λ (y : Put). y.commit.0) s in omega arith ])

-- what is reported goes by what is newest, and of an acknowledgment nothing is reported
pub told_by : (M N : Cell → Option Newest → Type 0) (x : Cell) (r : Option Newest) → (M x r → N x r) → IsTold M x r → IsTold N x r
told_by x k p r f h = grind arith

-- of a data cell what is newest is reported
told_data : (M N : Cell → Option Newest → Type 0) (x : Cell) (r s : Option Newest) → is_data x ≡ true → (M x r → N x s) → IsTold M x r → IsTold N x s
told_data x k p r s d f h = grind arith

-- and of an acknowledgment nothing, whatever is newest there
told_none : (M N : Cell → Option Newest → Type 0) (x : Cell) (r : Option Newest) → is_data x ≡ false → IsTold M x r → IsTold N x r
told_none x k p r d h = grind arith

-- of each cell what is newest of these writes is reported
abbrev AreTold : List Put → (Cell → Option Newest) → Type 0
AreTold puts f = (x : Cell) → IsTold (IsNewestPut puts) x (f x)

-- a newer write takes the place of what is at its cell, and no other cell changes
newest_more : (puts : List Put) (p : Put) (f g : Cell → Option Newest) → AreTold puts f → (is_data p.cell && is_later (f p.cell) p.commit) ≡ true
    → ((x : Cell) → g x ≡ cond (tree.is_at (cell_cmp p.cell) x) (Some (newest_in p)) (f x)) → AreTold (puts ++ p ∷ []) g
newest_more puts p f g h news is x =
    let b = both_true _ _ news in
    elim (cases_Bool (tree.is_at (cell_cmp p.cell) x)) [
      | inl here ↦ let e : p.cell ≡ x = same_cell p.cell x here in
          let k : g x ≡ Some (newest_in p) = is x ∙ ap (λ t. cond t (Some (newest_in p)) (f x)) here in
          subst (IsTold (IsNewestPut (puts ++ p ∷ [])) x) (sym k)
          (subst (λ (y : Cell). IsTold (IsNewestPut (puts ++ p ∷ [])) y (Some (newest_in p))) e
          (told_data (IsNewestPut puts) (IsNewestPut (puts ++ p ∷ [])) p.cell (f p.cell) (Some (newest_in p)) b.0 (top puts p (f p.cell) b.1) (h p.cell)))
      | inr there ↦ let k : g x ≡ f x = is x ∙ ap (λ t. cond t (Some (newest_in p)) (f x)) there in
          subst (IsTold (IsNewestPut (puts ++ p ∷ [])) x) (sym k)
          (told_by (IsNewestPut puts) (IsNewestPut (puts ++ p ∷ [])) x (f x) (other puts p x (f x) (other_cell p.cell x there)) (h x))
    ]

stays_here : (puts : List Put) (p : Put) (r : Option Newest) → (is_data p.cell && is_later r p.commit) ≡ false → IsTold (IsNewestPut puts) p.cell r → IsTold (IsNewestPut (puts ++ p ∷ [])) p.cell r
stays_here puts p r old h = grind (arith, one_false, told_none, told_by, lower, p.cell)

-- a write that isn't newer, or is no data, changes nothing that is reported
newest_same : (puts : List Put) (p : Put) (f : Cell → Option Newest) → AreTold puts f → (is_data p.cell && is_later (f p.cell) p.commit) ≡ false → AreTold (puts ++ p ∷ []) f
newest_same puts p f h old x = grind (arith, cases_Bool, same_cell, stays_here, told_by, other, other_cell, p.cell)

-- ---- one write more

-- so a write to a data cell is noted where the table keeps the newer one
pub newest_noted : (puts : List Put) (p : Put) (f g : Cell → Option Newest) → is_data p.cell ≡ true → (is_later (f p.cell) p.commit ≡ true → (x : Cell) → g x ≡ cond (tree.is_at (cell_cmp p.cell) x) (Some (newest_in p)) (f x))
    → (is_later (f p.cell) p.commit ≡ false → (x : Cell) → g x ≡ f x) → AreTold puts f → AreTold (puts ++ p ∷ []) g
newest_noted puts p f g held newer older h x =
    elim (cases_Bool (is_later (f p.cell) p.commit)) [
      | inl later ↦ newest_more puts p f g h (ap (λ b. b && is_later (f p.cell) p.commit) held ∙ later) (newer later) x
      | inr late ↦ subst (IsTold (IsNewestPut (puts ++ p ∷ [])) x) (sym (older late x)) (newest_same puts p f h (ap (λ b. b && is_later (f p.cell) p.commit) held ∙ late) x)
    ]

-- and one of an acknowledgment is passed over
pub stamp_passed_over : (puts : List Put) (p : Put) (f : Cell → Option Newest) → is_data p.cell ≡ false → AreTold puts f → AreTold (puts ++ p ∷ []) f
stamp_passed_over puts p f no_data h = newest_same puts p f h (ap (λ b. b && is_later (f p.cell) p.commit) no_data)
