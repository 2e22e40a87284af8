-- A walk from mark to mark meets each marked cell once.
use Rattle.std.proofs.Common.{◌≡◌, ℕ, ◌+◌, ◌<◌, Bool, true, false, List, [], ◌∷◌, Option, None, Some, refl, sym, ap, ◌∙◌, subst, arith, is_some, length, zero, suc, inl, inr, T, cond, ◌⊎◌, Less, Equal, Greater}
use Rattle.std.specs.Ordering.{eq_by_cmp, is_eq, is_lt, ordering_reverse}
use Rattle.std.specs.Cmp.{tied_itself}
use Rattle.std.specs.FinMap as map
use Rattle.std.specs.FinMap.Entries.{find, is_sorted, below_all}
use Rattle.pb_state.specs.Words.{Cell, cell_cmp, cell_cmp_total, cell_cmp-IsAntisymmetric, ComesAfter, IsNextMark, Marks}
use Rattle.pb_state.proofs.Walks.{IsWalked}
use Rattle.pb_base.proofs.Logic.{less_if as is_less, first_holds as fst, second_holds as snd}
use Rattle.pb_store.proofs.Marked.{not_both_ways as not_both}

-- marked cells in order
abbrev List1 : Type 0
List1 = List (Cell × Unit {0})

-- the cell is one of them
abbrev has : Cell → List1 → Bool
has q es = is_some (find cell_cmp q es)

-- no entry lies between the cell and the next
abbrev NoneBetween : Option Cell → List1 → Cell → Type 0
NoneBetween last es next = (q : Cell) → ComesAfter last q → cell_cmp q next ≡ Less → has q es ≡ false

has_head : (e : Cell × Unit {0}) (es : List1) → has e.0 (e ∷ es) ≡ true
has_head e es = ap (λ r. is_some (cond (is_eq r) (Some e.1) (find cell_cmp e.0 es))) (tied_itself cell_cmp_total e.0)

has_tail : (q : Cell) (e : Cell × Unit {0}) (es : List1) → has q es ≡ true → has q (e ∷ es) ≡ true
has_tail q e es h = elim (eq_by_cmp cell_cmp q e.0) as (λ b. is_some (cond b (Some e.1) (find cell_cmp q es)) ≡ true) [ true ↦ refl | false ↦ h ]

none_tail : (q : Cell) (e : Cell × Unit {0}) (es : List1) → has q (e ∷ es) ≡ false → has q es ≡ false
none_tail q e es h = elim (has q es) as (λ b. has q es ≡ b → has q es ≡ false) [ true ↦ (λ is. let more = has_tail q e es is in cc) | false ↦ (λ is. is) ] refl

-- an entry of the list is the head, or of the rest
in_rest : (q : Cell) (e : Cell × Unit {0}) (es : List1) → has q (e ∷ es) ≡ true → (cell_cmp q e.0 ≡ Equal → ⊥) → has q es ≡ true
in_rest q e es h apart = grind arith

-- what is above the first of the rest is above each of them
above : (x q : Cell) (es : List1) → T (below_all cell_cmp x es) → has q es ≡ true → cell_cmp x q ≡ Less
above x q [] b h = cc
above x q (e ∷ es) b h =
    elim (cell_cmp q e.0) as (λ r. cell_cmp q e.0 ≡ r → is_some (cond (is_eq r) (Some e.1) (find cell_cmp q es)) ≡ true → cell_cmp x q ≡ Less) [
      | Less ↦ λ _ k. above x q es (snd _ _ b) k
      | Equal ↦ λ is _. ap (cell_cmp x) (cell_cmp-IsAntisymmetric q e.0 is) ∙ is_less _ (fst _ _ b)
      | Greater ↦ λ _ k. above x q es (snd _ _ b) k
    ] refl h

begun_after : (x : Cell) (es : List1) → T (below_all cell_cmp x es) → IsWalked (Some x) es zero
begun_after x [] b = tt
begun_after x (e ∷ es) b = is_less _ (fst _ _ b)

comes_later : (last : Option Cell) (x y : Cell) → ComesAfter last x → cell_cmp x y ≡ Less → ComesAfter last y
comes_later None x y c l = tt
comes_later (Some a) x y c l = cell_cmp_total.trans a x y c l

less_back : (x y : Cell) → cell_cmp x y ≡ Greater → cell_cmp y x ≡ Less
less_back x y g = cell_cmp_total.antisymm y x ∙ ap ordering_reverse g

-- a mark that is returned, with none between, is one more that was passed
pub one_more_walked : (es : List1) → T (is_sorted cell_cmp es) → (last : Option Cell) (n : ℕ) (next : Cell) → IsWalked last es n → has next es ≡ true → ComesAfter last next → NoneBetween last es next → IsWalked (Some next) es (suc n) × (n < length es)
one_more_walked [] s last n next w h c none = cc
one_more_walked (e ∷ es) s last zero next w h c none =
    elim (cell_cmp next e.0) as (λ r. cell_cmp next e.0 ≡ r → IsWalked (Some next) (e ∷ es) (suc zero) × (zero < length (e ∷ es))) [
      | Less ↦ λ is. absurd (not_both next e.0 is (above e.0 next es (fst _ _ s) (in_rest next e es h (λ eq. cc))))
      | Equal ↦ λ is. let same : next ≡ e.0 = cell_cmp-IsAntisymmetric next e.0 is in (((λ less. cc), begun_after next es (subst (λ x. T (below_all cell_cmp x es)) (sym same) (fst _ _ s))), omega arith)
      | Greater ↦ λ is. let missed = none e.0 w (less_back next e.0 is) in let there = has_head e es in cc
    ] refl
one_more_walked (e ∷ es) s last (suc n) next w h c none =
    let apart : (cell_cmp next e.0 ≡ Equal → ⊥) = (λ is. w.0 (subst (ComesAfter last) (cell_cmp-IsAntisymmetric next e.0 is) c)) in
    let rest : IsWalked (Some next) es (suc n) × (n < length es) = one_more_walked es (snd _ _ s) last n next w.1 (in_rest next e es h apart) c (λ q after below. none_tail q e es (none q after below)) in
    let short : n < length es = rest.1 in
    (((λ less. w.0 (comes_later last next e.0 c less)), rest.0), omega (arith, short))

-- where no entry comes after, all are walked
pub all_are_walked : (es : List1) (last : Option Cell) (n : ℕ) → IsWalked last es n → ((q : Cell) → ComesAfter last q → has q es ≡ false) → n ≡ length es
all_are_walked [] last zero w none = refl
all_are_walked [] last (suc n) w none = absurd w
all_are_walked (e ∷ es) last zero w none = let missed = none e.0 w in let there = has_head e es in cc
all_are_walked (e ∷ es) last (suc n) w none = let rest = all_are_walked es last n w.1 (λ q after. none_tail q e es (none q after)) in ap suc rest

-- before the first none was passed
pub walked_none : (es : List1) → IsWalked None es zero
walked_none [] = tt
walked_none (e ∷ es) = tt

-- ---- how many are left

abbrev comes_after : Option Cell → Cell → Bool
comes_after None x = true
comes_after (Some y) x = is_lt (cell_cmp y x)

-- how many are left after a cell, by which the loop over marks ends
abbrev pub left_after : Option Cell → List1 → ℕ
left_after last [] = 0
left_after last (e ∷ es) = cond (comes_after last e.0) (length (e ∷ es)) (left_after last es)

after_true : (last : Option Cell) (x : Cell) → ComesAfter last x → comes_after last x ≡ true
after_true None x h = refl
after_true (Some y) x h = ap is_lt h

after_false : (last : Option Cell) (x : Cell) → (ComesAfter last x → ⊥) → comes_after last x ≡ false
after_false last x h = grind arith

after_or_not : (last : Option Cell) (x : Cell) → ComesAfter last x ⊎ (ComesAfter last x → ⊥)
after_or_not last x = grind arith

-- those that were passed and those that are left are all
left_is : (es : List1) (last : Option Cell) (n : ℕ) → IsWalked last es n → left_after last es + n ≡ length es
left_is [] last zero w = refl
left_is [] last (suc n) w = absurd w
left_is (e ∷ es) last zero w = ap (λ b. cond b (length (e ∷ es)) (left_after last es) + zero) (after_true last e.0 w) ∙ omega arith
left_is (e ∷ es) last (suc n) w = grind (arith, after_false, left_is es last n w.1)

walked_from : (es : List1) (last : Option Cell) → (n : ℕ) × IsWalked last es n
walked_from [] last = (zero, tt)
walked_from (e ∷ es) last = by (after_or_not last e.0) (walked_from es last)
  where
    by : ComesAfter last e.0 ⊎ (ComesAfter last e.0 → ⊥) → (n : ℕ) × IsWalked last es n → (n : ℕ) × IsWalked last (e ∷ es) n
    by (inl h) rest = (zero, h)
    by (inr h) rest = (suc rest.0, (h, rest.1))

-- ---- over marks

held : (m : Marks) (q : Cell) (b : Bool) → map.contains_key m q ≡ b → has q (map.entries m) ≡ b
held m q b is = sym (ap is_some (map.get-entries m q)) ∙ is

-- each mark that a table returns is the next of its marks
pub walked_on : (m : Marks) (last : Option Cell) (n : ℕ) (next : Cell) → IsWalked last (map.entries m) n → IsNextMark m last (Some next) → IsWalked (Some next) (map.entries m) (n + 1) × (n < length (map.entries m))
walked_on m last n next w is =
    let done = one_more_walked (map.entries m) (map.entries_sorted m) last n next w (held m next true is.0) is.1 (λ q after below. held m q false (is.2 q after below)) in
    (subst (λ k. IsWalked (Some next) (map.entries m) k) (omega arith) done.0, done.1)

-- and where it returns none, all were passed
pub walked_all : (m : Marks) (last : Option Cell) (n : ℕ) → IsWalked last (map.entries m) n → IsNextMark m last None → n ≡ length (map.entries m)
walked_all m last n w is = all_are_walked (map.entries m) last n w (λ q after. held m q false (is q after))

-- a mark further on, fewer are left
pub fewer_left : (m : Marks) (last : Option Cell) (next : Cell) → IsNextMark m last (Some next) → left_after (Some next) (map.entries m) < left_after last (map.entries m)
fewer_left m last next is =
    let w = walked_from (map.entries m) last in
    let on = walked_on m last w.0 next w.1 is in
    let before = left_is (map.entries m) last w.0 w.1 in
    let after = left_is (map.entries m) (Some next) (w.0 + 1) on.0 in
    let short = on.1 in
    omega (arith, before, after, short)
