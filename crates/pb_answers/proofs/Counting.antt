-- Marks and entries counted along a walk.
use Rattle.std.proofs.Common.{◌≡◌, ℕ, ◌+◌, ◌-◌, ◌<◌, Bool, true, false, cond, List, [], ◌∷◌, length, count_by, Vec, vec_len, Option, Some, sym, ap, ◌∙◌, arith}
use Rattle.std.proofs.lemmas.List.Sums.{sum_by-cons}
use Rattle.std.specs.FinMap as map
use Rattle.pb_answers.specs.Words.{Cell, Slot, Item, cell_cmp_total, Marks, IsNextMark}
use Rattle.pb_store.proofs.Copied.{marks_up_to, one_more_mark, fewer_left}

-- a size that grows by at most one, and grows, grows by one
grows_by_one : (b : Bool) (k l j : ℕ) → k ≡ cond b l (l + 1) → j - k < j - l → k ≡ l + 1
grows_by_one true k l j e lt = absurd (omega (arith, e, lt))
grows_by_one false k l j e lt = e

module _ (m : Marks) (last : Option Cell) (next : Cell) (is : IsNextMark m last (Some next)) where
  -- the next mark is one more
  pub one_counted : map.len (marks_up_to (Some next) m) ≡ map.len (marks_up_to last m) + 1
  one_counted =
      let grown = map.len-insert cell_cmp_total (marks_up_to last m) next tt in
      sym (ap map.len (one_more_mark m last next is)) ∙ grows_by_one _ _ _ (map.len m) grown (fewer_left m last next is)

  -- and one less is left
  pub one_less_left : map.len m - (map.len (marks_up_to last m) + 1) < map.len m - map.len (marks_up_to last m)
  one_less_left =
      let grown = sym (ap map.len (one_more_mark m last next is)) in
      let one = one_counted in
      let less = fewer_left m last next is in
      omega (arith, grown, one, less)

-- an entry is counted where it is one of those that f asks for, and those that are left are fewer by it
pub counted_on : (f : Slot × Item → Bool) (xs ys : List (Slot × Item)) (x : Slot × Item) → xs ≡ x ∷ ys → (n m all : ℕ) → n + count_by f xs ≡ all → m ≡ n + cond (f x) 1 0 → m + count_by f ys ≡ all
counted_on f xs ys x is n m all so more =
    let split : count_by f xs ≡ cond (f x) 1 0 + count_by f ys = ap (count_by f) is ∙ sum_by-cons (λ p. cond (f p) 1 0) x ys in
    omega (arith, so, more, split)

-- at the end all are counted
pub all_counted : (f : Slot × Item → Bool) (xs : List (Slot × Item)) → xs ≡ [] → (n all : ℕ) → n + count_by f xs ≡ all → n ≡ all
all_counted f xs is n all so = let none : count_by f xs ≡ 0 = ap (count_by f) is in omega (arith, so, none)

-- as many are counted as there are
pub units_counted : {Z : Type 0} (units : Vec (Unit {0}) Z) (n : ℕ) → n ≡ vec_len units → n ≡ length units.items
units_counted units n is = let same = units.ok.0 in omega (arith, is, same)
