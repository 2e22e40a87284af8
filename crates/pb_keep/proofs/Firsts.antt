-- The first changes of a list, of which so many are made.
use Rattle.std.proofs.Common.{arith, ◌≡◌, ℕ, ◌+◌, ◌-◌, ◌<◌, ◌≤◌, ◌^◌, true, false, List, [], ◌∷◌, ◌++◌, length, take, Option, None, Some, IfSome, refl, ap, ◌∙◌}
use Rattle.std.proofs.lemmas.List.{length-append, length-take, take_all, take-append-le}
use Rattle.std.proofs.lemmas.Bool.{leb-false, leb-true}
use Rattle.std.proofs.Math.Seq.{take-append-add}
use Rattle.pb_keep.specs.Words.{Writes}
use Rattle.pb_keep.specs.First.{first_changes, is_full, room_after}
use Rattle.pb_keep.specs.Kept.{reported_count}

-- a number that may be given
abbrev pub IsNumber : Option ℕ → Type 0
IsNumber most = IfSome most (λ n. n < 2 ^ 64)

-- the first of none
pub first_of_none : (most : Option ℕ) → first_changes most [] ≡ []
first_of_none None = refl
first_of_none (Some n) = take_all n [] (omega arith)

-- ---- within a list that goes on from what was made before

-- one more is among the first, if it may follow
pub one_more_first : (most : Option ℕ) → IsNumber most → (was made : ℕ) (xs : List Writes) (x : Writes) → made ≡ reported_count (was + length xs) → is_full most made ≡ false
    → first_changes (room_after most was) (xs ++ x ∷ []) ≡ xs ++ x ∷ []
one_more_first None fits was made xs x count room = refl
one_more_first (Some n) fits was made xs x count room =
    let below : made < n = leb-false n made room in
    let long = length-append xs (x ∷ []) in
    take_all (n - was) (xs ++ x ∷ []) (omega (arith, fits, count, below, long))

-- all of these are the first, if none may follow
pub full_first : (most : Option ℕ) (was made : ℕ) (xs rest : List Writes) → made ≡ reported_count (was + length xs) → is_full most made ≡ true → first_changes (room_after most was) xs ≡ xs
    → first_changes (room_after most was) (xs ++ rest) ≡ xs
full_first None was made xs rest count full is = absurd cc
full_first (Some n) was made xs rest count full is =
    let over : n ≤ made = leb-true n made full in
    take-append-le (n - was) xs rest (omega (arith, count, over)) ∙ is

-- ---- from the front of all

-- all so far are the first, if one may follow
pub all_first : (most : Option ℕ) → IsNumber most → (made : ℕ) (xs : List Writes) → made ≡ reported_count (length (first_changes most xs)) → is_full most made ≡ false → first_changes most xs ≡ xs
all_first None fits made xs count room = refl
all_first (Some n) fits made xs count room =
    let below : made < n = leb-false n made room in
    let long = length-take n xs in
    take_all n xs (omega (arith, fits, count, below, long))

-- no more than those that are, if none may follow
pub no_more_first : (most : Option ℕ) (made : ℕ) (xs rest : List Writes) → made ≡ reported_count (length (first_changes most xs)) → is_full most made ≡ true → first_changes most (xs ++ rest) ≡ first_changes most xs
no_more_first None made xs rest count full = absurd cc
no_more_first (Some n) made xs rest count full =
    let over : n ≤ made = leb-true n made full in
    let long = length-take n xs in
    take-append-le n xs rest (omega (arith, count, over, long))

-- the first of some and of others after them, where one may follow
pub first_on : (most : Option ℕ) → IsNumber most → (made : ℕ) (xs ys : List Writes) → made ≡ reported_count (length xs) → is_full most made ≡ false → first_changes most (xs ++ ys) ≡ xs ++ first_changes (room_after most made) ys
first_on None fits made xs ys count room = refl
first_on (Some n) fits made xs ys count room =
    let below : made < n = leb-false n made room in
    let parts : n ≡ length xs + (n - made) = omega (arith, fits, count, below) in
    ap (λ k. take k (xs ++ ys)) parts ∙ take-append-add xs ys (n - made)
