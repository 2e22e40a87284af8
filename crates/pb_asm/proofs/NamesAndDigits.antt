-- Which bytes stand in names, numbers and words, and where texts of them are cut.
use Rattle.std.proofs.Common.{◌≡◌, ℕ, suc, ◌+◌, ◌%◌, ◌^◌, ◌<◌, ◌≤◌, Bool, true, false, cond, List, [], ◌∷◌, ◌++◌, length, take, drop, Some, None, refl, ap, arith, ◌==◌, nat_le, slice_index, decimal}
use Rattle.pb_asm.specs.Words.{Profile, Reg}
use Rattle.std.specs.List.{slice_split, position_or_len}
use Rattle.std.proofs.lemmas.Bool.{leb-true, le-ltb}
use Rattle.std.proofs.lemmas.Fmt.{decimal_by_steps}
use Rattle.std.proofs.lemmas.List.{length-append}
use Rattle.pb_asm.specs.declared.names.Word.{Word}
use Rattle.pb_asm.specs.Names.{name, words, IsWordOf, word_in, word_named, reg_name, registers, reg_named}
use Rattle.pb_asm.specs.Cuts.{split_once}
use Rattle.pb_base.proofs.Logic.{same_number}

-- each byte is at least n
abbrev pub above : ℕ → List ℕ → Bool
above n [] = true
above n (b ∷ bs) = cond (nat_le n b) (above n bs) false

-- two tests that both have to hold
both : (a : Bool) (x : Bool) → cond a x false ≡ true → (a ≡ true) × (x ≡ true)
both a x h = grind arith

-- it holds of two texts together where it holds of each
pub above_append : (n : ℕ) (xs ys : List ℕ) → above n xs ≡ true → above n ys ≡ true → above n (xs ++ ys) ≡ true
above_append n [] ys h k = k
above_append n (x ∷ xs) ys h k = let p = both (nat_le n x) (above n xs) h in rw (p.0, above_append n xs ys p.1 k) refl

-- what is above a number is above each lower one
pub above_less : (m n : ℕ) (xs : List ℕ) → m ≤ n → above n xs ≡ true → above m xs ≡ true
above_less m n [] le h = refl
above_less m n (x ∷ xs) le h =
    let p = both (nat_le n x) (above n xs) h in
    let r : nat_le m x ≡ true = grind (arith, le) in
    rw (r, above_less m n xs le p.1) refl

not_this : (c n x : ℕ) → c < n → nat_le n x ≡ true → (x == c) ≡ false
not_this c n x lt h = let q = leb-true n x h in grind (arith, q, lt)

-- ---- cuts

-- a text is cut at a byte that is below all before it
pub cut_there : (c n : ℕ) (xs ys : List ℕ) → c < n → above n xs ≡ true → slice_split (λ b. b == c) (xs ++ c ∷ ys) ≡ xs ∷ slice_split (λ b. b == c) ys
cut_there c n [] ys lt h = rw (same_number c) refl
cut_there c n (x ∷ xs) ys lt h =
    let p = both (nat_le n x) (above n xs) h in
    rw (not_this c n x lt p.0, cut_there c n xs ys lt p.1) refl

-- a text without the byte isn't cut
pub cut_none : (c n : ℕ) (xs : List ℕ) → c < n → above n xs ≡ true → slice_split (λ b. b == c) xs ≡ xs ∷ []
cut_none c n [] lt h = refl
cut_none c n (x ∷ xs) lt h =
    let p = both (nat_le n x) (above n xs) h in
    rw (not_this c n x lt p.0, cut_none c n xs lt p.1) refl

-- the first such byte is the one after a text without it
place_there : (c n : ℕ) (xs ys : List ℕ) → c < n → above n xs ≡ true → position_or_len (λ b. b == c) (xs ++ c ∷ ys) ≡ length xs
place_there c n [] ys lt h = rw (same_number c) refl
place_there c n (x ∷ xs) ys lt h =
    let p = both (nat_le n x) (above n xs) h in
    rw (not_this c n x lt p.0, place_there c n xs ys lt p.1) (omega arith)

place_none : (c n : ℕ) (xs : List ℕ) → c < n → above n xs ≡ true → position_or_len (λ b. b == c) xs ≡ length xs
place_none c n [] lt h = refl
place_none c n (x ∷ xs) lt h =
    let p = both (nat_le n x) (above n xs) h in
    rw (not_this c n x lt p.0, place_none c n xs lt p.1) (omega arith)

take_front : (xs ys : List ℕ) → take (length xs) (xs ++ ys) ≡ xs
take_front [] ys = refl
take_front (x ∷ xs) ys = ap (λ (zs : List ℕ). x ∷ zs) (take_front xs ys)

drop_front : (c : ℕ) (xs ys : List ℕ) → drop (suc (length xs)) (xs ++ c ∷ ys) ≡ ys
drop_front c [] ys = refl
drop_front c (x ∷ xs) ys = drop_front c xs ys

-- what stands on both sides of such a byte is found
pub around_there : (c n : ℕ) (xs ys : List ℕ) → c < n → above n xs ≡ true → split_once c (xs ++ c ∷ ys) ≡ Some (xs, ys)
around_there c n xs ys lt h = grind (arith, place_there, length-append, take_front, drop_front)

-- and nothing, where there is none
pub around_none : (c n : ℕ) (xs : List ℕ) → c < n → above n xs ≡ true → split_once c xs ≡ None
around_none c n xs lt h = grind (arith, place_none, le-ltb)

-- ---- names

-- names have digits and letters alone, which are from 48 on: no blank, no comma, no sign and no newline
pub reg_above : (r : Reg) → above 48 (reg_name r) ≡ true
reg_above r = grind arith

-- so the name of a word has them alone
pub name_above : (w : Word) → above 48 (name w) ≡ true
name_above w = grind arith

-- each word is the one of its name
pub word_there : (w : Word) → word_in (name w) words ≡ Some w
unfolding words
word_there w = grind arith

-- a profile's word is found by its name
pub word_back : (q : Profile) (w : Word) → IsWordOf q w → word_named q (name w) ≡ Some w
word_back q w is = rw (word_there w, is) refl

-- each register is found by its name
pub reg_back : (r : Reg) → reg_named (reg_name r) ≡ Some r
unfolding registers
reg_back r = grind arith

-- ---- digits

one_digit : (n : ℕ) → n < 10 → above 48 ((48 + n) ∷ []) ≡ true
one_digit n lt = let e : nat_le 48 (48 + n) ≡ true = grind arith in rw e refl

more_digits : (n : ℕ) (ds : List ℕ) → 10 ≤ n → above 48 ds ≡ true → above 48 (ds ++ ((48 + n % 10) ∷ [])) ≡ true
more_digits n ds le h = above_append 48 ds ((48 + n % 10) ∷ []) h (one_digit (n % 10) (omega arith))

-- a decimal has digits alone
pub decimal_above : (n : ℕ) → n < 2 ^ 64 → above 48 (decimal n) ≡ true
decimal_above n lt = decimal_by_steps (λ n ds. above 48 ds ≡ true) one_digit more_digits n lt

-- the first byte is a digit
first_more : (n : ℕ) (ds : List ℕ) → 10 ≤ n → (0 < length ds) × (slice_index ds 0 < 58) → (0 < length (ds ++ ((48 + n % 10) ∷ []))) × (slice_index (ds ++ ((48 + n % 10) ∷ [])) 0 < 58)
first_more n [] le h = let no : ⊥ = omega (arith, h.0) in absurd no
first_more n (d ∷ ds) le h = (omega arith, h.1)

pub first_is_digit : (n : ℕ) → n < 2 ^ 64 → (0 < length (decimal n)) × (slice_index (decimal n) 0 < 58)
first_is_digit n lt = decimal_by_steps (λ n ds. (0 < length ds) × (slice_index ds 0 < 58)) (λ n lt. (omega arith, omega (arith, lt))) first_more n lt
