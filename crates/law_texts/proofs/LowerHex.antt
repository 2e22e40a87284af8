-- What decodes without an upper-case letter is what lower-case encoding writes.
use Rattle.std.proofs.Common.{◌≡◌, ℕ, zero, suc, ◌+◌, ◌*◌, ◌/◌, ◌%◌, ◌<◌, Bool, true, false, cond, ◌&&◌, List, [], ◌∷◌, slice_index, Option, Some, Result, Ok, refl, sym, ap, subst, ◌∙◌, arith, inl, inr, ◌==◌, nat_lt}
use Rattle.std.specs.Char.{is_ascii_uppercase}
use Rattle.std.specs.List.{AllByRecursion, list_any}
use Rattle.std.proofs.lemmas.Bool.{and_parts, cases_lt, eqb-true, or_parts as none_before}
use Rattle.std.proofs.lemmas.List.Elements.{All-from_recursion}
use Rattle.std.proofs.lemmas.List.Folds.{list_any_none}
use Rattle.hex.specs.Hex.{◌>>=◌, IsBytes, decode_of, decode_pairs, digit_or_error, encode_lower, encode_with, hex_digit_value, lower_digits, pair_value, value_at}
use Rattle.hex.specs.declared.error.FromHexError.{FromHexError}
use Rattle.hex.proofs.HexLemmas.{decode_of-even, decode_of-ok}

-- ---- the table of digits

-- the digit of a number below 16
abbrev pub digit_of : ℕ → ℕ
digit_of v = cond (nat_lt v 10) (48 + v) (87 + v)

-- a test that holds of every number below n, by computing it
abbrev all_below : (ℕ → Bool) → ℕ → Bool
all_below test zero = true
all_below test (suc n) = test n && all_below test n

passes : (test : ℕ → Bool) (n k : ℕ) → all_below test n ≡ true → k < n → test k ≡ true
passes test zero k h lt = absurd (omega arith)
passes test (suc n) k h lt =
    let parts = and_parts (test n) (all_below test n) h in
    elim (cases_lt k n) [
      | inl below ↦ passes test n k parts.1 below
      | inr top ↦ let e : k ≡ n = omega arith in rw e parts.0
    ]

-- the sixteen digits of the library are those of the format
pub table_is : (v : ℕ) → v < 16 → slice_index lower_digits v ≡ digit_of v
table_is v lt = eqb-true (slice_index lower_digits v) (digit_of v) (passes (λ n. slice_index lower_digits n == digit_of n) 16 v refl lt)

-- ---- what decodes

then_ok : {A B : Type 0} (r : Result A FromHexError) (f : A → Result B FromHexError) (y : B) → (r >>= f) ≡ Ok y → (x : A) × (r ≡ Ok x) × (f x ≡ Ok y)
then_ok r f y h = grind arith

ok_is : {A : Type 0} (x y : A) → ◌≡◌ {A = Result A FromHexError} (Ok x) (Ok y) → x ≡ y
ok_is x y h = cc

some_of : (c i : ℕ) (o : Option ℕ) (v : ℕ) → digit_or_error c i o ≡ Ok v → o ≡ Some v
some_of c i o v h = grind arith

-- a digit stands for a number below 16
small : (c v : ℕ) → hex_digit_value c ≡ Some v → v < 16
small c v h = grind (arith)

-- a letter that isn't upper-case, or a decimal digit
is_digit : (c v : ℕ) → hex_digit_value c ≡ Some v → is_ascii_uppercase c ≡ false → digit_of v ≡ c
is_digit c v h lower = grind (arith)

-- a digit that isn't upper-case is the one that is written for its number
digit_back : (c i v : ℕ) → value_at c i ≡ Ok v → is_ascii_uppercase c ≡ false → (v < 16) × (slice_index lower_digits v ≡ c)
digit_back c i v h lower =
    let s = some_of c i (hex_digit_value c) v h in
    let lt = small c v s in
    (lt, table_is v lt ∙ is_digit c v s lower)

two_digits : (a b high low byte : ℕ) → slice_index lower_digits high ≡ a → slice_index lower_digits low ≡ b → low < 16 → high * 16 + low ≡ byte → (slice_index lower_digits (byte / 16) ≡ a) × (slice_index lower_digits (byte % 16) ≡ b)
two_digits a b high low byte is_a is_b lt whole = grind arith

-- digits that decode to bytes are what is written for them
pairs_written : (i : ℕ) (digits bytes : List ℕ) → decode_pairs i digits ≡ Ok bytes → list_any is_ascii_uppercase digits ≡ false → digits ≡ encode_lower bytes
unfolding decode_pairs encode_with
pairs_written i [] bytes h lower = ap encode_lower (ok_is [] bytes h)
pairs_written i (a ∷ []) bytes h lower = absurd cc
pairs_written i (a ∷ b ∷ rest) bytes h lower =
    let p = then_ok (pair_value a b i) _ bytes h in
    let q = then_ok (decode_pairs (i + 2) rest) _ bytes p.2 in
    let r = then_ok (value_at a i) _ p.0 p.1 in
    let s = then_ok (value_at b (i + 1)) _ p.0 r.2 in
    let one = none_before (is_ascii_uppercase a) (list_any is_ascii_uppercase (b ∷ rest)) lower in
    let two = none_before (is_ascii_uppercase b) (list_any is_ascii_uppercase rest) one.1 in
    let high = digit_back a i r.0 r.1 one.0 in
    let low = digit_back b (i + 1) s.0 s.1 two.0 in
    let both = two_digits a b r.0 s.0 p.0 high.1 low.1 low.0 (ok_is (r.0 * 16 + s.0) p.0 s.2) in
    let others = pairs_written (i + 2) rest q.0 q.1 two.1 in
    (λ k. sym both.0 k ∷ sym both.1 k ∷ others k) ∙ ap encode_lower (ok_is (p.0 ∷ q.0) bytes q.2)

-- of a whole text of digits
pub lower_written : (digits bytes : List ℕ) → decode_of digits ≡ Ok bytes → list_any is_ascii_uppercase digits ≡ false → digits ≡ encode_lower bytes
lower_written digits bytes h lower = grind (arith, decode_of-ok, pairs_written, decode_of-even)

-- ---- and what is written

-- what holds of the sixteen digits holds of each that is written
pub digits_hold : (P : ℕ → Type 0) → ((v : ℕ) → v < 16 → P (digit_of v)) → (bytes : List ℕ) → IsBytes bytes → AllByRecursion P (encode_lower bytes)
unfolding encode_with
digits_hold P each [] fit = tt
digits_hold P each (b ∷ bytes) fit =
    let byte : b < 256 = fit 0 in
    let high : b / 16 < 16 = omega (arith, byte) in
    let low : b % 16 < 16 = omega arith in
    (subst P (sym (table_is (b / 16) high)) (each (b / 16) high), (subst P (sym (table_is (b % 16) low)) (each (b % 16) low), digits_hold P each bytes (λ k. fit (suc k))))

-- no written digit is upper-case
not_upper : (v : ℕ) → v < 16 → is_ascii_uppercase (digit_of v) ≡ false
not_upper v lt = grind (arith)

-- nor is any of a list of bytes
pub none_upper : (bytes : List ℕ) → IsBytes bytes → list_any is_ascii_uppercase (encode_lower bytes) ≡ false
none_upper bytes fit = list_any_none is_ascii_uppercase (encode_lower bytes) (All-from_recursion (λ c. is_ascii_uppercase c ≡ false) (encode_lower bytes) (digits_hold (λ c. is_ascii_uppercase c ≡ false) not_upper bytes fit))
