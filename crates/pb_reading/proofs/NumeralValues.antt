-- Numerals, as assembler texts, scripts and schedules have them: what one is, and what its digits say.
use Rattle.std.proofs.Common.{◌≡◌, ℕ, ◌^◌, ◌<◌, ◌≤◌, false, List, length, Ok, Err, refl, sym, arith, Bool, true, cond, ◌&&◌, rules, ◌==◌, nat_lt, slice_index, decimal}
use Rattle.std.proofs.lemmas.Fmt.{first_decimal, decimal_digit, digits_decimal, decimal_nonempty, digits_value-decimal, decimal-digits_value}
use Rattle.std.proofs.lemmas.Bool.{cases_lt, leb-true, le-leb, lt-leb}
use Rattle.std.specs.Char.{is_ascii_digit}
use Rattle.std.specs.List.{list_all}
use Rattle.pb_reading.specs.Reading.{is_numeral, numeral_upto}
use Rattle.std.specs.Str.Parse.{digits_value, ParsesUnsigned}
use Rattle.pb_reading.proofs.Readings.{if_ok, ok_is}
use Rattle.std.proofs.lemmas.Str.Parse.{IsDigitsTest, IsNumeralModel, numerals_by_value, parse_digits}

-- digits are recognized by their test
pub digits_by_test : IsDigitsTest (λ ds. list_all is_ascii_digit ds ≡ true)
digits_by_test = search rules

-- so numerals are those of the kit
pub numerals_of_kit : IsNumeralModel (λ ds. list_all is_ascii_digit ds ≡ true) (digits_value 10)
numerals_of_kit = numerals_by_value _ digits_by_test

-- where two tests fail and the third holds, the whole does
pub third_test_decides : (a b c d : Bool) → a ≡ false → (b && c) ≡ false → d ≡ true → cond a false (cond (b && c) false d) ≡ true
third_test_decides a b c d p q r = rw (p, q, r) refl

-- a positive length is not zero
pub not_empty : (n : ℕ) → 0 < n → (n == 0) ≡ false
not_empty n h = grind arith

-- the digits of a number have no zero in front
pub no_zero : (n : ℕ) → n < 2 ^ 64 → ((slice_index (decimal n) 0 == 48) && nat_lt 1 (length (decimal n))) ≡ false
no_zero n lt = grind (arith, decimal_digit, first_decimal)

-- a numeral that begins with a zero is that zero
pub zero_alone : (x m : ℕ) → ((x == 48) && nat_lt 1 m) ≡ false → 0 < m → x ≡ 48 → m ≡ 1
zero_alone x m h some e = grind arith

-- a numeral is of digits, without a zero in front of others
pub digits_in : (w : List ℕ) → is_numeral w ≡ true → (list_all is_ascii_digit w ≡ true) × (((slice_index w 0 == 48) && nat_lt 1 (length w)) ≡ false) × (0 < length w)
digits_in w h = grind arith

-- the digits of a number are a numeral
pub numeral_of : (n : ℕ) → n < 2 ^ 64 → is_numeral (decimal n) ≡ true
numeral_of n lt = third_test_decides (length (decimal n) == 0) (slice_index (decimal n) 0 == 48) (nat_lt 1 (length (decimal n))) (list_all is_ascii_digit (decimal n)) (not_empty _ (decimal_nonempty n lt)) (no_zero n lt) (digits_decimal numerals_of_kit n lt)

-- a numeral within 64 bits is the spelling of its value, since no other spelling is a numeral
pub decimal_of : (w : List ℕ) → is_numeral w ≡ true → digits_value 10 w < 2 ^ 64 → w ≡ decimal (digits_value 10 w)
decimal_of w h lt = let d = digits_in w h in sym (decimal-digits_value numerals_of_kit w d.0 d.2 (zero_alone (slice_index w 0) (length w) d.1 d.2) lt)

-- a number is the value of its spelling
pub value_of : (n : ℕ) → n < 2 ^ 64 → digits_value 10 (decimal n) ≡ n
value_of n lt = digits_value-decimal numerals_of_kit n lt

-- where parsing fails, nothing is wrong with the digits but that they are beyond 64 bits, and so out of any range
pub none_fits : {C : Type 0} (E : Type 0) (form range : C) (greatest : ℕ) (w : List ℕ) (e : E) → greatest < 2 ^ 64 → is_numeral w ≡ true → ParsesUnsigned {E = E} 64 10 w (Err e) → numeral_upto form range greatest w ≡ Err range
none_fits E form range greatest w e lt h p = grind (arith, digits_in, parse_digits, numerals_of_kit, cases_lt, lt-leb)

-- ---- what is read as a number, and what isn't

-- a word that is read as a number is its spelling: no other digits, signs or zeros are read
pub numeral_is : {E : Type 0} (form range : E) (greatest n : ℕ) (word : List ℕ) → greatest < 2 ^ 64 → numeral_upto form range greatest word ≡ Ok n → (word ≡ decimal n) × (n ≤ greatest)
numeral_is {E} form range greatest n word lt h = grind (arith, if_ok, leb-true, ok_is, decimal_of)

-- and each number in the range is read from its spelling
pub numeral_back : {E : Type 0} (form range : E) (greatest n : ℕ) → n < 2 ^ 64 → n ≤ greatest → numeral_upto form range greatest (decimal n) ≡ Ok n
numeral_back form range greatest n lt le = grind (arith, value_of, le-leb, numeral_of)

-- a numeral above the greatest number is out of range
pub numeral_over : {E : Type 0} (form range : E) (greatest : ℕ) (word : List ℕ) → is_numeral word ≡ true → greatest < digits_value 10 word → numeral_upto form range greatest word ≡ Err range
numeral_over form range greatest word is over = rw (is, lt-leb (digits_value 10 word) greatest over) refl
