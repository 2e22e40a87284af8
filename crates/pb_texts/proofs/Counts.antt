-- The numbers of workers, of swaps and of a profile are read as `parse` reads a number of `u32`, but for a plus, which `clap` takes too.
use Rattle.std.proofs.Common.{◌≡◌, ℕ, ◌<◌, ◌≤◌, ◌^◌, Bool, true, false, Option, Some, None, Ok, Err, refl, sym, ap, ◌∙◌, arith, ◌&&◌, ◌==◌, nat_le, nat_lt, slice_index}
use Rattle.std.specs.Option.{option_map_or}
use Rattle.std.proofs.lemmas.Bool.{leb-true, lt-ltb}
use Rattle.std.specs.Str.Parse.{IsNumeral, ParsesUnsigned, digits_value, without_leading_plus}
use Rattle.std.specs.declared.num.ParseIntError.{ParseIntError}
use Rattle.clap.specs.Walk.{Text}
use Rattle.clap.specs.ValueTests.{is_unsigned_in}
use Rattle.clap.specs.declared.builder.value_parser.ValueParser.{ValueParser}
use Rattle.clap.proofs.ValueTestLemmas.{accepts-Accepts, Accepts-accepts}
use Rattle.pb_texts.specs.CommandLines.{is_within, is_count, count_number, count_named, begins_with_plus}
use Rattle.pb_texts.proofs.Filled.{IsNumberIn}
use Rattle.pb_base.proofs.Logic.{and_true as both_true}
use Rattle.pb_texts.proofs.Clocks.{some_if, none_unless}

-- ---- a plus before the digits

begins_by : (t : Text) → begins_with_plus t ≡ (slice_index t 0 == 43)
begins_by t = grind arith

pub begins_as_told : (t : Text) (b told : Bool) → told ≡ (slice_index t 0 == 43) → told ≡ b → begins_with_plus t ≡ b
begins_as_told t b told e is = begins_by t ∙ sym e ∙ is

without_plus : (t : Text) → begins_with_plus t ≡ false → without_leading_plus t ≡ t
without_plus t h = grind arith

-- a test that another one implies may be left out
spare : (n c a b : Bool) → (b ≡ true → c ≡ true) → (n && (c && (a && b))) ≡ (n && (a && b))
spare n c a b f = grind arith

module _ (low high : ℕ) where
  pub plus_no_count : (t : Text) → begins_with_plus t ≡ true → is_count low high t ≡ false
  plus_no_count t h = grind arith

  -- ---- read

  within : (n : ℕ) → is_within low high n ≡ true → (low ≤ n) × (n ≤ high)
  within n e = let a = both_true (nat_le low n) (nat_le n high) e in (leb-true _ _ a.0, leb-true _ _ a.1)

  module _ (fits : high < 2 ^ 32) where
    short : (n : ℕ) → nat_le n high ≡ true → nat_lt n (2 ^ 64) ≡ true
    short n h = lt-ltb _ _ (omega (arith, fits, leb-true _ _ h))

    pub plain_count : (t : Text) → begins_with_plus t ≡ false → is_unsigned_in low high t ≡ is_count low high t
    plain_count t h = rw (without_plus t h) (spare _ _ _ _ (short (digits_value 10 t)))

    module _ (t : Text) (plain : begins_with_plus t ≡ false) where
      same_number : digits_value 10 (without_leading_plus t) ≡ count_number t
      same_number = ap (digits_value 10) (without_plus t plain)

      within_is_count : (x : ℕ) → IsNumeral 10 (without_leading_plus t) × (digits_value 10 (without_leading_plus t) < 2 ^ 32) → x ≡ digits_value 10 (without_leading_plus t) → (low ≤ x) × (x ≤ high) → is_count low high t ≡ true
      within_is_count x p is h = sym (plain_count t plain) ∙ Accepts-accepts false (ValueParser.Unsigned low high) t (p.0, omega (arith, p.1), omega (arith, is, h.0), omega (arith, is, h.1))

      pub count_read : (x : ℕ) → ParsesUnsigned {E = ParseIntError} 32 10 t (Ok x) → is_within low high x ≡ true → Some x ≡ count_named low high (Some t)
      count_read x p h = some_if (is_count low high t) x (count_number t) (within_is_count x p.0 p.1 (within x h)) (p.1 ∙ same_number)

      pub count_unread : (e : ParseIntError) → ParsesUnsigned 32 10 t (Err e) → None ≡ count_named low high (Some t)
      count_unread e p = none_unless (is_count low high t) (count_number t) (λ is. let a = accepts-Accepts false (ValueParser.Unsigned low high) t (plain_count t plain ∙ is) in p (a.0, omega (arith, fits, a.3)))

    -- ---- what `clap` takes

    -- the option has a number, named or not, where no plus stands before it
    pub has_count : (o : Option Text) → IsNumberIn low high o → option_map_or begins_with_plus o false ≡ false → (n : ℕ) × (count_named low high o ≡ Some n)
    has_count None e plain = (low, refl)
    has_count (Some t) e plain = (count_number t, rw (sym (plain_count t plain) ∙ e) refl)
