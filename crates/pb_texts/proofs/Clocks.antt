-- The clock is read as `parse` reads a number of `u64`, and where it isn't one there is none.
use Rattle.std.proofs.Common.{◌≡◌, ℕ, ◌<◌, ◌^◌, Bool, true, false, cond, Option, Some, None, Result, Ok, Err, refl, ap, arith, unwrap_or}
use Rattle.std.specs.Str.Parse.{IsNumeral, ParsesUnsigned, ExplainsUnsignedError, HasUnsignedDigitsIfOk, without_leading_plus}
use Rattle.std.specs.declared.num.ParseIntError.{ParseIntError}
use Rattle.clap.specs.Walk.{Text}
use Rattle.clap.specs.Matches.{TriesOne}
use Rattle.clap.specs.declared.builder.value_parser.ValueParser.{ValueParser}
use Rattle.clap.proofs.ValueTestLemmas.{accepts-Accepts, Accepts-accepts}
use Rattle.pb_texts.specs.CommandLines.{last_clock, is_clock, clock_number, clock_of}
use Rattle.pb_texts.proofs.Filled.{IsNumberIn}

abbrev IsNumber : Text → Type 0
IsNumber t = IsNumeral 10 (without_leading_plus t) × (clock_number t < 2 ^ 64)

number_passes : (t : Text) → IsNumber t → is_clock t ≡ true
number_passes t h = Accepts-accepts false (ValueParser.Unsigned 0 last_clock) t (h.0, h.1, omega arith, omega (arith, h.1))

passes_number : (t : Text) → is_clock t ≡ true → IsNumber t
passes_number t e = let a = accepts-Accepts false (ValueParser.Unsigned 0 last_clock) t e in (a.0, a.1)

-- the option has a clock, given or not
pub has_clock : (o : Option Text) → IsNumberIn 0 last_clock o → (n : ℕ) × (clock_of o ≡ Some n)
has_clock None e = (0, refl)
has_clock (Some t) e = (clock_number t, rw e refl)

pub some_if : (b : Bool) (x n : ℕ) → b ≡ true → x ≡ n → Some x ≡ cond b (Some n) None
some_if true x n e f = ap (λ y. Some y) f
some_if false x n e f = absurd cc

pub none_unless : (b : Bool) (n : ℕ) → (b ≡ true → ⊥) → None ≡ cond b (Some n) None
none_unless true n f = absurd (f refl)
none_unless false n f = refl

-- what `parse` makes of a text
abbrev Parsed : Text → Result ℕ ParseIntError → Type 0
Parsed t r = ParsesUnsigned 64 10 t r × ExplainsUnsignedError 10 t r × HasUnsignedDigitsIfOk t r

-- the clock that a getter's answer gives
abbrev clock_told : Result (Option ℕ) ParseIntError → Option ℕ
clock_told (Ok clock) = Some (unwrap_or clock 0)
clock_told (Err e) = None

pub clock_read : (o : Option Text) (r : Result (Option ℕ) ParseIntError) → (o ≡ None → r ≡ Ok None) → ((t : Text) → o ≡ Some t → TriesOne Parsed t r) → clock_told r ≡ clock_of o
clock_read None r n v = ap clock_told (n refl)
clock_read (Some t) (Ok None) n v = absurd (v t refl)
clock_read (Some t) (Ok (Some x)) n v = grind (arith, some_if, number_passes)
clock_read (Some t) (Err e) n v = none_unless (is_clock t) (clock_number t) (λ is. (v t refl).0 (passes_number t is))
