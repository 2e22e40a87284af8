-- A shift that copies the sign divides the signed value, rounded down.
use Rattle.std.proofs.Common.{◌≡◌, ℕ, suc, ◌+◌, ◌-◌, ◌*◌, ◌/◌, ◌%◌, ◌^◌, ◌<◌, ◌≤◌, pos, negsuc, Bool, cond, arith, nat_lt}
use Rattle.std.specs.Int.{cast_unsigned, cast_signed, int_shr}
use Rattle.std.proofs.lemmas.Nat.{div-mul-add, pow-add, pow_pos}
use Rattle.std.proofs.Math.Nat.{mod-add-div', mod-lt, add-mul, one-mul, div-lt_iff_lt-mul, pow-le-pow_right}
use mir.Syntax.{Width, w32, w64}
use mir.Val.{bits, sel}
use Rattle.pb_isa.specs.Alu.{arsh}

-- what is left of e * d after a, divided by d
rest_div : (a d e q r t : ℕ) → r + q * d ≡ a → r < d → e ≡ 1 + q + t → (e * d - suc a) / d ≡ t
rest_div a d e q r t is lt more = grind (arith, add-mul, one-mul, div-mul-add)

-- counted back from e * d, the quotients come in reverse: so a negative number is divided
below_div : (a d e : ℕ) → 0 < d → a < e * d → (a / d < e) × ((e * d - suc a) / d ≡ e - suc (a / d))
below_div a d e some lt =
    let q = a / d in
    let below : q < e = (div-lt_iff_lt-mul {k = d} {x = a} {y = e} some).1 lt in
    (below, rest_div a d e q (a % d) (e - suc q) (mod-add-div' a d) (mod-lt a some) (omega (arith, below)))

-- by the sign of a word: a positive one is divided, and a negative one gets ones from above
shifted : (w : Width) (a k : ℕ) → a < 2 ^ bits w → k ≤ bits w → (low : Bool)
    → cast_unsigned w (int_shr (sel low (pos a) (negsuc (2 ^ bits w - suc a))) k) ≡ cond low (a / 2 ^ k) (a / 2 ^ k + (2 ^ bits w - 2 ^ (bits w - k)))
shifted w a k lt le low = grind (arith, pow-add, below_div, pow_pos, pow-le-pow_right)

-- the shift of the code, at 64 bits, is that of the definition; and so at 32
pub arsh_64 : (a b : ℕ) → a < 2 ^ 64 → cast_unsigned w64 (int_shr (cast_signed w64 a) (b % 64)) ≡ arsh w64 a (b % 64)
arsh_64 a b lt = shifted w64 a (b % 64) lt (omega arith) (nat_lt a (2 ^ 63))

pub arsh_32 : (a b : ℕ) → a < 2 ^ 32 → cast_unsigned w32 (int_shr (cast_signed w32 a) (b % 32)) ≡ arsh w32 a (b % 32)
arsh_32 a b lt = shifted w32 a (b % 32) lt (omega arith) (nat_lt a (2 ^ 31))
