-- The codes of a call's rules are listed lowest first.
use Rattle.std.proofs.Common.{ℕ, ◌≤◌, Bool, List, [], ◌∷◌, ◌++◌, arith, Option}
use Rattle.pb_isa.specs.Helpers.{Helper}
use Rattle.pb_kinds.specs.declared.frame.Kind.{Kind}
use Rattle.pb_kinds.specs.declared.frame.Frame.{Frame}
use Rattle.pb_kinds.specs.Frames.{kind_of, is_unset}
use Rattle.pb_helpers.specs.declared.code.RuleCode.{RuleCode}
use Rattle.pb_helpers.specs.Codes.{code_number, when, CodesRiseWithin}
use Rattle.pb_helpers.specs.Arguments.{unset, filled_bytes, taken_bytes, call_rules}

-- codes that rise from b on rise from any a below it on
pub from_lower : (a b c : ℕ) (cs : List RuleCode) → a ≤ b → CodesRiseWithin b c cs → CodesRiseWithin a c cs
from_lower a b c [] l h = omega arith
from_lower a b c (x ∷ xs) l h = (omega (arith, h.0), h.1)

-- two rising lists one after the other rise, where the second begins no lower than the first ends
pub rising_joined : (a b c : ℕ) (xs ys : List RuleCode) → CodesRiseWithin a b xs → CodesRiseWithin b c ys → CodesRiseWithin a c (xs ++ ys)
rising_joined a b c [] ys h k = from_lower a b c ys h k
rising_joined a b c (x ∷ xs) ys h k = (h.0, rising_joined (code_number x) b c xs ys h.1 k)

-- one code, if it is listed at all, lies from itself to itself
one : (a : ℕ) (t : Bool) (c : RuleCode) → a ≤ code_number c → CodesRiseWithin a (code_number c) (when t c)
one a t c l = grind arith

-- codes that rise up to b rise up to any c above it
pub to_higher : (a b c : ℕ) (cs : List RuleCode) → b ≤ c → CodesRiseWithin a b cs → CodesRiseWithin a c cs
to_higher a b c [] l h = omega arith
to_higher a b c (x ∷ xs) l h = (h.0, to_higher (code_number x) b c xs l h.1)

-- the bytes of a read break nothing above 26
filled : (k : Kind) → CodesRiseWithin 21 26 (filled_bytes k)
filled k = grind arith

-- nor do those of a write
taken : (f : Frame) (k : Kind) → CodesRiseWithin 21 26 (taken_bytes f k)
taken f k = grind arith

pub unset_rises : (f : Frame) (r : ℕ) → CodesRiseWithin 21 21 (unset f r)
unset_rises f r = one 21 (is_unset (kind_of f r)) RuleCode.ReadsUnset (omega arith)

wrong : (t : Bool) → CodesRiseWithin 26 31 (when t RuleCode.WrongArgument)
wrong t = one 26 t RuleCode.WrongArgument (omega arith)

-- three registers, then the bytes, then the wrong argument: the order of the rules is that of the codes
with_place : (f : Frame) (cs : List RuleCode) (t : Bool) → CodesRiseWithin 21 26 cs → CodesRiseWithin 21 31 (unset f 1 ++ unset f 2 ++ unset f 3 ++ cs ++ when t RuleCode.WrongArgument)
with_place f cs t h = grind (arith, rising_joined, unset_rises, wrong)

-- so the codes of each helper's rules rise from 21 to 31
pub codes_rise : (f : Frame) (h : Option Helper) → CodesRiseWithin 21 31 (call_rules f h)
codes_rise f h = grind (arith, with_place, filled, taken, rising_joined, to_higher, unset_rises, wrong)
