-- What the verifier answers: the contracts of `verify` and `verify_for`, and the law that each program is accepted or
-- refused, and not both, and refused at one slot with one code.
use Rattle.std.specs.Prelude.{◌≡◌, ◌⊎◌, ℕ}
use Rattle.pb_verify.specs.Words.{ProgramOf, JudgedOf, HelperSet, RuleCode, code_number, Version, judged_by, Accepts, Refuses}
use Rattle.pb_verify.specs.declared.verifier.VerifyFault.{VerifyFault}

-- the program judged with its table for change records of a version, which the rules accept
pub record IsAccepted (v : Version) (p : ProgramOf) (h : HelperSet) (a : JudgedOf) : Type 0 where
  pub same : a ≡ judged_by v p h
  pub accepts : Accepts a

-- memory was refused, or this is the first slot at fault with its lowest code
abbrev pub IsVerifyFault : JudgedOf → VerifyFault → Type 0
IsVerifyFault j (VerifyFault.NoMemory refused) = Unit {0}
IsVerifyFault j (VerifyFault.Refused r) = (c : RuleCode) × (r.code ≡ code_number c) × Refuses j r.slot c

-- the rules accept a program, or refuse it at one slot with one code, and not both
pub record HasOneVerdict (j : JudgedOf) : Type 0 where
  pub either : Accepts j ⊎ ((n : ℕ) × (c : RuleCode) × Refuses j n c)
  pub not_both : (n : ℕ) (c : RuleCode) → Accepts j → ¬ (Refuses j n c)
  pub one : (n m : ℕ) (c d : RuleCode) → Refuses j n c → Refuses j m d → (n ≡ m) × (c ≡ d)

-- it holds of every program, with any helpers, for a record of any size
abbrev pub EachHasOneVerdict : Type 0
EachHasOneVerdict = (j : JudgedOf) → HasOneVerdict j
