-- The verdict on a program, in the words of the codes.
use Rattle.std.specs.Prelude.{◌↔◌, ℕ, ◌<◌, ◌≤◌}
use Rattle.law_programs.specs.Words.{JudgedOf, slots, RuleCode, code_number, Accepts, Refuses}
use Rattle.law_programs.specs.Reached.{IsCodeTold}

-- n is the first slot at which a code is reported, and c the lowest of those there
pub record IsFirstTold (j : JudgedOf) (n : ℕ) (c : RuleCode) : Type 0 where
  pub inside : n < slots j.program.insns
  pub told : IsCodeTold c j n
  pub lowest : (d : RuleCode) → IsCodeTold d j n → code_number c ≤ code_number d
  pub before : (m : ℕ) (d : RuleCode) → m < n → ¬ (IsCodeTold d j m)

-- a program is accepted exactly if no code is reported at any of its slots, and refused with the first that is
pub record TellsVerdict (j : JudgedOf) : Type 0 where
  pub accepts : Accepts j ↔ ((n : ℕ) (c : RuleCode) → n < slots j.program.insns → ¬ (IsCodeTold c j n))
  pub refuses : (n : ℕ) (c : RuleCode) → Refuses j n c ↔ IsFirstTold j n c

-- of every program, with any helpers, for a record of any size
abbrev pub VerdictsAreTold : Type 0
VerdictsAreTold = (j : JudgedOf) → TellsVerdict j
