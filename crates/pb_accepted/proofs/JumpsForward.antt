-- The instructions of an accepted program lead to later slots.
use Rattle.std.proofs.Common.{◌≡◌, ℕ, ◌<◌, List, [], ◌∷◌, ◌++◌, Option, Some, refl, arith}
use Rattle.std.proofs.lemmas.List.{get_or_past}
use Rattle.std.proofs.lemmas.Bool.{cases_lt}
use Rattle.pb_accepted.specs.Words.{Insn, JudgedOf, slots, insn_at, Frame, RuleCode}
use Rattle.pb_accepted.specs.Arriving.{in_at, codes_at}
use Rattle.pb_accepted.specs.Forward.{IsForward, LeadsAreLater, AcceptedJumpsGoForward}

-- ---- later slots

-- each instruction leads to later slots alone, so that a run ends
pub leads_later : LeadsAreLater
leads_later m n x h = grind arith

-- ---- jumps

-- where a list of rules is unbroken, so are its parts
pub empty_parts : (xs ys : List RuleCode) → xs ++ ys ≡ [] → (xs ≡ []) × (ys ≡ [])
empty_parts [] ys e = (refl, e)
empty_parts (x ∷ xs) ys e = cc

forward_at : (j : JudgedOf) (n : ℕ) (i : Insn) (x : Option Frame) → codes_at j n (Some i) x ≡ [] → IsForward i
forward_at j n i x b = grind arith

pub insn_within_slots : (p : List Insn) (n : ℕ) (i : Insn) → insn_at p n ≡ Some i → n < slots p
insn_within_slots p n i h = grind (arith, cases_lt, get_or_past)

-- the jumps of an accepted program go forward
pub jumps_forward : AcceptedJumpsGoForward
jumps_forward j ok n i at = forward_at j n i (in_at j.program.insns n) (rw at at (ok n (insn_within_slots j.program.insns n i at)))
