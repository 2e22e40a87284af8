-- Which slots are reached: here by steps from the first slot, while the verifier goes over all earlier slots in order. By that,
-- which codes are reported at a slot.
use Rattle.std.specs.Prelude.{◌≡◌, ◌≢◌, ◌⊎◌, ◌↔◌, ℕ, ◌<◌, List, Some, None, Contains}
use Rattle.law_programs.specs.Words.{Insn, insn_at, JudgedOf, Frame, RuleCode, in_at, faults}
use Rattle.law_programs.specs.Breaks.{Breaks}
use Rattle.law_programs.specs.Targets.{JumpsTo, next_slot}

-- the instruction of slot m goes on to slot n, or jumps there
pub record LeadsTo (p : List Insn) (m n : ℕ) : Type 0 where
  pub insn : Insn
  pub there : insn_at p m ≡ Some insn
  pub leads : (next_slot m insn ≡ Some n) ⊎ JumpsTo m insn n

-- not the first slot, and no earlier one that has a frame leads to it. In `exit; mov64 r0, 0; exit` the second leads to the
-- third, and has no frame itself
pub record IsUnreached (p : List Insn) (n : ℕ) : Type 0 where
  pub later : 0 < n
  pub none : (m : ℕ) → m < n → in_at p m ≢ None → ¬ (LeadsTo p m n)

-- reached from the first slot in steps, each to where an instruction leads
pub data IsReachable (p : List Insn) : ℕ → Type 0 where
  ByEntry : IsReachable p 0
  ByStep : (m n : ℕ) → IsReachable p m → LeadsTo p m n → IsReachable p n

-- the slots that have a frame are those that are reached
pub record TellsReached (p : List Insn) : Type 0 where
  pub none : (n : ℕ) → (in_at p n ≡ None) ↔ IsUnreached p n
  pub some : (n : ℕ) → (in_at p n ≢ None) ↔ IsReachable p n

-- of every list of instructions, accepted or not
abbrev pub ReachedAreTold : Type 0
ReachedAreTold = (p : List Insn) → TellsReached p

-- the code is reported at a slot: as unreachable, or because the instruction breaks it with the frame before it. A second slot
-- has no rules
abbrev pub IsCodeTold : RuleCode → JudgedOf → ℕ → Type 0
IsCodeTold c j n =
    (i : Insn) × (insn_at j.program.insns n ≡ Some i) × (((c ≡ RuleCode.Unreachable) × ¬ (IsReachable j.program.insns n)) ⊎
    ((f : Frame) × (in_at j.program.insns n ≡ Some f) × Breaks c j n f i))

-- the codes at a slot are those reported there, for every program with any helpers
abbrev pub FaultsAreTold : Type 0
FaultsAreTold = (c : RuleCode) (j : JudgedOf) (n : ℕ) → Contains (faults j n) c ↔ IsCodeTold c j n

-- an instruction is reported as unreachable exactly where its slot isn't reached
abbrev pub UnreachableIsTold : Type 0
UnreachableIsTold =
    (j : JudgedOf) (n : ℕ) (i : Insn) → insn_at j.program.insns n ≡ Some i →
    Contains (faults j n) RuleCode.Unreachable ↔ ¬ (IsReachable j.program.insns n)
