-- Where the instructions of an accepted program lead: forward. So one pass is enough to verify it, and a run of it
-- takes fewer instructions than it has slots.
use Rattle.std.specs.Prelude.{◌≡◌, ℕ, ◌<◌, ℤ, pos, negsuc, Some, IsTrue}
use Rattle.pb_accepted.specs.Words.{Insn, JudgedOf, insn_at}
use Rattle.pb_accepted.specs.Following.{leads}
use Rattle.pb_accepted.specs.Arriving.{has_slot, Accepts}

-- an offset that isn't negative: it counts from the slot after the jump
abbrev pub IsAhead : ℤ → Type 0
IsAhead (pos z) = Unit {0}
IsAhead (negsuc z) = ⊥

-- a jump goes forward
abbrev pub IsForward : Insn → Type 0
IsForward (Insn.Jump offset) = IsAhead offset
IsForward (Insn.JumpIf c w dst src offset) = IsAhead offset
IsForward i = Unit {0}

-- the slots that an instruction leads to come later
abbrev pub LeadsAreLater : Type 0
LeadsAreLater = (n m : ℕ) (i : Insn) → IsTrue (has_slot (leads n i) m) → n < m

-- no jump of an accepted program goes back: the rules refuse one with 32
abbrev pub AcceptedJumpsGoForward : Type 0
AcceptedJumpsGoForward = (j : JudgedOf) → Accepts j → (n : ℕ) (i : Insn) → insn_at j.program.insns n ≡ Some i → IsForward i
