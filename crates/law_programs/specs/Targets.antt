-- The slots to which an instruction leads.
use Rattle.std.specs.Prelude.{◌≡◌, ℕ, ◌+◌, ℤ, pos, negsuc, Option, Some, None, IsSomeAnd}
use Rattle.law_programs.specs.Words.{Insn}

-- a jump's offset
abbrev pub jump_offset : Insn → Option ℤ
jump_offset (Insn.Jump offset) = Some offset
jump_offset (Insn.JumpIf c w dst src offset) = Some offset
jump_offset i = None

-- a jump with a negative offset
abbrev pub JumpsBack : Insn → Type 0
JumpsBack i = IsSomeAnd (jump_offset i) (λ o. (z : ℕ) × (o ≡ negsuc z))

-- a jump forward, to slot t: an offset counts from the next slot
abbrev pub JumpsTo : ℕ → Insn → ℕ → Type 0
JumpsTo n i t = IsSomeAnd (jump_offset i) (λ o. (z : ℕ) × (o ≡ pos z) × (t ≡ n + 1 + z))

-- the slot after the instruction at slot n, where it may go on there: the 64-bit immediate takes two slots
abbrev pub next_slot : ℕ → Insn → Option ℕ
next_slot n (Insn.LoadImm dst imm) = Some (n + 2)
next_slot n (Insn.Jump offset) = None
next_slot n Insn.Exit = None
next_slot n i = Some (n + 1)
