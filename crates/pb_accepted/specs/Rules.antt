-- The rules of each instruction: for the frame before it, the codes of the rules that it breaks, lowest first. They are this
-- project's own profile; RFC 9669 has none. All codes are listed and not one, so that no order of tests is part of a rule; which
-- one is reported is defined once, by `lowest_code`. The contracts of src/rules.rt cite them, one each.
use Rattle.std.specs.Prelude.{ℕ, ◌+◌, ℤ, pos, negsuc, ◌+ℤ◌, Bool, false, not, ◌||◌, if◌then◌else◌, List, [], ◌∷◌, ◌++◌, is_none, nat_eq, nat_le}
use Rattle.std.specs.Int.{byte_len}
use Rattle.pb_accepted.specs.Words.{Insn, AluOp, Width, Operand, Size, Reg, number, slots, insn_at, JudgedOf, declared_helper, width, Kind, Frame, kind_of, is_pointer, in_record, RuleCode, when, CodesRiseWithin, unset, stack_reads, stack_writes, call_rules}

-- ---- parts of rules

-- what is known of the register of an operand
abbrev pub at : Frame → Reg → Kind
at f r = kind_of f (number r)

-- 21: a register that may be unset is read
abbrev pub reads : Frame → Reg → List RuleCode
reads f r = unset f (number r)

-- 22: R10, the end of the stack, is never a destination
abbrev pub sets : Reg → List RuleCode
sets dst = when (nat_eq (number dst) 10) RuleCode.WritesR10

-- the source operand: an immediate isn't read, and is no pointer
abbrev pub reads_operand : Frame → Operand → List RuleCode
reads_operand f (Operand.Imm imm) = []
reads_operand f (Operand.Reg src) = reads f src

-- the source operand is a register that points to stack or record
abbrev pub points : Frame → Operand → Bool
points f (Operand.Imm imm) = false
points f (Operand.Reg src) = is_pointer (at f src)

-- one of both operands is a pointer, where numbers alone may stand
abbrev pub on_pointer : Frame → Reg → Operand → Bool
on_pointer f dst src = is_pointer (at f dst) || points f src

-- how many bytes a load or a store moves
abbrev pub bytes_of : Size → ℕ
bytes_of z = byte_len (width z)

-- 36: the instruction leads to slot m, which is the end of the program
abbrev pub falls : List Insn → ℕ → List RuleCode
falls p m = when (nat_eq m (slots p)) RuleCode.FallsOff

-- ---- arithmetic

-- reads destination and source, neither of which may be a pointer
abbrev pub numeric_rules : Frame → Reg → Operand → List RuleCode
numeric_rules f dst src = reads f dst ++ reads_operand f src ++ sets dst ++ when (on_pointer f dst src) RuleCode.PointerArithmetic

-- a move of some of the source's bits, which doesn't read the destination: the source may not be a pointer
abbrev pub part_mov_rules : Frame → Reg → Reg → List RuleCode
part_mov_rules f dst src = reads f src ++ sets dst ++ when (is_pointer (at f src)) RuleCode.PointerArithmetic

-- mov doesn't read the destination; on 32 bits it moves no pointer
abbrev pub mov_rules : Frame → Width → Reg → Operand → List RuleCode
mov_rules f w dst (Operand.Imm imm) = sets dst
mov_rules f Width.Bits64 dst (Operand.Reg src) = reads f src ++ sets dst
mov_rules f Width.Bits32 dst (Operand.Reg src) = part_mov_rules f dst src

-- add64 and sub64 of an immediate may move a pointer
abbrev pub add_rules : Frame → Width → Reg → Operand → List RuleCode
add_rules f Width.Bits64 dst (Operand.Imm imm) = reads f dst ++ sets dst
add_rules f w dst src = numeric_rules f dst src

-- by the operation: moves, sums that may move a pointer, and all others on numbers alone
abbrev pub alu_rules : Frame → AluOp → Width → Reg → Operand → List RuleCode
alu_rules f AluOp.Mov w dst src = mov_rules f w dst src
alu_rules f AluOp.Add w dst src = add_rules f w dst src
alu_rules f AluOp.Sub w dst src = add_rules f w dst src
alu_rules f op w dst src = numeric_rules f dst src

-- ---- memory

-- n bytes are loaded at this distance from a pointer. An unset base has no code here, since it is reported as 21
abbrev pub loads : ℕ → Frame → Kind → ℤ → ℕ → List RuleCode
loads size f Kind.Unset offset n = []
loads size f Kind.Number offset n = RuleCode.ThroughNumber ∷ []
loads size f (Kind.Stack k) offset n = stack_reads f (k +ℤ offset) n
loads size f (Kind.Record k) offset n = when (not (in_record size (k +ℤ offset) n)) RuleCode.OutsideRecord

-- n bytes are stored there: the record is read-only, so that a store to it is reported as 28 wherever it goes
abbrev pub stores : Kind → ℤ → ℕ → List RuleCode
stores Kind.Unset offset n = []
stores Kind.Number offset n = RuleCode.ThroughNumber ∷ []
stores (Kind.Stack k) offset n = stack_writes (k +ℤ offset) n
stores (Kind.Record k) offset n = RuleCode.WritesRecord ∷ []

-- the base is read, the destination is set, and the bytes lie in stack or record, where those of the stack are written
abbrev pub load_rules : ℕ → Frame → Size → Reg → Reg → ℤ → List RuleCode
load_rules size f z dst src offset = reads f src ++ sets dst ++ loads size f (at f src) offset (bytes_of z)

-- the base is read, and the bytes lie in the stack
abbrev pub store_imm_rules : Frame → Size → Reg → ℤ → List RuleCode
store_imm_rules f z dst offset = reads f dst ++ stores (at f dst) offset (bytes_of z)

-- a pointer may not be stored
abbrev pub store_rules : Frame → Size → Reg → Reg → ℤ → List RuleCode
store_rules f z dst src offset = reads f dst ++ reads f src ++ when (is_pointer (at f src)) RuleCode.PointerStored ++ stores (at f dst) offset (bytes_of z)

-- ---- jumps

-- from slot n with this offset, which counts from the next slot. One code at most: a jump back has no target to test
abbrev pub jump_rules : List Insn → ℕ → ℤ → List RuleCode
jump_rules p n (negsuc z) = RuleCode.BackwardJump ∷ []
jump_rules p n (pos z) = if nat_le (slots p) (n + 1 + z) then RuleCode.JumpOutside ∷ [] else when (is_none (insn_at p (n + 1 + z))) RuleCode.JumpIntoPair

-- a comparison reads both sides, neither of which may be a pointer
abbrev pub jump_if_rules : List Insn → ℕ → Frame → Reg → Operand → ℤ → List RuleCode
jump_if_rules p n f dst src offset = reads f dst ++ reads_operand f src ++ jump_rules p n offset ++ falls p (n + 1) ++ when (on_pointer f dst src) RuleCode.PointerCompared

-- the result is a number: 21 where it may be unset, and 37 where it is a pointer
abbrev pub exit_rules : Frame → List RuleCode
exit_rules f = unset f 0 ++ when (is_pointer (kind_of f 0)) RuleCode.ExitsWithPointer

-- ---- the rules

-- the codes of the rules that the instruction at slot n breaks, lowest first. But for ja and exit an instruction leads to
-- the slot after it, which has to be there
abbrev pub insn_rules : JudgedOf → ℕ → Frame → Insn → List RuleCode
insn_rules j n f (Insn.Alu op w dst src) = alu_rules f op w dst src ++ falls j.program.insns (n + 1)
insn_rules j n f (Insn.MovSx w z dst src) = part_mov_rules f dst src ++ falls j.program.insns (n + 1)
insn_rules j n f (Insn.Neg w dst) = numeric_rules f dst (Operand.Imm (pos 0)) ++ falls j.program.insns (n + 1)
insn_rules j n f (Insn.LoadImm dst imm) = sets dst ++ falls j.program.insns (n + 2)
insn_rules j n f (Insn.Load z x dst src offset) = load_rules j.record_size f z dst src offset ++ falls j.program.insns (n + 1)
insn_rules j n f (Insn.StoreImm z dst offset imm) = store_imm_rules f z dst offset ++ falls j.program.insns (n + 1)
insn_rules j n f (Insn.Store z dst src offset) = store_rules f z dst src offset ++ falls j.program.insns (n + 1)
insn_rules j n f (Insn.Jump offset) = jump_rules j.program.insns n offset
insn_rules j n f (Insn.JumpIf c w dst src offset) = jump_if_rules j.program.insns n f dst src offset
insn_rules j n f (Insn.Call imm) = call_rules f (declared_helper j.helpers imm) ++ falls j.program.insns (n + 1)
insn_rules j n f Insn.Exit = exit_rules f

-- the codes that an instruction breaks rise, all from 21 to 38, so that the first listed is the lowest
abbrev pub CodesRise : Type 0
CodesRise = (j : JudgedOf) (n : ℕ) (f : Frame) (i : Insn) → CodesRiseWithin 21 38 (insn_rules j n f i)
