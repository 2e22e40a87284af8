-- What is known after an instruction whose rules hold, and where it leads: the contracts of `step` and `spread` cite them. They
-- are total, even if rules are broken, since `frames` returns what is known of refused programs too.
use Rattle.std.specs.Prelude.{ℕ, ◌+◌, ℤ, pos, negsuc, ◌+ℤ◌, neg_ℤ, if◌then◌else◌, List, [], ◌∷◌, slice_set, slice_index_or, Option, Some}
use Rattle.pb_accepted.specs.Words.{Insn, AluOp, Width, Operand, Reg, number, Helper, Read, helper_of, Kind, Frame, kind_of, in_stack, with_written}
use Rattle.pb_accepted.specs.Rules.{at, bytes_of}

-- the frame after a register is set
abbrev pub with_kind : Frame → Reg → Kind → Frame
with_kind f r k = record { kinds = slice_set f.kinds (number r) k; written = f.written }

-- a pointer goes on pointing, moved by the number; all else becomes a number
abbrev pub move_pointer : Kind → ℤ → Kind
move_pointer (Kind.Stack k) z = Kind.Stack (k +ℤ z)
move_pointer (Kind.Record k) z = Kind.Record (k +ℤ z)
move_pointer k z = Kind.Number

-- what the destination of an operation holds: mov64 keeps the source's kind, and add64 and sub64 move pointers
abbrev pub kind_after : Frame → AluOp → Width → Reg → Operand → Kind
kind_after f AluOp.Mov Width.Bits64 dst (Operand.Reg src) = at f src
kind_after f AluOp.Add Width.Bits64 dst (Operand.Imm imm) = move_pointer (at f dst) imm
kind_after f AluOp.Sub Width.Bits64 dst (Operand.Imm imm) = move_pointer (at f dst) (neg_ℤ imm)
kind_after f op w dst src = Kind.Number

-- the bytes of a store are written, where they lie in the stack
abbrev pub with_store : Frame → Kind → ℤ → ℕ → Frame
with_store f (Kind.Stack k) offset n = if in_stack (k +ℤ offset) n then with_written f (k +ℤ offset) n else f
with_store f k offset n = f

-- a call sets R0 and leaves R1 to R5 unset
abbrev pub kinds_after_call : List Kind → List Kind
kinds_after_call ks = Kind.Number ∷ Kind.Unset ∷ Kind.Unset ∷ Kind.Unset ∷ Kind.Unset ∷ Kind.Unset ∷ slice_index_or ks 6 Kind.Unset ∷ slice_index_or ks 7 Kind.Unset ∷ slice_index_or ks 8 Kind.Unset ∷ slice_index_or ks 9 Kind.Unset ∷ slice_index_or ks 10 Kind.Unset ∷ []

-- what a call leaves: other registers, and the bytes that were written before
abbrev pub clobber : Frame → Frame
clobber f = record { kinds = kinds_after_call f.kinds; written = f.written }

-- a read fills the 32 bytes at R3; no other helper writes to the stack
abbrev pub after_call : Frame → Option Helper → Frame
after_call f (Some Read) = clobber (with_store f (kind_of f 3) (pos 0) 32)
after_call f h = clobber f

-- the frame after an instruction, by the frame before it. A jump and the exit change nothing
abbrev pub after : Frame → Insn → Frame
after f (Insn.Alu op w dst src) = with_kind f dst (kind_after f op w dst src)
after f (Insn.MovSx w z dst src) = with_kind f dst Kind.Number
after f (Insn.Neg w dst) = with_kind f dst Kind.Number
after f (Insn.LoadImm dst imm) = with_kind f dst Kind.Number
after f (Insn.Load z x dst src offset) = with_kind f dst Kind.Number
after f (Insn.StoreImm z dst offset imm) = with_store f (at f dst) offset (bytes_of z)
after f (Insn.Store z dst src offset) = with_store f (at f dst) offset (bytes_of z)
after f (Insn.Jump offset) = f
after f (Insn.JumpIf c w dst src offset) = f
after f (Insn.Call imm) = after_call f (helper_of imm)
after f Insn.Exit = f

-- the slot that a jump from slot n leads to, where it goes forward
abbrev pub ahead : ℕ → ℤ → List ℕ
ahead n (pos z) = (n + 1 + z) ∷ []
ahead n (negsuc z) = []

-- the later slots that the instruction at slot n leads to
abbrev pub leads : ℕ → Insn → List ℕ
leads n (Insn.LoadImm dst imm) = (n + 2) ∷ []
leads n (Insn.Jump offset) = ahead n offset
leads n (Insn.JumpIf c w dst src offset) = (n + 1) ∷ ahead n offset
leads n Insn.Exit = []
leads n i = (n + 1) ∷ []
