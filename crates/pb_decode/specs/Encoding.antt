-- The encoding of programs (RFC 9669, section 3): the slots of the instructions in order. A field that an instruction doesn't use
-- is zero. It is the same in every profile. Contracts of `encode` and `decode_in` say `Encodes`, which is this direction alone:
-- it defines what decoding has to find, and no reader does.
use Rattle.std.specs.Prelude.{◌≡◌, ℕ, ◌/◌, ◌%◌, ◌^◌, ◌++◌, List, []}
use Rattle.std.specs.Int.{w16, w32, cast_unsigned}
use Rattle.std.specs.List.{flat_map, AllByRecursion}
use Rattle.pb_decode.specs.Words.{Insn, AluOp, Size, Operand, number, Fits, Profile, ProgramOf, IsProgram}
use Rattle.pb_decode.specs.declared.forms.Form.{Form}
use Rattle.pb_decode.specs.declared.forms.Source.{Source}
use Rattle.pb_decode.specs.declared.fields.SlotFields.{SlotFields}
use Rattle.pb_decode.specs.Opcodes.{opcode}
use Rattle.pb_decode.specs.Fields.{slot_bytes}

-- a slot of a form with these fields
abbrev pub slot : Form → ℕ → ℕ → ℕ → ℕ → SlotFields
slot f dst src offset imm = record { opcode = opcode f; dst = dst; src = src; offset = offset; imm = imm }

-- how many bits a sign-extending move takes of its source, which its offset says (section 4.1)
abbrev pub bits_of : Size → ℕ
bits_of Size.B = 8
bits_of Size.H = 16
bits_of Size.W = 32
bits_of Size.Dw = 64

-- The first slot of an instruction, signed numbers in two's complement. A sign-extending move has the opcode of a move.
abbrev pub first_slot : Insn → SlotFields
first_slot (Insn.Alu op w dst (Operand.Imm imm)) = slot (Form.Alu op w Source.K) (number dst) 0 0 (cast_unsigned w32 imm)
first_slot (Insn.Alu op w dst (Operand.Reg src)) = slot (Form.Alu op w Source.X) (number dst) (number src) 0 0
first_slot (Insn.MovSx w z dst src) = slot (Form.Alu AluOp.Mov w Source.X) (number dst) (number src) (bits_of z) 0
first_slot (Insn.Neg w dst) = slot (Form.Neg w) (number dst) 0 0 0
first_slot (Insn.LoadImm dst imm) = slot Form.LoadImm (number dst) 0 0 (imm % 2 ^ 32)
first_slot (Insn.Load z x dst src offset) = slot (Form.Load z x) (number dst) (number src) (cast_unsigned w16 offset) 0
first_slot (Insn.StoreImm z dst offset imm) = slot (Form.StoreImm z) (number dst) 0 (cast_unsigned w16 offset) (cast_unsigned w32 imm)
first_slot (Insn.Store z dst src offset) = slot (Form.Store z) (number dst) (number src) (cast_unsigned w16 offset) 0
first_slot (Insn.Jump offset) = slot Form.Jump 0 0 (cast_unsigned w16 offset) 0
first_slot (Insn.JumpIf c w dst (Operand.Imm imm) offset) = slot (Form.JumpIf c w Source.K) (number dst) 0 (cast_unsigned w16 offset) (cast_unsigned w32 imm)
first_slot (Insn.JumpIf c w dst (Operand.Reg src) offset) = slot (Form.JumpIf c w Source.X) (number dst) (number src) (cast_unsigned w16 offset) 0
first_slot (Insn.Call imm) = slot Form.Call 0 0 0 (cast_unsigned w32 imm)
first_slot Insn.Exit = slot Form.Exit 0 0 0 0

-- a second slot: all is zero but the immediate
abbrev pub second_slot : ℕ → SlotFields
second_slot imm = record { opcode = 0; dst = 0; src = 0; offset = 0; imm = imm }

-- the bytes after the first slot: the 64-bit immediate has its high half in a second one (section 5.4)
abbrev pub second_bytes : Insn → List ℕ
second_bytes (Insn.LoadImm dst imm) = slot_bytes (second_slot (imm / 2 ^ 32))
second_bytes i = []

-- the eight or sixteen bytes of an instruction
abbrev pub insn_bytes : Insn → List ℕ
insn_bytes i = slot_bytes (first_slot i) ++ second_bytes i

-- the one byte list of these instructions
abbrev pub encoding : List Insn → List ℕ
encoding is = flat_map insn_bytes is

-- the program of the same instructions
abbrev pub in_profile : Profile → ProgramOf → ProgramOf
in_profile profile p = record { profile = profile; insns = p.insns }

-- the bytes are those of a program
pub record Encodes (bytes : List ℕ) (p : ProgramOf) : Type 0 where
  pub program : IsProgram p
  pub fits : AllByRecursion Fits p.insns
  pub spelt : bytes ≡ encoding p.insns
