-- What stands at the front of a list of bytes: an instruction, or the lowest code of a fault. The contracts of the code's readers
-- cite it; that it finds what Encoding and Faults say is proved.
use Rattle.std.specs.Prelude.{ℕ, ℤ, ◌+◌, ◌*◌, ◌^◌, Bool, ◌&&◌, ◌||◌, ◌==◌, nat_lt, if◌then◌else◌, List, length, drop, ok_or, Result, Ok, Err}
use Rattle.std.specs.Int.{w16, w32, cast_signed}
use Rattle.pb_decode.specs.Words.{◌>>=◌, Insn, AluOp, Operand, Reg, Size, Width, Profile, reg_of}
use Rattle.pb_decode.specs.declared.forms.Form.{Form}
use Rattle.pb_decode.specs.declared.forms.Source.{Source}
use Rattle.pb_decode.specs.declared.fields.SlotFields.{SlotFields}
use Rattle.pb_decode.specs.declared.fault.DecodeCode.{DecodeCode}
use Rattle.pb_decode.specs.Opcodes.{form_of}
use Rattle.pb_decode.specs.Fields.{slot_of_bytes}

-- the offset of arithmetic with a register is zero; in profile 2 that of a move may be the bits whose sign it extends
abbrev pub is_alu_offset : Profile → AluOp → Width → ℕ → Bool
is_alu_offset Profile.Two AluOp.Mov Width.Bits64 n = (n == 0) || ((n == 8) || ((n == 16) || (n == 32)))
is_alu_offset Profile.Two AluOp.Mov Width.Bits32 n = (n == 0) || ((n == 8) || (n == 16))
is_alu_offset p op w n = n == 0

-- the fields that a form doesn't use are zero
abbrev pub is_clean : Profile → Form → SlotFields → Bool
is_clean p (Form.Alu op w Source.K) s = (s.src == 0) && (s.offset == 0)
is_clean p (Form.Alu op w Source.X) s = is_alu_offset p op w s.offset && (s.imm == 0)
is_clean p (Form.Neg w) s = (s.src == 0) && ((s.offset == 0) && (s.imm == 0))
is_clean p Form.LoadImm s = (s.src == 0) && (s.offset == 0)
is_clean p (Form.Load z x) s = s.imm == 0
is_clean p (Form.StoreImm z) s = s.src == 0
is_clean p (Form.Store z) s = s.imm == 0
is_clean p Form.Jump s = (s.dst == 0) && ((s.src == 0) && (s.imm == 0))
is_clean p (Form.JumpIf c w Source.K) s = s.src == 0
is_clean p (Form.JumpIf c w Source.X) s = s.imm == 0
is_clean p Form.Call s = (s.dst == 0) && ((s.src == 0) && (s.offset == 0))
is_clean p Form.Exit s = (s.dst == 0) && ((s.src == 0) && ((s.offset == 0) && (s.imm == 0)))

-- a second slot has nothing but an immediate
abbrev pub is_second_slot : SlotFields → Bool
is_second_slot s = (s.opcode == 0) && ((s.dst == 0) && ((s.src == 0) && (s.offset == 0)))

-- the 64-bit immediate of this low half, whose high half stands in the next slot
abbrev pub pair_of : Reg → ℕ → List ℕ → Result (Insn × List ℕ) DecodeCode
pair_of dst low rest =
    if nat_lt (length rest) 8 then Err DecodeCode.CutOff
    else if is_second_slot (slot_of_bytes rest) then Ok (Insn.LoadImm dst (low + 2 ^ 32 * (slot_of_bytes rest).imm), drop 8 rest)
    else Err DecodeCode.SecondSlot

-- the source operand
abbrev pub operand_of_source : Source → Reg → ℤ → Operand
operand_of_source Source.K src imm = Operand.Imm imm
operand_of_source Source.X src imm = Operand.Reg src

-- the size of 8, 16 or 32 bits
abbrev pub size_of_bits : ℕ → Size
size_of_bits n = if n == 8 then Size.B else if n == 16 then Size.H else Size.W

-- arithmetic; with an offset, which a move of a register alone has, it extends the sign of so many bits
abbrev pub alu_of : AluOp → Width → Source → Reg → Reg → SlotFields → Insn
alu_of op w x dst src s =
    if s.offset == 0 then Insn.Alu op w dst (operand_of_source x src (cast_signed w32 s.imm))
    else Insn.MovSx w (size_of_bits s.offset) dst src

-- the instruction of a form with these fields, and the bytes after it
abbrev pub insn_of_form : Form → Reg → Reg → SlotFields → List ℕ → Result (Insn × List ℕ) DecodeCode
insn_of_form (Form.Alu op w x) dst src s rest = Ok (alu_of op w x dst src s, rest)
insn_of_form (Form.Neg w) dst src s rest = Ok (Insn.Neg w dst, rest)
insn_of_form Form.LoadImm dst src s rest = pair_of dst s.imm rest
insn_of_form (Form.Load z x) dst src s rest = Ok (Insn.Load z x dst src (cast_signed w16 s.offset), rest)
insn_of_form (Form.StoreImm z) dst src s rest = Ok (Insn.StoreImm z dst (cast_signed w16 s.offset) (cast_signed w32 s.imm), rest)
insn_of_form (Form.Store z) dst src s rest = Ok (Insn.Store z dst src (cast_signed w16 s.offset), rest)
insn_of_form Form.Jump dst src s rest = Ok (Insn.Jump (cast_signed w16 s.offset), rest)
insn_of_form (Form.JumpIf c w x) dst src s rest = Ok (Insn.JumpIf c w dst (operand_of_source x src (cast_signed w32 s.imm)) (cast_signed w16 s.offset), rest)
insn_of_form Form.Call dst src s rest = Ok (Insn.Call (cast_signed w32 s.imm), rest)
insn_of_form Form.Exit dst src s rest = Ok (Insn.Exit, rest)

-- the form, unless a field that it doesn't use isn't zero
abbrev pub clean_or_code : Profile → Form → SlotFields → Result Form DecodeCode
clean_or_code p f s = if is_clean p f s then Ok f else Err DecodeCode.Unused

-- The opcode first, then both registers, then the unused fields, and last a pair's second slot.
unfoldable pub first_with : Profile → SlotFields → List ℕ → Result (Insn × List ℕ) DecodeCode
first_with p s rest = do
  known ← ok_or (form_of p s.opcode) DecodeCode.Opcode
  dst ← ok_or (reg_of s.dst) DecodeCode.Register
  src ← ok_or (reg_of s.src) DecodeCode.Register
  clean ← clean_or_code p known s
  insn_of_form clean dst src s rest

-- of the slot in front, and the bytes after it
abbrev pub first_of : Profile → List ℕ → Result (Insn × List ℕ) DecodeCode
first_of p bytes = first_with p (slot_of_bytes bytes) (drop 8 bytes)
