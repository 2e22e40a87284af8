-- The bytes of moves and loads that extend the sign, as LLVM's assembler writes them (RFC 9669, sections 4.1 and 5.2). The
-- encoding is defined by opcodes and numbers of bits that writing and reading share, and would take any others that are
-- distinct.
use Rattle.std.specs.Prelude.{◌≡◌, ℕ, pos, negsuc, List, [], ◌∷◌}
use Rattle.law_programs.specs.Words.{Extension, Insn, Reg, Size, Width, Profile, ProgramOf, Encodes}

-- the program of profile 2 that has this instruction alone
abbrev pub alone : Insn → ProgramOf
alone i = record { profile = Profile.Two; insns = i ∷ [] }

-- in profile 2 the bytes are this instruction and no other program, and in profile 1 they are no program
pub record AreBytesOf (i : Insn) (bytes : List ℕ) : Type 0 where
  pub written : Encodes bytes (alone i)
  pub no_other : (p : ProgramOf) → p.profile ≡ Profile.Two → Encodes bytes p → p ≡ alone i
  pub not_in_one : (p : ProgramOf) → p.profile ≡ Profile.One → Encodes bytes p → ⊥

-- opcode, registers, the two bytes of the offset, and an immediate of zero
abbrev pub bytes_of_slot : ℕ → ℕ → ℕ → ℕ → List ℕ
bytes_of_slot opcode registers low high = opcode ∷ registers ∷ low ∷ high ∷ 0 ∷ 0 ∷ 0 ∷ 0 ∷ []

-- each by its text: r0 = (s8)r1, r0 = (s16)r1, r9 = (s32)r0, w0 = (s8)w1, w3 = (s16)w10, and the loads of four, two and one
-- bytes at r1+48, r10-2 and r10-1
pub record SignsAreEncoded : Type 0 where
  pub byte_to_64 : AreBytesOf (Insn.MovSx Width.Bits64 Size.B Reg.R0 Reg.R1) (bytes_of_slot 0xbf 0x10 0x08 0)
  pub half_to_64 : AreBytesOf (Insn.MovSx Width.Bits64 Size.H Reg.R0 Reg.R1) (bytes_of_slot 0xbf 0x10 0x10 0)
  pub word_to_64 : AreBytesOf (Insn.MovSx Width.Bits64 Size.W Reg.R9 Reg.R0) (bytes_of_slot 0xbf 0x09 0x20 0)
  pub byte_to_32 : AreBytesOf (Insn.MovSx Width.Bits32 Size.B Reg.R0 Reg.R1) (bytes_of_slot 0xbc 0x10 0x08 0)
  pub half_to_32 : AreBytesOf (Insn.MovSx Width.Bits32 Size.H Reg.R3 Reg.R10) (bytes_of_slot 0xbc 0xa3 0x10 0)
  pub word_load : AreBytesOf (Insn.Load Size.W Extension.Sign Reg.R2 Reg.R1 (pos 48)) (bytes_of_slot 0x81 0x12 0x30 0)
  pub half_load : AreBytesOf (Insn.Load Size.H Extension.Sign Reg.R0 Reg.R10 (negsuc 1)) (bytes_of_slot 0x89 0xa0 0xfe 0xff)
  pub byte_load : AreBytesOf (Insn.Load Size.B Extension.Sign Reg.R0 Reg.R10 (negsuc 0)) (bytes_of_slot 0x91 0xa0 0xff 0xff)
