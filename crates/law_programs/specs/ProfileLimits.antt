-- Which profile has which instructions and how many slots: the table of docs/MACHINE.md, in figures.
use Rattle.std.specs.Prelude.{◌≡◌, Bool, true, false}
use Rattle.law_programs.specs.Words.{Insn, Extension, Reg, Size, Width, Profile, max_slots, is_of}
use Rattle.std.specs.Prelude.{ℤ}

-- the most slots of a program of each
pub record ProfilesHaveSlots : Type 0 where
  pub one : max_slots Profile.One ≡ 512
  pub two : max_slots Profile.Two ≡ 4_096

-- profile 1 has no such instruction, and profile 2 has it or not
pub record OnlyInTwo (i : Insn) (has : Bool) : Type 0 where
  pub one : is_of Profile.One i ≡ false
  pub two : is_of Profile.Two i ≡ has

-- moves of 8, 16 and 32 bits to 64, and of 8 and 16 to 32; loads of one, two and four bytes
pub record ProfilesExtendSigns : Type 0 where
  pub byte_to_64 : (dst src : Reg) → OnlyInTwo (Insn.MovSx Width.Bits64 Size.B dst src) true
  pub half_to_64 : (dst src : Reg) → OnlyInTwo (Insn.MovSx Width.Bits64 Size.H dst src) true
  pub word_to_64 : (dst src : Reg) → OnlyInTwo (Insn.MovSx Width.Bits64 Size.W dst src) true
  pub all_to_64 : (dst src : Reg) → OnlyInTwo (Insn.MovSx Width.Bits64 Size.Dw dst src) false
  pub byte_to_32 : (dst src : Reg) → OnlyInTwo (Insn.MovSx Width.Bits32 Size.B dst src) true
  pub half_to_32 : (dst src : Reg) → OnlyInTwo (Insn.MovSx Width.Bits32 Size.H dst src) true
  pub word_to_32 : (dst src : Reg) → OnlyInTwo (Insn.MovSx Width.Bits32 Size.W dst src) false
  pub all_to_32 : (dst src : Reg) → OnlyInTwo (Insn.MovSx Width.Bits32 Size.Dw dst src) false
  pub byte_load : (dst src : Reg) (offset : ℤ) → OnlyInTwo (Insn.Load Size.B Extension.Sign dst src offset) true
  pub half_load : (dst src : Reg) (offset : ℤ) → OnlyInTwo (Insn.Load Size.H Extension.Sign dst src offset) true
  pub word_load : (dst src : Reg) (offset : ℤ) → OnlyInTwo (Insn.Load Size.W Extension.Sign dst src offset) true
  pub all_load : (dst src : Reg) (offset : ℤ) → OnlyInTwo (Insn.Load Size.Dw Extension.Sign dst src offset) false
