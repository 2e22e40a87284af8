-- What the profiles differ in: moves and loads that extend the sign.
use Rattle.std.proofs.Common.{arith, ◌≡◌, ℕ, ℤ, ◌⊎◌, true, false, ◌==◌, IsTrue}
use Rattle.pb_decode.specs.Words.{AluOp, Insn, Extension, Reg, Size, Width, Profile, IsOf, is_narrower}
use Rattle.pb_decode.specs.declared.forms.Form.{Form}
use Rattle.pb_decode.specs.Opcodes.{IsFormOf}
use Rattle.pb_decode.specs.Encoding.{bits_of}
use Rattle.pb_decode.specs.Reading.{is_alu_offset, size_of_bits}

-- neither a load nor a move that extends the sign: each profile has it
abbrev pub IsPlain : Insn → Type 0
IsPlain (Insn.MovSx w z d s) = ⊥
IsPlain (Insn.Load z x d s o) = ⊥
IsPlain i = Unit {0}

-- so it is of each
pub is_plain : (p : Profile) (i : Insn) → IsPlain i → IsOf p i
is_plain p i h = grind arith

-- any form but a load's: each profile has it
abbrev pub IsPlainForm : Form → Type 0
IsPlainForm (Form.Load z x) = ⊥
IsPlainForm f = Unit {0}

pub plain_form : (p : Profile) (f : Form) → IsPlainForm f → IsFormOf p f
plain_form p f h = grind arith

pub load_form : (p : Profile) (z : Size) (x : Extension) (d s : Reg) (o : ℤ) → IsOf p (Insn.Load z x d s o) → IsFormOf p (Form.Load z x)
load_form p z x d s o h = grind arith

-- ---- offsets of arithmetic with a register

-- an offset with which a move extends the sign
pub record IsExtending (p : Profile) (op : AluOp) (w : Width) (n : ℕ) : Type 0 where
  pub size : Size
  pub move : op ≡ AluOp.Mov
  pub bits : n ≡ bits_of size
  pub narrower : IsTrue (is_narrower size w)
  pub of_profile : (d s : Reg) → IsOf p (Insn.MovSx w size d s)

-- an offset that is let through is zero, or one with which a move extends the sign
pub alu_offset : (p : Profile) (op : AluOp) (w : Width) (n : ℕ) → is_alu_offset p op w n ≡ true → (0 ≡ n) ⊎ IsExtending p op w n
alu_offset p op w n h = grind arith

-- an offset of zero is let through in each profile
pub zero_offset : (p : Profile) (op : AluOp) (w : Width) → is_alu_offset p op w 0 ≡ true
zero_offset p op w = grind arith

-- the offset of a sign-extending move is one of these
pub extending_offset : (p : Profile) (w : Width) (z : Size) (d s : Reg) → IsOf p (Insn.MovSx w z d s) → (is_alu_offset p AluOp.Mov w (bits_of z) ≡ true) × IsTrue (is_narrower z w)
extending_offset p w z d s h = grind arith

-- and is read as its size
pub size_back : (w : Width) (z : Size) → IsTrue (is_narrower z w) → size_of_bits (bits_of z) ≡ z
size_back w z h = grind arith

-- no size has zero bits, so that an extending move is never read as a plain one
pub some_bits : (z : Size) → (bits_of z == 0) ≡ false
some_bits z = grind arith
