-- What is known after an instruction whose rules hold: of each register and of each stack byte, one by one, and not as
-- a frame that is made of another.
use Rattle.std.specs.Prelude.{◌≡◌, ◌⊎◌, ◌↔◌, ℕ, ◌+◌, ◌<◌, ◌≤◌, ℤ, ◌+ℤ◌, neg_ℤ, [], length, IsTrue}
use Rattle.law_programs.specs.Words.{Insn, AluOp, Width, Operand, number, JudgedOf, Kind, Frame, kind_of, has_byte, from_low, insn_rules, after}
use Rattle.law_programs.specs.Operands.{SetsRegister}
use Rattle.law_programs.specs.Touches.{Touch, Touching, Storing, Filling, Touches}

-- a pointer is moved on by z, and what is no pointer becomes a number
abbrev pub IsMoved : Kind → ℤ → Kind → Type 0
IsMoved (Kind.Stack k) z moved = moved ≡ Kind.Stack (k +ℤ z)
IsMoved (Kind.Record k) z moved = moved ≡ Kind.Record (k +ℤ z)
IsMoved k z moved = moved ≡ Kind.Number

-- mov64 copies the source's kind, add64 and sub64 of an immediate move a pointer, and all else makes a number
abbrev pub IsSetTo : Frame → Insn → Kind → Type 0
IsSetTo f (Insn.Alu AluOp.Mov Width.Bits64 dst (Operand.Reg src)) k = k ≡ kind_of f (number src)
IsSetTo f (Insn.Alu AluOp.Add Width.Bits64 dst (Operand.Imm imm)) k = IsMoved (kind_of f (number dst)) imm k
IsSetTo f (Insn.Alu AluOp.Sub Width.Bits64 dst (Operand.Imm imm)) k = IsMoved (kind_of f (number dst)) (neg_ℤ imm) k
IsSetTo f i k = k ≡ Kind.Number

-- a call of any number
abbrev pub IsCall : Insn → Type 0
IsCall (Insn.Call imm) = Unit {0}
IsCall i = ⊥

-- bytes are written, by a store or by a helper
abbrev pub IsWriting : Touching → Type 0
IsWriting how = (how ≡ Storing) ⊎ (how ≡ Filling)

-- the stack byte at place p, counted from the lowest, is written
abbrev pub WritesByte : JudgedOf → Frame → Insn → ℕ → Type 0
WritesByte j f i p =
    (t : Touch) × (k : ℤ) × Touches j i t × IsWriting t.how × (kind_of f t.base ≡ Kind.Stack k) ×
    (from_low (k +ℤ t.offset) ≤ p) × (p < from_low (k +ℤ t.offset) + t.bytes)

-- a call makes R0 a number and leaves R1 to R5 unset. All other registers keep their kinds, and written bytes stay written
pub record TellsAfter (j : JudgedOf) (f : Frame) (i : Insn) : Type 0 where
  pub set : (r : ℕ) → SetsRegister i r → IsSetTo f i (kind_of (after f i) r)
  pub result : IsCall i → kind_of (after f i) 0 ≡ Kind.Number
  pub unset : IsCall i → (r : ℕ) → 1 ≤ r → r ≤ 5 → kind_of (after f i) r ≡ Kind.Unset
  pub kept : (r : ℕ) → ¬ (SetsRegister i r) → (IsCall i → 6 ≤ r) → kind_of (after f i) r ≡ kind_of f r
  pub bytes : (p : ℕ) → IsTrue (has_byte (after f i) p) ↔ (IsTrue (has_byte f p) ⊎ WritesByte j f i p)

-- of a frame with a kind for each register
abbrev pub FramesAfterAreTold : Type 0
FramesAfterAreTold =
    (j : JudgedOf) (n : ℕ) (f : Frame) (i : Insn) → length f.kinds ≡ 11 → insn_rules j n f i ≡ [] → TellsAfter j f i
