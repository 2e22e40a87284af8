-- Which bytes of memory an instruction touches: from which register on, how far, how many, and whether they are read or written.
-- They define the rules of 25 to 29.
use Rattle.std.specs.Prelude.{◌≡◌, ◌⊎◌, ℕ, ◌+◌, ◌<◌, ℤ, pos, neg_ℤ, ◌+ℤ◌, ◌≤ℤ◌, false, IsSomeAnd}
use Rattle.law_programs.specs.Words.{Insn, Size, number, JudgedOf, Helper, Read, Write, declared_helper, Frame, has_byte, from_low}

-- how many bytes a load or a store moves
abbrev pub size_bytes : Size → ℕ
size_bytes Size.B = 1
size_bytes Size.H = 2
size_bytes Size.W = 4
size_bytes Size.Dw = 8

-- an instruction loads or stores bytes, and a helper takes a value's bytes or fills them
pub data Touching : Type 0 where
  Loading : Touching
  Storing : Touching
  Taking : Touching
  Filling : Touching

-- so many bytes from this distance on from where the register of a number points
pub record Touch : Type 0 where
  pub how : Touching
  pub base : ℕ
  pub offset : ℤ
  pub bytes : ℕ

-- so many bytes, this far from where a register points
abbrev pub touch : Touching → ℕ → ℤ → ℕ → Touch
touch how base offset bytes = record { how = how; base = base; offset = offset; bytes = bytes }

-- the 32 bytes at R3: reading fills them, and writing takes them
abbrev pub HelperTouches : Helper → Touch → Type 0
HelperTouches Read t = t ≡ touch Filling 3 (pos 0) 32
HelperTouches Write t = t ≡ touch Taking 3 (pos 0) 32
HelperTouches h t = ⊥

-- a load, a store, or a call of a declared helper
abbrev pub Touches : JudgedOf → Insn → Touch → Type 0
Touches j (Insn.Load z x dst src offset) t = t ≡ touch Loading (number src) offset (size_bytes z)
Touches j (Insn.StoreImm z dst offset imm) t = t ≡ touch Storing (number dst) offset (size_bytes z)
Touches j (Insn.Store z dst src offset) t = t ≡ touch Storing (number dst) offset (size_bytes z)
Touches j (Insn.Call imm) t = IsSomeAnd (declared_helper j.helpers imm) (λ h. HelperTouches h t)
Touches j i t = ⊥

-- the bytes are read, by a load or by a helper
abbrev pub IsReading : Touching → Type 0
IsReading how = (how ≡ Loading) ⊎ (how ≡ Taking)

-- a load or a store, and no helper
abbrev pub IsOfInstruction : Touching → Type 0
IsOfInstruction how = (how ≡ Loading) ⊎ (how ≡ Storing)

-- n bytes from z on, counted from the stack's end, are all among the 512 before it
abbrev pub LieInStack : ℤ → ℕ → Type 0
LieInStack z n = (neg_ℤ (pos 512) ≤ℤ z) × ((z +ℤ pos n) ≤ℤ pos 0)

-- n bytes from z on, counted from the record's first, are all among those of a record of this size
abbrev pub LieInRecord : ℕ → ℤ → ℕ → Type 0
LieInRecord size z n = (pos 0 ≤ℤ z) × ((z +ℤ pos n) ≤ℤ pos size)

-- one of n stack bytes from z on isn't written
abbrev pub SomeUnwritten : Frame → ℤ → ℕ → Type 0
SomeUnwritten f z n = (k : ℕ) × (k < n) × (has_byte f (from_low z + k) ≡ false)
