-- Which registers an instruction reads, sets and stores, and of which sort it is: the words in which docs/CODES.md says
-- what breaks a rule.
use Rattle.std.specs.Prelude.{◌≡◌, ◌≢◌, ◌⊎◌, ℕ, ℤ, IsSomeAnd}
use Rattle.law_programs.specs.Words.{Insn, AluOp, Width, Operand, number, JudgedOf, Helper, Read, Write, Start, declared_helper, Kind}

-- ---- pointers

-- at some distance from the stack's end
abbrev pub IsStackPointer : Kind → Type 0
IsStackPointer k = (z : ℤ) × (k ≡ Kind.Stack z)

-- at some distance from the record's first byte
abbrev pub IsRecordPointer : Kind → Type 0
IsRecordPointer k = (z : ℤ) × (k ≡ Kind.Record z)

-- of either region
abbrev pub IsPointer : Kind → Type 0
IsPointer k = IsStackPointer k ⊎ IsRecordPointer k

-- ---- arguments of helpers

-- reading, writing and deleting take row and column in R1 and R2
abbrev pub IsCellArgument : Helper → ℕ → Type 0
IsCellArgument Start r = ⊥
IsCellArgument h r = (r ≡ 1) ⊎ (r ≡ 2)

-- reading and writing take in R3 where the value's bytes are
abbrev pub IsPlaceArgument : Helper → ℕ → Type 0
IsPlaceArgument Read r = r ≡ 3
IsPlaceArgument Write r = r ≡ 3
IsPlaceArgument h r = ⊥

-- ---- registers by instruction

-- an operand that is an immediate is no register
abbrev pub IsOperand : Operand → ℕ → Type 0
IsOperand (Operand.Imm imm) r = ⊥
IsOperand (Operand.Reg src) r = r ≡ number src

-- moves don't read their destination, and all other arithmetic does. A call reads the arguments of a declared helper, and
-- exit the result in R0
abbrev pub ReadsRegister : JudgedOf → Insn → ℕ → Type 0
ReadsRegister j (Insn.Alu op w dst src) r = ((op ≢ AluOp.Mov) × (r ≡ number dst)) ⊎ IsOperand src r
ReadsRegister j (Insn.MovSx w z dst src) r = r ≡ number src
ReadsRegister j (Insn.Neg w dst) r = r ≡ number dst
ReadsRegister j (Insn.LoadImm dst imm) r = ⊥
ReadsRegister j (Insn.Load z x dst src offset) r = r ≡ number src
ReadsRegister j (Insn.StoreImm z dst offset imm) r = r ≡ number dst
ReadsRegister j (Insn.Store z dst src offset) r = (r ≡ number dst) ⊎ (r ≡ number src)
ReadsRegister j (Insn.Jump offset) r = ⊥
ReadsRegister j (Insn.JumpIf c w dst src offset) r = (r ≡ number dst) ⊎ IsOperand src r
ReadsRegister j (Insn.Call imm) r = IsSomeAnd (declared_helper j.helpers imm) (λ h. IsCellArgument h r ⊎ IsPlaceArgument h r)
ReadsRegister j Insn.Exit r = r ≡ 0

-- the destination of arithmetic and of moves, of the 64-bit immediate and of a load
abbrev pub SetsRegister : Insn → ℕ → Type 0
SetsRegister (Insn.Alu op w dst src) r = r ≡ number dst
SetsRegister (Insn.MovSx w z dst src) r = r ≡ number dst
SetsRegister (Insn.Neg w dst) r = r ≡ number dst
SetsRegister (Insn.LoadImm dst imm) r = r ≡ number dst
SetsRegister (Insn.Load z x dst src offset) r = r ≡ number dst
SetsRegister i r = ⊥

-- the source of a store
abbrev pub StoresRegister : Insn → ℕ → Type 0
StoresRegister (Insn.Store z dst src offset) r = r ≡ number src
StoresRegister i r = ⊥

-- ---- sorts of instructions

-- mov64 copies a pointer, and add64 and sub64 of an immediate move one; other operations don't
abbrev pub KeepsPointers : AluOp → Width → Operand → Type 0
KeepsPointers AluOp.Mov Width.Bits64 src = Unit {0}
KeepsPointers AluOp.Add Width.Bits64 (Operand.Imm imm) = Unit {0}
KeepsPointers AluOp.Sub Width.Bits64 (Operand.Imm imm) = Unit {0}
KeepsPointers op w src = ⊥

-- arithmetic on numbers alone, and with it a move that extends the sign
abbrev pub IsArithmetic : Insn → Type 0
IsArithmetic (Insn.Alu op w dst src) = ¬ (KeepsPointers op w src)
IsArithmetic (Insn.MovSx w z dst src) = Unit {0}
IsArithmetic (Insn.Neg w dst) = Unit {0}
IsArithmetic i = ⊥

-- a conditional jump
abbrev pub IsComparison : Insn → Type 0
IsComparison (Insn.JumpIf c w dst src offset) = Unit {0}
IsComparison i = ⊥

-- the end of a run, with register 0 as its result
abbrev pub IsExit : Insn → Type 0
IsExit Insn.Exit = Unit {0}
IsExit i = ⊥
