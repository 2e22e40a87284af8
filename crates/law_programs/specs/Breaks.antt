-- The verifier's rules by code: when the instruction at a slot breaks each, with a frame before it. The verifier lists
-- them by instruction, so that a code that is left out of one list shows here.
use Rattle.std.specs.Prelude.{◌≡◌, ◌≢◌, ◌⊎◌, ◌↔◌, ℕ, ◌<◌, ◌≤◌, ℤ, ◌+ℤ◌, Some, None, Contains, IsSomeAnd}
use Rattle.law_programs.specs.Words.{Insn, Helper, declared_helper, JudgedOf, slots, insn_at, Kind, Frame, kind_of, RuleCode, insn_rules}
use Rattle.law_programs.specs.Operands.{IsPointer, IsStackPointer, IsCellArgument, IsPlaceArgument, ReadsRegister, SetsRegister, StoresRegister, IsArithmetic, IsComparison, IsExit}
use Rattle.law_programs.specs.Touches.{Touch, Touches, Loading, Storing, IsReading, IsOfInstruction, LieInStack, LieInRecord, SomeUnwritten}
use Rattle.law_programs.specs.Targets.{JumpsBack, JumpsTo, next_slot}

-- it reads a register that points to stack or record
abbrev pub ReadsPointer : JudgedOf → Frame → Insn → Type 0
ReadsPointer j f i = (r : ℕ) × ReadsRegister j i r × IsPointer (kind_of f r)

-- a call of a number that is no declared helper's
abbrev pub CallsUndeclared : JudgedOf → Insn → Type 0
CallsUndeclared j (Insn.Call imm) = declared_helper j.helpers imm ≡ None
CallsUndeclared j i = ⊥

-- row and column have to be numbers, and a value's place a pointer to the stack
abbrev pub IsWrong : Frame → Helper → ℕ → Type 0
IsWrong f h r = (IsCellArgument h r × (kind_of f r ≢ Kind.Number)) ⊎ (IsPlaceArgument h r × ¬ (IsStackPointer (kind_of f r)))

-- a call of a declared helper, of which an argument isn't what it takes
abbrev pub HasWrongArgument : JudgedOf → Frame → Insn → Type 0
HasWrongArgument j f (Insn.Call imm) = IsSomeAnd (declared_helper j.helpers imm) (λ h. (r : ℕ) × IsWrong f h r)
HasWrongArgument j f i = ⊥

-- at slot n, with frame f before it. A pointer to the stack is k bytes from its end, and one to the record from its first byte
abbrev pub Breaks : RuleCode → JudgedOf → ℕ → Frame → Insn → Type 0
Breaks RuleCode.ReadsUnset j n f i = (r : ℕ) × ReadsRegister j i r × (kind_of f r ≡ Kind.Unset)
Breaks RuleCode.WritesR10 j n f i = SetsRegister i 10
Breaks RuleCode.PointerArithmetic j n f i = IsArithmetic i × ReadsPointer j f i
Breaks RuleCode.PointerStored j n f i = (r : ℕ) × StoresRegister i r × IsPointer (kind_of f r)
Breaks RuleCode.OutsideStack j n f i =
    (t : Touch) × (k : ℤ) × Touches j i t × (kind_of f t.base ≡ Kind.Stack k) × ¬ (LieInStack (k +ℤ t.offset) t.bytes)
Breaks RuleCode.UnwrittenByte j n f i =
    (t : Touch) × (k : ℤ) × Touches j i t × IsReading t.how × (kind_of f t.base ≡ Kind.Stack k) ×
    LieInStack (k +ℤ t.offset) t.bytes × SomeUnwritten f (k +ℤ t.offset) t.bytes
Breaks RuleCode.OutsideRecord j n f i =
    (t : Touch) × (k : ℤ) × Touches j i t × (t.how ≡ Loading) × (kind_of f t.base ≡ Kind.Record k) ×
    ¬ (LieInRecord j.record_size (k +ℤ t.offset) t.bytes)
Breaks RuleCode.WritesRecord j n f i = (t : Touch) × (k : ℤ) × Touches j i t × (t.how ≡ Storing) × (kind_of f t.base ≡ Kind.Record k)
Breaks RuleCode.ThroughNumber j n f i = (t : Touch) × Touches j i t × IsOfInstruction t.how × (kind_of f t.base ≡ Kind.Number)
Breaks RuleCode.NotDeclared j n f i = CallsUndeclared j i
Breaks RuleCode.WrongArgument j n f i = HasWrongArgument j f i
Breaks RuleCode.BackwardJump j n f i = JumpsBack i
Breaks RuleCode.JumpOutside j n f i = (t : ℕ) × JumpsTo n i t × (slots j.program.insns ≤ t)
Breaks RuleCode.JumpIntoPair j n f i =
    (t : ℕ) × JumpsTo n i t × (t < slots j.program.insns) × (insn_at j.program.insns t ≡ None)
Breaks RuleCode.Unreachable j n f i = ⊥
Breaks RuleCode.FallsOff j n f i = next_slot n i ≡ Some (slots j.program.insns)
Breaks RuleCode.ExitsWithPointer j n f i = IsExit i × ReadsPointer j f i
Breaks RuleCode.PointerCompared j n f i = IsComparison i × ReadsPointer j f i

-- at any slot, with any frame: an instruction's list has exactly the codes that it breaks
abbrev pub RulesAreByCode : Type 0
RulesAreByCode =
    (c : RuleCode) (j : JudgedOf) (n : ℕ) (f : Frame) (i : Insn) → Contains (insn_rules j n f i) c ↔ Breaks c j n f i
