-- The rules by code.
use Rattle.std.proofs.Common.{arith, ◌≡◌, ℕ, ◌+◌, inl, inr, pos, ◌+ℤ◌, Option, ap, subst, Contains, IsSomeAnd}
use Rattle.std.proofs.lemmas.List.Elements.{All-contains, Contains-append_left, Contains-append_right}
use Rattle.law_programs.specs.Words.{Insn, Operand, number, Helper, declared_helper, JudgedOf, Kind, Frame, kind_of, RuleCode, at, loads, stores, insn_rules}
use Rattle.law_programs.specs.Touches.{Touch, size_bytes, HelperTouches, Storing, IsReading, IsOfInstruction, LieInStack, LieInRecord, SomeUnwritten}
use Rattle.law_programs.specs.Breaks.{Breaks, RulesAreByCode}
use Rattle.law_programs.proofs.Told.{when_contains}
use Rattle.law_programs.proofs.Tests.{bytes_are}
use Rattle.law_programs.proofs.Broken.{all_broken}
use Rattle.law_programs.proofs.Listed.{unset_at, pointer_at, is_ten, unset_operand, finds_pointer, falls_at, numeric_sets, numeric_pointer, alu_operand, alu_sets, alu_pointer, loads_outside, loads_unwritten, loads_beyond, loads_number, stores_outside, stores_record, stores_number, call_unset, call_outside, call_unwritten, call_wrong, jumps_back, jumps_outside, jumps_into}

-- the code stands in what the instruction's rules list
abbrev Lists : RuleCode → Type 0
Lists c = (j : JudgedOf) (n : ℕ) (f : Frame) (i : Insn) → Breaks c j n f i → Contains (insn_rules j n f i) c

-- 21: whatever register an instruction reads
reads_unset : Lists RuleCode.ReadsUnset
reads_unset j n f (Insn.Alu op w d x) (r, inl h, e) = grind arith
reads_unset j n f (Insn.Alu op w d (Operand.Imm k)) (r, inr h, e) = absurd h
reads_unset j n f (Insn.Alu op w d (Operand.Reg s)) (r, inr h, e) =
    let a = alu_operand f op w d s (unset_at f r (number s) h e) in
    search (Contains-append_left, a)
reads_unset j n f (Insn.MovSx w z d r) b = let e = unset_at f b.0 (number r) b.1 b.2 in search (Contains-append_left, when_contains)
reads_unset j n f (Insn.Neg w d) b = grind arith
reads_unset j n f (Insn.LoadImm d v) b = absurd b.1
reads_unset j n f (Insn.Load z x d r o) b = let e = unset_at f b.0 (number r) b.1 b.2 in search (Contains-append_left, when_contains)
reads_unset j n f (Insn.StoreImm z d o k) b = let e = unset_at f b.0 (number d) b.1 b.2 in search (Contains-append_left, when_contains)
reads_unset j n f (Insn.Store z d s o) (r, inl h, e) = let u = unset_at f r (number d) h e in search (Contains-append_left, when_contains)
reads_unset j n f (Insn.Store z d s o) (r, inr h, e) = let u = unset_at f r (number s) h e in search (Contains-append_left, Contains-append_right, when_contains)
reads_unset j n f (Insn.Jump o) b = absurd b.1
reads_unset j n f (Insn.JumpIf c w d x o) (r, inl h, e) = let u = unset_at f r (number d) h e in search (Contains-append_left, when_contains)
reads_unset j n f (Insn.JumpIf c w d x o) (r, inr h, e) = let u = unset_operand f x r h e in search (Contains-append_left, Contains-append_right, u)
reads_unset j n f (Insn.Call k) b = let a = call_unset f (declared_helper j.helpers k) b.0 b.1 b.2 in search (Contains-append_left, a)
reads_unset j n f Insn.Exit b = let e = unset_at f b.0 0 b.1 b.2 in search (Contains-append_left, when_contains)

writes_r10 : Lists RuleCode.WritesR10
writes_r10 j n f (Insn.Alu op w d x) b = let a = alu_sets f op w d x (is_ten d b) in search (Contains-append_left, a)
writes_r10 j n f (Insn.MovSx w z d r) b = let e = is_ten d b in search (Contains-append_left, Contains-append_right, when_contains)
writes_r10 j n f (Insn.Neg w d) b = let a = numeric_sets f d (Operand.Imm (pos 0)) (is_ten d b) in search (Contains-append_left, a)
writes_r10 j n f (Insn.LoadImm d v) b = let e = is_ten d b in search (Contains-append_left, when_contains)
writes_r10 j n f (Insn.Load z x d r o) b = let e = is_ten d b in search (Contains-append_left, Contains-append_right, when_contains)
writes_r10 j n f _ b = absurd b

-- 23: of arithmetic alone, on either side
pointer_arithmetic : Lists RuleCode.PointerArithmetic
pointer_arithmetic j n f (Insn.Alu op w d x) b = let a = alu_pointer f op w d x b.1.0 b.0 b.1.1 b.1.2 in search (Contains-append_left, a)
pointer_arithmetic j n f (Insn.MovSx w z d r) b = let e = pointer_at f b.1.0 (number r) b.1.1 b.1.2 in search (Contains-append_left, Contains-append_right, when_contains)
pointer_arithmetic j n f (Insn.Neg w d) b =
    let a = numeric_pointer f d (Operand.Imm (pos 0)) (finds_pointer f d (Operand.Imm (pos 0)) b.1.0 (inl b.1.1) b.1.2) in
    search (Contains-append_left, a)
pointer_arithmetic j n f _ b = absurd b.0

pointer_stored : Lists RuleCode.PointerStored
pointer_stored j n f (Insn.Store z d s o) b = let e = pointer_at f b.0 (number s) b.1 b.2 in search (Contains-append_left, Contains-append_right, when_contains)
pointer_stored j n f _ b = absurd b.1

-- 25: of loads, stores and helpers alike
outside_stack : Lists RuleCode.OutsideStack
outside_stack j n f (Insn.Load z x d r o) (t, k, h, is, out) =
    let q = subst (λ (u : Touch). (kind_of f u.base ≡ Kind.Stack k) × ¬ (LieInStack (k +ℤ u.offset) u.bytes)) h (is, out) in
    let a = subst (λ b. Contains (loads j.record_size f (at f r) o b) RuleCode.OutsideStack) (bytes_are z) (loads_outside j.record_size f (at f r) o (size_bytes z) k q.0 q.1) in
    search (Contains-append_left, Contains-append_right, a)
outside_stack j n f (Insn.StoreImm z d o v) (t, k, h, is, out) = grind arith
outside_stack j n f (Insn.Store z d s o) (t, k, h, is, out) =
    let q = subst (λ (u : Touch). (kind_of f u.base ≡ Kind.Stack k) × ¬ (LieInStack (k +ℤ u.offset) u.bytes)) h (is, out) in
    let a = subst (λ b. Contains (stores (at f d) o b) RuleCode.OutsideStack) (bytes_are z) (stores_outside j.record_size f (at f d) o (size_bytes z) k q.0 q.1) in
    search (Contains-append_left, Contains-append_right, a)
outside_stack j n f (Insn.Call v) (t, k, h, is, out) = let a = call_outside f (declared_helper j.helpers v) t k h is out in search (Contains-append_left, a)
outside_stack j n f _ b = absurd b.2

-- a store reads no byte
not_storing : (t : Touch) → t.how ≡ Storing → ¬ (IsReading t.how)
not_storing t e w = grind arith

-- no helper loads or stores
not_loading : (o : Option Helper) (t : Touch) → IsSomeAnd o (λ h. HelperTouches h t) → ¬ (IsOfInstruction t.how)
not_loading o t h how = grind arith

-- 26: of loads, and of the value that a write takes
unwritten_byte : Lists RuleCode.UnwrittenByte
unwritten_byte j n f (Insn.Load z x d r o) (t, k, h, reading, is, lie, some) =
    let q = subst (λ (u : Touch). (kind_of f u.base ≡ Kind.Stack k) × LieInStack (k +ℤ u.offset) u.bytes × SomeUnwritten f (k +ℤ u.offset) u.bytes) h (is, lie, some) in
    let a = subst (λ b. Contains (loads j.record_size f (at f r) o b) RuleCode.UnwrittenByte) (bytes_are z) (loads_unwritten j.record_size f (at f r) o (size_bytes z) k q.0 q.1 q.2) in
    search (Contains-append_left, Contains-append_right, a)
unwritten_byte j n f (Insn.StoreImm z d o v) (t, k, h, reading, is, lie, some) = absurd (not_storing t (ap (λ (u : Touch). u.how) h) reading)
unwritten_byte j n f (Insn.Store z d s o) (t, k, h, reading, is, lie, some) = absurd (not_storing t (ap (λ (u : Touch). u.how) h) reading)
unwritten_byte j n f (Insn.Call v) (t, k, h, reading, is, lie, some) = let a = call_unwritten f (declared_helper j.helpers v) t k h reading is lie some in search (Contains-append_left, a)
unwritten_byte j n f _ b = absurd b.2

outside_record : Lists RuleCode.OutsideRecord
outside_record j n f (Insn.Load z x d r o) (t, k, h, how, is, out) =
    let q = subst (λ (u : Touch). (kind_of f u.base ≡ Kind.Record k) × ¬ (LieInRecord j.record_size (k +ℤ u.offset) u.bytes)) h (is, out) in
    let a = subst (λ b. Contains (loads j.record_size f (at f r) o b) RuleCode.OutsideRecord) (bytes_are z) (loads_beyond j.record_size f (at f r) o (size_bytes z) k q.0 q.1) in
    search (Contains-append_left, Contains-append_right, a)
outside_record j n f (Insn.StoreImm z d o v) (t, k, h, how, is, out) = let e = ap (λ (u : Touch). u.how) h in cc
outside_record j n f (Insn.Store z d s o) (t, k, h, how, is, out) = let e = ap (λ (u : Touch). u.how) h in cc
outside_record j n f (Insn.Call v) (t, k, h, how, is, out) = absurd (not_loading (declared_helper j.helpers v) t h (inl how))
outside_record j n f _ b = absurd b.2

writes_record : Lists RuleCode.WritesRecord
writes_record j n f (Insn.Load z x d r o) (t, k, h, how, is) = let e = ap (λ (u : Touch). u.how) h in cc
writes_record j n f (Insn.StoreImm z d o v) (t, k, h, how, is) = grind arith
writes_record j n f (Insn.Store z d s o) (t, k, h, how, is) =
    let a = subst (λ b. Contains (stores (at f d) o b) RuleCode.WritesRecord) (bytes_are z) (stores_record j.record_size f (at f d) o (size_bytes z) k (subst (λ (u : Touch). kind_of f u.base ≡ Kind.Record k) h is)) in
    search (Contains-append_left, Contains-append_right, a)
writes_record j n f (Insn.Call v) (t, k, h, how, is) = absurd (not_loading (declared_helper j.helpers v) t h (inr how))
writes_record j n f _ b = absurd b.2

through_number : Lists RuleCode.ThroughNumber
through_number j n f (Insn.Load z x d r o) (t, h, how, is) =
    let a = subst (λ b. Contains (loads j.record_size f (at f r) o b) RuleCode.ThroughNumber) (bytes_are z) (loads_number j.record_size f (at f r) o (size_bytes z) (subst (λ (u : Touch). kind_of f u.base ≡ Kind.Number) h is)) in
    search (Contains-append_left, Contains-append_right, a)
through_number j n f (Insn.StoreImm z d o v) (t, h, how, is) = grind arith
through_number j n f (Insn.Store z d s o) (t, h, how, is) =
    let a = subst (λ b. Contains (stores (at f d) o b) RuleCode.ThroughNumber) (bytes_are z) (stores_number j.record_size f (at f d) o (size_bytes z) (subst (λ (u : Touch). kind_of f u.base ≡ Kind.Number) h is)) in
    search (Contains-append_left, Contains-append_right, a)
through_number j n f (Insn.Call v) (t, h, how, is) = absurd (not_loading (declared_helper j.helpers v) t h how)
through_number j n f _ b = absurd b.1

not_declared : Lists RuleCode.NotDeclared
not_declared j n f x b = grind arith

-- 31: of a declared helper, for its row, column or place
wrong_argument : Lists RuleCode.WrongArgument
wrong_argument j n f (Insn.Call k) b = let a = call_wrong f (declared_helper j.helpers k) b in search (Contains-append_left, a)
wrong_argument j n f _ b = absurd b

backward_jump : Lists RuleCode.BackwardJump
backward_jump j n f (Insn.Jump o) b = jumps_back j.program.insns n o b.0 b.1
backward_jump j n f (Insn.JumpIf c w d x o) b = let a = jumps_back j.program.insns n o b.0 b.1 in search (Contains-append_left, Contains-append_right, a)
backward_jump j n f _ b = absurd b

jump_outside : Lists RuleCode.JumpOutside
jump_outside j n f (Insn.Jump o) (t, h, past) = jumps_outside j.program.insns n o t h.0 h.1 h.2 past
jump_outside j n f (Insn.JumpIf c w d x o) (t, h, past) = let a = jumps_outside j.program.insns n o t h.0 h.1 h.2 past in search (Contains-append_left, Contains-append_right, a)
jump_outside j n f _ b = absurd b.1

-- 34: the second slot of a pair has no instruction
jump_into_pair : Lists RuleCode.JumpIntoPair
jump_into_pair j n f (Insn.Jump o) (t, h, inside, none) = jumps_into j.program.insns n o t h.0 h.1 h.2 inside none
jump_into_pair j n f (Insn.JumpIf c w d x o) (t, h, inside, none) = let a = jumps_into j.program.insns n o t h.0 h.1 h.2 inside none in search (Contains-append_left, Contains-append_right, a)
jump_into_pair j n f _ b = absurd b.1

falls_off : Lists RuleCode.FallsOff
falls_off j n f (Insn.LoadImm d v) b = let a = falls_at j.program.insns (n + 2) b in search (Contains-append_right, a)
falls_off j n f (Insn.Jump o) b = cc
falls_off j n f (Insn.JumpIf c w d x o) b = let a = falls_at j.program.insns (n + 1) b in search (Contains-append_left, Contains-append_right, a)
falls_off j n f Insn.Exit b = cc
falls_off j n f _ b = let a = falls_at j.program.insns (n + 1) b in search (Contains-append_right, a)

exits_with_pointer : Lists RuleCode.ExitsWithPointer
exits_with_pointer j n f x b = grind arith

pointer_compared : Lists RuleCode.PointerCompared
pointer_compared j n f (Insn.JumpIf c w d x o) b = let e = finds_pointer f d x b.1.0 b.1.1 b.1.2 in search (Contains-append_left, Contains-append_right, when_contains)
pointer_compared j n f _ b = absurd b.0

-- each code, by its own lemma above
listed : (c : RuleCode) → Lists c
listed RuleCode.ReadsUnset = reads_unset
listed RuleCode.WritesR10 = writes_r10
listed RuleCode.PointerArithmetic = pointer_arithmetic
listed RuleCode.PointerStored = pointer_stored
listed RuleCode.OutsideStack = outside_stack
listed RuleCode.UnwrittenByte = unwritten_byte
listed RuleCode.OutsideRecord = outside_record
listed RuleCode.WritesRecord = writes_record
listed RuleCode.ThroughNumber = through_number
listed RuleCode.NotDeclared = not_declared
listed RuleCode.WrongArgument = wrong_argument
listed RuleCode.BackwardJump = backward_jump
listed RuleCode.JumpOutside = jump_outside
listed RuleCode.JumpIntoPair = jump_into_pair
listed RuleCode.Unreachable = λ j n f i b. absurd b
listed RuleCode.FallsOff = falls_off
listed RuleCode.ExitsWithPointer = exits_with_pointer
listed RuleCode.PointerCompared = pointer_compared

-- and no code is listed but those: by the lemmas of Broken
pub rules_by_code : RulesAreByCode
rules_by_code c j n f i = ((λ h. All-contains (λ c. Breaks c j n f i) (insn_rules j n f i) c (all_broken j n f i) h), listed c j n f i)
