-- Each code that the rules of an instruction list is of a rule that it breaks.
use Rattle.std.proofs.Common.{arith, ◌≡◌, ◌≢◌, ℕ, ◌+◌, Bool, true, false, not, ◌&&◌, ◌⊎◌, inl, inr, ℤ, pos, negsuc, ◌+ℤ◌, [], ◌∷◌, Option, Some, None, nat_eq, refl, sym, ap, subst, ◌∙◌, if◌then◌else◌, nat_le, is_none, All, IsSomeAnd}
use Rattle.std.proofs.Math.IntN.{+ℤ_idr}
use Rattle.std.proofs.lemmas.List.Elements.{All-nil, All-append}
use Rattle.std.proofs.lemmas.Bool.Decides.{Decides-eqb, Decides-not, Decides-or, not_from_Decides}
use Rattle.law_programs.specs.Words.{Insn, AluOp, Width, Operand, Reg, number, Helper, Read, Write, Delete, Start, declared_helper, JudgedOf, slots, insn_at, Kind, Frame, kind_of, is_unset, is_pointer, in_stack, RuleCode, when, unset, stack_reads, stack_writes, filled_bytes, taken_bytes, is_cell, is_place, call_rules, at, sets, reads_operand, on_pointer, falls, numeric_rules, alu_rules, loads, stores, jump_rules, insn_rules}
use Rattle.law_programs.specs.Operands.{IsPointer, IsCellArgument, IsPlaceArgument, IsOperand, ReadsRegister, SetsRegister, IsArithmetic, KeepsPointers}
use Rattle.law_programs.specs.Touches.{Touch, touch, size_bytes, Touches, Loading, Storing, Taking, Filling, HelperTouches, IsReading}
use Rattle.law_programs.specs.Targets.{jump_offset, next_slot}
use Rattle.law_programs.specs.Breaks.{IsWrong, Breaks}
use Rattle.law_programs.proofs.Told.{each_one, each_when}
use Rattle.law_programs.proofs.Tests.{Decides-unset, Decides-pointer, Decides-stack, Decides-none, bytes_are, some_unwritten, lt_from}
use Rattle.pb_base.proofs.Logic.{le_true as le_from}

some_and : {A : Type 0} (o : Option A) (x : A) (Q : A → Type 0) → o ≡ Some x → Q x → IsSomeAnd o Q
some_and o x Q e q = subst (λ p. IsSomeAnd p Q) (sym e) q

-- where the rules' test finds a pointer, one operand is it
pub one_is_pointer : (f : Frame) (d : Reg) (x : Operand) → on_pointer f d x ≡ true → (r : ℕ) × ((r ≡ number d) ⊎ IsOperand x r) × IsPointer (kind_of f r)
one_is_pointer f d (Operand.Imm k) e =
    let h = (Decides-or (is_pointer (at f d)) false (Decides-pointer (at f d)) ((λ (e : false ≡ true). let z : ⊥ = cc in z), (λ (z : ⊥). absurd z))).0 e in
    elim h as (λ _. (r : ℕ) × ((r ≡ number d) ⊎ IsOperand (Operand.Imm k) r) × IsPointer (kind_of f r)) [ inl p ↦ (number d, inl refl, p) | inr z ↦ absurd z ]
one_is_pointer f d (Operand.Reg s) e =
    let h = (Decides-or (is_pointer (at f d)) (is_pointer (at f s)) (Decides-pointer (at f d)) (Decides-pointer (at f s))).0 e in
    elim h as (λ _. (r : ℕ) × ((r ≡ number d) ⊎ IsOperand (Operand.Reg s) r) × IsPointer (kind_of f r)) [ inl p ↦ (number d, inl refl, p) | inr p ↦ (number s, inr refl, p) ]

module _ (j : JudgedOf) (n : ℕ) (f : Frame) (i : Insn) where
  abbrev Broken : RuleCode → Type 0
  Broken c = Breaks c j n f i

  -- ---- registers

  unset_breaks : (r : ℕ) → ReadsRegister j i r → All Broken (unset f r)
  unset_breaks r h = each_when Broken (is_unset (kind_of f r)) RuleCode.ReadsUnset (λ e. (r, h, (Decides-unset (kind_of f r)).0 e))

  operand_breaks : (x : Operand) → ((r : ℕ) → IsOperand x r → ReadsRegister j i r) → All Broken (reads_operand f x)
  operand_breaks x h = grind arith

  sets_breaks : (d : Reg) → (10 ≡ number d → SetsRegister i 10) → All Broken (sets d)
  sets_breaks d h = each_when Broken (nat_eq (number d) 10) RuleCode.WritesR10 (λ e. h (sym ((Decides-eqb (number d) 10).0 e)))

  falls_breaks : (m : ℕ) → next_slot n i ≡ Some m → All Broken (falls j.program.insns m)
  falls_breaks m h = each_when Broken (nat_eq m (slots j.program.insns)) RuleCode.FallsOff (λ e. h ∙ ap Some ((Decides-eqb m (slots j.program.insns)).0 e))

  numeric_breaks : (d : Reg) (x : Operand) → ((r : ℕ) → (r ≡ number d) ⊎ IsOperand x r → ReadsRegister j i r) → (10 ≡ number d → SetsRegister i 10) → IsArithmetic i → All Broken (numeric_rules f d x)
  numeric_breaks d x reading setting arithmetic =
      let a = unset_breaks (number d) (reading (number d) (inl refl)) in
      let b = operand_breaks x (λ r h. reading r (inr h)) in
      let s = sets_breaks d setting in
      let p = each_when Broken (on_pointer f d x) RuleCode.PointerArithmetic (λ e. let q = one_is_pointer f d x e in (arithmetic, (q.0, reading q.0 q.1, q.2))) in
      search (All-append, a, b, s, p)

  -- ---- memory

  stack_reads_breaks : (t : Touch) (k : ℤ) → Touches j i t → IsReading t.how → kind_of f t.base ≡ Kind.Stack k → All Broken (stack_reads f (k +ℤ t.offset) t.bytes)
  stack_reads_breaks t k h reading is = grind (arith, each_when, some_unwritten, each_one, not_from_Decides, t.offset, t.bytes)

  stack_writes_breaks : (t : Touch) (k : ℤ) → Touches j i t → kind_of f t.base ≡ Kind.Stack k → All Broken (stack_writes (k +ℤ t.offset) t.bytes)
  stack_writes_breaks t k h is = each_when Broken (not (in_stack (k +ℤ t.offset) t.bytes)) RuleCode.OutsideStack (λ e. (t, k, h, is, (Decides-not _ (Decides-stack (k +ℤ t.offset) t.bytes)).0 e))

  loads_breaks : (t : Touch) (k : Kind) → Touches j i t → t.how ≡ Loading → kind_of f t.base ≡ k → All Broken (loads j.record_size f k t.offset t.bytes)
  loads_breaks t k h how is = grind (arith, All-nil, each_one, stack_reads_breaks, each_when)

  stores_breaks : (t : Touch) (k : Kind) → Touches j i t → t.how ≡ Storing → kind_of f t.base ≡ k → All Broken (stores k t.offset t.bytes)
  stores_breaks t k h how is = grind (arith, All-nil, each_one, stack_writes_breaks)

  -- ---- jumps

  jump_breaks : (o : ℤ) → jump_offset i ≡ Some o → All Broken (jump_rules j.program.insns n o)
  jump_breaks (negsuc z) h = each_one Broken RuleCode.BackwardJump (some_and (jump_offset i) (negsuc z) _ h (z, refl))
  jump_breaks (pos z) h = by (nat_le (slots j.program.insns) (n + 1 + z)) refl
    where
      by : (b : Bool) → nat_le (slots j.program.insns) (n + 1 + z) ≡ b → All Broken (if b then RuleCode.JumpOutside ∷ [] else when (is_none (insn_at j.program.insns (n + 1 + z))) RuleCode.JumpIntoPair)
      by true e = each_one Broken RuleCode.JumpOutside (n + 1 + z, some_and (jump_offset i) (pos z) _ h (z, refl, refl), le_from _ _ e)
      by false e = each_when Broken (is_none (insn_at j.program.insns (n + 1 + z))) RuleCode.JumpIntoPair (λ u. (n + 1 + z, some_and (jump_offset i) (pos z) _ h (z, refl, refl), lt_from _ _ e, (Decides-none (insn_at j.program.insns (n + 1 + z))).0 u))

-- ---- arithmetic

-- an operation that takes numbers alone
computes : (j : JudgedOf) (n : ℕ) (f : Frame) (op : AluOp) (w : Width) (d : Reg) (x : Operand) → op ≢ AluOp.Mov → ¬ (KeepsPointers op w x) → All (λ c. Breaks c j n f (Insn.Alu op w d x)) (numeric_rules f d x)
computes j n f op w d x other none = numeric_breaks j n f (Insn.Alu op w d x) d x (λ r h. elim h as (λ _. ReadsRegister j (Insn.Alu op w d x) r) [ inl e ↦ inl (other, e) | inr e ↦ inr e ]) (λ e. e) none

-- so is each of a move, a sum or a difference
alu_breaks : (j : JudgedOf) (n : ℕ) (f : Frame) (op : AluOp) (w : Width) (d : Reg) (x : Operand) → All (λ c. Breaks c j n f (Insn.Alu op w d x)) (alu_rules f op w d x)
alu_breaks j n f AluOp.Mov Width.Bits64 d (Operand.Imm k) = sets_breaks j n f (Insn.Alu AluOp.Mov Width.Bits64 d (Operand.Imm k)) d (λ e. e)
alu_breaks j n f AluOp.Mov Width.Bits32 d (Operand.Imm k) = sets_breaks j n f (Insn.Alu AluOp.Mov Width.Bits32 d (Operand.Imm k)) d (λ e. e)
alu_breaks j n f AluOp.Mov Width.Bits64 d (Operand.Reg r) = grind arith
alu_breaks j n f AluOp.Mov Width.Bits32 d (Operand.Reg r) =
    let i = Insn.Alu AluOp.Mov Width.Bits32 d (Operand.Reg r) in
    let a = unset_breaks j n f i (number r) (inr refl) in
    let s = sets_breaks j n f i d (λ e. e) in
    let p = each_when (Broken j n f i) (is_pointer (at f r)) RuleCode.PointerArithmetic (λ e. ((λ h. h), (number r, inr refl, (Decides-pointer (at f r)).0 e))) in
    search (All-append, a, s, p)
alu_breaks j n f AluOp.Add Width.Bits64 d (Operand.Imm k) = grind arith
alu_breaks j n f AluOp.Sub Width.Bits64 d (Operand.Imm k) = grind arith
alu_breaks j n f AluOp.Add Width.Bits64 d (Operand.Reg r) = computes j n f AluOp.Add Width.Bits64 d (Operand.Reg r) (λ e. cc) (λ h. h)
alu_breaks j n f AluOp.Sub Width.Bits64 d (Operand.Reg r) = computes j n f AluOp.Sub Width.Bits64 d (Operand.Reg r) (λ e. cc) (λ h. h)
alu_breaks j n f op w d x = computes j n f op w d x (λ e. cc) (λ h. h)

-- ---- helpers

-- and so it is where the place of a value is no stack pointer
wrong_place : (f : Frame) (h : Helper) → IsCellArgument h 1 → IsCellArgument h 2 → IsPlaceArgument h 3 → not (is_cell f && is_place (kind_of f 3)) ≡ true → (r : ℕ) × IsWrong f h r
wrong_place f h one two three = grind arith

module _ (j : JudgedOf) (n : ℕ) (f : Frame) (k : ℤ) where
  -- what holds of the declared helper
  of_declared : (h : Helper) (Q : Helper → Type 0) → declared_helper j.helpers k ≡ Some h → Q h → IsSomeAnd (declared_helper j.helpers k) Q
  of_declared h Q e q = some_and (declared_helper j.helpers k) h Q e q

  filled_breaks : (p : Kind) → declared_helper j.helpers k ≡ Some Read → kind_of f 3 ≡ p → All (λ c. Breaks c j n f (Insn.Call k)) (filled_bytes p)
  filled_breaks (Kind.Stack z) e is =
      let t = touch Filling 3 (pos 0) 32 in
      subst (λ y. All (λ c. Breaks c j n f (Insn.Call k)) (stack_writes y 32)) (+ℤ_idr z) (stack_writes_breaks j n f (Insn.Call k) t z (of_declared Read (λ h. HelperTouches h t) e refl) is)
  filled_breaks _ e is = All-nil (λ c. Breaks c j n f (Insn.Call k))

  taken_breaks : (p : Kind) → declared_helper j.helpers k ≡ Some Write → kind_of f 3 ≡ p → All (λ c. Breaks c j n f (Insn.Call k)) (taken_bytes f p)
  taken_breaks (Kind.Stack z) e is =
      let t = touch Taking 3 (pos 0) 32 in
      subst (λ y. All (λ c. Breaks c j n f (Insn.Call k)) (stack_reads f y 32)) (+ℤ_idr z) (stack_reads_breaks j n f (Insn.Call k) t z (of_declared Write (λ h. HelperTouches h t) e refl) (inr refl) is)
  taken_breaks _ e is = All-nil (λ c. Breaks c j n f (Insn.Call k))

  argument_breaks : (h : Helper) (r : ℕ) → declared_helper j.helpers k ≡ Some h → IsCellArgument h r ⊎ IsPlaceArgument h r → All (λ c. Breaks c j n f (Insn.Call k)) (unset f r)
  argument_breaks h r e a = unset_breaks j n f (Insn.Call k) r (of_declared h (λ h. IsCellArgument h r ⊎ IsPlaceArgument h r) e a)

  call_breaks : (o : Option Helper) → declared_helper j.helpers k ≡ o → All (λ c. Breaks c j n f (Insn.Call k)) (call_rules f o)
  call_breaks None e = each_one (λ c. Breaks c j n f (Insn.Call k)) RuleCode.NotDeclared e
  call_breaks (Some Read) e =
      let a = argument_breaks Read 1 e (inl (inl refl)) in
      let b = argument_breaks Read 2 e (inl (inr refl)) in
      let c = argument_breaks Read 3 e (inr refl) in
      let d = filled_breaks (kind_of f 3) e refl in
      let w = each_when (λ c. Breaks c j n f (Insn.Call k)) (not (is_cell f && is_place (kind_of f 3))) RuleCode.WrongArgument (λ u. of_declared Read (λ h. (r : ℕ) × IsWrong f h r) e (wrong_place f Read (inl refl) (inr refl) refl u)) in
      search (All-append, a, b, c, d, w)
  call_breaks (Some Write) e =
      let a = argument_breaks Write 1 e (inl (inl refl)) in
      let b = argument_breaks Write 2 e (inl (inr refl)) in
      let c = argument_breaks Write 3 e (inr refl) in
      let d = taken_breaks (kind_of f 3) e refl in
      let w = each_when (λ c. Breaks c j n f (Insn.Call k)) (not (is_cell f && is_place (kind_of f 3))) RuleCode.WrongArgument (λ u. of_declared Write (λ h. (r : ℕ) × IsWrong f h r) e (wrong_place f Write (inl refl) (inr refl) refl u)) in
      search (All-append, a, b, c, d, w)
  call_breaks (Some Delete) e = grind arith
  call_breaks (Some Start) e = All-nil (λ c. Breaks c j n f (Insn.Call k))

-- ---- all instructions

-- every instruction, by its kind
pub all_broken : (j : JudgedOf) (n : ℕ) (f : Frame) (i : Insn) → All (λ c. Breaks c j n f i) (insn_rules j n f i)
all_broken j n f (Insn.Alu op w d x) =
    let a = alu_breaks j n f op w d x in
    let b = falls_breaks j n f (Insn.Alu op w d x) (n + 1) refl in
    search (All-append, a, b)
all_broken j n f (Insn.MovSx w z d r) = grind (arith, unset_breaks, sets_breaks, each_when, falls_breaks, All-append)
all_broken j n f (Insn.Neg w d) = grind arith
all_broken j n f (Insn.LoadImm d v) = grind arith
all_broken j n f (Insn.Load z x d r o) =
    let i = Insn.Load z x d r o in
    let a = unset_breaks j n f i (number r) refl in
    let s = sets_breaks j n f i d (λ e. e) in
    let m = subst (λ b. All (Broken j n f i) (loads j.record_size f (at f r) o b)) (bytes_are z) (loads_breaks j n f i (touch Loading (number r) o (size_bytes z)) (at f r) refl refl refl) in
    let b = falls_breaks j n f i (n + 1) refl in
    search (All-append, a, s, m, b)
all_broken j n f (Insn.StoreImm z d o k) = grind (arith, unset_breaks, bytes_are, stores_breaks, falls_breaks, All-append)
all_broken j n f (Insn.Store z d r o) =
    let i = Insn.Store z d r o in
    let a = unset_breaks j n f i (number d) (inl refl) in
    let c = unset_breaks j n f i (number r) (inr refl) in
    let p = each_when (Broken j n f i) (is_pointer (at f r)) RuleCode.PointerStored (λ e. (number r, refl, (Decides-pointer (at f r)).0 e)) in
    let m = subst (λ b. All (Broken j n f i) (stores (at f d) o b)) (bytes_are z) (stores_breaks j n f i (touch Storing (number d) o (size_bytes z)) (at f d) refl refl refl) in
    let b = falls_breaks j n f i (n + 1) refl in
    search (All-append, a, c, p, m, b)
all_broken j n f (Insn.Jump o) = jump_breaks j n f (Insn.Jump o) o refl
all_broken j n f (Insn.JumpIf c w d x o) =
    let i = Insn.JumpIf c w d x o in
    let a = unset_breaks j n f i (number d) (inl refl) in
    let s = operand_breaks j n f i x (λ r h. inr h) in
    let g = jump_breaks j n f i o refl in
    let b = falls_breaks j n f i (n + 1) refl in
    let p = each_when (Broken j n f i) (on_pointer f d x) RuleCode.PointerCompared (λ e. let q = one_is_pointer f d x e in (tt, (q.0, q.1, q.2))) in
    search (All-append, a, s, g, b, p)
all_broken j n f (Insn.Call k) =
    let a = call_breaks j n f k (declared_helper j.helpers k) refl in
    let b = falls_breaks j n f (Insn.Call k) (n + 1) refl in
    search (All-append, a, b)
all_broken j n f Insn.Exit = grind arith
