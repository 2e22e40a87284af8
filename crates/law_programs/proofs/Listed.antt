-- Each rule that an instruction breaks is among those that are listed.
use Rattle.std.proofs.Common.{◌≡◌, ◌≢◌, ℕ, ◌+◌, ◌<◌, ◌≤◌, true, not, ◌&&◌, ◌⊎◌, inl, inr, ℤ, pos, negsuc, ◌+ℤ◌, List, Option, Some, None, nat_eq, refl, sym, subst, arith, Decides, Contains, IsSomeAnd}
use Rattle.std.proofs.Math.IntN.{+ℤ_idr}
use Rattle.std.proofs.lemmas.List.Elements.{Contains-append_left, Contains-append_right}
use Rattle.std.proofs.lemmas.Bool.Decides.{Decides-eqb, Decides-not, Decides-and}
use Rattle.law_programs.specs.Words.{Insn, AluOp, Width, Operand, Reg, number, Helper, Read, Write, Delete, Start, slots, insn_at, Kind, Frame, kind_of, is_unset, is_pointer, in_stack, in_record, RuleCode, stack_reads, stack_writes, filled_bytes, taken_bytes, is_cell, is_place, call_rules, at, reads_operand, on_pointer, falls, numeric_rules, alu_rules, loads, stores, jump_rules}
use Rattle.law_programs.specs.Operands.{IsPointer, IsStackPointer, IsCellArgument, IsPlaceArgument, IsOperand, KeepsPointers}
use Rattle.law_programs.specs.Touches.{Touch, HelperTouches, IsReading, LieInStack, LieInRecord, SomeUnwritten}
use Rattle.law_programs.specs.Breaks.{IsWrong}
use Rattle.law_programs.proofs.Told.{when_contains, stands_one}
use Rattle.law_programs.proofs.Tests.{Decides-unset, Decides-number, Decides-pointer, Decides-stack, Decides-record, not_written}

-- ---- registers

pub unset_at : (f : Frame) (r s : ℕ) → r ≡ s → kind_of f r ≡ Kind.Unset → is_unset (kind_of f s) ≡ true
unset_at f r s e h = (Decides-unset (kind_of f s)).1 (subst (λ q. kind_of f q ≡ Kind.Unset) e h)

pub pointer_at : (f : Frame) (r s : ℕ) → r ≡ s → IsPointer (kind_of f r) → is_pointer (kind_of f s) ≡ true
pointer_at f r s e h = (Decides-pointer (kind_of f s)).1 (subst (λ q. IsPointer (kind_of f q)) e h)

pub is_ten : (d : Reg) → 10 ≡ number d → nat_eq (number d) 10 ≡ true
is_ten d e = (Decides-eqb (number d) 10).1 (sym e)

-- an unset operand is listed
pub unset_operand : (f : Frame) (x : Operand) (r : ℕ) → IsOperand x r → kind_of f r ≡ Kind.Unset → Contains (reads_operand f x) RuleCode.ReadsUnset
unset_operand f x r h e = grind arith

-- an operand that is a pointer is found by the rules' test
pub finds_pointer : (f : Frame) (d : Reg) (x : Operand) (r : ℕ) → (r ≡ number d) ⊎ IsOperand x r → IsPointer (kind_of f r) → on_pointer f d x ≡ true
finds_pointer f d x r w h = grind arith

pub falls_at : (p : List Insn) (m : ℕ) → Some m ≡ Some (slots p) → Contains (falls p m) RuleCode.FallsOff
falls_at p m h = let e : m ≡ slots p = cc in when_contains (nat_eq m (slots p)) RuleCode.FallsOff ((Decides-eqb m (slots p)).1 e)

-- ---- arithmetic

numeric_operand : (f : Frame) (d : Reg) (x : Operand) → Contains (reads_operand f x) RuleCode.ReadsUnset → Contains (numeric_rules f d x) RuleCode.ReadsUnset
numeric_operand f d x h = search (Contains-append_left, Contains-append_right, h)

pub numeric_sets : (f : Frame) (d : Reg) (x : Operand) → nat_eq (number d) 10 ≡ true → Contains (numeric_rules f d x) RuleCode.WritesR10
numeric_sets f d x e = search (Contains-append_left, Contains-append_right, when_contains)

-- a pointer on either side of an operation on numbers is listed
pub numeric_pointer : (f : Frame) (d : Reg) (x : Operand) → on_pointer f d x ≡ true → Contains (numeric_rules f d x) RuleCode.PointerArithmetic
numeric_pointer f d x e = search (Contains-append_left, Contains-append_right, when_contains)

pub alu_operand : (f : Frame) (op : AluOp) (w : Width) (d : Reg) (s : Reg) → is_unset (at f s) ≡ true → Contains (alu_rules f op w d (Operand.Reg s)) RuleCode.ReadsUnset
alu_operand f AluOp.Mov Width.Bits64 d s e = search (Contains-append_left, Contains-append_right, when_contains)
alu_operand f AluOp.Mov Width.Bits32 d s e = search (Contains-append_left, Contains-append_right, when_contains)
alu_operand f AluOp.Add Width.Bits64 d s e = numeric_operand f d (Operand.Reg s) (when_contains (is_unset (at f s)) RuleCode.ReadsUnset e)
alu_operand f AluOp.Sub Width.Bits64 d s e = numeric_operand f d (Operand.Reg s) (when_contains (is_unset (at f s)) RuleCode.ReadsUnset e)
alu_operand f op w d s e = numeric_operand f d (Operand.Reg s) (when_contains (is_unset (at f s)) RuleCode.ReadsUnset e)

pub alu_sets : (f : Frame) (op : AluOp) (w : Width) (d : Reg) (x : Operand) → nat_eq (number d) 10 ≡ true → Contains (alu_rules f op w d x) RuleCode.WritesR10
alu_sets f AluOp.Mov Width.Bits64 d (Operand.Imm k) e = when_contains (nat_eq (number d) 10) RuleCode.WritesR10 e
alu_sets f AluOp.Mov Width.Bits32 d (Operand.Imm k) e = when_contains (nat_eq (number d) 10) RuleCode.WritesR10 e
alu_sets f AluOp.Mov Width.Bits64 d (Operand.Reg s) e = search (Contains-append_left, Contains-append_right, when_contains)
alu_sets f AluOp.Mov Width.Bits32 d (Operand.Reg s) e = search (Contains-append_left, Contains-append_right, when_contains)
alu_sets f AluOp.Add Width.Bits64 d (Operand.Imm k) e = search (Contains-append_left, Contains-append_right, when_contains)
alu_sets f AluOp.Sub Width.Bits64 d (Operand.Imm k) e = search (Contains-append_left, Contains-append_right, when_contains)
alu_sets f AluOp.Add Width.Bits64 d (Operand.Reg s) e = numeric_sets f d (Operand.Reg s) e
alu_sets f AluOp.Sub Width.Bits64 d (Operand.Reg s) e = numeric_sets f d (Operand.Reg s) e
alu_sets f op w d x e = numeric_sets f d x e

-- the operands of an operation that takes numbers alone
alu_operands : (f : Frame) (op : AluOp) (d : Reg) (x : Operand) (r : ℕ) → ((op ≢ AluOp.Mov) × (r ≡ number d)) ⊎ IsOperand x r → IsPointer (kind_of f r) → on_pointer f d x ≡ true
alu_operands f op d x r w p = grind arith

pub alu_pointer : (f : Frame) (op : AluOp) (w : Width) (d : Reg) (x : Operand) (r : ℕ) → ¬ (KeepsPointers op w x) → ((op ≢ AluOp.Mov) × (r ≡ number d)) ⊎ IsOperand x r → IsPointer (kind_of f r) → Contains (alu_rules f op w d x) RuleCode.PointerArithmetic
alu_pointer f AluOp.Mov Width.Bits64 d x r none h p = absurd (none tt)
alu_pointer f AluOp.Mov Width.Bits32 d (Operand.Imm k) r none (inl h) p = absurd (h.0 refl)
alu_pointer f AluOp.Mov Width.Bits32 d (Operand.Imm k) r none (inr h) p = absurd h
alu_pointer f AluOp.Mov Width.Bits32 d (Operand.Reg s) r none (inl h) p = absurd (h.0 refl)
alu_pointer f AluOp.Mov Width.Bits32 d (Operand.Reg s) r none (inr h) p = let e = pointer_at f r (number s) h p in search (Contains-append_left, Contains-append_right, when_contains)
alu_pointer f AluOp.Add Width.Bits64 d (Operand.Imm k) r none h p = absurd (none tt)
alu_pointer f AluOp.Sub Width.Bits64 d (Operand.Imm k) r none h p = absurd (none tt)
alu_pointer f AluOp.Add Width.Bits64 d (Operand.Reg s) r none h p = numeric_pointer f d (Operand.Reg s) (alu_operands f AluOp.Add d (Operand.Reg s) r h p)
alu_pointer f AluOp.Sub Width.Bits64 d (Operand.Reg s) r none h p = numeric_pointer f d (Operand.Reg s) (alu_operands f AluOp.Sub d (Operand.Reg s) r h p)
alu_pointer f op w d x r none h p = numeric_pointer f d x (alu_operands f op d x r h p)

-- ---- memory

-- bytes that don't lie in the stack are listed as 25, written or not
reads_outside : (f : Frame) (z : ℤ) (n : ℕ) → ¬ (LieInStack z n) → Contains (stack_reads f z n) RuleCode.OutsideStack
reads_outside f z n out = grind arith

-- and those that lie there, of which one isn't written, as 26
reads_unwritten : (f : Frame) (z : ℤ) (n : ℕ) → LieInStack z n → SomeUnwritten f z n → Contains (stack_reads f z n) RuleCode.UnwrittenByte
reads_unwritten f z n lie some = grind (arith, when_contains, not_written)

writes_outside : (z : ℤ) (n : ℕ) → ¬ (LieInStack z n) → Contains (stack_writes z n) RuleCode.OutsideStack
writes_outside z n out = when_contains (not (in_stack z n)) RuleCode.OutsideStack ((Decides-not (in_stack z n) (Decides-stack z n)).1 out)

module _ (size : ℕ) (f : Frame) (k : Kind) (o : ℤ) (n : ℕ) where
  pub loads_outside : (z : ℤ) → k ≡ Kind.Stack z → ¬ (LieInStack (z +ℤ o) n) → Contains (loads size f k o n) RuleCode.OutsideStack
  loads_outside z e out = subst (λ k. Contains (loads size f k o n) RuleCode.OutsideStack) (sym e) (reads_outside f (z +ℤ o) n out)

  pub loads_unwritten : (z : ℤ) → k ≡ Kind.Stack z → LieInStack (z +ℤ o) n → SomeUnwritten f (z +ℤ o) n → Contains (loads size f k o n) RuleCode.UnwrittenByte
  loads_unwritten z e lie some = subst (λ k. Contains (loads size f k o n) RuleCode.UnwrittenByte) (sym e) (reads_unwritten f (z +ℤ o) n lie some)

  pub loads_beyond : (z : ℤ) → k ≡ Kind.Record z → ¬ (LieInRecord size (z +ℤ o) n) → Contains (loads size f k o n) RuleCode.OutsideRecord
  loads_beyond z e out = subst (λ k. Contains (loads size f k o n) RuleCode.OutsideRecord) (sym e) (when_contains (not (in_record size (z +ℤ o) n)) RuleCode.OutsideRecord ((Decides-not (in_record size (z +ℤ o) n) (Decides-record size (z +ℤ o) n)).1 out))

  pub loads_number : k ≡ Kind.Number → Contains (loads size f k o n) RuleCode.ThroughNumber
  loads_number e = subst (λ k. Contains (loads size f k o n) RuleCode.ThroughNumber) (sym e) (stands_one RuleCode.ThroughNumber)

  pub stores_outside : (z : ℤ) → k ≡ Kind.Stack z → ¬ (LieInStack (z +ℤ o) n) → Contains (stores k o n) RuleCode.OutsideStack
  stores_outside z e out = subst (λ k. Contains (stores k o n) RuleCode.OutsideStack) (sym e) (writes_outside (z +ℤ o) n out)

  pub stores_record : (z : ℤ) → k ≡ Kind.Record z → Contains (stores k o n) RuleCode.WritesRecord
  stores_record z e = subst (λ k. Contains (stores k o n) RuleCode.WritesRecord) (sym e) (stands_one RuleCode.WritesRecord)

  pub stores_number : k ≡ Kind.Number → Contains (stores k o n) RuleCode.ThroughNumber
  stores_number e = subst (λ k. Contains (stores k o n) RuleCode.ThroughNumber) (sym e) (stands_one RuleCode.ThroughNumber)

-- ---- helpers

-- an unset argument is listed, of each helper that takes it
pub call_unset : (f : Frame) (o : Option Helper) (r : ℕ) → IsSomeAnd o (λ h. IsCellArgument h r ⊎ IsPlaceArgument h r) → kind_of f r ≡ Kind.Unset → Contains (call_rules f o) RuleCode.ReadsUnset
call_unset f o r h e = grind arith

pub call_outside : (f : Frame) (o : Option Helper) (t : Touch) (k : ℤ) → IsSomeAnd o (λ h. HelperTouches h t) → kind_of f t.base ≡ Kind.Stack k → ¬ (LieInStack (k +ℤ t.offset) t.bytes) → Contains (call_rules f o) RuleCode.OutsideStack
call_outside f None t k h is out = absurd h
call_outside f (Some Read) t k h is out =
    let q = subst (λ (u : Touch). (kind_of f u.base ≡ Kind.Stack k) × ¬ (LieInStack (k +ℤ u.offset) u.bytes)) h (is, out) in
    let here : Contains (filled_bytes (kind_of f 3)) RuleCode.OutsideStack = subst (λ p. Contains (filled_bytes p) RuleCode.OutsideStack) (sym q.0) (writes_outside k 32 (subst (λ y. ¬ (LieInStack y 32)) (+ℤ_idr k) q.1)) in
    search (Contains-append_left, Contains-append_right, here)
call_outside f (Some Write) t k h is out =
    let q = subst (λ (u : Touch). (kind_of f u.base ≡ Kind.Stack k) × ¬ (LieInStack (k +ℤ u.offset) u.bytes)) h (is, out) in
    let here : Contains (taken_bytes f (kind_of f 3)) RuleCode.OutsideStack = subst (λ p. Contains (taken_bytes f p) RuleCode.OutsideStack) (sym q.0) (reads_outside f k 32 (subst (λ y. ¬ (LieInStack y 32)) (+ℤ_idr k) q.1)) in
    search (Contains-append_left, Contains-append_right, here)
call_outside f (Some Delete) t k h is out = absurd h
call_outside f (Some Start) t k h is out = absurd h

pub call_unwritten : (f : Frame) (o : Option Helper) (t : Touch) (k : ℤ) → IsSomeAnd o (λ h. HelperTouches h t) → IsReading t.how → kind_of f t.base ≡ Kind.Stack k → LieInStack (k +ℤ t.offset) t.bytes → SomeUnwritten f (k +ℤ t.offset) t.bytes → Contains (call_rules f o) RuleCode.UnwrittenByte
call_unwritten f None t k h reading is lie some = absurd h
call_unwritten f (Some Read) t k h reading is lie some = grind arith
call_unwritten f (Some Write) t k h reading is lie some =
    let q = subst (λ (u : Touch). (kind_of f u.base ≡ Kind.Stack k) × LieInStack (k +ℤ u.offset) u.bytes × SomeUnwritten f (k +ℤ u.offset) u.bytes) h (is, lie, some) in
    let here : Contains (taken_bytes f (kind_of f 3)) RuleCode.UnwrittenByte = subst (λ p. Contains (taken_bytes f p) RuleCode.UnwrittenByte) (sym q.0) (reads_unwritten f k 32 (subst (λ y. LieInStack y 32) (+ℤ_idr k) q.1) (subst (λ y. SomeUnwritten f y 32) (+ℤ_idr k) q.2)) in
    search (Contains-append_left, Contains-append_right, here)
call_unwritten f (Some Delete) t k h reading is lie some = absurd h
call_unwritten f (Some Start) t k h reading is lie some = absurd h

Decides-cell : (f : Frame) → Decides (is_cell f) ((kind_of f 1 ≡ Kind.Number) × (kind_of f 2 ≡ Kind.Number))
Decides-cell f = Decides-and _ _ (Decides-number (kind_of f 1)) (Decides-number (kind_of f 2))

not_cell : (f : Frame) (r : ℕ) → (r ≡ 1) ⊎ (r ≡ 2) → kind_of f r ≢ Kind.Number → ¬ ((kind_of f 1 ≡ Kind.Number) × (kind_of f 2 ≡ Kind.Number))
not_cell f r w out h = grind arith

-- an argument is wrong, of a helper that has three
wrong : (f : Frame) (r : ℕ) → (((r ≡ 1) ⊎ (r ≡ 2)) × (kind_of f r ≢ Kind.Number)) ⊎ ((r ≡ 3) × ¬ (IsStackPointer (kind_of f r))) → not (is_cell f && is_place (kind_of f 3)) ≡ true
wrong f r w = grind arith

-- a wrong argument is listed, of each helper that takes it
pub call_wrong : (f : Frame) (o : Option Helper) → IsSomeAnd o (λ h. (r : ℕ) × IsWrong f h r) → Contains (call_rules f o) RuleCode.WrongArgument
call_wrong f None h = absurd h
call_wrong f (Some Read) h = let e = wrong f h.0 h.1 in search (Contains-append_left, Contains-append_right, when_contains)
call_wrong f (Some Write) h = let e = wrong f h.0 h.1 in search (Contains-append_left, Contains-append_right, when_contains)
call_wrong f (Some Delete) (r, inl h) = let e = (Decides-not _ (Decides-cell f)).1 (not_cell f r h.0 h.1) in search (Contains-append_left, Contains-append_right, when_contains)
call_wrong f (Some Delete) (r, inr h) = absurd h.0
call_wrong f (Some Start) (r, inl h) = absurd h.0
call_wrong f (Some Start) (r, inr h) = absurd h.0

-- ---- jumps

pub jumps_back : (p : List Insn) (n : ℕ) (o : ℤ) (z : ℕ) → o ≡ negsuc z → Contains (jump_rules p n o) RuleCode.BackwardJump
jumps_back p n o z e = subst (λ o. Contains (jump_rules p n o) RuleCode.BackwardJump) (sym e) (stands_one RuleCode.BackwardJump)

-- a target past the last slot is listed as 33
pub jumps_outside : (p : List Insn) (n : ℕ) (o : ℤ) (t z : ℕ) → o ≡ pos z → t ≡ n + 1 + z → slots p ≤ t → Contains (jump_rules p n o) RuleCode.JumpOutside
jumps_outside p n o t z e is past = grind arith

pub jumps_into : (p : List Insn) (n : ℕ) (o : ℤ) (t z : ℕ) → o ≡ pos z → t ≡ n + 1 + z → t < slots p → insn_at p t ≡ None → Contains (jump_rules p n o) RuleCode.JumpIntoPair
jumps_into p n o t z e is inside none = grind arith
