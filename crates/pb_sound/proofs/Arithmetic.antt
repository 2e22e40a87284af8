-- Operations with two operands, the sign-extending move, the negative, and the 64-bit immediate.
use Rattle.std.proofs.Common.{arith, ◌≡◌, ℕ, ◌+◌, ℤ, pos, neg_ℤ, [], ◌++◌, Some, refl}
use Rattle.pb_sound.specs.Words.{Insn, AluOp, Width, Size, Operand, alu, word, Environment, State, does, address, mov_sx, Kind, Frame, is_pointer, when, RuleCode, at, reads, reads_operand, sets, numeric_rules, on_pointer, insn_rules, kind_after, move_pointer}
use Rattle.pb_isa.specs.declared.insn.Reg as registers
use Rattle.pb_isa.specs.Machine as m
use Rattle.pb_accepted.specs.Rules as rules
use Rattle.pb_sound.specs.Fits.{HasValue, Holds, FitsFrame}
use Rattle.pb_sound.specs.Outcomes.{GoesOn}
use Rattle.pb_sound.proofs.Offsets.{sub_is}
use Rattle.pb_sound.proofs.Registers.{read_value, sets_on, IsFollowed}
use Rattle.pb_accepted.proofs.JumpsForward.{empty_parts}

-- the operands have values, and what comes of them is of the kind after
pub record Operands (e : Environment) (f : Frame) (s : State) (op : AluOp) (w : Width) (d : registers.Reg) (x : Operand) : Type 0 where
  pub left : ℕ
  pub right : ℕ
  pub left_is : m.left s op d ≡ Some left
  pub right_is : m.operand s x ≡ Some right
  pub sets : sets d ≡ []
  pub holds : Holds e (kind_after f op w d x) (Some (alu op w left right))

-- both operands have values, and the destination isn't R10
pub record Both (s : State) (d : registers.Reg) (x : Operand) : Type 0 where
  pub left : ℕ
  pub right : ℕ
  pub left_is : m.value s d ≡ Some left
  pub right_is : m.operand s x ≡ Some right
  pub sets : sets d ≡ []

-- an operand that the rules let through has a value
pub operand_is : (e : Environment) (f : Frame) (s : State) (x : Operand) → reads_operand f x ≡ [] → FitsFrame e f s → HasValue (m.operand s x)
operand_is e f s (Operand.Imm k) h t = (word k, refl)
operand_is e f s (Operand.Reg r) h t = let v = read_value e f s r h t in (v.value, v.is)

pub both_operands : (e : Environment) (f : Frame) (s : State) (d : registers.Reg) (x : Operand) → numeric_rules f d x ≡ [] → FitsFrame e f s → Both s d x
both_operands e f s d x h t = grind (arith, empty_parts, read_value, operand_is)

-- a pointer plus a number points as much further on, since sums of addresses wrap alike
moved_holds : (e : Environment) (k : Kind) (x : ℕ) (z : ℤ) → Holds e k (Some x) → Holds e (move_pointer k z) (Some (address x z))
moved_holds e k x z h = grind arith

add_holds : (e : Environment) (f : Frame) (s : State) (d : registers.Reg) (k : ℤ) → reads f d ++ sets d ≡ [] → FitsFrame e f s → Operands e f s AluOp.Add Width.Bits64 d (Operand.Imm k)
add_holds e f s d k h t =
    let p = empty_parts (reads f d) (sets d) h in
    let a = read_value e f s d p.0 t in
    record { left = a.value; right = word k; left_is = a.is; right_is = refl; sets = p.1; holds = moved_holds e (at f d) a.value k a.holds }

sub_holds : (e : Environment) (f : Frame) (s : State) (d : registers.Reg) (k : ℤ) → reads f d ++ sets d ≡ [] → FitsFrame e f s → Operands e f s AluOp.Sub Width.Bits64 d (Operand.Imm k)
sub_holds e f s d k h t =
    let p = empty_parts (reads f d) (sets d) h in
    let a = read_value e f s d p.0 t in
    record { left = a.value; right = word k; left_is = a.is; right_is = refl; sets = p.1; holds = rw (sub_is a.value k) (moved_holds e (at f d) a.value (neg_ℤ k) a.holds) }

mov_imm : (e : Environment) (f : Frame) (s : State) (w : Width) (d : registers.Reg) (k : ℤ) → sets d ≡ [] → Operands e f s AluOp.Mov w d (Operand.Imm k)
mov_imm e f s Width.Bits64 d k h = record { left = 0; right = word k; left_is = refl; right_is = refl; sets = h; holds = (_, refl) }
mov_imm e f s Width.Bits32 d k h = record { left = 0; right = word k; left_is = refl; right_is = refl; sets = h; holds = (_, refl) }

mov_reg : (e : Environment) (f : Frame) (s : State) (d r : registers.Reg) → reads f r ++ sets d ≡ [] → FitsFrame e f s → Operands e f s AluOp.Mov Width.Bits64 d (Operand.Reg r)
mov_reg e f s d r h t =
    let p = empty_parts (reads f r) (sets d) h in
    let a = read_value e f s r p.0 t in
    record { left = 0; right = a.value; left_is = refl; right_is = a.is; sets = p.1; holds = a.holds }

pub mov_low : (e : Environment) (f : Frame) (s : State) (d r : registers.Reg) → reads f r ++ sets d ++ when (is_pointer (at f r)) RuleCode.PointerArithmetic ≡ [] → FitsFrame e f s → Operands e f s AluOp.Mov Width.Bits32 d (Operand.Reg r)
mov_low e f s d r h t =
    let q = empty_parts (reads f r ++ sets d) (when (is_pointer (at f r)) RuleCode.PointerArithmetic) h in
    let p = empty_parts (reads f r) (sets d) q.0 in
    let a = read_value e f s r p.0 t in
    record { left = 0; right = a.value; left_is = refl; right_is = a.is; sets = p.1; holds = (_, refl) }

-- the operands of every operation whose rules hold, and what comes of them
pub operands_are : (e : Environment) (f : Frame) (s : State) (op : AluOp) (w : Width) (d : registers.Reg) (x : Operand) → rules.alu_rules f op w d x ≡ [] → FitsFrame e f s → Operands e f s op w d x
operands_are e f s AluOp.Mov Width.Bits64 d (Operand.Imm k) h t = mov_imm e f s Width.Bits64 d k h
operands_are e f s AluOp.Mov Width.Bits32 d (Operand.Imm k) h t = mov_imm e f s Width.Bits32 d k h
operands_are e f s AluOp.Mov Width.Bits64 d (Operand.Reg r) h t = mov_reg e f s d r h t
operands_are e f s AluOp.Mov Width.Bits32 d (Operand.Reg r) h t = mov_low e f s d r h t
operands_are e f s AluOp.Add Width.Bits64 d (Operand.Imm k) h t = add_holds e f s d k h t
operands_are e f s AluOp.Sub Width.Bits64 d (Operand.Imm k) h t = sub_holds e f s d k h t
operands_are e f s AluOp.Add Width.Bits64 d (Operand.Reg r) h t = let b = both_operands e f s d (Operand.Reg r) h t in record { left = b.left; right = b.right; left_is = b.left_is; right_is = b.right_is; sets = b.sets; holds = (_, refl) }
operands_are e f s AluOp.Sub Width.Bits64 d (Operand.Reg r) h t = let b = both_operands e f s d (Operand.Reg r) h t in record { left = b.left; right = b.right; left_is = b.left_is; right_is = b.right_is; sets = b.sets; holds = (_, refl) }
operands_are e f s op w d x h t = let b = both_operands e f s d x h t in record { left = b.left; right = b.right; left_is = b.left_is; right_is = b.right_is; sets = b.sets; holds = (_, refl) }

-- an operation whose rules hold goes on
pub alu_on : (e : Environment) (f : Frame) (s : State) (op : AluOp) (w : Width) (d : registers.Reg) (x : Operand) → IsFollowed e.judged.program.insns s.slot (Insn.Alu op w d x) → insn_rules e.judged s.slot f (Insn.Alu op w d x) ≡ [] → FitsFrame e f s → GoesOn e f s.slot (Insn.Alu op w d x) (does e s (Insn.Alu op w d x))
alu_on e f s op w d x a b t =
    let parts = empty_parts (rules.alu_rules f op w d x) (rules.falls e.judged.program.insns (s.slot + 1)) b in
    let o = operands_are e f s op w d x parts.0 t in
    rw (o.left_is, o.right_is) (sets_on e f s (Insn.Alu op w d x) d (kind_after f op w d x) (alu op w o.left o.right) refl refl a parts.1 o.sets t o.holds)

pub mov_sx_on : (e : Environment) (f : Frame) (s : State) (w : Width) (z : Size) (d r : registers.Reg) → IsFollowed e.judged.program.insns s.slot (Insn.MovSx w z d r) → insn_rules e.judged s.slot f (Insn.MovSx w z d r) ≡ [] → FitsFrame e f s → GoesOn e f s.slot (Insn.MovSx w z d r) (does e s (Insn.MovSx w z d r))
mov_sx_on e f s w z d r a b t =
    let parts = empty_parts (rules.mov_rules f Width.Bits32 d (Operand.Reg r)) (rules.falls e.judged.program.insns (s.slot + 1)) b in
    let o = mov_low e f s d r parts.0 t in
    rw o.right_is (sets_on e f s (Insn.MovSx w z d r) d Kind.Number (mov_sx w z o.right) refl refl a parts.1 o.sets t (_, refl))

pub neg_on : (e : Environment) (f : Frame) (s : State) (w : Width) (d : registers.Reg) → IsFollowed e.judged.program.insns s.slot (Insn.Neg w d) → insn_rules e.judged s.slot f (Insn.Neg w d) ≡ [] → FitsFrame e f s → GoesOn e f s.slot (Insn.Neg w d) (does e s (Insn.Neg w d))
neg_on e f s w d a b t =
    let parts = empty_parts (numeric_rules f d (Operand.Imm (pos 0))) (rules.falls e.judged.program.insns (s.slot + 1)) b in
    let o = both_operands e f s d (Operand.Imm (pos 0)) parts.0 t in
    rw o.left_is (sets_on e f s (Insn.Neg w d) d Kind.Number (alu AluOp.Sub w 0 o.left) refl refl a parts.1 o.sets t (_, refl))

pub load_imm_on : (e : Environment) (f : Frame) (s : State) (d : registers.Reg) (v : ℕ) → IsFollowed e.judged.program.insns s.slot (Insn.LoadImm d v) → insn_rules e.judged s.slot f (Insn.LoadImm d v) ≡ [] → FitsFrame e f s → GoesOn e f s.slot (Insn.LoadImm d v) (does e s (Insn.LoadImm d v))
load_imm_on e f s d v a b t =
    let parts = empty_parts (sets d) (rules.falls e.judged.program.insns (s.slot + 2)) b in
    sets_on e f s (Insn.LoadImm d v) d Kind.Number v refl refl a parts.1 parts.0 t (v, refl)
