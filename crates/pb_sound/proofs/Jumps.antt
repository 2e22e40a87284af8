-- Jumps, and the exit.
use Rattle.std.proofs.Common.{◌≡◌, ℕ, ◌+◌, ℤ, Bool, true, cond, List, [], ◌∷◌, ◌++◌, Some, refl, is_some, arith, nat_eq}
use Rattle.std.proofs.lemmas.Bool.Decides.{nat_tests}
use Rattle.pb_sound.specs.Words.{Insn, Cmp, Width, Operand, Reg, holds, insn_at, Environment, State, does, target, Frame, RuleCode, when, reads, reads_operand, on_pointer, falls, jump_rules, insn_rules, after, leads, ahead, has_slot}
use Rattle.pb_isa.specs.Machine as m
use Rattle.pb_sound.specs.Fits.{FitsFrame}
use Rattle.pb_sound.specs.Outcomes.{GoesOn}
use Rattle.pb_sound.proofs.Registers.{read_value, IsFollowed}
use Rattle.pb_sound.proofs.Arithmetic.{operand_is}
use Rattle.pb_accepted.proofs.JumpsForward.{empty_parts}

-- a jump that is let through leads to the first slot of an instruction
pub record Lands (p : List Insn) (n : ℕ) (o : ℤ) : Type 0 where
  pub to : ℕ
  pub is : target n o ≡ Some to
  pub leads : has_slot (ahead n o) to ≡ true
  pub first : is_some (insn_at p to) ≡ true

among_first : (n : ℕ) (ms : List ℕ) → has_slot (n ∷ ms) n ≡ true
among_first n ms = let e : nat_eq n n ≡ true = grind (arith, nat_tests) in rw e refl

among_later : (n k : ℕ) (ms : List ℕ) → has_slot ms n ≡ true → has_slot (k ∷ ms) n ≡ true
among_later n k ms h = grind arith

-- a jump whose rules hold lands on an instruction of a later slot
pub jump_lands : (p : List Insn) (n : ℕ) (o : ℤ) → jump_rules p n o ≡ [] → Lands p n o
jump_lands p n o e = grind arith

-- on to a slot that the instruction leads to, with nothing changed
goes_on : (e : Environment) (f : Frame) (s : State) (i : Insn) (n : ℕ) → after f i ≡ f → has_slot (leads s.slot i) n ≡ true → is_some (insn_at e.judged.program.insns n) ≡ true → FitsFrame e f s → GoesOn e f s.slot i (m.goes e s n s.regs s.stack)
goes_on e f s i n ea l h t = rw h (record { leads = l; first = h; fits = rw ea (record { reg = t.reg; byte = t.byte }) })

pub jump_on : (e : Environment) (f : Frame) (s : State) (o : ℤ) → insn_rules e.judged s.slot f (Insn.Jump o) ≡ [] → FitsFrame e f s → GoesOn e f s.slot (Insn.Jump o) (does e s (Insn.Jump o))
jump_on e f s o b t = grind arith

-- a conditional jump goes on either way: to its target, or to the next slot, which the rules ask for
pub jump_if_on : (e : Environment) (f : Frame) (s : State) (c : Cmp) (w : Width) (d : Reg) (x : Operand) (o : ℤ) → IsFollowed e.judged.program.insns s.slot (Insn.JumpIf c w d x o) → insn_rules e.judged s.slot f (Insn.JumpIf c w d x o) ≡ [] → FitsFrame e f s → GoesOn e f s.slot (Insn.JumpIf c w d x o) (does e s (Insn.JumpIf c w d x o))
jump_if_on e f s c w d x o a b t =
    let n = s.slot in
    let p4 = empty_parts (reads f d ++ reads_operand f x ++ jump_rules e.judged.program.insns n o ++ falls e.judged.program.insns (n + 1)) (when (on_pointer f d x) RuleCode.PointerCompared) b in
    let p3 = empty_parts (reads f d ++ reads_operand f x ++ jump_rules e.judged.program.insns n o) (falls e.judged.program.insns (n + 1)) p4.0 in
    let p2 = empty_parts (reads f d ++ reads_operand f x) (jump_rules e.judged.program.insns n o) p3.0 in
    let p1 = empty_parts (reads f d) (reads_operand f x) p2.0 in
    let left = read_value e f s d p1.0 t in
    let right = operand_is e f s x p1.1 t in
    let i = Insn.JumpIf c w d x o in
    let either : (taken : Bool) → GoesOn e f n i (m.with_value (cond taken (target n o) (Some (n + 1))) (λ k. m.goes e s k s.regs s.stack)) = grind (arith, goes_on, among_later, among_first, s.regs, s.stack) in
    rw (left.is, right.1) (either (holds c w left.value right.0))

-- an exit whose rules hold ends, since register 0 has a value
pub exit_on : (e : Environment) (f : Frame) (s : State) → insn_rules e.judged s.slot f Insn.Exit ≡ [] → FitsFrame e f s → GoesOn e f s.slot Insn.Exit (does e s Insn.Exit)
exit_on e f s b t = grind arith
