-- The codes that the rules list rise, rule by rule: each part of a rule lies within two numbers, and parts that follow
-- each other are joined where the first ends at the number that the next begins with.
use Rattle.std.proofs.Common.{ℕ, ◌≤◌, Bool, List, ◌++◌, arith, ℤ, nat_eq}
use Rattle.pb_accepted.specs.Words.{Insn, AluOp, Width, Operand, Reg, number, slots, JudgedOf, Kind, Frame, RuleCode, code_number, when, CodesRiseWithin, ArgumentCodesRise}
use Rattle.pb_accepted.specs.Rules.{reads, sets, falls, numeric_rules, part_mov_rules, mov_rules, add_rules, alu_rules, loads, stores, jump_rules, jump_if_rules, insn_rules}
use Rattle.pb_helpers.proofs.ArgumentCodesRise.{from_lower, rising_joined, to_higher, unset_rises as set}

-- ---- lists of codes that rise

-- a code that is listed where its rule is broken, within two numbers
one : (a b : ℕ) (t : Bool) (c : RuleCode) → a ≤ code_number c → code_number c ≤ b → CodesRiseWithin a b (when t c)
one a b t c l m = grind arith

-- ---- parts of rules

reads_rise : (f : Frame) (r : Reg) → CodesRiseWithin 21 21 (reads f r)
reads_rise f r = set f (number r)

sets_rise : (d : Reg) → CodesRiseWithin 21 22 (sets d)
sets_rise d = one 21 22 (nat_eq (number d) 10) RuleCode.WritesR10 (omega arith) (omega arith)

falls_rise : (p : List Insn) (m : ℕ) → CodesRiseWithin 34 36 (falls p m)
falls_rise p m = one 34 36 (nat_eq m (slots p)) RuleCode.FallsOff (omega arith) (omega arith)

-- 36 comes last of an instruction that goes on, above all codes of arithmetic, memory and calls
with_falls : (p : List Insn) (m : ℕ) (cs : List RuleCode) → CodesRiseWithin 21 34 cs → CodesRiseWithin 21 38 (cs ++ falls p m)
with_falls p m cs h = to_higher 21 36 38 (cs ++ falls p m) (omega arith) (rising_joined 21 34 36 cs (falls p m) h (falls_rise p m))

-- 21 of both operands, then 22 and 23
numeric_rises : (f : Frame) (d : Reg) (x : Operand) → CodesRiseWithin 21 34 (numeric_rules f d x)
numeric_rises f d x = grind arith

read_and_set : (f : Frame) (r d : Reg) → CodesRiseWithin 21 22 (reads f r ++ sets d)
read_and_set f r d = rising_joined 21 21 22 (reads f r) (sets d) (reads_rise f r) (sets_rise d)

part_mov_rises : (f : Frame) (d r : Reg) → CodesRiseWithin 21 34 (part_mov_rules f d r)
part_mov_rises f d r = grind arith

mov_rises : (f : Frame) (w : Width) (d : Reg) (x : Operand) → CodesRiseWithin 21 34 (mov_rules f w d x)
mov_rises f w d x = grind arith

add_rises : (f : Frame) (w : Width) (d : Reg) (x : Operand) → CodesRiseWithin 21 34 (add_rules f w d x)
add_rises f w d x = grind arith

alu_rises : (f : Frame) (op : AluOp) (w : Width) (d : Reg) (x : Operand) → CodesRiseWithin 21 34 (alu_rules f op w d x)
alu_rises f op w d x = grind (arith, mov_rises, add_rises, numeric_rises)

-- of a load's bytes: one of 25, 26, 27 and 29
loads_rise : (size : ℕ) (f : Frame) (k : Kind) (o : ℤ) (n : ℕ) → CodesRiseWithin 22 34 (loads size f k o n)
loads_rise size f k o n = grind arith

stores_rise : (k : Kind) (o : ℤ) (n : ℕ) → CodesRiseWithin 24 34 (stores k o n)
stores_rise k o n = grind arith

jumps_rise : (p : List Insn) (n : ℕ) (o : ℤ) → CodesRiseWithin 21 34 (jump_rules p n o)
jumps_rise p n o = grind arith

-- a conditional jump has 21, then one of 32 to 34, then 36 and 38
compared : (p : List Insn) (n : ℕ) (f : Frame) (d : Reg) (x : Operand) (o : ℤ) → CodesRiseWithin 21 38 (jump_if_rules p n f d x o)
compared p n f d x o = grind arith

-- ---- the rules

-- the whole: arguments of helpers rise by a law of `pb_helpers`
pub codes_rise : ArgumentCodesRise → (j : JudgedOf) (n : ℕ) (f : Frame) (i : Insn) → CodesRiseWithin 21 38 (insn_rules j n f i)
codes_rise calls j n f i = grind (arith, with_falls, alu_rises, part_mov_rises, numeric_rises, to_higher, sets_rise, rising_joined, read_and_set, loads_rise, reads_rise, from_lower, stores_rise, one, jumps_rise, compared, set)
