-- An instruction whose rules hold does the same at two placements.
use Rattle.std.proofs.Common.{◌≡◌, ℕ, ◌+◌, ℤ, pos, ◌+ℤ◌, Bool, true, false, not, ◌&&◌, cond, nat_lt, List, [], ◌++◌, length, replicate, Option, Some, None, is_some, refl, sym, ap, ◌∙◌, arith}
use Rattle.pb_sound.specs.Words.{COLUMNS, Writes, Content, STACK_BYTES, Insn, Helper, Read, Write, Delete, Start, helper_of, declared_helper, insn_at, Map, Placement, State, Outcome, Goes, Asks, act, address, entries, with_list, called_regs, Kind, Frame, kind_of, from_low, with_written, when, RuleCode, unset, filled_bytes, taken_bytes, is_cell, is_place, read_rules, call_rules, stack_writes, falls, insn_rules, after, after_call, clobber}
use Rattle.pb_isa.specs.Machine as m
use Rattle.pb_sound.specs.Fits.{Holds}
use Rattle.pb_sound.proofs.Alike.{SameNumber, Alike, Agree}
use Rattle.pb_sound.proofs.Lists.{when_not}
use Rattle.pb_sound.proofs.Offsets.{moved_word, plus_zero}
use Rattle.pb_sound.proofs.Registers.{next_is_there, IsFollowed}
use Rattle.pb_sound.proofs.Loads.{stretch_is_written}
use Rattle.pb_sound.proofs.Stores.{stack_room}
use Rattle.pb_sound.proofs.Calls.{called_is, reply_long}
use Rattle.pb_sound.proofs.AgreeingValues.{Setting, run, Two, Agrees, alu_agrees, mov_sx_agrees, neg_agrees, load_imm_agrees}
use Rattle.pb_sound.proofs.AgreeingMemory.{stack_same, load_agrees, alike_put, store_imm_agrees, store_agrees, jump_agrees, jump_if_agrees, exit_agrees}
use Rattle.pb_accepted.proofs.JumpsForward.{empty_parts}
use Rattle.pb_base.proofs.Logic.{true_if_not as not_false, and_true}

-- ---- calls

-- after a call register 0 is the same, 1 to 5 are unset, and the others stay
same_called : (f : Frame) (g j : Map) (v : ℕ) → ((r : ℕ) → SameNumber (kind_of f r) (g r) (j r)) → (r : ℕ) → SameNumber (kind_of (clobber f) r) (called_regs g v r) (called_regs j v r)
same_called f g j v h r = grind arith

alike_returned : (a b : Placement) (f : Frame) (s t u w : State) (v : ℕ) → Alike a b f s t → u.slot ≡ w.slot → u.writes ≡ w.writes → u.regs ≡ called_regs s.regs v → w.regs ≡ called_regs t.regs v → u.stack ≡ s.stack → w.stack ≡ t.stack → Alike a b (clobber f) u w
alike_returned a b f s t u w v l eslot ewrites eu ew su sw = record {
  slot = eslot;
  writes = ewrites;
  reg = rw (eu, ew) (same_called f s.regs t.regs v l.reg);
  byte = rw (su, sw) l.byte;
}

-- 32 stack bytes at R3, which a read fills
pub record FilledTwo (x : Setting) (a b : Placement) (f : Frame) (s t : State) : Type 0 where
  pub at_a : ℕ
  pub at_b : ℕ
  pub is_a : s.regs 3 ≡ Some at_a
  pub is_b : t.regs 3 ≡ Some at_b
  pub inside_a : m.stack_has (run x a) at_a 32 ≡ true
  pub inside_b : m.stack_has (run x b) at_b 32 ≡ true
  pub alike : (bs : List ℕ) (v : ℕ) → length bs ≡ 32 → Alike a b (after_call f (Some Read)) (m.state_after_read s at_a bs v) (m.state_after_read t at_b bs v)

here_is : (base : ℕ) (k : ℤ) (y : ℕ) → address (address base k) (pos 0) ≡ y → address base k ≡ y
here_is base k y h = ap (λ z. address base z) (sym (plus_zero k)) ∙ sym (moved_word base k (pos 0)) ∙ h

-- the 32 bytes that a read fills are at one distance in both stacks
filled_two : (x : Setting) (a b : Placement) (f : Frame) (s t : State) (k : Kind) → is_place k ≡ true → filled_bytes k ≡ [] → Holds (run x a) k (s.regs 3) → Holds (run x b) k (t.regs 3) → kind_of f 3 ≡ k → Two x a b f s t → FilledTwo x a b f s t
filled_two x a b f s t Kind.Unset p h ha hb q two = cc
filled_two x a b f s t Kind.Number p h ha hb q two = cc
filled_two x a b f s t (Kind.Record k) p h ha hb q two = cc
filled_two x a b f s t (Kind.Stack k) p h ha hb q two =
    let same = plus_zero k in
    let here_on : stack_writes (k +ℤ pos 0) 32 ≡ [] = rw same h in
    let ra = stack_room (run x a) f k (pos 0) 32 (omega arith) two.place_a here_on in
    let rb = stack_room (run x b) f k (pos 0) 32 (omega arith) two.place_b here_on in
    let lo = from_low (k +ℤ pos 0) in
    let xa = a.stack + lo in
    let xb = b.stack + lo in
    record {
      at_a = xa;
      at_b = xb;
      is_a = ha ∙ ap Some (here_is (a.stack + STACK_BYTES) k xa ra.there);
      is_b = hb ∙ ap Some (here_is (b.stack + STACK_BYTES) k xb rb.there);
      inside_a = ra.inside;
      inside_b = rb.inside;
      alike = λ bs v l.
          let ma : State = record { slot = s.slot; regs = s.regs; stack = with_list s.stack xa bs; writes = s.writes } in
          let mb : State = record { slot = t.slot; regs = t.regs; stack = with_list t.stack xb bs; writes = t.writes } in
          let put = alike_put a b f s t ma mb (k +ℤ pos 0) 32 bs l two.alike two.alike.slot two.alike.writes refl refl refl refl in
          rw (q, ra.frame) (alike_returned a b (with_written f (k +ℤ pos 0) 32) ma mb (m.state_after_read s xa bs v) (m.state_after_read t xb bs v) v put (ap (λ n. n + 1) two.alike.slot) two.alike.writes refl refl refl refl);
    }

-- 32 stack bytes at R3, which a write takes
pub record TakenTwo (x : Setting) (a b : Placement) (s t : State) : Type 0 where
  pub at_a : ℕ
  pub at_b : ℕ
  pub is_a : s.regs 3 ≡ Some at_a
  pub is_b : t.regs 3 ≡ Some at_b
  pub inside_a : m.stack_has (run x a) at_a 32 ≡ true
  pub inside_b : m.stack_has (run x b) at_b 32 ≡ true
  pub bytes : List ℕ
  pub are_a : entries s.stack at_a 32 ≡ Some bytes
  pub are_b : entries t.stack at_b 32 ≡ Some bytes

-- the 32 bytes that a write takes are the same, since each is written
taken_two : (x : Setting) (a b : Placement) (f : Frame) (s t : State) (k : Kind) → is_place k ≡ true → taken_bytes f k ≡ [] → Holds (run x a) k (s.regs 3) → Holds (run x b) k (t.regs 3) → Two x a b f s t → TakenTwo x a b s t
taken_two x a b f s t Kind.Unset p h ha hb two = cc
taken_two x a b f s t Kind.Number p h ha hb two = cc
taken_two x a b f s t (Kind.Record k) p h ha hb two = cc
taken_two x a b f s t (Kind.Stack k) p h ha hb two =
    let sa = stretch_is_written (run x a) f s k 32 (omega arith) two.place_a two.fits_a h in
    let sb = stretch_is_written (run x b) f t k 32 (omega arith) two.place_b two.fits_b h in
    record {
      at_a = a.stack + from_low k;
      at_b = b.stack + from_low k;
      is_a = ha ∙ ap Some sa.there;
      is_b = hb ∙ ap Some sb.there;
      inside_a = sa.inside;
      inside_b = sb.inside;
      bytes = sa.read.bytes;
      are_a = sa.read.are;
      are_b = sym (stack_same x a b f s t k 32 (omega arith) h two) ∙ sa.read.are;
    }

-- the row and the column of a call, the same in both states
pub record CellTwo (s t : State) : Type 0 where
  pub row : ℕ
  pub column : ℕ
  pub row_a : s.regs 1 ≡ Some row
  pub row_b : t.regs 1 ≡ Some row
  pub column_a : s.regs 2 ≡ Some column
  pub column_b : t.regs 2 ≡ Some column

-- row and column are numbers, and so the same
cell_two : (x : Setting) (a b : Placement) (f : Frame) (s t : State) → is_cell f ≡ true → Two x a b f s t → CellTwo s t
cell_two x a b f s t h two = grind arith

-- the frame after a call of the helper y
to_call : (a b : Placement) (f : Frame) (k : ℤ) (y : Helper) (u w : State) → helper_of k ≡ Some y → Alike a b (after_call f (Some y)) u w → Alike a b (after f (Insn.Call k)) u w
to_call a b f k y u w hx l = rw hx l

write_agrees : (x : Setting) (a b : Placement) (f : Frame) (s t : State) (k : ℤ) (y : Helper) (row column : ℕ) (c : Content) → after_call f (Some y) ≡ clobber f → helper_of k ≡ Some y → Alike a b f s t → Agree a b f (Insn.Call k) (m.writes_cell s row column c) (m.writes_cell t row column c)
write_agrees x a b f s t k y row column c same hx l =
    let ws = m.add_write (m.cell_of row column) c t.writes in
    let v = m.write_result (m.cell_of row column) t.writes in
    let on : (us : Writes) (v : ℕ) → Alike a b (after f (Insn.Call k)) (m.state_after_call s us v) (m.state_after_call t us v) = λ us v. to_call a b f k y _ _ hx (rw same (alike_returned a b f s t (m.state_after_call s us v) (m.state_after_call t us v) v l (ap (λ n. n + 1) l.slot) refl refl refl refl refl)) in
    let P : Bool → Type 0 = λ low. Agree a b f (Insn.Call k) (cond low (Goes (m.state_after_call s ws v)) (Goes (m.state_after_call s t.writes 2))) (cond low (Goes (m.state_after_call t ws v)) (Goes (m.state_after_call t t.writes 2))) in
    let go : (low : Bool) → P low = λ low. elim low as P [ true ↦ on ws v | false ↦ on t.writes 2 ] in
    rw l.writes (go (nat_lt column COLUMNS))

-- both ask for the same cell, and each reply leaves both alike
read_agrees : (x : Setting) (a b : Placement) (f : Frame) (s t : State) (k : ℤ) → helper_of k ≡ Some Read → read_rules f ≡ [] → Two x a b f s t → Agree a b f (Insn.Call k) (m.helps (run x a) s Read) (m.helps (run x b) t Read)
read_agrees x a b f s t k hx h two =
    let p4 = empty_parts (unset f 1 ++ unset f 2 ++ unset f 3 ++ filled_bytes (kind_of f 3)) (when (not (is_cell f && is_place (kind_of f 3))) RuleCode.WrongArgument) h in
    let p3 = empty_parts (unset f 1 ++ unset f 2 ++ unset f 3) (filled_bytes (kind_of f 3)) p4.0 in
    let ok = and_true (is_cell f) (is_place (kind_of f 3)) (not_false _ (when_not _ _ p4.1)) in
    let c = cell_two x a b f s t ok.0 two in
    let y = filled_two x a b f s t (kind_of f 3) ok.1 p3.1 (two.fits_a.reg 3) (two.fits_b.reg 3) refl two in
    let on : (bs : List ℕ) (v : ℕ) → length bs ≡ 32 → Alike a b (after f (Insn.Call k)) (m.state_after_read s y.at_a bs v) (m.state_after_read t y.at_b bs v) = λ bs v n. to_call a b f k Read _ _ hx (y.alike bs v n) in
    let out : State → ℕ → Bool → Outcome = λ u at low. cond low (Asks (record { row = c.row; column = c.column }) (λ r. m.state_after_read u at (m.reply_bytes r) (m.reply_result r))) (Goes (m.state_after_read u at (replicate 32 0) 2)) in
    let P : Bool → Type 0 = λ low. Agree a b f (Insn.Call k) (out s y.at_a low) (out t y.at_b low) in
    let go : (low : Bool) → P low = λ low. elim low as P [
      | true ↦ (refl, λ r n. on (m.reply_bytes r) (m.reply_result r) (reply_long r n))
      | false ↦ on (replicate 32 0) 2 refl
    ] in
    rw (c.row_a, c.row_b, c.column_a, c.column_b, y.is_a, y.is_b, y.inside_a, y.inside_b) (go (nat_lt c.column COLUMNS))

helps_agree : (x : Setting) (a b : Placement) (f : Frame) (s t : State) (k : ℤ) (y : Helper) → helper_of k ≡ Some y → call_rules f (Some y) ≡ [] → Two x a b f s t → Agree a b f (Insn.Call k) (m.helps (run x a) s y) (m.helps (run x b) t y)
helps_agree x a b f s t k Read hx h two = read_agrees x a b f s t k hx h two
helps_agree x a b f s t k Write hx h two =
    let p4 = empty_parts (unset f 1 ++ unset f 2 ++ unset f 3 ++ taken_bytes f (kind_of f 3)) (when (not (is_cell f && is_place (kind_of f 3))) RuleCode.WrongArgument) h in
    let p3 = empty_parts (unset f 1 ++ unset f 2 ++ unset f 3) (taken_bytes f (kind_of f 3)) p4.0 in
    let ok = and_true (is_cell f) (is_place (kind_of f 3)) (not_false _ (when_not _ _ p4.1)) in
    let c = cell_two x a b f s t ok.0 two in
    let y = taken_two x a b f s t (kind_of f 3) ok.1 p3.1 (two.fits_a.reg 3) (two.fits_b.reg 3) two in
    rw (c.row_a, c.row_b, c.column_a, c.column_b, y.is_a, y.is_b, y.inside_a, y.inside_b, y.are_a, y.are_b) (write_agrees x a b f s t k Write c.row c.column (Content.Value y.bytes) refl hx two.alike)
helps_agree x a b f s t k Delete hx h two =
    let p = empty_parts (unset f 1 ++ unset f 2) (when (not (is_cell f)) RuleCode.WrongArgument) h in
    let c = cell_two x a b f s t (not_false _ (when_not _ _ p.1)) two in
    rw (c.row_a, c.row_b, c.column_a, c.column_b) (write_agrees x a b f s t k Delete c.row c.column Content.Deleted refl hx two.alike)
helps_agree x a b f s t k Start hx h two = grind arith

calls_agree : (x : Setting) (a b : Placement) (f : Frame) (s t : State) (k : ℤ) (y : Option Helper) → declared_helper x.judged.helpers k ≡ y → is_some (insn_at x.judged.program.insns (t.slot + 1)) ≡ true → call_rules f y ≡ [] → Two x a b f s t → Agree a b f (Insn.Call k) (m.calls (run x a) s y) (m.calls (run x b) t y)
calls_agree x a b f s t k None hx on h two = cc
calls_agree x a b f s t k (Some y) hx on h two =
    let on_a : is_some (insn_at x.judged.program.insns (s.slot + 1)) ≡ true = rw two.alike.slot on in
    rw (on, on_a) (helps_agree x a b f s t k y (called_is x.judged.helpers k y hx) h two)

-- every call, of a declared helper
call_agrees : (x : Setting) (k : ℤ) → Agrees x (Insn.Call k)
call_agrees x k a b f s t here h two =
    let parts = empty_parts (call_rules f (declared_helper x.judged.helpers k)) (falls x.judged.program.insns (t.slot + 1)) h in
    calls_agree x a b f s t k (declared_helper x.judged.helpers k) refl (next_is_there x.judged.program.insns (Insn.Call k) t.slot here parts.1) parts.0 two

-- every instruction, by its kind
does_agree : (x : Setting) (i : Insn) → Agrees x i
does_agree x i = grind (arith, alu_agrees, mov_sx_agrees, neg_agrees, load_imm_agrees, load_agrees, store_imm_agrees, store_agrees, jump_agrees, jump_if_agrees, call_agrees, exit_agrees)

-- and so it is at a slot where that instruction stands
pub acts_agree : (x : Setting) (i : Insn) (a b : Placement) (f : Frame) (s t : State) → IsFollowed x.judged.program.insns t.slot i → insn_rules x.judged t.slot f i ≡ [] → Two x a b f s t → Agree a b f i (act (run x a) s) (act (run x b) t)
unfolding act
acts_agree x i a b f s t here h two = grind (arith, does_agree, x.judged.program.insns, s.slot, two.alike.slot, here.at)
