-- Calls of the four helpers.
use Rattle.std.proofs.Common.{◌≡◌, ℕ, ◌+◌, ℤ, pos, ◌+ℤ◌, Bool, true, false, cond, not, ◌&&◌, nat_lt, List, [], ◌++◌, length, replicate, Option, Some, None, refl, sym, ap, ◌∙◌, arith, is_some}
use Rattle.pb_sound.specs.Words.{COLUMNS, Writes, Content, STACK_BYTES, Insn, Helper, HelperSet, Read, Write, Delete, Start, helper_of, declared_helper, insn_at, IsReply, IsPlaced, Map, Environment, State, Reply, address, does, helps, writes_cell, with_list, called_regs, Kind, Frame, kind_of, from_low, with_written, RuleCode, when, unset, filled_bytes, taken_bytes, is_cell, is_place, read_rules, call_rules, stack_writes, insn_rules, after_call, clobber}
use Rattle.pb_isa.specs.Machine as m
use Rattle.pb_sound.specs.Fits.{Holds, FitsFrame}
use Rattle.pb_sound.specs.Outcomes.{Arrives, GoesOn}
use Rattle.pb_sound.proofs.Lists.{when_not}
use Rattle.pb_sound.proofs.Offsets.{plus_zero, moved_word}
use Rattle.pb_sound.proofs.Registers.{next_is_there, among_one, IsFollowed}
use Rattle.pb_sound.proofs.Loads.{stretch_is_written}
use Rattle.pb_sound.proofs.Stores.{spot, stack_room, fits_put}
use Rattle.pb_base.proofs.Logic.{below_true as below, true_if_not as not_false, and_true}
use Rattle.pb_accepted.proofs.JumpsForward.{empty_parts}

-- ---- after a call

-- after a call register 0 has a number, and those from 6 on hold what they did
holds_called : (e : Environment) (f : Frame) (g : Map) (v : ℕ) → ((r : ℕ) → Holds e (kind_of f r) (g r)) → (r : ℕ) → Holds e (kind_of (clobber f) r) (called_regs g v r)
holds_called e f g v h r = grind arith

fits_returned : (e : Environment) (f : Frame) (s t : State) (v : ℕ) → FitsFrame e f s → t.regs ≡ called_regs s.regs v → t.stack ≡ s.stack → FitsFrame e (clobber f) t
fits_returned e f s t v h er es = record {
  reg = λ r. rw er (holds_called e f s.regs v h.reg r);
  byte = λ i w. rw es (h.byte i w);
}

-- ---- arguments

-- the row and the column of a call, which registers 1 and 2 have
pub record Cell (s : State) : Type 0 where
  pub row : ℕ
  pub column : ℕ
  pub row_is : s.regs 1 ≡ Some row
  pub column_is : s.regs 2 ≡ Some column

-- row and column are numbers, and have values
pub cell_is : (e : Environment) (f : Frame) (s : State) → is_cell f ≡ true → FitsFrame e f s → Cell s
cell_is e f s h t = grind arith

-- 32 stack bytes that a read fills
pub record Filled (e : Environment) (f : Frame) (s : State) : Type 0 where
  pub at : ℕ
  pub is : s.regs 3 ≡ Some at
  pub inside : m.stack_has e at 32 ≡ true
  pub fits : (bs : List ℕ) (v : ℕ) → length bs ≡ 32 → FitsFrame e (after_call f (Some Read)) (m.state_after_read s at bs v)

filled_at : (e : Environment) (f : Frame) (s : State) (k : Kind) → IsPlaced e → is_place k ≡ true → filled_bytes k ≡ [] → Holds e k (s.regs 3) → kind_of f 3 ≡ k → FitsFrame e f s → Filled e f s
filled_at e f s Kind.Unset pl p b h q t = cc
filled_at e f s Kind.Number pl p b h q t = cc
filled_at e f s (Kind.Record k) pl p b h q t = cc
filled_at e f s (Kind.Stack k) pl p b h q t =
    let same = plus_zero k in
    let here_on : stack_writes (k +ℤ pos 0) 32 ≡ [] = rw same b in
    let room = stack_room e f k (pos 0) 32 (omega arith) pl here_on in
    let base = e.place.stack + STACK_BYTES in
    let x = e.place.stack + from_low (spot (Kind.Stack k) (pos 0)) in
    let here : address base k ≡ x = ap (λ z. address base z) (sym same) ∙ sym (moved_word base k (pos 0)) ∙ room.there in
    record {
      at = x;
      is = h ∙ ap Some here;
      inside = room.inside;
      fits = λ bs v l.
          let mid : State = record { slot = s.slot; regs = s.regs; stack = with_list s.stack x bs; writes = s.writes } in
          rw (q, room.frame) (fits_returned e (with_written f (spot (Kind.Stack k) (pos 0)) 32) mid (m.state_after_read s x bs v) v (fits_put e f s mid (spot (Kind.Stack k) (pos 0)) 32 bs l t refl refl) refl refl);
    }

-- 32 stack bytes that a write takes
pub record Taken (e : Environment) (s : State) : Type 0 where
  pub at : ℕ
  pub is : s.regs 3 ≡ Some at
  pub inside : m.stack_has e at 32 ≡ true
  pub bytes : List ℕ
  pub are : m.entries s.stack at 32 ≡ Some bytes
  pub long : length bytes ≡ 32

taken_at : (e : Environment) (f : Frame) (s : State) (k : Kind) → IsPlaced e → is_place k ≡ true → taken_bytes f k ≡ [] → Holds e k (s.regs 3) → FitsFrame e f s → Taken e s
taken_at e f s Kind.Unset pl p b h t = cc
taken_at e f s Kind.Number pl p b h t = cc
taken_at e f s (Kind.Record k) pl p b h t = cc
taken_at e f s (Kind.Stack k) pl p b h t =
    let st = stretch_is_written e f s k 32 (omega arith) pl t b in
    grind (arith, e.place.stack)

-- ---- the helpers

-- a helper that is called is the one of its number
pub called_is : (h : HelperSet) (k : ℤ) (x : Helper) → declared_helper h k ≡ Some x → helper_of k ≡ Some x
called_is h k x e = grind arith

-- after a call of the helper x
arrives : (e : Environment) (f : Frame) (s t : State) (k : ℤ) (x : Helper) → helper_of k ≡ Some x → is_some (insn_at e.judged.program.insns (s.slot + 1)) ≡ true → t.slot ≡ s.slot + 1 → FitsFrame e (after_call f (Some x)) t → Arrives e f s.slot (Insn.Call k) t
arrives e f s t k x hx lands at h = record { leads = rw at (among_one (s.slot + 1)); first = rw at lands; fits = rw hx h }

-- a reply has 32 bytes for the stack, zeros where the cell is absent
pub reply_long : (r : Reply) → IsReply r → length (m.reply_bytes r) ≡ 32
reply_long r h = grind arith

-- a read goes on with each reply, or asks nothing where there is no such column
read_on : (e : Environment) (f : Frame) (s : State) (k : ℤ) → IsPlaced e → helper_of k ≡ Some Read → is_some (insn_at e.judged.program.insns (s.slot + 1)) ≡ true → read_rules f ≡ [] → FitsFrame e f s → GoesOn e f s.slot (Insn.Call k) (helps e s Read)
read_on e f s k pl hx lands b t =
    let p4 = empty_parts (unset f 1 ++ unset f 2 ++ unset f 3 ++ filled_bytes (kind_of f 3)) (when (not (is_cell f && is_place (kind_of f 3))) RuleCode.WrongArgument) b in
    let p3 = empty_parts (unset f 1 ++ unset f 2 ++ unset f 3) (filled_bytes (kind_of f 3)) p4.0 in
    let ok = and_true (is_cell f) (is_place (kind_of f 3)) (not_false _ (when_not _ _ p4.1)) in
    let c = cell_is e f s ok.0 t in
    let x = filled_at e f s (kind_of f 3) pl ok.1 p3.1 (t.reg 3) refl t in
    let P : Bool → Type 0 = λ low. nat_lt c.column COLUMNS ≡ low → GoesOn e f s.slot (Insn.Call k) (cond low (m.Asks (record { row = c.row; column = c.column }) (λ r. m.state_after_read s x.at (m.reply_bytes r) (m.reply_result r))) (m.Goes (m.state_after_read s x.at (replicate 32 0) 2))) in
    let go : (low : Bool) → P low = λ low. elim low as P [
      | true ↦ λ q. (below _ _ q, λ r l. arrives e f s _ k Read hx lands refl (x.fits (m.reply_bytes r) (m.reply_result r) (reply_long r l)))
      | false ↦ λ q. arrives e f s _ k Read hx lands refl (x.fits (replicate 32 0) 2 refl)
    ] in
    rw (c.row_is, c.column_is, x.is, x.inside) (go (nat_lt c.column COLUMNS) refl)

-- a helper after which no byte is filled
write_on : (e : Environment) (f : Frame) (s : State) (k : ℤ) (x : Helper) (row column : ℕ) (c : Content) → after_call f (Some x) ≡ clobber f → helper_of k ≡ Some x → is_some (insn_at e.judged.program.insns (s.slot + 1)) ≡ true → FitsFrame e f s → GoesOn e f s.slot (Insn.Call k) (writes_cell s row column c)
write_on e f s k x row column c same hx lands t =
    let on : (ws : Writes) (v : ℕ) → Arrives e f s.slot (Insn.Call k) (m.state_after_call s ws v) = λ ws v. arrives e f s _ k x hx lands refl (rw same (fits_returned e f s (m.state_after_call s ws v) v t refl refl)) in
    let ws = m.add_write (m.cell_of row column) c s.writes in
    let v = m.write_result (m.cell_of row column) s.writes in
    let P : Bool → Type 0 = λ low. GoesOn e f s.slot (Insn.Call k) (cond low (m.Goes (m.state_after_call s ws v)) (m.Goes (m.state_after_call s s.writes 2))) in
    let go : (low : Bool) → P low = λ low. elim low as P [ true ↦ on ws v | false ↦ on s.writes 2 ] in
    go (nat_lt column COLUMNS)

-- each of the four helpers, where its arguments are accepted
helps_on : (e : Environment) (f : Frame) (s : State) (k : ℤ) (x : Helper) → IsPlaced e → helper_of k ≡ Some x → is_some (insn_at e.judged.program.insns (s.slot + 1)) ≡ true → call_rules f (Some x) ≡ [] → FitsFrame e f s → GoesOn e f s.slot (Insn.Call k) (helps e s x)
helps_on e f s k Read pl hx lands b t = read_on e f s k pl hx lands b t
helps_on e f s k Write pl hx lands b t =
    let p4 = empty_parts (unset f 1 ++ unset f 2 ++ unset f 3 ++ taken_bytes f (kind_of f 3)) (when (not (is_cell f && is_place (kind_of f 3))) RuleCode.WrongArgument) b in
    let p3 = empty_parts (unset f 1 ++ unset f 2 ++ unset f 3) (taken_bytes f (kind_of f 3)) p4.0 in
    let ok = and_true (is_cell f) (is_place (kind_of f 3)) (not_false _ (when_not _ _ p4.1)) in
    let c = cell_is e f s ok.0 t in
    let x = taken_at e f s (kind_of f 3) pl ok.1 p3.1 (t.reg 3) t in
    rw (c.row_is, c.column_is, x.is, x.inside, x.are) (write_on e f s k Write c.row c.column (Content.Value x.bytes) refl hx lands t)
helps_on e f s k Delete pl hx lands b t =
    let p = empty_parts (unset f 1 ++ unset f 2) (when (not (is_cell f)) RuleCode.WrongArgument) b in
    let c = cell_is e f s (not_false _ (when_not _ _ p.1)) t in
    rw (c.row_is, c.column_is) (write_on e f s k Delete c.row c.column Content.Deleted refl hx lands t)
helps_on e f s k Start pl hx lands b t =
    arrives e f s _ k Start hx lands refl (fits_returned e f s (m.state_after_call s s.writes e.start) e.start t refl refl)

calls_on : (e : Environment) (f : Frame) (s : State) (k : ℤ) (x : Option Helper) → IsPlaced e → declared_helper e.judged.helpers k ≡ x → is_some (insn_at e.judged.program.insns (s.slot + 1)) ≡ true → call_rules f x ≡ [] → FitsFrame e f s → GoesOn e f s.slot (Insn.Call k) (m.calls e s x)
calls_on e f s k None pl hx lands b t = cc
calls_on e f s k (Some x) pl hx lands b t = rw lands (helps_on e f s k x pl (called_is e.judged.helpers k x hx) lands b t)

-- a call whose rules hold is of a declared helper, and goes on
pub call_on : (e : Environment) (f : Frame) (s : State) (k : ℤ) → IsPlaced e → IsFollowed e.judged.program.insns s.slot (Insn.Call k) → insn_rules e.judged s.slot f (Insn.Call k) ≡ [] → FitsFrame e f s → GoesOn e f s.slot (Insn.Call k) (does e s (Insn.Call k))
call_on e f s k pl a b t = grind (arith, empty_parts, calls_on, next_is_there, e.judged.helpers, e.judged.program.insns, s.slot)
