-- Two runs of an instruction load, store and jump alike.
use Rattle.std.proofs.Common.{◌≡◌, ℕ, zero, suc, ◌+◌, ◌-◌, ◌<◌, inl, inr, ℤ, ◌+ℤ◌, Bool, true, false, cond, List, [], ◌++◌, length, get_or, Some, IsTrue, is_some, nat_abs, refl, sym, ◌∙◌, arith}
use Rattle.std.proofs.lemmas.Bool.{cases_lt, or_parts as or_not}
use Rattle.std.specs.Int.{from_le_bytes, to_le_bytes}
use Rattle.pb_sound.specs.Words.{STACK_BYTES, Insn, Width, Cmp, Size, Extension, Operand, number, holds, word, insn_at, Map, Placement, State, address, width, extended, fetch, entries, with_list, Kind, Frame, kind_of, is_unset, is_pointer, in_stack, in_record, from_low, are_written, set_flags, with_written, when, RuleCode, unset, stack_reads, at, reads, reads_operand, sets, on_pointer, points, loads, bytes_of, falls, jump_rules, after, with_store}
use Rattle.pb_isa.specs.declared.insn.Reg as registers
use Rattle.pb_isa.specs.Machine as m
use Rattle.pb_accepted.specs.Rules as rules
use Rattle.pb_sound.specs.Fits.{Holds}
use Rattle.pb_sound.proofs.Alike.{Alike, Agree}
use Rattle.pb_sound.proofs.Lists.{when_not, cond_when, true_at, flag_from, with_list_below, with_list_above, with_list_in}
use Rattle.pb_sound.proofs.Offsets.{moved_word}
use Rattle.pb_sound.proofs.Registers.{value_of, read_value, next_is_there}
use Rattle.pb_sound.proofs.Loads.{stretch_is_written, stack_part, part_of_record, record_byte, found_at_distance, some_bytes}
use Rattle.pb_sound.proofs.Stores.{Room, spot, store_room, length-bytes}
use Rattle.pb_sound.proofs.Arithmetic.{operand_is}
use Rattle.pb_sound.proofs.Jumps.{jump_lands}
use Rattle.pb_sound.proofs.AgreeingValues.{Setting, run, Two, number_same, operand_same, agree_set, Agrees}
use Rattle.pb_accepted.proofs.JumpsForward.{empty_parts}
use Rattle.pb_base.proofs.Logic.{true_if_not as not_false}

-- ---- loads

-- bytes that are the same one by one are the same list
pub entries_same : (g j : Map) (x y n : ℕ) → ((i : ℕ) → i < n → g (x + i) ≡ j (y + i)) → entries g x n ≡ entries j y n
entries_same g j x y zero h = refl
entries_same g j x y (suc n) h =
    let z1 : x + 0 ≡ x = omega arith in
    let z2 : y + 0 ≡ y = omega arith in
    let first : g x ≡ j y = rw (z1, z2) at (h 0 (omega arith)) in
    let rest : entries g (x + 1) n ≡ entries j (y + 1) n = entries_same g j (x + 1) (y + 1) n (λ i k.
    let e1 : x + 1 + i ≡ x + suc i = omega arith in
    let e2 : y + 1 + i ≡ y + suc i = omega arith in
    rw (e1, e2) (h (suc i) (omega arith))) in
    rw (first, rest) refl

-- written stack bytes are the same
pub stack_same : (x : Setting) (a b : Placement) (f : Frame) (s t : State) (z : ℤ) (n : ℕ) → 0 < n → stack_reads f z n ≡ [] → Two x a b f s t → entries s.stack (a.stack + from_low z) n ≡ entries t.stack (b.stack + from_low z) n
stack_same x a b f s t z n some h two =
    let ok = cond_when (in_stack z n) (are_written f z n) _ _ h in
    let lo = from_low z in
    entries_same s.stack t.stack (a.stack + lo) (b.stack + lo) n (λ i k.
    let e1 : a.stack + lo + i ≡ a.stack + (lo + i) = omega arith in
    let e2 : b.stack + lo + i ≡ b.stack + (lo + i) = omega arith in
    rw (e1, e2) (two.alike.byte (lo + i) (true_at n f lo ok.1 i k)))

-- a load whose rules hold takes the same bytes at both placements
pub fetched_same : (x : Setting) (a b : Placement) (f : Frame) (s t : State) (k : Kind) (o : ℤ) (v w n : ℕ) → 0 < n → is_unset k ≡ false → loads x.judged.record_size f k o n ≡ [] → Holds (run x a) k (Some v) → Holds (run x b) k (Some w) → Two x a b f s t → fetch (run x a) s (address v o) n ≡ fetch (run x b) t (address w o) n
fetched_same x a b f s t Kind.Unset o v w n some u h ha hb two = cc
fetched_same x a b f s t Kind.Number o v w n some u h ha hb two = cc
fetched_same x a b f s t (Kind.Stack k) o v w n some u h ha hb two =
    let z = k +ℤ o in
    let at_a : v ≡ address (a.stack + STACK_BYTES) k = cc in
    let at_b : w ≡ address (b.stack + STACK_BYTES) k = cc in
    let pa = stack_part (run x a) s z n (stretch_is_written (run x a) f s z n some two.place_a two.fits_a h) in
    let pb = stack_part (run x b) t z n (stretch_is_written (run x b) f t z n some two.place_b two.fits_b h) in
    rw (at_a, at_b, moved_word (a.stack + STACK_BYTES) k o, moved_word (b.stack + STACK_BYTES) k o) (pa ∙ stack_same x a b f s t z n some h two ∙ sym pb)
fetched_same x a b f s t (Kind.Record k) o v w n some u h ha hb two =
    let z = k +ℤ o in
    let ok : in_record x.judged.record_size z n ≡ true = not_false _ (when_not _ _ h) in
    let at_a : v ≡ address a.record_at k = cc in
    let at_b : w ≡ address b.record_at k = cc in
    let pa = part_of_record (run x a) s z n some two.place_a ok in
    let pb = part_of_record (run x b) t z n some two.place_b ok in
    let j = nat_abs z in
    let same = entries_same (m.record_map (run x a)) (m.record_map (run x b)) (a.record_at + j) (b.record_at + j) n (λ i q. record_byte (run x a) j i ∙ sym (record_byte (run x b) j i)) in
    rw (at_a, at_b, moved_word a.record_at k o, moved_word b.record_at k o) (pa.are ∙ same ∙ sym pb.are)

-- a load whose rules hold sets the same number at both
pub load_agrees : (x : Setting) (z : Size) (y : Extension) (d r : registers.Reg) (o : ℤ) → Agrees x (Insn.Load z y d r o)
load_agrees x z y d r o a b f s t here h two =
    let parts = empty_parts (rules.load_rules x.judged.record_size f z d r o) (falls x.judged.program.insns (t.slot + 1)) h in
    let more = empty_parts (reads f r ++ sets d) (loads x.judged.record_size f (at f r) o (bytes_of z)) parts.0 in
    let first = empty_parts (reads f r) (sets d) more.0 in
    let va = read_value (run x a) f s r first.0 two.fits_a in
    let vb = read_value (run x b) f t r first.0 two.fits_b in
    let set_is = when_not _ _ first.0 in
    let got = found_at_distance (run x a) f s (at f r) va.value o (bytes_of z) (some_bytes z) two.place_a two.fits_a set_is more.1 va.holds in
    let same = fetched_same x a b f s t (at f r) o va.value vb.value (bytes_of z) (some_bytes z) set_is more.1 va.holds vb.holds two in
    let v = extended y z (from_le_bytes (width z) got.bytes) in
    let are_b = sym same ∙ got.are in
    rw (va.is, vb.is, got.are, are_b) (agree_set x a b f s t (Insn.Load z y d r o) d Kind.Number v v refl here parts.1 first.1 two.alike refl)

-- ---- stores

-- a byte that is written once n bytes are put there is the same on both stacks
pub byte_alike : (w : List Bool) (vs : List ℕ) (g j : Map) (x y lo n : ℕ) → length vs ≡ n →
    ((i : ℕ) → IsTrue (get_or w i false) → g (x + i) ≡ j (y + i)) →
    (i : ℕ) → IsTrue (get_or (set_flags w lo n) i false) → with_list g (x + lo) vs (x + i) ≡ with_list j (y + lo) vs (y + i)
byte_alike w vs g j x y lo n lv h i t =
    elim (cases_lt i lo) [
      | inl low ↦
          grind (arith, with_list_below, flag_from)
      | inr up ↦ elim (cases_lt i (lo + n)) [
        | inl mid ↦
            let e1 : x + i ≡ x + lo + (i - lo) = omega arith in
            let e2 : y + i ≡ y + lo + (i - lo) = omega arith in
            rw (e1, e2) (with_list_in vs g (x + lo) (i - lo) (omega arith) ∙ sym (with_list_in vs j (y + lo) (i - lo) (omega arith)))
        | inr high ↦
            grind (arith, flag_from, with_list_above)
      ]
    ]

-- where the same bytes are put at one distance on both stacks, both stay alike
pub alike_put : (a b : Placement) (f : Frame) (s t u v : State) (z : ℤ) (n : ℕ) (vs : List ℕ) → length vs ≡ n → Alike a b f s t → u.slot ≡ v.slot → u.writes ≡ v.writes → u.regs ≡ s.regs → v.regs ≡ t.regs → u.stack ≡ with_list s.stack (a.stack + from_low z) vs → v.stack ≡ with_list t.stack (b.stack + from_low z) vs → Alike a b (with_written f z n) u v
alike_put a b f s t u v z n vs lv l eslot ewrites eu ev su sv = record {
  slot = eslot;
  writes = ewrites;
  reg = rw (eu, ev) l.reg;
  byte = rw (su, sv) (byte_alike f.written vs s.stack t.stack a.stack b.stack (from_low z) n lv l.byte);
}

-- a store leaves both alike, and goes on to the next slot
pub agree_stores : (x : Setting) (a b : Placement) (f : Frame) (s t : State) (i : Insn) (k : Kind) (o : ℤ) (v w n : ℕ) (vs : List ℕ) → length vs ≡ n → after f i ≡ with_store f k o n → is_some (insn_at x.judged.program.insns (t.slot + 1)) ≡ true → Alike a b f s t → Room (run x a) f k o n v → Room (run x b) f k o n w → Agree a b f i (m.stores_bytes (run x a) s (address v o) vs) (m.stores_bytes (run x b) t (address w o) vs)
agree_stores x a b f s t i k o v w n vs lv ea on l ra rb =
    rw (ra.there, rb.there, lv, ra.inside, rb.inside, l.slot, on, ea, ra.frame) (alike_put a b f s t _ _ (spot k o) n vs lv l refl l.writes refl refl refl refl)

pub store_imm_agrees : (x : Setting) (z : Size) (d : registers.Reg) (o k : ℤ) → Agrees x (Insn.StoreImm z d o k)
store_imm_agrees x z d o k a b f s t here h two =
    let parts = empty_parts (rules.store_imm_rules f z d o) (falls x.judged.program.insns (t.slot + 1)) h in
    let first = empty_parts (reads f d) (rules.stores (at f d) o (bytes_of z)) parts.0 in
    let va = read_value (run x a) f s d first.0 two.fits_a in
    let vb = read_value (run x b) f t d first.0 two.fits_b in
    let set_is = when_not _ _ first.0 in
    let ra = store_room (run x a) f (at f d) va.value o (bytes_of z) (some_bytes z) two.place_a set_is first.1 va.holds in
    let rb = store_room (run x b) f (at f d) vb.value o (bytes_of z) (some_bytes z) two.place_b set_is first.1 vb.holds in
    let vs = to_le_bytes (width z) (word k) in
    let on = next_is_there x.judged.program.insns (Insn.StoreImm z d o k) t.slot here parts.1 in
    rw (va.is, vb.is) (agree_stores x a b f s t (Insn.StoreImm z d o k) (at f d) o va.value vb.value (bytes_of z) vs (length-bytes z (word k)) refl on two.alike ra rb)

pub store_agrees : (x : Setting) (z : Size) (d : registers.Reg) (o : ℤ) (r : registers.Reg) → Agrees x (Insn.Store z d r o)
store_agrees x z d o r a b f s t here h two =
    let parts = empty_parts (rules.store_rules f z d r o) (falls x.judged.program.insns (t.slot + 1)) h in
    let p3 = empty_parts (reads f d ++ reads f r ++ when (is_pointer (at f r)) RuleCode.PointerStored) (rules.stores (at f d) o (bytes_of z)) parts.0 in
    let p2 = empty_parts (reads f d ++ reads f r) (when (is_pointer (at f r)) RuleCode.PointerStored) p3.0 in
    let p1 = empty_parts (reads f d) (reads f r) p2.0 in
    let va = read_value (run x a) f s d p1.0 two.fits_a in
    let vb = read_value (run x b) f t d p1.0 two.fits_b in
    let fa = read_value (run x a) f s r p1.1 two.fits_a in
    let same = number_same (at f r) _ _ (when_not _ _ p1.1) (when_not _ _ p2.1) (two.alike.reg (number r)) in
    let fb = sym same ∙ fa.is in
    let set_is = when_not _ _ p1.0 in
    let ra = store_room (run x a) f (at f d) va.value o (bytes_of z) (some_bytes z) two.place_a set_is p3.1 va.holds in
    let rb = store_room (run x b) f (at f d) vb.value o (bytes_of z) (some_bytes z) two.place_b set_is p3.1 vb.holds in
    let vs = to_le_bytes (width z) fa.value in
    let on = next_is_there x.judged.program.insns (Insn.Store z d r o) t.slot here parts.1 in
    rw (va.is, vb.is, fa.is, fb) (agree_stores x a b f s t (Insn.Store z d r o) (at f d) o va.value vb.value (bytes_of z) vs (length-bytes z fa.value) refl on two.alike ra rb)

-- ---- jumps, and the exit

-- so does what changes nothing but the slot
pub agree_goes : (x : Setting) (a b : Placement) (f : Frame) (s t : State) (i : Insn) (n : ℕ) → after f i ≡ f → is_some (insn_at x.judged.program.insns n) ≡ true → Alike a b f s t → Agree a b f i (m.goes (run x a) s n s.regs s.stack) (m.goes (run x b) t n t.regs t.stack)
agree_goes x a b f s t i n ea h l = rw (h, ea) (record { slot = refl; writes = l.writes; reg = l.reg; byte = l.byte })

pub jump_agrees : (x : Setting) (o : ℤ) → Agrees x (Insn.Jump o)
jump_agrees x o a b f s t here h two =
    let l = jump_lands x.judged.program.insns t.slot o h in
    rw (two.alike.slot, l.is) (agree_goes x a b f s t (Insn.Jump o) l.to refl l.first two.alike)

-- a comparison comes out the same, since neither side may be a pointer
pub jump_if_agrees : (x : Setting) (c : Cmp) (w : Width) (d : registers.Reg) (y : Operand) (o : ℤ) → Agrees x (Insn.JumpIf c w d y o)
jump_if_agrees x c w d y o a b f s t here h two =
    let n = t.slot in
    let p4 = empty_parts (reads f d ++ reads_operand f y ++ jump_rules x.judged.program.insns n o ++ falls x.judged.program.insns (n + 1)) (when (on_pointer f d y) RuleCode.PointerCompared) h in
    let p3 = empty_parts (reads f d ++ reads_operand f y ++ jump_rules x.judged.program.insns n o) (falls x.judged.program.insns (n + 1)) p4.0 in
    let p2 = empty_parts (reads f d ++ reads_operand f y) (jump_rules x.judged.program.insns n o) p3.0 in
    let p1 = empty_parts (reads f d) (reads_operand f y) p2.0 in
    let plain = or_not (is_pointer (at f d)) (points f y) (when_not _ _ p4.1) in
    let left = read_value (run x a) f s d p1.0 two.fits_a in
    let right = operand_is (run x a) f s y p1.1 two.fits_a in
    let left_b = sym (number_same (at f d) _ _ (when_not _ _ p1.0) plain.0 (two.alike.reg (number d))) ∙ left.is in
    let right_b = sym (operand_same a b f s t y p1.1 plain.1 two.alike) ∙ right.1 in
    let i = Insn.JumpIf c w d y o in
    let either : (taken : Bool) → Agree a b f i (m.with_value (cond taken (m.target s.slot o) (Some (s.slot + 1))) (λ k. m.goes (run x a) s k s.regs s.stack)) (m.with_value (cond taken (m.target n o) (Some (n + 1))) (λ k. m.goes (run x b) t k t.regs t.stack)) = grind (arith, run, agree_goes, two.alike, s.slot, s.regs, s.stack, t.regs, t.stack, two.alike.slot) in
    rw (left.is, right.1, left_b, right_b) (either (holds c w left.value right.0))

-- both end with the same result, since register 0 may not be a pointer
pub exit_agrees : (x : Setting) → Agrees x Insn.Exit
exit_agrees x a b f s t here h two =
    let p = empty_parts (unset f 0) (when (is_pointer (kind_of f 0)) RuleCode.ExitsWithPointer) h in
    let v = value_of (run x a) (kind_of f 0) (s.regs 0) (when_not _ _ p.0) (two.fits_a.reg 0) in
    let same = sym (number_same (kind_of f 0) _ _ (when_not _ _ p.0) (when_not _ _ p.1) (two.alike.reg 0)) ∙ v.is in
    rw (v.is, same) (refl, two.alike.writes)
