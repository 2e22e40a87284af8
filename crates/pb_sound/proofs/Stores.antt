-- Stores of any number of bytes.
use Rattle.std.proofs.Common.{◌≡◌, ℕ, ◌+◌, ◌-◌, ◌<◌, ◌≤◌, inl, inr, ℤ, pos, negsuc, ◌+ℤ◌, Bool, true, false, List, [], ◌∷◌, ◌++◌, length, get_or, Some, refl, arith, is_some, IsTrue}
use Rattle.std.proofs.lemmas.Bool.{cases_lt}
use Rattle.std.specs.Int.{to_le_bytes}
use Rattle.pb_sound.specs.Words.{STACK_BYTES, Insn, Reg, Size, word, insn_at, IsPlaced, Map, Environment, State, address, width, does, with_list, Kind, Frame, is_unset, is_pointer, in_stack, from_low, set_flags, with_written, when, stack_writes, RuleCode, at, reads, stores, bytes_of, insn_rules, after, leads, with_store}
use Rattle.pb_isa.specs.Machine as m
use Rattle.pb_sound.specs.Fits.{HasValue, Holds, FitsFrame}
use Rattle.pb_sound.specs.Outcomes.{GoesOn}
use Rattle.pb_sound.proofs.Lists.{when_not, flag_from, with_list_below, with_list_above, with_list_in}
use Rattle.pb_sound.proofs.Offsets.{moved_word, le_from, stack_at, lies_between}
use Rattle.pb_sound.proofs.Registers.{read_value, next_is_there, among_one, IsFollowed}
use Rattle.pb_sound.proofs.Loads.{some_bytes}
use Rattle.pb_accepted.proofs.JumpsForward.{empty_parts}
use Rattle.pb_base.proofs.Logic.{true_if_not as not_false, and_true}

-- a byte that is written after n bytes are put from lo on
byte_after : (w : List Bool) (vs : List ℕ) (m : Map) (b lo n : ℕ) → length vs ≡ n →
    ((i : ℕ) → IsTrue (get_or w i false) → HasValue (m (b + i))) →
    (i : ℕ) → IsTrue (get_or (set_flags w lo n) i false) → HasValue (with_list m (b + lo) vs (b + i))
byte_after w vs m b lo n lv h i t =
    elim (cases_lt i lo) [
      | inl low ↦ rw (with_list_below vs m (b + lo) (b + i) (omega arith)) (h i (flag_from w lo n i (inl low) t))
      | inr up ↦ elim (cases_lt i (lo + n)) [
        | inl mid ↦
            let e1 : b + i ≡ b + lo + (i - lo) = omega arith in
            rw e1 (get_or vs (i - lo) 0, with_list_in vs m (b + lo) (i - lo) (omega arith))
        | inr high ↦ rw (with_list_above vs m (b + lo) (b + i) (omega arith)) (h i (flag_from w lo n i (inr high) t))
      ]
    ]

-- n bytes put on the stack
pub fits_put : (e : Environment) (f : Frame) (s t : State) (z : ℤ) (n : ℕ) (vs : List ℕ) → length vs ≡ n → FitsFrame e f s → t.regs ≡ s.regs → t.stack ≡ with_list s.stack (e.place.stack + from_low z) vs → FitsFrame e (with_written f z n) t
fits_put e f s t z n vs lv h er es = record {
  reg = λ r. rw er (h.reg r);
  byte = λ i w. rw es (byte_after f.written vs s.stack e.place.stack (from_low z) n lv h.byte i w);
}

-- n stack bytes at a distance from what a register holds
abbrev pub spot : Kind → ℤ → ℤ
spot (Kind.Stack k) o = k +ℤ o
spot k o = o

-- n bytes of the stack where the store goes, which are written after it
pub record Room (e : Environment) (f : Frame) (k : Kind) (o : ℤ) (n x : ℕ) : Type 0 where
  pub frame : with_store f k o n ≡ with_written f (spot k o) n
  pub there : address x o ≡ e.place.stack + from_low (spot k o)
  pub room : from_low (spot k o) + n ≤ STACK_BYTES
  pub inside : m.stack_has e (e.place.stack + from_low (spot k o)) n ≡ true

pub stack_room : (e : Environment) (f : Frame) (k o : ℤ) (n : ℕ) → 0 < n → IsPlaced e → stack_writes (k +ℤ o) n ≡ [] → Room e f (Kind.Stack k) o n (address (e.place.stack + STACK_BYTES) k)
stack_room e f k o n some pl l =
    let z = k +ℤ o in
    let ok : in_stack z n ≡ true = not_false _ (when_not _ _ l) in
    let range = and_true _ _ ok in
    let low = le_from (negsuc 511) z range.0 in
    let high = le_from (z +ℤ pos n) (pos 0) range.1 in
    let there = stack_at e.place.stack n z some low high pl.place.stack_fits in
    grind (arith, moved_word, lies_between, e.place.stack)

-- a store whose rules hold goes through a pointer to the stack
pub store_room : (e : Environment) (f : Frame) (k : Kind) (x : ℕ) (o : ℤ) (n : ℕ) → 0 < n → IsPlaced e → is_unset k ≡ false → stores k o n ≡ [] → Holds e k (Some x) → Room e f k o n x
store_room e f Kind.Unset x o n some pl u l h = cc
store_room e f Kind.Number x o n some pl u l h = cc
store_room e f (Kind.Record k) x o n some pl u l h = cc
store_room e f (Kind.Stack k) x o n some pl u l h =
    let same : x ≡ address (e.place.stack + STACK_BYTES) k = cc in
    rw same (stack_room e f k o n some pl l)

-- n bytes are stored there, and the instruction leads to the slot after it
stores_on : (e : Environment) (f : Frame) (s : State) (i : Insn) (k : Kind) (x : ℕ) (o : ℤ) (n : ℕ) (vs : List ℕ) → length vs ≡ n → leads s.slot i ≡ (s.slot + 1) ∷ [] → after f i ≡ with_store f k o n → is_some (insn_at e.judged.program.insns (s.slot + 1)) ≡ true → FitsFrame e f s → Room e f k o n x → GoesOn e f s.slot i (m.stores_bytes e s (address x o) vs)
stores_on e f s i k x o n vs lv el ea lands h at = grind (arith, among_one, fits_put, at.there, at.inside, s.slot, at.frame)

pub length-bytes : (z : Size) (v : ℕ) → length (to_le_bytes (width z) v) ≡ bytes_of z
length-bytes z v = grind arith

pub store_imm_on : (e : Environment) (f : Frame) (s : State) (z : Size) (d : Reg) (o k : ℤ) → IsPlaced e → IsFollowed e.judged.program.insns s.slot (Insn.StoreImm z d o k) → insn_rules e.judged s.slot f (Insn.StoreImm z d o k) ≡ [] → FitsFrame e f s → GoesOn e f s.slot (Insn.StoreImm z d o k) (does e s (Insn.StoreImm z d o k))
store_imm_on e f s z d o k pl a b t =
    let parts = empty_parts _ _ b in
    let first = empty_parts (reads f d) (stores (at f d) o (bytes_of z)) parts.0 in
    let base = read_value e f s d first.0 t in
    let where_to = store_room e f (at f d) base.value o (bytes_of z) (some_bytes z) pl (when_not _ _ first.0) first.1 base.holds in
    let vs = to_le_bytes (width z) (word k) in
    rw base.is (stores_on e f s (Insn.StoreImm z d o k) (at f d) base.value o (bytes_of z) vs (length-bytes z (word k)) refl refl (next_is_there e.judged.program.insns (Insn.StoreImm z d o k) s.slot a parts.1) t where_to)

-- a store whose rules hold goes on, with its bytes written
pub store_on : (e : Environment) (f : Frame) (s : State) (z : Size) (d : Reg) (o : ℤ) (r : Reg) → IsPlaced e → IsFollowed e.judged.program.insns s.slot (Insn.Store z d r o) → insn_rules e.judged s.slot f (Insn.Store z d r o) ≡ [] → FitsFrame e f s → GoesOn e f s.slot (Insn.Store z d r o) (does e s (Insn.Store z d r o))
store_on e f s z d o r pl a b t =
    let parts = empty_parts _ _ b in
    let p3 = empty_parts (reads f d ++ reads f r ++ when (is_pointer (at f r)) RuleCode.PointerStored) (stores (at f d) o (bytes_of z)) parts.0 in
    let p2 = empty_parts (reads f d ++ reads f r) (when (is_pointer (at f r)) RuleCode.PointerStored) p3.0 in
    let p1 = empty_parts (reads f d) (reads f r) p2.0 in
    let base = read_value e f s d p1.0 t in
    let from = read_value e f s r p1.1 t in
    let where_to = store_room e f (at f d) base.value o (bytes_of z) (some_bytes z) pl (when_not _ _ p1.0) p3.1 base.holds in
    let vs = to_le_bytes (width z) from.value in
    rw (base.is, from.is) (stores_on e f s (Insn.Store z d r o) (at f d) base.value o (bytes_of z) vs (length-bytes z from.value) refl refl (next_is_there e.judged.program.insns (Insn.Store z d r o) s.slot a parts.1) t where_to)
