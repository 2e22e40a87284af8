-- Loads of any number of bytes, from the stack and from the record.
use Rattle.std.proofs.Common.{◌∙◌, ◌≡◌, ℕ, ◌+◌, ◌-◌, ◌<◌, ◌≤◌, ℤ, pos, negsuc, ◌+ℤ◌, true, false, List, [], ◌++◌, length, Some, refl, arith, nat_abs, slice_get, get_or}
use Rattle.std.proofs.lemmas.Option.{slice_get-get_or}
use Rattle.std.specs.Int.{from_le_bytes}
use Rattle.pb_sound.specs.Words.{STACK_BYTES, Insn, Reg, Size, Extension, IsPlaced, Environment, State, address, width, extended, fetch, entries, does, Kind, Frame, is_unset, in_stack, in_record, from_low, are_written, stack_reads, at, reads, sets, loads, bytes_of, insn_rules}
use Rattle.pb_isa.specs.Machine as m
use Rattle.pb_sound.specs.Fits.{HasValue, Holds, FitsFrame}
use Rattle.pb_sound.specs.Outcomes.{GoesOn}
use Rattle.pb_sound.proofs.Lists.{Bytes, when_not, cond_when, entries_are, true_at}
use Rattle.pb_sound.proofs.Offsets.{moved_word, le_from, stack_at, lies_between}
use Rattle.pb_sound.proofs.Registers.{read_value, sets_on, IsFollowed}
use Rattle.pb_accepted.proofs.JumpsForward.{empty_parts}
use Rattle.pb_base.proofs.Logic.{true_if_not as not_false, and_true}

-- n bytes are fetched
pub record Found (e : Environment) (s : State) (x n : ℕ) : Type 0 where
  pub bytes : List ℕ
  pub are : fetch e s x n ≡ Some bytes
  pub long : length bytes ≡ n

-- n stack bytes at a distance from the stack's end, all written
pub record Stretch (e : Environment) (s : State) (z : ℤ) (n : ℕ) : Type 0 where
  pub there : address (e.place.stack + STACK_BYTES) z ≡ e.place.stack + from_low z
  pub room : from_low z + n ≤ STACK_BYTES
  pub inside : m.stack_has e (e.place.stack + from_low z) n ≡ true
  pub read : Bytes s.stack (e.place.stack + from_low z) n

-- stack bytes that the rules let a load take are in the stack, and have values
pub stretch_is_written : (e : Environment) (f : Frame) (s : State) (z : ℤ) (n : ℕ) → 0 < n → IsPlaced e → FitsFrame e f s → stack_reads f z n ≡ [] → Stretch e s z n
stretch_is_written e f s z n some pl t h =
    let ok = cond_when (in_stack z n) (are_written f z n) _ _ h in
    let range = and_true _ _ ok.0 in
    let low = le_from (negsuc 511) z range.0 in
    let high = le_from (z +ℤ pos n) (pos 0) range.1 in
    let there = stack_at e.place.stack n z some low high pl.place.stack_fits in
    let lo = from_low z in
    let room : lo + n ≤ STACK_BYTES = there.1 in
    record {
      there = there.0;
      room = room;
      inside = lies_between e.place.stack STACK_BYTES (e.place.stack + lo) n (omega arith) (omega arith);
      read = entries_are s.stack (e.place.stack + lo) n (λ i k.
          let e1 : e.place.stack + lo + i ≡ e.place.stack + (lo + i) = omega arith in
          rw e1 (t.byte (lo + i) (true_at n f lo ok.1 i k)));
    }

stack_found : (e : Environment) (f : Frame) (s : State) (z : ℤ) (n : ℕ) → 0 < n → IsPlaced e → FitsFrame e f s → stack_reads f z n ≡ [] → Found e s (address (e.place.stack + STACK_BYTES) z) n
unfolding fetch
stack_found e f s z n some pl t h =
    let st = stretch_is_written e f s z n some pl t h in
    record { bytes = st.read.bytes; are = rw (st.there, st.inside) st.read.are; long = st.read.long }

byte_of : (bs : List ℕ) (i : ℕ) → i < length bs → HasValue (slice_get bs i)
byte_of bs i l = (get_or bs i 0, slice_get-get_or bs i 0 l)

-- n bytes of the record at a distance from its first
pub record Part (e : Environment) (s : State) (z : ℤ) (n : ℕ) : Type 0 where
  pub room : nat_abs z + n ≤ length e.bytes
  pub are : fetch e s (address e.place.record_at z) n ≡ entries (m.record_map e) (e.place.record_at + nat_abs z) n

-- bytes of the record that the rules let a load take are in the record
pub part_of_record : (e : Environment) (s : State) (z : ℤ) (n : ℕ) → 0 < n → IsPlaced e → in_record e.judged.record_size z n ≡ true → Part e s z n
unfolding fetch
part_of_record e s z n some pl k = grind arith

-- where a stretch of the stack is fetched
pub stack_part : (e : Environment) (s : State) (z : ℤ) (n : ℕ) → Stretch e s z n → fetch e s (address (e.place.stack + STACK_BYTES) z) n ≡ entries s.stack (e.place.stack + from_low z) n
unfolding fetch
stack_part e s z n st = rw (st.there, st.inside) refl

pub record_byte : (e : Environment) (j i : ℕ) → m.record_map e (e.place.record_at + j + i) ≡ slice_get e.bytes (j + i)
record_byte e j i = let e1 : e.place.record_at + j + i - e.place.record_at ≡ j + i = omega arith in rw e1 refl

record_found : (e : Environment) (s : State) (z : ℤ) (n : ℕ) → 0 < n → IsPlaced e → in_record e.judged.record_size z n ≡ true → Found e s (address e.place.record_at z) n
record_found e s z n some pl h =
    let p = part_of_record e s z n some pl h in
    let j = nat_abs z in
    let room : j + n ≤ length e.bytes = p.room in
    let all = entries_are (m.record_map e) (e.place.record_at + j) n (λ i k. rw (record_byte e j i) (byte_of e.bytes (j + i) (omega arith))) in
    record { bytes = all.bytes; are = p.are ∙ all.are; long = all.long }

-- at a distance from what a register holds
pub found_at_distance : (e : Environment) (f : Frame) (s : State) (k : Kind) (x : ℕ) (o : ℤ) (n : ℕ) → 0 < n → IsPlaced e → FitsFrame e f s → is_unset k ≡ false → loads e.judged.record_size f k o n ≡ [] → Holds e k (Some x) → Found e s (address x o) n
found_at_distance e f s Kind.Unset x o n some pl t u l h = cc
found_at_distance e f s Kind.Number x o n some pl t u l h = cc
found_at_distance e f s (Kind.Stack k) x o n some pl t u l h =
    let same : x ≡ address (e.place.stack + STACK_BYTES) k = cc in
    rw (same, moved_word (e.place.stack + STACK_BYTES) k o) (stack_found e f s (k +ℤ o) n some pl t l)
found_at_distance e f s (Kind.Record k) x o n some pl t u l h =
    let same : x ≡ address e.place.record_at k = cc in
    rw (same, moved_word e.place.record_at k o) (record_found e s (k +ℤ o) n some pl (not_false _ (when_not _ _ l)))

pub some_bytes : (z : Size) → 0 < bytes_of z
some_bytes z = grind arith

-- a load whose rules hold goes on, with a number
pub load_on : (e : Environment) (f : Frame) (s : State) (z : Size) (y : Extension) (d r : Reg) (o : ℤ) → IsPlaced e → IsFollowed e.judged.program.insns s.slot (Insn.Load z y d r o) → insn_rules e.judged s.slot f (Insn.Load z y d r o) ≡ [] → FitsFrame e f s → GoesOn e f s.slot (Insn.Load z y d r o) (does e s (Insn.Load z y d r o))
load_on e f s z y d r o pl a b t =
    let parts = empty_parts _ _ b in
    let more = empty_parts (reads f r ++ sets d) (loads e.judged.record_size f (at f r) o (bytes_of z)) parts.0 in
    let first = empty_parts (reads f r) (sets d) more.0 in
    let base = read_value e f s r first.0 t in
    let got = found_at_distance e f s (at f r) base.value o (bytes_of z) (some_bytes z) pl t (when_not _ _ first.0) more.1 base.holds in
    let v = extended y z (from_le_bytes (width z) got.bytes) in
    rw (base.is, got.are) (sets_on e f s (Insn.Load z y d r o) d Kind.Number v refl refl a parts.1 first.1 t (v, refl))
