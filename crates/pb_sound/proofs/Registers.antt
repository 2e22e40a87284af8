-- Registers: what is set, and what holds of it.
use Rattle.std.proofs.Common.{◌≡◌, ◌≢◌, ℕ, ◌+◌, true, false, nat_eq, List, [], ◌∷◌, length, get_or, set, Option, Some, arith, is_some, get_or-set_same, get_or-set_other}
use Rattle.std.proofs.lemmas.List.{length-set, get_or_past}
use Rattle.std.proofs.lemmas.Bool.{cases_eq, cases_lt}
use Rattle.pb_sound.specs.Words.{Insn, Reg, number, places_of, slots, insn_at, LeadOn, Map, Environment, State, Outcome, Goes, with_entry, Kind, Frame, is_unset, at, reads, sets, falls, after, leads, with_kind, has_slot}
use Rattle.pb_isa.specs.Machine as m
use Rattle.pb_sound.specs.Fits.{Holds, FitsFrame}
use Rattle.pb_sound.specs.Outcomes.{GoesOn}
use Rattle.pb_sound.proofs.Lists.{when_not, with_at, with_other}

-- past the end nothing is known
holds_same : (e : Environment) (ks : List Kind) (d : ℕ) (k : Kind) (v : Option ℕ) → Holds e k v → Holds e (get_or (set ks d k) d Kind.Unset) v
holds_same e ks d k v h = grind (arith, cases_lt, get_or-set_same, get_or_past, length-set)

holds_set : (e : Environment) (ks : List Kind) (m : Map) (d : ℕ) (k : Kind) (v : ℕ) → ((r : ℕ) → Holds e (get_or ks r Kind.Unset) (m r)) → Holds e k (Some v) → (r : ℕ) → Holds e (get_or (set ks d k) r Kind.Unset) (with_entry m d v r)
holds_set e ks m d k v h n r = grind (arith, cases_eq, with_at, holds_same, with_other, get_or-set_other)

-- a state fits on where a register is set to what its new kind says
pub fits_set : (e : Environment) (f : Frame) (s t : State) (d : Reg) (k : Kind) (v : ℕ) → FitsFrame e f s → Holds e k (Some v) → t.regs ≡ with_entry s.regs (number d) v → t.stack ≡ s.stack → FitsFrame e (with_kind f d k) t
fits_set e f s t d k v h n er es = grind (arith, holds_set, f.kinds, s.regs, h.reg, h.byte)

ne_from_false : (a b : ℕ) → nat_eq a b ≡ false → a ≢ b
ne_from_false a b h = grind arith

-- how many slots an instruction takes
abbrev pub size : Insn → ℕ
size i = length (places_of i)

-- an instruction, and another after it unless it is the last
pub record IsFollowed (p : List Insn) (n : ℕ) (i : Insn) : Type 0 where
  pub at : insn_at p n ≡ Some i
  pub next : n + size i ≢ slots p → is_some (insn_at p (n + size i)) ≡ true

pub each_is_followed : (p : List Insn) → LeadOn p → (n : ℕ) (i : Insn) → insn_at p n ≡ Some i → IsFollowed p n i
each_is_followed p lead n i a = record { at = a; next = lead.next n i a }

-- where 36 isn't broken, an instruction follows
pub next_is_there : (p : List Insn) (i : Insn) (n : ℕ) → IsFollowed p n i → falls p (n + size i) ≡ [] → is_some (insn_at p (n + size i)) ≡ true
next_is_there p i n a h = a.next (ne_from_false _ _ (when_not _ _ h))

pub among_one : (n : ℕ) → has_slot (n ∷ []) n ≡ true
among_one n = grind arith

-- a register is set, and the instruction leads to the slot after it
pub sets_on : (e : Environment) (f : Frame) (s : State) (i : Insn) (d : Reg) (k : Kind) (v : ℕ) → leads s.slot i ≡ (s.slot + size i) ∷ [] → after f i ≡ with_kind f d k → IsFollowed e.judged.program.insns s.slot i → falls e.judged.program.insns (s.slot + size i) ≡ [] → sets d ≡ [] → FitsFrame e f s → Holds e k (Some v) → GoesOn e f s.slot i (m.sets_register e s d v (size i))
sets_on e f s i d k v el ea a b o h n = grind (arith, when_not, next_is_there, among_one, fits_set, e.judged.program.insns, s.slot)

-- a register that is read has a value
pub record Value (e : Environment) (k : Kind) (v : Option ℕ) : Type 0 where
  pub value : ℕ
  pub is : v ≡ Some value
  pub holds : Holds e k (Some value)

pub value_of : (e : Environment) (k : Kind) (v : Option ℕ) → is_unset k ≡ false → Holds e k v → Value e k v
value_of e k v u h = grind arith

-- a register that the rules let be read has a value
pub read_value : (e : Environment) (f : Frame) (s : State) (r : Reg) → reads f r ≡ [] → FitsFrame e f s → Value e (at f r) (m.value s r)
read_value e f s r h t = value_of e (at f r) (m.value s r) (when_not _ _ h) (t.reg (number r))
