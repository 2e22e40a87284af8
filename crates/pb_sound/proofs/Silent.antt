-- Without helpers no step asks, and the writes stay as they are: none.
use Rattle.std.proofs.Common.{arith, ◌≡◌, ℕ, ◌+◌, zero, suc, Bool, cond, nat_eq, List, [], ◌∷◌, length, Option, Some, None, refl, subst, is_some}
use Rattle.pb_sound.specs.Words.{Writes, Insn, Reg, number, insn_at, Helper, HelperSet, no_helpers, if_declared, Map, Environment, State, Outcome, Goes, Asks, Ends, Stuck, with_value, with_values, goes, sets_register, stores_bytes, stack_has, with_entry, with_list, does, does_at, act, state_at_entry, Talk, Point, point, on, onward, point_after, kept_writes}
use Rattle.pb_sound.specs.Silent.{WithoutHelpersSilent}

-- no ask, and these writes
abbrev pub IsSilentStep : Writes → Outcome → Type 0
IsSilentStep ws (Goes t) = t.writes ≡ ws
IsSilentStep ws (Asks q go) = ⊥
IsSilentStep ws (Ends v us) = us ≡ ws
IsSilentStep ws Stuck = Unit {0}

on_value : (ws : Writes) (o : Option ℕ) (go : ℕ → Outcome) → ((v : ℕ) → IsSilentStep ws (go v)) → IsSilentStep ws (with_value o go)
on_value ws o go h = grind arith

on_values : (ws : Writes) (o : Option (List ℕ)) (go : List ℕ → Outcome) → ((v : List ℕ) → IsSilentStep ws (go v)) → IsSilentStep ws (with_values o go)
on_values ws o go h = grind arith

on_cond : (ws : Writes) (b : Bool) (o q : Outcome) → IsSilentStep ws o → IsSilentStep ws q → IsSilentStep ws (cond b o q)
on_cond ws b o q h k = grind arith

goes_on : (e : Environment) (s : State) (n : ℕ) (regs stack : Map) → IsSilentStep s.writes (goes e s n regs stack)
goes_on e s n regs stack = on_cond s.writes (is_some (insn_at e.judged.program.insns n)) (Goes (record { slot = n; regs = regs; stack = stack; writes = s.writes })) Stuck refl tt

sets : (e : Environment) (s : State) (dst : Reg) (v size : ℕ) → IsSilentStep s.writes (sets_register e s dst v size)
sets e s dst v size = on_cond s.writes (nat_eq (number dst) 10) Stuck (goes e s (s.slot + size) (with_entry s.regs (number dst) v) s.stack) tt (goes_on e s (s.slot + size) (with_entry s.regs (number dst) v) s.stack)

stores : (e : Environment) (s : State) (x : ℕ) (bs : List ℕ) → IsSilentStep s.writes (stores_bytes e s x bs)
stores e s x bs = on_cond s.writes (stack_has e x (length bs)) (goes e s (s.slot + 1) s.regs (with_list s.stack x bs)) Stuck (goes_on e s (s.slot + 1) s.regs (with_list s.stack x bs)) tt

-- an instruction but a call
abbrev pub IsPlain : Insn → Type 0
IsPlain (Insn.Call imm) = ⊥
IsPlain _ = Unit {0}

-- asks nothing, and leaves the writes as they are
pub plain_is_silent : (e : Environment) (s : State) (i : Insn) → IsPlain i → IsSilentStep s.writes (does e s i)
plain_is_silent e s i plain = grind (arith, on_value, sets, on_values, stores, goes_on)

-- without helpers no call is of one that is declared
none_declared : (h : HelperSet) (k : Option Helper) → h ≡ no_helpers → if_declared h k ≡ None
none_declared h k e = grind arith

does_silently : (e : Environment) (s : State) (i : Insn) → e.judged.helpers ≡ no_helpers → IsSilentStep s.writes (does e s i)
does_silently e s i none = grind (arith, none_declared, plain_is_silent)

does_at_silently : (e : Environment) (s : State) (i : Option Insn) → e.judged.helpers ≡ no_helpers → IsSilentStep s.writes (does_at e s i)
does_at_silently e s i none = grind (arith, does_silently)

-- so no instruction asks or writes
acts_silently : (e : Environment) (s : State) → e.judged.helpers ≡ no_helpers → IsSilentStep s.writes (act e s)
unfolding act
acts_silently e s none = does_at_silently e s (insn_at e.judged.program.insns s.slot) none

-- no reply was given so far, and nothing is written
record IsSilentPoint (u : Point) : Type 0 where
  told : u.told ≡ 0
  writes : u.state.writes ≡ []

on_silently : (talk : Talk) (ws : Writes) (o : Outcome) (k : ℕ) (u : Point) → k ≡ 0 → ws ≡ [] → IsSilentStep ws o → on talk o k ≡ Some u → IsSilentPoint u
on_silently talk ws o k u k0 none h e = grind arith

-- at each point of a run no reply was given, and nothing is written
points_silently : (e : Environment) (talk : Talk) → e.judged.helpers ≡ no_helpers → (n : ℕ) (u : Point) → point_after e talk n ≡ Some u → IsSilentPoint u
unfolding point_after state_at_entry
points_silently e talk none zero u h = let same : point (state_at_entry e) 0 ≡ u = cc in subst IsSilentPoint same (record { told = refl; writes = refl })
points_silently e talk none (suc n) u h =
    let go : (z : Option Point) → point_after e talk n ≡ z → onward e talk z ≡ Some u → IsSilentPoint u = λ z. elim z as (λ z. point_after e talk n ≡ z → onward e talk z ≡ Some u → IsSilentPoint u) [
      | None ↦ λ w q. cc
      | Some z ↦ λ w q. let y = points_silently e talk none n z w in on_silently talk z.state.writes (act e z.state) z.told u y.told y.writes (acts_silently e z.state none) q
    ] in
    go (point_after e talk n) refl h

empty : (talk : Talk) → length talk ≡ 0 → talk ≡ []
empty [] h = refl
empty (x ∷ xs) h = cc

none_kept : (r : ℕ) (ws : Writes) → ws ≡ [] → kept_writes r ws ≡ []
none_kept r ws h = grind arith

ended : (ws : Writes) (o : Outcome) (v : ℕ) (us : Writes) → IsSilentStep ws o → o ≡ Ends v us → us ≡ ws
ended ws o v us h e = subst (IsSilentStep ws) e h

-- of whatever a program means
pub without_helpers_silent : WithoutHelpersSilent
without_helpers_silent j bytes start talk r ws none means = grind (arith, points_silently, empty, none_kept, ended, acts_silently, means.at)
