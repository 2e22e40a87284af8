-- From entry with one talk there is one end.
use Rattle.std.proofs.Common.{◌≡◌, ℕ, zero, suc, ◌+◌, ◌-◌, ◌<◌, [], inl, inr, length, Option, Some, None, refl, ap, arith}
use Rattle.std.proofs.lemmas.Bool.{cases_eq, cases_lt}
use Rattle.pb_sound.specs.Words.{Writes, Environment, State, Outcome, Ends, act, Talk, Point, point, onward, point_after, EndsWith}
use Rattle.pb_sound.specs.OneMeaning.{EachHasOneMeaning}

-- after an end nothing follows
none_next : (e : Environment) (talk : Talk) (n : ℕ) (s : State) (k r : ℕ) (ws : Writes) → point_after e talk n ≡ Some (point s k) → act e s ≡ Ends r ws → (d : ℕ) → point_after e talk (suc (n + d)) ≡ None
unfolding point_after
none_next e talk n s k r ws h a zero = let z : n + 0 ≡ n = omega arith in rw (z, h, a) refl
none_next e talk n s k r ws h a (suc d) =
    let z : n + suc d ≡ suc (n + d) = omega arith in
    let before = none_next e talk n s k r ws h a d in
    rw z (ap (onward e talk) before)

none_some : (x : Point) (o : Option Point) → o ≡ None → o ≡ Some x → ⊥
none_some x o e h = cc

-- of two ends none is later
not_later : (e : Environment) (talk : Talk) (r v : ℕ) (ws us : Writes) (x : EndsWith e talk r ws) (y : EndsWith e talk v us) → x.steps < y.steps → ⊥
not_later e talk r v ws us x y l =
    let d = y.steps - suc x.steps in
    let z : suc (x.steps + d) ≡ y.steps = omega arith in
    none_some (point y.last (length talk)) (point_after e talk y.steps) (rw z at (none_next e talk x.steps x.last (length talk) r x.made x.leads x.ends d)) y.leads

same_state : (x y : State) (k : ℕ) → Some (point x k) ≡ Some (point y k) → x ≡ y
same_state x y k h = let q : point x k ≡ point y k = cc in ap (λ (p : Point). p.state) q

result_of : Outcome → ℕ
result_of (Ends r ws) = r
result_of o = 0

writes_of : Outcome → Writes
writes_of (Ends r ws) = ws
writes_of o = []

same_end : (r v : ℕ) (ws us : Writes) → Ends r ws ≡ Ends v us → (r ≡ v) × (ws ≡ us)
unfolding result_of writes_of
same_end r v ws us h = (ap result_of h, ap writes_of h)

-- two ends with one talk are the same end, after as many instructions
one_end : (e : Environment) (talk : Talk) (r v : ℕ) (ws us : Writes) → EndsWith e talk r ws → EndsWith e talk v us → (r ≡ v) × (ws ≡ us)
one_end e talk r v ws us x y = elim (cases_eq x.steps y.steps) [
  | inl same ↦
      grind (arith, same_state, same_end, y.steps, x.last, x.leads, y.last, y.leads, x.made, y.made, x.ends, y.ends, x.kept, y.kept)
  | inr apart ↦ elim (cases_lt x.steps y.steps) [
    | inl l ↦ absurd (not_later e talk r v ws us x y l)
    | inr l ↦ absurd (not_later e talk v r us ws y x (omega (arith, l, apart)))
  ]
]

-- and so a program means one result and one list of writes
pub one_meaning : EachHasOneMeaning
one_meaning j bytes start talk r v ws us x y = grind (arith, one_end, x.some, x.at, y.at)
