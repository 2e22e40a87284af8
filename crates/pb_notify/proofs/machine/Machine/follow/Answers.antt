use Rattle.std.proofs.Common.{◌≡◌, inl, inr, ℕ, zero, suc, ◌≤◌, refl, sym, ap, subst, arith, rules}
use Rattle.pb_notify.specs.Words.{JudgedOf, slots, Position, Moves, IsAskOrEnd, Advances, Moved, MachinePhase}
use Rattle.pb_notify.specs.Steps.{WentOn, Proceeds, at_first, one_more, FollowsOn}
use Rattle.pb_notify.proofs.machine.Machine.follow.Goals as goal
use Rattle.pb_notify.proofs.machine.Machine.follow.Goals.{in-Running, in-Exited}

-- the slots of its program, which no run's instructions exceed
abbrev slots_of : Position → ℕ
slots_of v = slots v.judged.program.insns

same_slots : (v w : Position) → w.judged ≡ v.judged → slots_of w ≡ slots_of v
same_slots v w e = ap (λ (j : JudgedOf). slots j.program.insns) e

-- it has done no fewer, of the same program
record IsLater (v w : Position) : Type 0 where
  taken : v.taken ≤ w.taken
  same : slots_of w ≡ slots_of v

-- an ask or the exit takes no instruction back
stop_later : (v : Position) (m : Moved) (w : Position) → IsAskOrEnd m → Moves v m w → IsLater v w
stop_later v m w stop h = grind arith

-- nor do all that lead there
later : (n : ℕ) (v : Position) (m : Moved) (w : Position) → Advances n v m w → IsLater v w
later zero v m w h = subst (IsLater v) (sym h.1) (record { taken = omega arith; same = refl })
later (suc n) v m w (inl stop) = stop_later v m w stop.0 stop.1
later (suc n) v m w (inr on) = grind (arith, same_slots, on.1.taken, on.1.given.judged, later n on.0 m w on.2)

-- all that lead to an ask or the exit
follows : (n : ℕ) (v u : Position) (m : Moved) (w : Position) → Proceeds v u → u.phase ≡ MachinePhase.Going → IsAskOrEnd m → Advances n u m w → w.taken ≤ slots_of w → FollowsOn v m w
follows zero v u m w on going stops h most = absurd (subst IsAskOrEnd h.0 stops)
follows (suc n) v u m w on going stops (inl stop) most = record { last = u; proceeds = on; stops = stop.0; moves = record { going = going; moves = stop.1; most = most } }
follows (suc n) v u m w on going stops (inr more) most =
    let rest = later n more.0 m w more.2 in
    let went : WentOn u more.0 = record { went = more.1; most = omega (arith, rest.taken, rest.same, most) } in
    follows n v more.0 m w (one_more u more.0 on went) more.1.phase stops more.2 most

pub returns : goal.returns
returns c = elim c.match-self.branch [
  | in-Running w ↦
      let old : w.in-Running.vm ≡ c.args.self.now = search rules in
      let all = w.follow.ensures.follows in
      let did = follows all.1.0 w.in-Running.vm w.in-Running.vm w.follow.result w.follow.new.self at_first (search rules) all.0 all.1.1 w.follow.ensures.most in
      rw (w.result-is, w.self-inside-is) (subst (λ (v : Position). FollowsOn v w.follow.result w.follow.new.self) old did)
  | in-Exited w ↦ rw (w.result-is, w.self-inside-is) (record { last = c.args.self.now; proceeds = at_first; stops = tt; moves = search rules })
]
