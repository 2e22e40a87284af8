use Rattle.std.proofs.Common.{arith, ◌≡◌, ℕ, [], refl, sym, ap, subst, ◌∙◌, rules}
use Rattle.pb_notify.specs.Words.{Cell, Ts, JudgedOf, Position, Seen, no_part, one_part, went}
use Rattle.pb_notify.specs.declared.need.Need.{Need}
use Rattle.pb_notify.specs.declared.place.RunPlace.{RunPlace}
use Rattle.pb_notify.specs.Places.{ComesTo, goes, GoesOnFrom, AtPlace}
use Rattle.pb_notify.specs.Runs.{RunOf, need_at, need_of, Computes, IsJob}
use Rattle.pb_notify.specs.Conversations.{ComputesOn}
use Rattle.pb_conversations.proofs.Joining.{parts_join}
use Rattle.pb_notify.specs.Steps.{Proceeds}
use Rattle.pb_notify.specs.Steps as steps
use Rattle.pb_notify.proofs.Kept.{at_come}
use Rattle.pb_notify.proofs.job.ObserverJob.follow.Goals as goal
use Rattle.pb_notify.proofs.job.ObserverJob.follow.Goals.{in-Starting+in_ok-local, in_default}

-- the job, with its machine at this place
abbrev job_at : RunOf → RunPlace → RunOf
job_at j p = record j { place = p }

-- one instruction more
one_more : (j k l : RunOf) → ComputesOn j k → need_of k ≡ Need.Local → Computes k l → ComputesOn j l
one_more j k l on is_next last = one_part k l [] [] on (went (is_next, last))

-- its machine's instructions are as many of the job's
on_computing : (j : RunOf) (s : Ts) (v w : Position) → Proceeds v w → ComputesOn (job_at j (RunPlace.Computing s v)) (job_at j (RunPlace.Computing s w))
on_computing j s v w steps.at_first = no_part
on_computing j s v w (steps.one_more u x on by) = one_more (job_at j (RunPlace.Computing s v)) (job_at j (RunPlace.Computing s u)) (job_at j (RunPlace.Computing s x)) (on_computing j s v u on) refl (record { comes = goes x by; same = refl })

-- from a job that came so far, and is this one with its machine here, the machine's instructions lead on
goes_on : (k m j : RunOf) (place : RunPlace) (s : Ts) (v w : Position) → ComputesOn k m → job_at j place ≡ m → place ≡ RunPlace.Computing s v → Proceeds v w → ComputesOn k (job_at j (RunPlace.Computing s w))
goes_on k m j place s v w so_far is p at =
    parts_join k m (job_at j (RunPlace.Computing s w)) [] [] so_far (subst (λ l. ComputesOn l (job_at j (RunPlace.Computing s w))) (ap (job_at j) (sym p) ∙ is) (on_computing j s v w at))

-- where another instruction is next, a machine was left that goes on
went_local : (o : ℕ) (s : Ts) (v : Position) (place : RunPlace) → ComesTo o s v place → need_at place ≡ Need.Local → (t : Ts) × (w : Position) × (place ≡ RunPlace.Computing t w)
went_local o s v place x e = grind arith

came_local : (o : ℕ) (judged : JudgedOf) (x : Cell) (before after : RunPlace) → GoesOnFrom o judged x before after → need_at after ≡ Need.Local → (t : Ts) × (w : Position) × (after ≡ RunPlace.Computing t w)
came_local o judged x before after c e = grind arith

-- and where it is started
started_local : (place : RunPlace) → ((s : Ts) (seen : Seen) → place ≡ RunPlace.Starting s seen → ⊥) → need_at place ≡ Need.Local → (t : Ts) × (w : Position) × (place ≡ RunPlace.Computing t w)
started_local place isnt e = grind arith

pub returns-in_err-local-clause-on : goal.returns-in_err-local-clause-on
returns-in_err-local-clause-on c = subst (λ (k : RunOf). ComputesOn c.args.self.now k) (sym c.in_err-local.ensures.same) no_part

pub invariant_of-self : goal.invariant_of-self
invariant_of-self c =
    let i = c.self-2.inside in
    let f = c.follow-moved.ensures in
    let back = c.in_err-leave_turn.ensures.same c.in-Computing.field-0 f.last (c.follow-moved.new.self, refl, f.moves) in
    let kept : IsJob i.observer i.row i.column i.locked (RunPlace.Computing c.in-Computing.field-0 c.in-Computing.machine) i.next = subst (λ p. IsJob i.observer i.row i.column i.locked p i.next) c.in-Computing.is c.self-2.invariant in
    let here : IsJob i.observer i.row i.column i.locked (RunPlace.Computing c.in-Computing.field-0 f.last) i.next = record { stored = kept.stored; at = (kept.at.0, f.moves.going) } in
    subst (λ p. IsJob i.observer i.row i.column i.locked p i.next) (sym back.0) here

pub returns-in_err-leave_turn-clause-on : goal.returns-in_err-leave_turn-clause-on
returns-in_err-leave_turn-clause-on c =
    let i = c.self-2.inside in
    let f = c.follow-moved.ensures in
    let so_far : ComputesOn c.args.self.now c.match-self.self = elim c.match-self.branch [
      | in-Starting+in_ok-local w ↦ rw w.self-is (one_more _ c.args.self.now w.local.new.self no_part c.requires w.in_ok-local.ensures.ok)
      | in_default w ↦ rw w.self-is no_part
    ] in
    let j : RunOf = record { watch = record { observer = i.observer; judged = i.accepted.value; row = i.row; column = i.column }; locked = i.locked; place = i.place } in
    let here = goes_on c.args.self.now _ j i.place c.in-Computing.field-0 c.in-Computing.machine f.last so_far c.self-2.view_is c.in-Computing.is f.proceeds in
    let back = c.in_err-leave_turn.ensures.same c.in-Computing.field-0 f.last (c.follow-moved.new.self, refl, f.moves) in
    subst (λ p. ComputesOn c.args.self.now (job_at j p)) (sym back.0) here

pub returns-in_err-leave_turn-clause-err : goal.returns-in_err-leave_turn-clause-err
returns-in_err-leave_turn-clause-err c =
    let f = c.follow-moved.ensures in
    let back = c.in_err-leave_turn.ensures.same c.in-Computing.field-0 f.last (c.follow-moved.new.self, refl, f.moves) in
    search rules

pub invariant_of-self-in-Computing : goal.invariant_of-self-in-Computing
invariant_of-self-in-Computing c =
    let i = c.self-2.inside in
    let f = c.follow-moved.ensures in
    let few = (subst (AtPlace i.locked) c.in-Computing.is c.self-2.invariant.at).0 in
    let comes = c.in_ok-leave_turn.ensures.ok c.in-Computing.field-0 f.last (c.follow-moved.new.self, refl, f.moves) in
    record { stored = c.keep_step.ensures; at = at_come i.locked i.observer c.in-Computing.field-0 f.last c.leave_turn.new.place comes few }

pub returns-in_ok-leave_turn-clause-on : goal.returns-in_ok-leave_turn-clause-on
returns-in_ok-leave_turn-clause-on c =
    let i = c.self-2.inside in
    let f = c.follow-moved.ensures in
    let so_far : ComputesOn c.args.self.now c.match-self.self = elim c.match-self.branch [
      | in-Starting+in_ok-local w ↦ rw w.self-is (one_more _ c.args.self.now w.local.new.self no_part c.requires w.in_ok-local.ensures.ok)
      | in_default w ↦ rw w.self-is no_part
    ] in
    let j : RunOf = record { watch = record { observer = i.observer; judged = i.accepted.value; row = i.row; column = i.column }; locked = i.locked; place = i.place } in
    let here = goes_on c.args.self.now _ j i.place c.in-Computing.field-0 c.in-Computing.machine f.last so_far c.self-2.view_is c.in-Computing.is f.proceeds in
    let comes = c.in_ok-leave_turn.ensures.ok c.in-Computing.field-0 f.last (c.follow-moved.new.self, refl, f.moves) in
    one_more c.args.self.now (job_at j (RunPlace.Computing c.in-Computing.field-0 f.last)) (job_at j c.leave_turn.new.place) here refl (record { comes = comes; same = refl })

pub returns-in_default-place : goal.returns-in_default-place
returns-in_default-place c =
    let so_far : ComputesOn c.args.self.now c.match-self.self = elim c.match-self.branch [
      | in-Starting+in_ok-local w ↦ rw w.self-is (one_more _ c.args.self.now w.local.new.self no_part c.requires w.in_ok-local.ensures.ok)
      | in_default w ↦ rw w.self-is no_part
    ] in
    grind (arith, in-Starting+in_ok-local, in_default, came_local, started_local, c.args.self.now, c.match-self.branch, c.self-2.view_is, c.args.self.now.watch.observer, c.args.self.now.watch.judged, c.args.self.now.place, c.in_default-place.not-Computing, c.self.view_is, c.self.inside.place)
