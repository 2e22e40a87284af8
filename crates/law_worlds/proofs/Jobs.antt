-- A call has one outcome, and so has a job's next instruction, a job's answer and an actor's step.
use Rattle.std.proofs.Common.{◌≡◌, ℕ, ◌≤◌, Bool, true, false, List, length, sym, ◌∙◌, ap, subst, refl, arith, Option, Some, None, MatchBool, MatchOption}
use Rattle.law_worlds.specs.Words.{Reason, Cell, MAX_RECORD_BYTES, Placement, IsPlacement, EachHasOneMeaning, Step, Received, StepsHaveOneOutcome, IsSoundTable, SeatOf, call_reason, RunPlace, GoesOnFrom, MachineStandsAt, MachinesAreLed, RunOf, ActorJob, next_of, is_local, Computes, Stepped, AnswersJob, RefusesJob, CallSteps, Instructs, IsIdle, StepsTo, WorldOf, JobCame}
use Rattle.pb_notify.specs.Conversations.{Reaches}
use Rattle.pb_notify.specs.Runs as runs
use Rattle.law_worlds.proofs.Machines.{comes_once}
use Rattle.pb_world.proofs.Holding.{some_placement}

-- ---- instructions

module _ (meaning : EachHasOneMeaning) (led : MachinesAreLed) where
  module _ (r : RunOf) (said : List Received) (fits : r.watch.judged.record_size ≤ MAX_RECORD_BYTES) (reaches : Reaches (runs.fresh r.watch) said r) where
    -- the program's record has a place
    placed : (size : ℕ) → size ≡ r.watch.judged.record_size → (a : Placement) × IsPlacement size a
    placed size e = some_placement size (subst (λ n. n ≤ MAX_RECORD_BYTES) (sym e) fits)

    places_once : (place : RunPlace) → r.place ≡ place → (x y : RunPlace) → GoesOnFrom r.watch.observer r.watch.judged (Cell.Data r.watch.row r.watch.column) place x → GoesOnFrom r.watch.observer r.watch.judged (Cell.Data r.watch.row r.watch.column) place y → x ≡ y
    places_once (RunPlace.Starting s seen) is x y c d =
        let p = placed _ c.size in
        comes_once _ p.0 p.1 meaning r.watch.observer s x y c.comes d.comes
    places_once (RunPlace.Computing s v) is x y c d =
        let stands : MachineStandsAt r.place s v = subst (λ p. MachineStandsAt p s v) (sym is) (refl, refl) in
        let machine = led r.watch said r s v reaches stands in
        let p = placed (length v.bytes) machine.size in
        comes_once v p.0 p.1 meaning r.watch.observer s x y c d
    places_once _ is x y c d = absurd c

    pub run_computes_once : (k l : RunOf) → runs.Computes r k → runs.Computes r l → k ≡ l
    run_computes_once k l x y =
        let e : k.place ≡ l.place = places_once r.place refl k.place l.place x.comes y.comes in
        x.same ∙ (ap (λ p. record r { place = p }) e ∙ sym y.same)

  pub computes_once : (w : WorldOf) (j : ActorJob) (said : List Received) → JobCame w j said → (k l : ActorJob) → Computes j k → Computes j l → k ≡ l
  computes_once w (ActorJob.Change c) said came k l x y = absurd x
  computes_once w (ActorJob.Run r) said came k l x y = x.1 ∙ (ap ActorJob.Run (run_computes_once r said came.ready.size came.converses x.0 y.0 x.2 y.2) ∙ sym y.1)

-- ---- steps of an actor

module _ (step : StepsHaveOneOutcome) (meaning : EachHasOneMeaning) (led : MachinesAreLed) (w : WorldOf) (sound : IsSoundTable w.shared.state) (seat : SeatOf) (to at : Stepped) where
  are_one : to.note ≡ at.note → to.table ≡ at.table → to.seat ≡ at.seat → to.job ≡ at.job → to ≡ at
  are_one note table list job = λ i. record { note = note i; table = table i; seat = list i; job = job i }

  idle_once : IsIdle w.shared seat to → IsIdle w.shared seat at → to ≡ at
  idle_once x y = are_one (x.note ∙ sym y.note) (x.same.table ∙ sym y.same.table) (x.same.list ∙ sym y.same.list) (x.left ∙ sym y.left)

  instructs_once : (j : ActorJob) (said : List Received) → JobCame w j said → Instructs w.shared seat j to → Instructs w.shared seat j at → to ≡ at
  instructs_once j said came x y =
      are_one (x.note ∙ sym y.note) (x.same.table ∙ sym y.same.table) (x.same.list ∙ sym y.same.list)
      (x.left ∙ (ap Some (computes_once meaning led w j said came x.after y.after x.computes y.computes) ∙ sym y.left))

  called_once : (j : ActorJob) (st : Step) (why : Option Reason)
      → MatchOption why (AnswersJob w.shared seat j st to) (λ r. RefusesJob w.shared seat r to)
      → MatchOption why (AnswersJob w.shared seat j st at) (λ r. RefusesJob w.shared seat r at) → to ≡ at
  called_once j st why x y = grind arith

  asked_once : (j : ActorJob) (o : Option Step)
      → MatchOption o (IsIdle w.shared seat to) (λ st. CallSteps w.shared seat j st to)
      → MatchOption o (IsIdle w.shared seat at) (λ st. CallSteps w.shared seat j st at) → to ≡ at
  asked_once j None x y = idle_once x y
  asked_once j (Some st) x y = called_once j st (call_reason w.shared seat.number st) x y

  job_steps_by : (j : ActorJob) (said : List Received) → JobCame w j said → (local : Bool)
      → MatchBool local (Instructs w.shared seat j to) (MatchOption (next_of j) (IsIdle w.shared seat to) (λ st. CallSteps w.shared seat j st to))
      → MatchBool local (Instructs w.shared seat j at) (MatchOption (next_of j) (IsIdle w.shared seat at) (λ st. CallSteps w.shared seat j st at)) → to ≡ at
  job_steps_by j said came true x y = instructs_once j said came x y
  job_steps_by j said came false x y = asked_once j (next_of j) x y

  -- what the step of an actor with this job, or none, comes to
  pub actor_steps_once : (o : Option ActorJob) → ((j : ActorJob) → o ≡ Some j → (said : List Received) × JobCame w j said) → StepsTo w.shared seat o to → StepsTo w.shared seat o at → to ≡ at
  actor_steps_once None came x y = idle_once x y
  actor_steps_once (Some j) came x y = let c = came j refl in job_steps_by j c.0 c.1 (is_local j) x y
