-- An event of a sound world has one outcome.
use Rattle.std.proofs.Common.{arith, ◌≡◌, ℕ, List, slice_set, sym, ◌∙◌, ap, subst, Option, Some, slice_get, MatchOption}
use Rattle.law_worlds.specs.Words.{Reason, reason_code, EachHasOneMeaning, Step, Received, StepsHaveOneOutcome, JournalsAreSound, IsSoundTable, SeatOf, MachinesAreLed, Event, Job, ActorJob, Note, Stepped, ActorSteps, WorldOf, Launches, StepsActor, CrashesActor, OwnAnswers, OwnCalls, EventDoes, JobCame, IsSoundWorld}
use Rattle.law_worlds.specs.Outcomes.{AreOneEvent, EventsHaveOneOutcome}
use Rattle.law_worlds.proofs.Jobs.{actor_steps_once}
use Rattle.pb_base.proofs.Logic.{one_value}

module _ (w : WorldOf) (n : Note) (v : WorldOf) (m : Note) (u : WorldOf) where
  -- ---- launches and crashes

  launches_once : (k : ℕ) (job : Job) → Launches w k job n v → Launches w k job m u → AreOneEvent n v m u
  launches_once k job x y = grind arith

  crashes_once : (k : ℕ) → CrashesActor w k n v → CrashesActor w k m u → AreOneEvent n v m u
  crashes_once k x y = grind arith

  module _ (step : StepsHaveOneOutcome) (journals : JournalsAreSound) (sound : IsSoundWorld w) where
    table : IsSoundTable w.shared.state
    table = (journals w.shared.state.observers w.shared.state.seats w.shared.opened w.shared.journal w.shared.state sound.legal).sound

    -- ---- the world's own steps

    own_answers_once : (seat : SeatOf) (st : Step) → OwnAnswers w seat st n v → OwnAnswers w seat st m u → AreOneEvent n v m u
    own_answers_once seat st x y = grind arith

    own_by : (seat : SeatOf) (st : Step) (why : Option Reason)
        → MatchOption why (OwnAnswers w seat st n v) (λ r. (n ≡ Note.Refused (reason_code r)) × (v ≡ w))
        → MatchOption why (OwnAnswers w seat st m u) (λ r. (m ≡ Note.Refused (reason_code r)) × (u ≡ w)) → AreOneEvent n v m u
    own_by seat st why x y = grind arith

    own_calls_once : (st : Step) → OwnCalls w st n v → OwnCalls w st m u → AreOneEvent n v m u
    own_calls_once st x y = grind (arith, one_value, own_by, y.seat, x.seat, w.seats, y.its_seat, x.its_seat, w.shared, y.calls, x.seat.number, x.calls)

    -- ---- steps of actors

    steps_once : EachHasOneMeaning → MachinesAreLed → (k : ℕ) → StepsActor w k n v → StepsActor w k m u → AreOneEvent n v m u
    steps_once meaning led k x y = record {
      note = ap (λ (z : Stepped). z.note) one;
      world = x.after ∙ ((λ i. record w { shared = (one i).table; seats = slice_set w.seats k (one i).seat; actors = slice_set w.actors k (record { launched = launched_is i; job = (one i).job }) }) ∙ sym y.after);
    }
      where
        seat : y.seat ≡ x.seat
        seat = one_value (slice_get w.seats k) y.seat x.seat y.its_seat x.its_seat

        actor : y.actor ≡ x.actor
        actor = one_value (slice_get w.actors k) y.actor x.actor y.its_actor x.its_actor

        other : ActorSteps w.shared x.seat x.actor m u.shared y.told y.stepped
        other = subst (λ (z : Type 0). z) (λ i. ActorSteps w.shared (seat i) (actor i) m u.shared y.told y.stepped) y.steps

        came : (j : ActorJob) → x.actor.job ≡ Some j → (said : List Received) × JobCame w j said
        came j is = let tied = sound.tied k x.actor x.seat j x.its_actor x.its_seat is in (tied.said, tied.came)

        to : Stepped
        to = record { note = n; table = v.shared; seat = x.told; job = x.stepped.job }

        at : Stepped
        at = record { note = m; table = u.shared; seat = y.told; job = y.stepped.job }

        one : to ≡ at
        one = actor_steps_once step meaning led w table x.seat to at x.actor.job came x.steps.steps other.steps

        launched_is : x.stepped.launched ≡ y.stepped.launched
        launched_is = x.steps.launched ∙ sym other.launched

    does_once : EachHasOneMeaning → MachinesAreLed → (e : Event) → EventDoes w e n v → EventDoes w e m u → AreOneEvent n v m u
    does_once meaning led e h y = grind (arith, launches_once, steps_once, crashes_once, own_calls_once)

-- every event, by its kind: a launch, a step, a crash, or a step of the main seat
pub events_once : StepsHaveOneOutcome → JournalsAreSound → EachHasOneMeaning → MachinesAreLed → EventsHaveOneOutcome
events_once step journals meaning led w e n v m u sound x y = does_once w n v m u step journals sound meaning led e x.does y.does
