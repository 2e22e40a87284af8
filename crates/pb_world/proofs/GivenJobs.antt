-- Each actor's job is what its last launch gave, and isn't at its end.
use Rattle.std.proofs.Common.{arith, ◌≡◌, ◌≢◌, ℕ, slice_set, zero, suc, List, [], ◌∷◌, ◌++◌, inl, inr, length, refl, sym, ◌∙◌, ap, subst, append_assoc, append-nil, Option, Some, None, slice_get, MatchOption}
use Rattle.pb_world.specs.Words.{Reason, reason_code, Step, Has, call_reason, Event, Job}
use Rattle.pb_world.specs.declared.actor.Actor.{Actor}
use Rattle.pb_world.specs.declared.fault.EventFault.{EventFault}
use Rattle.pb_world.specs.Faults.{fault_code}
use Rattle.pb_world.specs.declared.job.ActorJob.{ActorJob}
use Rattle.pb_world.specs.declared.note.Note.{Note}
use Rattle.pb_world.specs.Actors.{launched, crashed}
use Rattle.pb_world.specs.Events.{WorldOf, actor_of, fault_of, Launches, StepsActor, CrashesActor, OwnAnswers, OwnCalls, EventDoes, RunsTo}
use Rattle.pb_world.specs.GivenJobs.{LaunchesOrCrashes, IsLastLaunch, IsGivenJob, JobsAreGiven, BusyActorsAreLeft, BusyActorsAreTold, RefusedJobsEnd}
use Rattle.pb_world.proofs.Soundness.{IsAfterSet, changed, unchanged, after_set, of_move, of_in, made_is, IsSteppedTo, actor_steps, moves_observers}
use Rattle.pb_world.proofs.Happenings.{launch_fault}
use Rattle.pb_world.proofs.Opening.{idle_without_job}
use Rattle.pb_base.proofs.Logic.{same_some as some_same, none_some}

-- ---- one more event

not_in : (k : ℕ) (after : List Event) (d : Event) → ((e : Event) → Has after e → LaunchesOrCrashes k e → ⊥) → (LaunchesOrCrashes k d → ⊥) → (e : Event) → Has (after ++ d ∷ []) e → LaunchesOrCrashes k e → ⊥
not_in k [] d none isnt e (inl is) r = isnt (subst (LaunchesOrCrashes k) (sym is) r)
not_in k [] d none isnt e (inr has) r = absurd has
not_in k (x ∷ after) d none isnt e (inl is) r = none e (inl is) r
not_in k (x ∷ after) d none isnt e (inr on) r = not_in k after d (λ f has. none f (inr has)) isnt e on r

-- an event that neither launches nor crashes the actor leaves its last launch the last
longer : (es : List Event) (k : ℕ) (job : Job) (d : Event) → (LaunchesOrCrashes k d → ⊥) → IsLastLaunch es k job → IsLastLaunch (es ++ d ∷ []) k job
longer es k job d isnt l = record {
  before = l.before;
  after = l.after ++ d ∷ [];
  es_is = ap (λ xs. xs ++ d ∷ []) l.es_is ∙ append_assoc l.before (Event.Launch k job ∷ l.after) (d ∷ []);
  last = not_in k l.after d l.last isnt;
}

-- ---- events

-- each actor's job is given by these events
abbrev AreGiven : List Event → WorldOf → Type 0
AreGiven es w = (k : ℕ) (a : Actor) (j : ActorJob) → slice_get w.actors k ≡ Some a → a.job ≡ Some j → IsGivenJob es w k j

-- an actor that an event leaves alone holds what it held
held_on : (es : List Event) (w v : WorldOf) (k : ℕ) (j : ActorJob) (e : Event) → v.shared.state.observers ≡ w.shared.state.observers → v.batches ≡ w.batches → (LaunchesOrCrashes k e → ⊥) → IsGivenJob es w k j → IsGivenJob (es ++ e ∷ []) v k j
held_on es w v k j e os bs isnt g = record { job = g.job; launch = longer es k g.job e isnt g.launch; is = of_in w v g.job j os bs g.is; goes_on = g.goes_on }

-- one actor changed, and each other left alone
one_given : (es : List Event) (w v : WorldOf) (i : ℕ) (b : Actor) (e : Event) → v.shared.state.observers ≡ w.shared.state.observers → v.batches ≡ w.batches → v.actors ≡ slice_set w.actors i b → ((k : ℕ) → k ≢ i → LaunchesOrCrashes k e → ⊥)
    → ((j : ActorJob) → b.job ≡ Some j → IsGivenJob (es ++ e ∷ []) v i j) → AreGiven es w → AreGiven (es ++ e ∷ []) v
one_given es w v i b e os bs set isnt its all k a j is holds = by (after_set w.actors i b k a (subst (λ xs. slice_get xs k ≡ Some a) set is))
  where
    by : IsAfterSet w.actors i b k a → IsGivenJob (es ++ e ∷ []) v k j
    by (changed here a-is) = subst (λ n. IsGivenJob (es ++ e ∷ []) v n j) (sym here) (its j (sym (ap (λ (x : Actor). x.job) a-is) ∙ holds))
    by (unchanged apart was) = held_on es w v k j e os bs (isnt k apart) (all k a j was holds)

-- each kind of event keeps that jobs are given, here and below
launch_given : (es : List Event) (w v : WorldOf) (i : ℕ) (job : Job) (n : Note) → AreGiven es w → Launches w i job n v → AreGiven (es ++ Event.Launch i job ∷ []) v
launch_given es w v i job n all d = one_given es w v i (launched (length d.seat.received) d.made) (Event.Launch i job) os bs (ap (λ (x : WorldOf). x.actors) d.after) (λ k apart e. apart (sym e)) its all
  where
    os : v.shared.state.observers ≡ w.shared.state.observers
    os = ap (λ (x : WorldOf). x.shared.state.observers) d.after

    bs : v.batches ≡ w.batches
    bs = ap (λ (x : WorldOf). x.batches) d.after

    its : (j : ActorJob) → Some d.made ≡ Some j → IsGivenJob (es ++ Event.Launch i job ∷ []) v i j
    its j is =
        let m = made_is w job d.made d.made_is in
        let here : IsGivenJob (es ++ Event.Launch i job ∷ []) v i d.made = record { job = job; launch = record { before = es; after = []; es_is = refl; last = λ e has _. absurd has }; is = of_in w v job d.made os bs m.its; goes_on = m.goes_on } in
        subst (IsGivenJob (es ++ Event.Launch i job ∷ []) v i) (some_same d.made j is) here

step_given : (es : List Event) (w v : WorldOf) (i : ℕ) (n : Note) → AreGiven es w → StepsActor w i n v → AreGiven (es ++ Event.Step i ∷ []) v
step_given es w v i n all d = one_given es w v i d.stepped (Event.Step i) os bs (ap (λ (x : WorldOf). x.actors) d.after) (λ k apart e. e) its all
  where
    to : IsSteppedTo w.shared d.seat d.actor.job (record { note = n; table = v.shared; seat = d.told; job = d.stepped.job })
    to = actor_steps w.shared d.seat _ d.actor.job d.steps.steps

    os : v.shared.state.observers ≡ w.shared.state.observers
    os = moves_observers w.shared d.seat v.shared d.told to.moves

    bs : v.batches ≡ w.batches
    bs = ap (λ (x : WorldOf). x.batches) d.after

    its : (j : ActorJob) → d.stepped.job ≡ Some j → IsGivenJob (es ++ Event.Step i ∷ []) v i j
    its j is =
        let m = to.left j is in
        let was = all i d.actor m.from d.its_actor m.was_is in
        record { job = was.job; launch = longer es i was.job (Event.Step i) (λ r. r) was.launch; is = of_in w v was.job j os bs (of_move w was.job m.from j m.more m.move was.is); goes_on = m.goes_on }

crash_given : (es : List Event) (w v : WorldOf) (i : ℕ) (n : Note) → AreGiven es w → CrashesActor w i n v → AreGiven (es ++ Event.Crash i ∷ []) v
crash_given es w v i n all d =
    one_given es w v i (crashed d.actor) (Event.Crash i) (ap (λ (x : WorldOf). x.shared.state.observers) d.after) (ap (λ (x : WorldOf). x.batches) d.after) (ap (λ (x : WorldOf). x.actors) d.after) (λ k apart e. apart (sym e)) (λ j is. absurd (none_some j is)) all

own_given : (es : List Event) (w v : WorldOf) (st : Step) (e : Event) (n : Note) → ((k : ℕ) → LaunchesOrCrashes k e → ⊥) → AreGiven es w → OwnCalls w st n v → AreGiven (es ++ e ∷ []) v
own_given es w v st e n isnt all d k a j is holds = by (call_reason w.shared d.seat.number st) d.calls
  where
    by : (r : Option Reason) → MatchOption r (OwnAnswers w d.seat st n v) (λ why. (n ≡ Note.Refused (reason_code why)) × (v ≡ w)) → IsGivenJob (es ++ e ∷ []) v k j
    by None c = held_on es w v k j e c.calls.observers (ap (λ (x : WorldOf). x.batches) c.after) (isnt k) (all k a j (subst (λ (x : WorldOf). slice_get x.actors k ≡ Some a) c.after is) holds)
    by (Some y) c =
        held_on es w v k j e (ap (λ (x : WorldOf). x.shared.state.observers) c.1) (ap (λ (x : WorldOf). x.batches) c.1) (isnt k) (all k a j (subst (λ (x : WorldOf). slice_get x.actors k ≡ Some a) c.1 is) holds)

-- so any event does
does_given : (es : List Event) (w : WorldOf) (e : Event) (n : Note) (v : WorldOf) → AreGiven es w → EventDoes w e n v → AreGiven (es ++ e ∷ []) v
does_given es w e n v all d = grind (arith, launch_given, step_given, crash_given, own_given)

-- and any list of events
run_given : (es : List Event) (w : WorldOf) (fs : List Event) (ns : List Note) (v : WorldOf) → AreGiven es w → RunsTo w fs ns v → AreGiven (es ++ fs) v
run_given es w [] [] v all r = subst (λ x. AreGiven x v) (sym (append-nil es)) (subst (λ x. AreGiven es x) (sym r) all)
run_given es w (e ∷ fs) (n ∷ ns) v all r =
    subst (λ x. AreGiven x v) (append_assoc es (e ∷ []) fs) (run_given (es ++ e ∷ []) r.0 fs ns v (does_given es w e n r.0 all r.1.does) r.2)
run_given es w [] (n ∷ ns) v all r = absurd r
run_given es w (e ∷ fs) [] v all r = absurd r

-- in an opened world no actor has a job yet
pub jobs_are_given : JobsAreGiven
jobs_are_given w es ns v o r = run_given [] w es ns v (λ k a j is holds. absurd (none_some j (sym (idle_without_job _ k a (subst (λ xs. slice_get xs k ≡ Some a) o.actors is)) ∙ holds))) r

-- ---- busy actors

-- the launch of an actor with a job is at fault with 61
busy_fault : (w : WorldOf) (k : ℕ) (a : Actor) (j : ActorJob) (job : Job) → actor_of w k ≡ Some a → a.job ≡ Some j → fault_of w (Event.Launch k job) ≡ Some EventFault.Busy
busy_fault w k a j job is holds = launch_fault w k a (Some j) job is holds

-- so no run of events begins with it
pub busy_actors_are_left : BusyActorsAreLeft
busy_actors_are_left w k a j job es xs v is holds r = grind arith

pub busy_actors_are_told : BusyActorsAreTold
busy_actors_are_told w k a j job es zero code v is holds s = (refl, same s.notes s.before, elim s.why [ inl m ↦ inr m.0 | inr f ↦ inl (told f) ])
  where
    same : (ns : List Note) → RunsTo w [] ns v → v ≡ w
    same [] r = r
    same (n ∷ ns) r = absurd r

    told : (event : Event) × (fault : EventFault) × (slice_get (Event.Launch k job ∷ es) 0 ≡ Some event) × (fault_of v event ≡ Some fault) × (code ≡ fault_code fault) → code ≡ 61
    told f =
        let event : Event.Launch k job ≡ f.0 = some_same (Event.Launch k job) f.0 f.2 in
        let here : fault_of w (Event.Launch k job) ≡ Some f.1 = subst (λ e. fault_of w e ≡ Some f.1) (sym event) (subst (λ x. fault_of x f.0 ≡ Some f.1) (same s.notes s.before) f.3) in
        let busy : EventFault.Busy ≡ f.1 = some_same EventFault.Busy f.1 (sym (busy_fault w k a j job is holds) ∙ here) in
        f.4 ∙ ap fault_code (sym busy)
busy_actors_are_told w k a j job es (suc at) code v is holds s = absurd (busy_actors_are_left w k a j job _ s.notes v is holds s.before)

-- ---- refused steps

pub refused_jobs_end : RefusedJobsEnd
refused_jobs_end w k code v a h is = by (after_set w.actors k d.stepped k a (subst (λ (x : WorldOf). slice_get x.actors k ≡ Some a) d.after is))
  where
    d : StepsActor w k (Note.Refused code) v
    d = h.does

    by : IsAfterSet w.actors k d.stepped k a → a.job ≡ None
    by x = grind arith
