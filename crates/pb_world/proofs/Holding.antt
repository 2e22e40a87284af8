-- What holds in every sound world.
use Rattle.std.proofs.Common.{◌≤◌, ◌≡◌, ℕ, List, length, slice_get, Some, sym, ap, subst, ◌∙◌, arith, inr}
use Rattle.pb_world.specs.Words.{MAX_RECORD_BYTES, JudgedOf, Placement, IsPlacement, State, AcceptedAreNeverStuck, Position, IsAtState, Received, SeatOf, ChangeOf, ChangesConverse, RunOf, JobsConverse, MachinesAreLed, AsksAreOpen, EndedRunsMean, Job}
use Rattle.pb_world.specs.declared.job.ActorJob.{ActorJob}
use Rattle.pb_world.specs.Jobs.{RulesAccept}
use Rattle.pb_world.specs.Events.{WorldOf}
use Rattle.pb_world.specs.Sound.{HasObserver, IsJobOf, JobCame, CameSinceLaunch, IsSoundWorld}
use Rattle.pb_world.specs.Headline.{IsNeverStuck, HoldsOfChange, HoldsOfRun, HoldsOfJob, HoldsOfActor}
use Rattle.pb_world.proofs.SeatLists.{seat_list}

-- a placement of a record: the record first, and the stack after it
pub some_placement : (n : ℕ) → n ≤ MAX_RECORD_BYTES → (a : Placement) × IsPlacement n a
some_placement n is = (record { stack = MAX_RECORD_BYTES; record_at = 0 }, record { stack_fits = omega arith; record_fits = omega (arith, is); apart = inr (omega (arith, is)) })

-- a machine that was led to where it stands isn't stuck, since its program keeps the rules
never_stuck : AcceptedAreNeverStuck → (v : Position) → RulesAccept v.judged → length v.bytes ≡ v.judged.record_size → ((a : Placement) → IsPlacement (length v.bytes) a → (here : State) × IsAtState v a here) → IsNeverStuck v
never_stuck law v ok size led = record {
  at = λ a p.
      let here = led a p in
      let sound = law v.judged ok.program ok.accepts a v.bytes v.start v.talk v.taken _ (record { place = p; size = size }) here.1 in
      (here.0, here.1, sound.not_stuck);
  few =
      let p = some_placement (length v.bytes) (let most = ok.size in omega (arith, size, most)) in
      let here = led p.0 p.1 in
      let sound = law v.judged ok.program ok.accepts p.0 v.bytes v.start v.talk v.taken _ (record { place = p.1; size = size }) here.1 in
      omega (arith, sound.few);
}

-- what a change has said is a beginning of its conversation
of_change : ChangesConverse → (w : WorldOf) (c : ChangeOf) (said : List Received) → JobCame w (ActorJob.Change c) said → HoldsOfChange w c said
of_change law w c said m = grind (arith, m.job, m.its, m.ready, m.converses)

-- a run is of the observer that it was launched for
its_observer : (w : WorldOf) (job : Job) (r : RunOf) → IsJobOf w job (ActorJob.Run r) → HasObserver w r.watch
its_observer w (Job.Change k) r its = absurd its
its_observer w (Job.Run o row) r its = its.2

-- and so is what a run has said, whose machine was led by it
of_run : AcceptedAreNeverStuck → JobsConverse → MachinesAreLed → AsksAreOpen → EndedRunsMean → (w : WorldOf) (r : RunOf) (said : List Received) → JobCame w (ActorJob.Run r) said → HoldsOfRun w r said
of_run stuck converses led waits ended w r said m = record {
  its = its_observer w m.job r m.its;
  begins = converses r.watch said r m.converses;
  machine = λ s v stands.
      let machine = led r.watch said r s v m.converses stands in
      let accepted : RulesAccept v.judged = subst (λ j. RulesAccept j) (sym machine.program) m.ready in
      (machine, never_stuck stuck v accepted (machine.size ∙ ap (λ (j : JudgedOf). j.record_size) (sym machine.program)) machine.led);
  asks = waits r.watch said r m.converses;
  ended = ended r.watch said r m.converses;
}

of_job : AcceptedAreNeverStuck → JobsConverse → MachinesAreLed → AsksAreOpen → EndedRunsMean → ChangesConverse → (w : WorldOf) (j : ActorJob) (said : List Received) → JobCame w j said → HoldsOfJob w j said
of_job stuck converses led waits ended changes w j said m = grind (arith, of_change, of_run)

-- of an actor in a sound world the headline holds
pub of_actor : AcceptedAreNeverStuck → JobsConverse → MachinesAreLed → AsksAreOpen → EndedRunsMean → ChangesConverse → (w : WorldOf) (k n : ℕ) (seat : SeatOf) (j : ActorJob) → IsSoundWorld w → slice_get w.seats k ≡ Some seat → CameSinceLaunch w seat n j → HoldsOfActor w k n seat j
of_actor stuck converses led waits ended changes w k n seat j s is t =
    let its = seat_list w.shared w.seats k seat s.seats is in
    record { number = its.0; entries = its.1; before = t.before; said = t.said; counted = t.counted; received = t.received; job = of_job stuck converses led waits ended changes w j t.said t.came }
