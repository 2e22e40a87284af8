-- What a call, a launch, a step and a crash make of a world.
use Rattle.std.proofs.Common.{arith, ◌≡◌, ℕ, ◌==◌, ◌<◌, ◌≤◌, if◌then◌else◌, Bool, List, length, get_or, slice_set, refl, ◌∙◌, ap, subst, Option, Some, None, slice_get}
use Rattle.std.proofs.lemmas.Option.{slice_get_read, slice_get_within}
use Rattle.std.proofs.lemmas.List.{set-get_or}
use Rattle.pb_world.specs.Words.{Reason, reason_code, Step, Answer, SharedOf, SeatOf, Calls, call_reason, Event, Job}
use Rattle.pb_world.specs.declared.actor.Actor.{Actor}
use Rattle.pb_world.specs.declared.job.ActorJob.{ActorJob}
use Rattle.pb_world.specs.declared.note.Note.{Note}
use Rattle.pb_world.specs.Jobs.{IsReady}
use Rattle.pb_world.specs.Actors.{ActorSteps, ActorMayWant, launched}
use Rattle.pb_world.specs.Events.{WorldOf, IsWorld, with_actor, actor_of, job_for, no_launch, no_launch_by, no_actor, fault_of, OwnCalls, Happens, OwnMayWant, EventMayWant}

-- a place below the length has what is read there
pub read_is_there : {A : Type 0} (xs : List A) (k : ℕ) (x : A) → k < length xs → x ≡ get_or xs k x → slice_get xs k ≡ Some x
read_is_there xs k x lt at = slice_get_read xs (length xs) k x refl lt at

same_list : {A : Type 0} (xs : List A) (k : ℕ) (x y : A) → x ≡ get_or xs k x → y ≡ x → slice_set xs k y ≡ xs
same_list xs k x y at is = ap (λ z. slice_set xs k z) (is ∙ at) ∙ set-get_or xs k x

-- ---- the world's own calls

module _ (w : WorldOf) (seat told : SeatOf) (t : SharedOf) (step : Step) (some : 1 ≤ length w.seats) (at : seat ≡ get_or w.seats 0 seat) where
  pub own_answers : (a : Answer) → call_reason w.shared seat.number step ≡ None → Calls w.shared seat step a t told → OwnCalls w step (Note.Called a) (record w { shared = t; seats = slice_set w.seats 0 told })
  own_answers a none calls = record { seat = seat; its_seat = read_is_there w.seats 0 seat some at; calls = rw none (record { answer = a; told = told; note = refl; calls = calls; after = refl }) }

  pub own_same : t ≡ w.shared → told ≡ seat → record w { shared = t; seats = slice_set w.seats 0 told } ≡ w
  own_same t-is told-is = λ i. record w { shared = t-is i; seats = same_list w.seats 0 seat told at told-is i }

  pub own_refused : (code : ℕ) → (why : Reason) × (call_reason w.shared seat.number step ≡ Some why) × (code ≡ reason_code why) → t ≡ w.shared → told ≡ seat
      → OwnCalls w step (Note.Refused code) (record w { shared = t; seats = slice_set w.seats 0 told })
  own_refused code why t-is told-is = record { seat = seat; its_seat = read_is_there w.seats 0 seat some at; calls = rw why.1 (ap Note.Refused why.2, own_same t-is told-is) }

  pub own_wants : call_reason w.shared seat.number step ≡ None → OwnMayWant w step
  own_wants none = record { seat = seat; its_seat = read_is_there w.seats 0 seat some at; wants = none }

-- ---- where an event isn't at fault, its actor is there

-- an actor that is there is read at its place
actor_read : (w : WorldOf) (k : ℕ) (a : Actor) → no_actor (actor_of w k) ≡ None → a ≡ get_or w.actors k a → (actor_of w k ≡ Some a) × (k < length w.actors)
actor_read w k a can at = by (k == 0) refl (slice_get w.actors k) refl can
  where
    by : (b : Bool) → (k == 0) ≡ b → (o : Option Actor) → slice_get w.actors k ≡ o → no_actor (if b then None else o) ≡ None → (actor_of w k ≡ Some a) × (k < length w.actors)
    by b e o is can = grind (arith, slice_get_within, slice_get_read)

-- a launch of an actor without job can happen where the job is there
pub launch_fault : (w : WorldOf) (k : ℕ) (a : Actor) (o : Option ActorJob) (job : Job) → actor_of w k ≡ Some a → a.job ≡ o → fault_of w (Event.Launch k job) ≡ no_launch_by o (job_for w job)
launch_fault w k a o job is holds = ap (λ x. no_launch x (job_for w job)) is ∙ ap (λ x. no_launch_by x (job_for w job)) holds

-- what was read at the place of an actor, and of its seat
module _ (w : WorldOf) (k : ℕ) (seat : SeatOf) (a : Actor) (world : IsWorld w) (can : no_actor (actor_of w k) ≡ None) (at : seat ≡ get_or w.seats k seat) (at' : a ≡ get_or w.actors k a) where
  its_seat : slice_get w.seats k ≡ Some seat
  its_seat = read_is_there w.seats k seat (subst (λ n. k < n) world.seated (actor_read w k a can at').1) at

  its_actor : slice_get w.actors k ≡ Some a
  its_actor = read_is_there w.actors k a (actor_read w k a can at').1 at'

  pub actor_launches : (job : Job) (b : Actor) (made : ActorJob) → a.job ≡ None → job_for w job ≡ Some made → IsReady made → b ≡ launched (length seat.received) made → Happens w (Event.Launch k job) Note.Launched (with_actor w k b)
  actor_launches job b made idle is ready b-is = record {
    can = launch_fault w k a None job (actor_read w k a can at').0 idle ∙ ap (no_launch_by None) is;
    does = record { seat = seat; made = made; its_seat = its_seat; made_is = is; ready = ready; note = refl; after = ap (with_actor w k) b-is };
  }

  pub actor_takes_step : (told : SeatOf) (b : Actor) (n : Note) (t : SharedOf) → ActorSteps w.shared seat a n t told b → Happens w (Event.Step k) n (record w { shared = t; seats = slice_set w.seats k told; actors = slice_set w.actors k b })
  actor_takes_step told b n t steps = record { can = can; does = record { seat = seat; actor = a; told = told; stepped = b; its_seat = its_seat; its_actor = its_actor; steps = steps; after = refl } }

  pub step_same : (told : SeatOf) (b : Actor) (t : SharedOf) → t ≡ w.shared → told ≡ seat → b ≡ a → record w { shared = t; seats = slice_set w.seats k told; actors = slice_set w.actors k b } ≡ w
  step_same told b t t-is told-is b-is = λ i. record w { shared = t-is i; seats = same_list w.seats k seat told at told-is i; actors = same_list w.actors k a b at' b-is i }

  pub step_wants : ActorMayWant w.shared seat.number a → EventMayWant w (Event.Step k)
  step_wants wants = record { can = can; wants = record { seat = seat; actor = a; its_seat = its_seat; its_actor = its_actor; wants = wants } }
