-- What actors hold: the job that their last launch gave, until it is refused, at its end or crashed.
use Rattle.std.specs.Prelude.{◌≡◌, ℕ, false, List, ◌∷◌, ◌++◌, Some, None, slice_get, ◌⊎◌}
use Rattle.pb_world.specs.Words.{Has, Event, Job}
use Rattle.pb_world.specs.declared.actor.Actor.{Actor}
use Rattle.pb_world.specs.declared.job.ActorJob.{ActorJob}
use Rattle.pb_world.specs.declared.note.Note.{Note}
use Rattle.pb_world.specs.Jobs.{is_over}
use Rattle.pb_world.specs.Events.{WorldOf, actor_of, Happens, RunsTo, StopsAtEvent}
use Rattle.pb_world.specs.Sound.{IsJobOf}
use Rattle.pb_world.specs.Headline.{IsOpened}

-- the event launches or crashes this actor
abbrev pub LaunchesOrCrashes : ℕ → Event → Type 0
LaunchesOrCrashes k (Event.Launch i job) = i ≡ k
LaunchesOrCrashes k (Event.Crash i) = i ≡ k
LaunchesOrCrashes k e = ⊥

-- the last of these events that launches or crashes this actor launches it for this
pub record IsLastLaunch (es : List Event) (k : ℕ) (job : Job) : Type 0 where
  pub before : List Event
  pub after : List Event
  pub es_is : es ≡ before ++ Event.Launch k job ∷ after
  pub last : (e : Event) → Has after e → LaunchesOrCrashes k e → ⊥

-- the actor's last launch among these events was for this job, which isn't at its end
pub record IsGivenJob (es : List Event) (w : WorldOf) (k : ℕ) (j : ActorJob) : Type 0 where
  pub job : Job
  pub launch : IsLastLaunch es k job
  pub is : IsJobOf w job j
  pub goes_on : is_over j ≡ false

-- whatever events happen in an opened world, each actor's job is such a one
abbrev pub JobsAreGiven : Type 0
JobsAreGiven = (w : WorldOf) (es : List Event) (ns : List Note) (v : WorldOf) → IsOpened w → RunsTo w es ns v
    → (k : ℕ) (a : Actor) (j : ActorJob) → slice_get v.actors k ≡ Some a → a.job ≡ Some j → IsGivenJob es v k j

-- an actor with a job isn't launched
abbrev pub BusyActorsAreLeft : Type 0
BusyActorsAreLeft = (w : WorldOf) (k : ℕ) (a : Actor) (j : ActorJob) (job : Job) (es : List Event) (ns : List Note) (v : WorldOf)
    → actor_of w k ≡ Some a → a.job ≡ Some j → RunsTo w (Event.Launch k job ∷ es) ns v → ⊥

-- events that begin so stop there, at 61, or at 1 for want of room, and the world is as it was
abbrev pub BusyActorsAreTold : Type 0
BusyActorsAreTold = (w : WorldOf) (k : ℕ) (a : Actor) (j : ActorJob) (job : Job) (es : List Event) (at code : ℕ) (v : WorldOf)
    → actor_of w k ≡ Some a → a.job ≡ Some j → StopsAtEvent w (Event.Launch k job ∷ es) at code v
    → (at ≡ 0) × (v ≡ w) × ((code ≡ 61) ⊎ (code ≡ 1))

-- an actor whose step was refused has no job
abbrev pub RefusedJobsEnd : Type 0
RefusedJobsEnd = (w : WorldOf) (k code : ℕ) (v : WorldOf) (a : Actor) → Happens w (Event.Step k) (Note.Refused code) v → slice_get v.actors k ≡ Some a → a.job ≡ None
