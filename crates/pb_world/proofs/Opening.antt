-- A world is sound as it is opened.
use Rattle.std.proofs.Common.{arith, ◌≡◌, ℕ, zero, suc, slice_get, Some, None, sym, ap}
use Rattle.pb_world.specs.declared.actor.Actor.{Actor}
use Rattle.pb_world.specs.Events.{WorldOf, idle_actors}
use Rattle.pb_world.specs.Headline.{IsOpened}
use Rattle.pb_world.specs.Sound.{IsSoundWorld}
use Rattle.pb_base.proofs.Logic.{same_some as some_same, none_some}

-- an actor of a world that was just opened has no job
pub idle_without_job : (n k : ℕ) (a : Actor) → slice_get (idle_actors n) k ≡ Some a → a.job ≡ None
idle_without_job zero k a e = absurd (none_some a e)
idle_without_job (suc n) zero a e = ap (λ (x : Actor). x.job) (sym (some_same _ a e))
idle_without_job (suc n) (suc k) a e = idle_without_job n k a e

-- without jobs it is enough that the journal is legal and the seats have their entries
pub opened_sound : (w : WorldOf) → IsOpened w → IsSoundWorld w
opened_sound w o = grind (arith, idle_without_job, none_some, o.legal, o.seats, w.seats, o.actors)
