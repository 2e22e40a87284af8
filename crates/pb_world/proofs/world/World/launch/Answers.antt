use Rattle.std.proofs.Common.{rules, ◌≡◌, Some, None, length, sym, subst}
use Rattle.pb_world.specs.Events.{WorldOf, actor_of, no_actor, job_for}
use Rattle.pb_world.specs.Actors.{launched}
use Rattle.pb_world.proofs.Happenings.{actor_launches}
use Rattle.pb_world.proofs.world.World.launch.Goals as goal

pub returns : goal.returns
returns g c =
    let i = c.self.inside in
    let w : WorldOf = record { shared = i.shared; seats = i.seats.items; actors = i.actors.items; batches = i.batches.items } in
    let k = c.in_ok-at.at in
    let can = subst (λ u. no_actor (actor_of u k) ≡ None) (sym c.self.view_is) c.in_ok-at.ensures.1 in
    let actor = c.index.result.now in
    let idle : actor.job ≡ None = search rules in
    let seat = c.index-2.result.now in
    let made = subst (λ u. job_for u c.args.job.now ≡ Some c.in_ok-made.made) (sym c.self.view_is) c.in_ok-made.ensures.job in
    let b-is : c.launch.new.actor ≡ launched (length seat.received) c.in_ok-made.made = search rules in
    rw (sym c.self.view_is, sym c.in_ok-at.ensures.0) (actor_launches w k seat actor c.self.invariant can c.index-2.ensures c.index.ensures c.args.job.now c.launch.new.actor c.in_ok-made.made idle made c.in_ok-made.ensures.ready b-is)
