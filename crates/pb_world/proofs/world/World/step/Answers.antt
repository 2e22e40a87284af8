use Rattle.std.proofs.Common.{◌≡◌, None, refl, sym, subst, inl}
use Rattle.pb_world.specs.Events.{WorldOf, actor_of, no_actor}
use Rattle.pb_world.proofs.Happenings.{actor_takes_step, step_same, step_wants}
use Rattle.pb_world.proofs.world.World.step.Goals.{in-Ok, in-Err}
use Rattle.pb_world.proofs.world.World.step.Goals as goal

pub returns : goal.returns
returns g c =
    let i = c.self.inside in
    let w : WorldOf = record { shared = i.shared; seats = i.seats.items; actors = i.actors.items; batches = i.batches.items } in
    let k = c.in_ok-at.at in
    let can = subst (λ u. no_actor (actor_of u k) ≡ None) (sym c.self.view_is) c.in_ok-at.ensures.1 in
    let seat = c.index_mut-seat.result.now in
    let actor = c.index_mut-actor.result.now in
    let at = c.index_mut-seat.ensures.value in
    let at' = c.index_mut-actor.ensures.value in
    let new = c.step_actor.new in
    rw (sym c.self.view_is, sym c.in_ok-at.ensures.0) (elim c.match-step_actor.branch [
      | in-Ok z ↦ rw z.result-is (actor_takes_step w k seat actor c.self.invariant can at at' new.seat new.actor z.in-Ok.note new.shared z.in-Ok.ensures)
      | in-Err z ↦
          let e = z.in-Err.ensures in
          rw z.result-is (step_same w k seat actor c.self.invariant can at at' new.seat new.actor new.shared e.0 e.1 e.2, inl (refl, step_wants w k seat actor c.self.invariant can at at' e.3))
    ])
