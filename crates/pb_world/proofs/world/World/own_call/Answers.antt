use Rattle.std.proofs.Common.{rules, ◌≡◌, refl, sym, subst}
use Rattle.pb_world.specs.declared.actor.NotCalled.{NotCalled}
use Rattle.pb_world.specs.Actors.{IsRefusedBy}
use Rattle.pb_world.specs.Events.{WorldOf}
use Rattle.pb_world.proofs.Happenings.{own_answers, own_refused, own_same, own_wants}
use Rattle.pb_world.proofs.world.World.own_call.Goals.{in-Ok, in-Err-Refused, in-Err-NoMemory}
use Rattle.pb_world.proofs.world.World.own_call.Goals as goal

pub returns : goal.returns
returns g c =
    let i = c.self.inside in
    let w : WorldOf = record { shared = i.shared; seats = i.seats.items; actors = i.actors.items; batches = i.batches.items } in
    let step = c.args.step.now in
    let seat = c.index_mut.result.now in
    let some = c.self.invariant.some in
    let at = c.index_mut.ensures.value in
    let new = c.call.new in
    rw (sym c.self.view_is) (elim c.match-call.branch [
      | in-Ok z ↦ rw z.result-is (own_answers w seat new.seat new.shared step some at z.in-Ok.answer z.in-Ok.ensures.allowed z.in-Ok.ensures.ok)
      | in-Err-Refused z ↦
          let is : z.in-Err-Refused.field-0 ≡ NotCalled.Refused z.in-Err-Refused.code = search rules in
          let refused = subst (λ y. IsRefusedBy w.shared seat.number step y) is z.in-Err-Refused.ensures.refused in
          rw z.result-is (own_refused w seat new.seat new.shared step some at z.in-Err-Refused.code refused z.in-Err-Refused.ensures.table z.in-Err-Refused.ensures.seat)
      | in-Err-NoMemory z ↦
          let is : z.in-Err-NoMemory.field-0 ≡ NotCalled.NoMemory z.in-Err-NoMemory.refused = search rules in
          let none = subst (λ y. IsRefusedBy w.shared seat.number step y) is z.in-Err-NoMemory.ensures.refused in
          rw z.result-is (own_same w seat new.seat new.shared step some at z.in-Err-NoMemory.ensures.table z.in-Err-NoMemory.ensures.seat, refl, own_wants w seat new.seat new.shared step some at none)
    ])
