-- How a model keeps the world.
use Rattle.std.specs.Prelude.{List, refl}
use Rattle.std.specs.Coded.{Coded, code_by, coded×, coded_list}
use Rattle.pb_world.specs.Words.{Writes, SharedOf, SeatOf, shared_code}
use Rattle.pb_base.specs.contracts.batch.Batch as batch
use Rattle.pb_core.specs.contracts.seat.Seat as seat
use Rattle.pb_world.specs.declared.actor.Actor.{Actor}
use Rattle.pb_world.specs.contracts.actor.Actor as actor
use Rattle.pb_world.specs.Events.{WorldOf}

-- a world by its four parts, as pairs
abbrev pub world_code : Coded WorldOf
world_code =
    code_by (SharedOf × (List SeatOf × (List Actor × List Writes))) (coded× shared_code (coded× (coded_list seat.the_row.coded) (coded× (coded_list actor.the_row.coded) (coded_list batch.the_row.coded))))
    (λ w. (w.shared, (w.seats, (w.actors, w.batches))))
    (λ p. record { shared = p.0; seats = p.1.0; actors = p.1.1.0; batches = p.1.1.1 })
    (λ _. refl)
