use Rattle.pb_world.proofs.Soundness.{events_keep_sound}
use Rattle.pb_world.proofs.Opening.{opened_sound}
use Rattle.pb_world.proofs.Holding.{of_actor}
use Rattle.pb_world.proofs.RunsJoin.{runs_join, runs_part}
use Rattle.pb_world.proofs.laws.worlds_hold.Goals as goal

pub returns-clause-holds : goal.returns-clause-holds
returns-clause-holds c = λ w es ns v opened runs.
    let s = events_keep_sound w es ns v (opened_sound w opened) runs in
    let t = v.shared in
    record {
      actors = λ k a seat j is its job. of_actor c.accepted_are_never_stuck.ensures c.jobs_converse.ensures.converses c.machines_are_led.ensures.led c.machines_are_led.ensures.open c.machines_are_led.ensures.ended c.changes_converse.ensures.converses v k a.launched seat j s its (s.tied k a seat j is its job);
      history = c.legal_tables_tell.ensures.history t s.legal;
      records = c.legal_tables_tell.ensures.records t s.legal;
      once = c.legal_tables_tell.ensures.once t s.legal;
    }

pub returns-clause-join : goal.returns-clause-join
returns-clause-join c = runs_join

pub returns-clause-part : goal.returns-clause-part
returns-clause-part c = runs_part
