use Rattle.pb_notify.proofs.Led.{machines_are_led, asks_are_open, ended_runs_mean}
use Rattle.pb_notify.proofs.laws.machines_are_led.Goals as goal

pub returns-clause-led : goal.returns-clause-led
returns-clause-led c = machines_are_led c.plans_converse.ensures.converses c.plans_converse.ensures.ends

pub returns-clause-open : goal.returns-clause-open
returns-clause-open c = asks_are_open

pub returns-clause-ended : goal.returns-clause-ended
returns-clause-ended c = ended_runs_mean c.plans_converse.ensures.converses c.plans_converse.ensures.ends
