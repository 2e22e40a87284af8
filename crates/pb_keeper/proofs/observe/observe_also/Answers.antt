use Rattle.std.proofs.Common.{rules, ap, refl, ◌∙◌}
use Rattle.std.proofs.lemmas.List.{with_items_is, places}
use Rattle.std.proofs.lemmas.Result.{IfOk-weaker}
use Rattle.pb_keeper.specs.Words.{StateOf}
use Rattle.pb_keeper.specs.Keeps.{changed}
use Rattle.pb_keeper.specs.Stats.{kept_table}
use Rattle.pb_keeper.proofs.Keeping.{caught, kept_marked}
use Rattle.pb_keeper.proofs.Leading.{leads_observers}
use Rattle.pb_keeper.proofs.observe.observe_also.Goals as goal

pub returns-in-Ok-clause-observers : goal.returns-in-Ok-clause-observers
returns-in-Ok-clause-observers g c = IfOk-weaker c.drain.result _ _ (λ d p. leads_observers c.add_all.new.state c.drain.new.state p.0 ∙ ap (λ (z : StateOf). z.observers) c.in-Ok.ensures.observed.is) c.drain.ensures.ok

pub returns-in-Ok-clause-caught_up : goal.returns-in-Ok-clause-caught_up
returns-in-Ok-clause-caught_up g c =
    rw (with_items_is c.add_all.new.stats c.drain.new.stats (search (rules, places)))
    (IfOk-weaker c.drain.result _ _
    (λ d p. (caught c.args.more.items c.args.bound (kept_table c.args.state.now c.args.stats.now.items) c.add_all.new.state c.drain.new.state c.deref_mut.result.now c.drain.new.stats c.in-Ok.ensures.observed (c.deref_mut.ensures.value ∙ c.in-Ok.ensures.stats) p.0, refl, p.1, p.2)) c.drain.ensures.ok)

pub returns-in-Ok-clause-begins : goal.returns-in-Ok-clause-begins
returns-in-Ok-clause-begins g c limit past changes first old places front began k room is =
    rw (with_items_is c.add_all.new.stats c.drain.new.stats (search (rules, places)))
    (IfOk-weaker c.drain.result _ _
    (λ d p. changed limit past changes first old (kept_table c.args.state.now c.args.stats.now.items) (kept_table c.drain.new.state c.drain.new.stats) places front c.args.more.items began k room is
    (caught c.args.more.items c.args.bound (kept_table c.args.state.now c.args.stats.now.items) c.add_all.new.state c.drain.new.state c.deref_mut.result.now c.drain.new.stats c.in-Ok.ensures.observed (c.deref_mut.ensures.value ∙ c.in-Ok.ensures.stats) p.0)) c.drain.ensures.ok)

pub returns-in-Ok-clause-stops : goal.returns-in-Ok-clause-stops
returns-in-Ok-clause-stops g c limit past changes first old places front began k room is =
    c.drain.ensures.stops
    (kept_marked c.steps_keep_sound.ensures.step c.steps_keep_sound.ensures.opening c.snapshots_serve.ensures.left c.snapshots_serve.ensures.chosen c.jobs_keep_tables.ensures.runs c.jobs_keep_tables.ensures.whole c.jobs_keep_tables.ensures.marks
    limit past changes first old (kept_table c.args.state.now c.args.stats.now.items) c.add_all.new.state places front c.args.more.items began k room is c.in-Ok.ensures.observed)
