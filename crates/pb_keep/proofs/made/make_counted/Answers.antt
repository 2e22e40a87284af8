use Rattle.std.proofs.Common.{rules}
use Rattle.std.proofs.lemmas.List.{with_items_is, places}
use Rattle.pb_keep.proofs.made.make_counted.Goals as goal

pub returns-clause-ok : goal.returns-clause-ok
returns-clause-ok g c = rw (with_items_is c.args.stats.now c.make.new.stats (search (rules, places)), ← c.deref_mut.ensures.value) c.make.ensures.ok

pub returns-clause-keeps : goal.returns-clause-keeps
returns-clause-keeps g c = rw (with_items_is c.args.stats.now c.make.new.stats (search (rules, places)), ← c.deref_mut.ensures.value) c.make.ensures.keeps

pub returns-clause-stops : goal.returns-clause-stops
returns-clause-stops g c = rw (← c.deref_mut.ensures.value) c.make.ensures.stops

pub returns-clause-in_time : goal.returns-clause-in_time
returns-clause-in_time g c = rw (← c.deref_mut.ensures.value) c.make.ensures.in_time
