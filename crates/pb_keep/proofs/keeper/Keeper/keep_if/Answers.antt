use Rattle.std.proofs.Common.{◌++◌}
use Rattle.pb_keep.proofs.Added.{no_line_waits}
use Rattle.pb_keep.proofs.Mapping.{on_ok}
use Rattle.pb_keep.proofs.Putting.{rest_is_shut}
use Rattle.pb_keep.proofs.Serving.{leaves_served}
use Rattle.pb_keep.proofs.keeper.Keeper.keep_if.Goals as goal

pub returns-then-not-is_asked-clause-crash : goal.returns-then-not-is_asked-clause-crash
returns-then-not-is_asked-clause-crash g c = λ b lines s file m. leaves_served s file m

pub returns-clause-waiting : goal.returns-clause-waiting
returns-clause-waiting g c = on_ok c.keep.result (λ idle. no_line_waits c.keep.new.self.waiting idle) c.keep.ensures.idle

pub returns-then-not-is_asked-clause-shut : goal.returns-then-not-is_asked-clause-shut
returns-then-not-is_asked-clause-shut g c = λ mixes b lines s file m.
    let log = c.args.self.now.log in
    rest_is_shut b.origin (b.changes ++ s.made) (g.D.Disk.seen log.disk) (g.D.Disk.may_leave log.disk) log.end s.log file m

pub returns-clause-shut : goal.returns-clause-shut
returns-clause-shut g c = λ mixes b lines s file m. c.keep.ensures.shut mixes b lines s file m
