use Rattle.std.proofs.Common.{◌∷◌, ◌++◌, [], Err}
use Rattle.pb_keep.specs.Words.{ScriptCode}
use Rattle.pb_keep.proofs.Putting.{rest_is_shut}
use Rattle.pb_keep.proofs.Reading.{no_text}
use Rattle.pb_keep.proofs.Serving.{leaves_served, more_lines, serves_held}
use Rattle.pb_keep.proofs.service.take_bytes.Goals as goal

pub returns-in_err-refuse-in-Err-clause-crash : goal.returns-in_err-refuse-in-Err-clause-crash
returns-in_err-refuse-in-Err-clause-crash g c = λ b lines s file m. more_lines (c.args.bytes.now ∷ []) (leaves_served s file m)

pub returns-in_ok-refuse-in-Err-clause-serves : goal.returns-in_ok-refuse-in-Err-clause-serves
returns-in_ok-refuse-in-Err-clause-serves g c = λ b lines s.
    let bytes = c.args.bytes.now in
    serves_held s bytes (Err ScriptCode.Form) c.refuse.new.waiting (no_text bytes c.in-Err.ensures.cases.0) tt c.requires.waiting.count (c.in_ok-refuse-in-Err.ensures.held c.args.keeper.now.limit c.args.keeper.now.state bytes)

pub returns-in_ok-refuse-in-Err-clause-crash : goal.returns-in_ok-refuse-in-Err-clause-crash
returns-in_ok-refuse-in-Err-clause-crash g c = λ b lines s file m. leaves_served (returns-in_ok-refuse-in-Err-clause-serves g c b lines s) file m

-- ---- the gates that a crash leaves

pub returns-in_err-refuse-in-Err-clause-shut : goal.returns-in_err-refuse-in-Err-clause-shut
returns-in_err-refuse-in-Err-clause-shut g c = λ mixes b lines s file m.
    let log = c.args.keeper.now.log in
    rest_is_shut b.origin (b.changes ++ s.made) (g.D.Disk.seen log.disk) (g.D.Disk.may_leave log.disk) log.end s.log file m

pub returns-in_ok-refuse-in-Err-clause-shut : goal.returns-in_ok-refuse-in-Err-clause-shut
returns-in_ok-refuse-in-Err-clause-shut g c = λ mixes b lines s file m.
    let log = c.args.keeper.now.log in
    rest_is_shut b.origin (b.changes ++ s.made) (g.D.Disk.seen log.disk) (g.D.Disk.may_leave log.disk) log.end s.log file m
