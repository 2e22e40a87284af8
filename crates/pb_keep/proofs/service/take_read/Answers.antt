use Rattle.std.proofs.Common.{◌++◌, Err, subst, sym}
use Rattle.pb_keep.specs.Causes.{WhyNotKept}
use Rattle.pb_keep.specs.Conversations.{keeper_view}
use Rattle.pb_keep.specs.Input.{IsLineRead}
use Rattle.pb_keep.specs.Words.{ScriptCode}
use Rattle.pb_keep.proofs.Mapping.{passed_on}
use Rattle.pb_keep.proofs.Putting.{rest_is_shut}
use Rattle.pb_keep.proofs.Reading.{leaves_line, leaves_none, long_line}
use Rattle.pb_keep.proofs.Serving.{leaves_served, serves_held}
use Rattle.pb_keep.proofs.service.take_read.Goals as goal

pub returns-in_err-take_bytes-in-Read-clause-crash : goal.returns-in_err-take_bytes-in-Read-clause-crash
returns-in_err-take_bytes-in-Read-clause-crash g c = λ b lines from to r s file m.
    let bytes = c.args.bytes.now in
    leaves_line bytes from to (subst (λ x. IsLineRead x bytes from to) c.in-Read.is r) (c.in_err-take_bytes-in-Read.ensures.crash b lines s file m)

pub returns-in_err-take_bytes-in-Read-clause-cause : goal.returns-in_err-take_bytes-in-Read-clause-cause
returns-in_err-take_bytes-in-Read-clause-cause g c = λ b lines s.
    let old = g.D.Disk.faults c.args.keeper.now.log.disk in
    let new = c.take_bytes.new.keeper in
    let now = keeper_view g.D.Disk.seen g.D.Disk.may_leave new (g.S.Sink.taken c.take_bytes.new.out) in
    let failed = g.S.Sink.failed c.take_bytes.new.out in
    passed_on c.from_residual.result c.from_residual.ensures.1
    (λ e is. subst (λ f. WhyNotKept old (g.D.Disk.faults new.log.disk) failed now f) (sym is) (c.in_err-take_bytes-in-Read.ensures.cause b lines s))

pub returns-in_err-refuse-in-TooLong-clause-crash : goal.returns-in_err-refuse-in-TooLong-clause-crash
returns-in_err-refuse-in-TooLong-clause-crash g c = λ b lines from to r s file m. leaves_none from (leaves_served s file m)

pub returns-in-End-clause-serves : goal.returns-in-End-clause-serves
returns-in-End-clause-serves g c = λ b lines from to r s.
    let ended = subst (λ x. IsLineRead x c.args.bytes.now from to) c.in-End.is r in (ended, s)

pub returns-in-End-clause-crash : goal.returns-in-End-clause-crash
returns-in-End-clause-crash g c = λ b lines from to r s file m. leaves_none from (leaves_served s file m)

pub returns-in_ok-take_bytes-in-Read-clause-serves : goal.returns-in_ok-take_bytes-in-Read-clause-serves
returns-in_ok-take_bytes-in-Read-clause-serves g c = λ b lines from to r s.
    let bytes = c.args.bytes.now in (
      bytes,
      subst (λ x. IsLineRead x bytes from to) c.in-Read.is r,
      c.in_ok-take_bytes-in-Read.ensures.serves b lines s,
    )

pub returns-in_ok-take_bytes-in-Read-clause-crash : goal.returns-in_ok-take_bytes-in-Read-clause-crash
returns-in_ok-take_bytes-in-Read-clause-crash g c = λ b lines from to r s file m.
    let bytes = c.args.bytes.now in
    leaves_line bytes from to (subst (λ x. IsLineRead x bytes from to) c.in-Read.is r) (c.in_ok-take_bytes-in-Read.ensures.crash b lines s file m)

pub returns-in_ok-refuse-in-TooLong-clause-serves : goal.returns-in_ok-refuse-in-TooLong-clause-serves
returns-in_ok-refuse-in-TooLong-clause-serves g c = λ b lines from to r s.
    let long = subst (λ x. IsLineRead x c.args.bytes.now from to) c.in-TooLong.is r in (
      long.1,
      long.3,
      serves_held s long.1 (Err ScriptCode.Form) c.refuse.new.waiting (long_line long.1 long.2) tt c.requires.waiting.count (c.in_ok-refuse-in-TooLong.ensures.held c.args.keeper.now.limit c.args.keeper.now.state long.1),
    )

pub returns-in_ok-refuse-in-TooLong-clause-crash : goal.returns-in_ok-refuse-in-TooLong-clause-crash
returns-in_ok-refuse-in-TooLong-clause-crash g c = λ b lines from to r s file m.
    let all = returns-in_ok-refuse-in-TooLong-clause-serves g c b lines from to r s in
    leaves_line all.0 from to all.1 (leaves_served all.2 file m)

-- ---- the gates that a crash leaves

pub returns-in_err-take_bytes-in-Read-clause-shut : goal.returns-in_err-take_bytes-in-Read-clause-shut
returns-in_err-take_bytes-in-Read-clause-shut g c = λ mixes b lines s file m. c.take_bytes.ensures.shut mixes b lines s file m

pub returns-in_ok-take_bytes-in-Read-clause-shut : goal.returns-in_ok-take_bytes-in-Read-clause-shut
returns-in_ok-take_bytes-in-Read-clause-shut g c = λ mixes b lines s file m. c.take_bytes.ensures.shut mixes b lines s file m

pub returns-in_err-refuse-in-TooLong-clause-shut : goal.returns-in_err-refuse-in-TooLong-clause-shut
returns-in_err-refuse-in-TooLong-clause-shut g c = λ mixes b lines s file m.
    let log = c.args.keeper.now.log in
    rest_is_shut b.origin (b.changes ++ s.made) (g.D.Disk.seen log.disk) (g.D.Disk.may_leave log.disk) log.end s.log file m

pub returns-in_ok-refuse-in-TooLong-clause-shut : goal.returns-in_ok-refuse-in-TooLong-clause-shut
returns-in_ok-refuse-in-TooLong-clause-shut g c = λ mixes b lines s file m.
    let log = c.args.keeper.now.log in
    rest_is_shut b.origin (b.changes ++ s.made) (g.D.Disk.seen log.disk) (g.D.Disk.may_leave log.disk) log.end s.log file m

pub returns-in-End-clause-shut : goal.returns-in-End-clause-shut
returns-in-End-clause-shut g c = λ mixes b lines s file m.
    let log = c.args.keeper.now.log in
    rest_is_shut b.origin (b.changes ++ s.made) (g.D.Disk.seen log.disk) (g.D.Disk.may_leave log.disk) log.end s.log file m
