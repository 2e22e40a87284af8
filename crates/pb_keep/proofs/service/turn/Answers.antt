use Rattle.std.proofs.Common.{◌++◌, ap, subst, sym}
use Rattle.pb_keep.specs.Conversations.{keeper_view}
use Rattle.pb_keep.specs.Input.{IsLineRead}
use Rattle.pb_keep.specs.Causes.{WhyNotServed}
use Rattle.pb_keep.proofs.Causing.{not_read, not_served}
use Rattle.pb_keep.proofs.Mapping.{passed_on}
use Rattle.pb_keep.proofs.Putting.{rest_is_shut}
use Rattle.pb_keep.proofs.Reading.{after_turn, kept_at_end, leaves_none, turn_kept, turn_leaves}
use Rattle.pb_keep.proofs.Serving.{leaves_served}
use Rattle.pb_keep.proofs.service.turn.Goals as goal

pub returns-in_err-went-in-Ok-clause-crash : goal.returns-in_err-went-in-Ok-clause-crash
returns-in_err-went-in-Ok-clause-crash g c = λ b lines s file m.
    let from = g.I.LineSource.remaining c.args.input.now in
    let to = g.I.LineSource.remaining c.read_line.new.input in
    let read = subst (λ l. IsLineRead c.in-Ok.read l from to) (sym c.as_slice.ensures.value) c.in-Ok.ensures.read in
    c.in_err-went-in-Ok.ensures.crash b lines from to read s file m

pub returns-in_err-keep_if-in-Ok-clause-crash : goal.returns-in_err-keep_if-in-Ok-clause-crash
returns-in_err-keep_if-in-Ok-clause-crash g c = λ b lines s file m.
    let from = g.I.LineSource.remaining c.args.input.now in
    let to = g.I.LineSource.remaining c.read_line.new.input in
    let read = subst (λ l. IsLineRead c.in-Ok.read l from to) (sym c.as_slice.ensures.value) c.in-Ok.ensures.read in
    turn_leaves lines from to c.in_ok-went-in-Ok.went (g.S.Sink.taken c.keep_if.new.out) file (c.in_ok-went-in-Ok.ensures.serves b lines from to read s)
    (λ all serves. c.in_err-keep_if-in-Ok.ensures.crash b all serves file m)

pub returns-in_ok-keep_if-in-Ok-clause-serves : goal.returns-in_ok-keep_if-in-Ok-clause-serves
returns-in_ok-keep_if-in-Ok-clause-serves g c = λ b lines s.
    let from = g.I.LineSource.remaining c.args.input.now in
    let to = g.I.LineSource.remaining c.read_line.new.input in
    let read = subst (λ l. IsLineRead c.in-Ok.read l from to) (sym c.as_slice.ensures.value) c.in-Ok.ensures.read in
    turn_kept lines from to c.in_ok-went-in-Ok.went (keeper_view g.D.Disk.seen g.D.Disk.may_leave c.keep_if.new.self (g.S.Sink.taken c.keep_if.new.out)) (c.in_ok-went-in-Ok.ensures.serves b lines from to read s)
    (λ all serves. c.in_ok-keep_if-in-Ok.ensures.serves b all serves)
    c.in_ok-keep_if-in-Ok.ensures.idle

pub returns-in_ok-keep_if-in-Ok-clause-crash : goal.returns-in_ok-keep_if-in-Ok-clause-crash
returns-in_ok-keep_if-in-Ok-clause-crash g c = λ b lines s file m.
    let from = g.I.LineSource.remaining c.args.input.now in
    let to = g.I.LineSource.remaining c.read_line.new.input in
    let read = subst (λ l. IsLineRead c.in-Ok.read l from to) (sym c.as_slice.ensures.value) c.in-Ok.ensures.read in
    turn_leaves lines from to c.in_ok-went-in-Ok.went (g.S.Sink.taken c.keep_if.new.out) file (c.in_ok-went-in-Ok.ensures.serves b lines from to read s)
    (λ all serves. c.in_ok-keep_if-in-Ok.ensures.crash b all serves file m)

pub returns-in-Err-clause-crash : goal.returns-in-Err-clause-crash
returns-in-Err-clause-crash g c = λ b lines s file m. leaves_none (g.I.LineSource.remaining c.args.input.now) (leaves_served s file m)

pub returns-in_err-went-in-Ok-clause-cause : goal.returns-in_err-went-in-Ok-clause-cause
returns-in_err-went-in-Ok-clause-cause g c = λ b lines s.
    let now = keeper_view g.D.Disk.seen g.D.Disk.may_leave c.take_read.new.keeper (g.S.Sink.taken c.take_read.new.out) in
    let old = g.D.Disk.faults c.args.keeper.now.log.disk in
    let faults = g.D.Disk.faults c.take_read.new.keeper.log.disk in
    let failed = g.S.Sink.failed c.take_read.new.out in
    let unread = g.I.LineSource.failed c.read_line.new.input in
    passed_on c.from_residual.result c.from_residual.ensures.1
    (λ e is. subst (λ f. WhyNotServed old faults unread failed now f) (sym is) (not_served old faults failed now unread c.in_err-went-in-Ok.field-0.0 (c.in_err-went-in-Ok.ensures.cause b lines s)))

pub returns-in_err-keep_if-in-Ok-clause-cause : goal.returns-in_err-keep_if-in-Ok-clause-cause
returns-in_err-keep_if-in-Ok-clause-cause g c = λ b lines s.
    let from = g.I.LineSource.remaining c.args.input.now in
    let to = g.I.LineSource.remaining c.read_line.new.input in
    let read = subst (λ l. IsLineRead c.in-Ok.read l from to) (sym c.as_slice.ensures.value) c.in-Ok.ensures.read in
    let now = keeper_view g.D.Disk.seen g.D.Disk.may_leave c.keep_if.new.self (g.S.Sink.taken c.keep_if.new.out) in
    let was = g.D.Disk.faults c.take_read.new.keeper.log.disk in
    let faults = g.D.Disk.faults c.keep_if.new.self.log.disk in
    let failed = g.S.Sink.failed c.keep_if.new.out in
    let unread = g.I.LineSource.failed c.read_line.new.input in
    passed_on c.from_residual-in_err-keep_if-in-Ok.result c.from_residual-in_err-keep_if-in-Ok.ensures.1
    (λ e is. subst (λ n. WhyNotServed n faults unread failed now e) c.in_ok-went-in-Ok.ensures.faultless
    (subst (λ f. WhyNotServed was faults unread failed now f) (sym is) (not_served was faults failed now unread c.in_err-keep_if-in-Ok.field-0.0
    (after_turn lines from to c.in_ok-went-in-Ok.went (c.in_ok-went-in-Ok.ensures.serves b lines from to read s) (λ all served. c.in_err-keep_if-in-Ok.ensures.cause b all served)))))

pub returns-in_ok-keep_if-in-Ok-clause-ended : goal.returns-in_ok-keep_if-in-Ok-clause-ended
returns-in_ok-keep_if-in-Ok-clause-ended g c =
    kept_at_end c.in_ok-went-in-Ok.went c.is_kept_after-is_kept.result c.take_read.new.keeper.waiting c.keep_if.new.self.waiting c.is_kept_after-is_kept.ensures.ended c.in_ok-keep_if-in-Ok.ensures.kept (λ e. ap (λ k. k.waiting) (c.keep_if.ensures.same e))

pub returns-in-Err-clause-cause : goal.returns-in-Err-clause-cause
returns-in-Err-clause-cause g c = λ b lines s.
    let now = keeper_view g.D.Disk.seen g.D.Disk.may_leave c.args.keeper.now (g.S.Sink.taken c.args.out.now) in
    let faults = g.D.Disk.faults c.args.keeper.now.log.disk in
    let failed = g.S.Sink.failed c.args.out.now in
    let unread = g.I.LineSource.failed c.read_line.new.input in
    subst (λ f. WhyNotServed faults faults unread failed now f) (sym c.into.ensures) (not_read faults faults (g.I.LineSource.failed c.args.input.now) unread failed now c.read_line.result c.in-Err.fault c.in-Err.is c.read_line.ensures.fails)

-- ---- the gates that a crash leaves

pub returns-in_err-went-in-Ok-clause-shut : goal.returns-in_err-went-in-Ok-clause-shut
returns-in_err-went-in-Ok-clause-shut g c = λ mixes b lines s file m. c.take_read.ensures.shut mixes b lines s file m

pub returns-in_err-keep_if-in-Ok-clause-shut : goal.returns-in_err-keep_if-in-Ok-clause-shut
returns-in_err-keep_if-in-Ok-clause-shut g c = λ mixes b lines s file m.
    let from = g.I.LineSource.remaining c.args.input.now in
    let to = g.I.LineSource.remaining c.read_line.new.input in
    let read = subst (λ l. IsLineRead c.in-Ok.read l from to) (sym c.as_slice.ensures.value) c.in-Ok.ensures.read in
    after_turn lines from to c.in_ok-went-in-Ok.went (c.in_ok-went-in-Ok.ensures.serves b lines from to read s) (λ all served. c.keep_if.ensures.shut mixes b all served file m)

pub returns-in_ok-keep_if-in-Ok-clause-shut : goal.returns-in_ok-keep_if-in-Ok-clause-shut
returns-in_ok-keep_if-in-Ok-clause-shut g c = λ mixes b lines s file m.
    let from = g.I.LineSource.remaining c.args.input.now in
    let to = g.I.LineSource.remaining c.read_line.new.input in
    let read = subst (λ l. IsLineRead c.in-Ok.read l from to) (sym c.as_slice.ensures.value) c.in-Ok.ensures.read in
    after_turn lines from to c.in_ok-went-in-Ok.went (c.in_ok-went-in-Ok.ensures.serves b lines from to read s) (λ all served. c.keep_if.ensures.shut mixes b all served file m)

pub returns-in-Err-clause-shut : goal.returns-in-Err-clause-shut
returns-in-Err-clause-shut g c = λ mixes b lines s file m.
    let log = c.args.keeper.now.log in
    rest_is_shut b.origin (b.changes ++ s.made) (g.D.Disk.seen log.disk) (g.D.Disk.may_leave log.disk) log.end s.log file m
