use Rattle.std.proofs.Common.{◌∷◌, [], Ok, length, ap, subst, sym, ◌∙◌}
use Rattle.pb_keep.specs.Words.{asked_by}
use Rattle.pb_keep.specs.Causes.{WhyNotKept}
use Rattle.pb_keep.specs.Conversations.{keeper_view}
use Rattle.pb_keep.specs.Taken.{IsLineReady}
use Rattle.pb_keep.proofs.Causing.{not_answered}
use Rattle.pb_keep.proofs.Holding.{ready_now}
use Rattle.pb_keep.proofs.Mapping.{passed_on}
use Rattle.pb_keep.proofs.Reading.{is_read, left_to_caller, read_as}
use Rattle.pb_keep.proofs.Serving.{leaves_asked, leaves_served, more_lines, none_before_question, serves_asked, serves_held}
use Rattle.pb_keep.proofs.keeper.Keeper.take.Goals as goal

pub returns-in_err-keep_if-clause-crash : goal.returns-in_err-keep_if-clause-crash
returns-in_err-keep_if-clause-crash g c = λ b lines s file m. more_lines (c.args.line.now ∷ []) (c.in_err-keep_if.ensures.crash b lines s file m)

pub returns-in_err-keep_if-clause-cause : goal.returns-in_err-keep_if-clause-cause
returns-in_err-keep_if-clause-cause g c = λ b lines s.
    let old = g.D.Disk.faults c.args.self.now.log.disk in
    let new = c.keep_if.new.self in
    let now = keeper_view g.D.Disk.seen g.D.Disk.may_leave new (g.S.Sink.taken c.keep_if.new.out) in
    let failed = g.S.Sink.failed c.keep_if.new.out in
    passed_on c.from_residual.result c.from_residual.ensures.1
    (λ e is. subst (λ f. WhyNotKept old (g.D.Disk.faults new.log.disk) failed now f) (sym is) (c.in_err-keep_if.ensures.cause b lines s))

pub hold-requires-clause-read : goal.hold-requires-clause-read
hold-requires-clause-read g c = is_read c.parse_request-read.result (asked_by c.args.line.now) c.parse_request-read.ensures

pub hold-requires-clause-ready : goal.hold-requires-clause-ready
hold-requires-clause-ready g c =
    let line = c.args.line.now in
    let read = c.parse_request-read.result in
    ready_now c.is_kept_before-before.result c.args.self.now.waiting c.keep_if.new.self.waiting line read c.is_kept_before-before.ensures.ready
    (λ e. ap (λ k. k.waiting) (c.in_ok-keep_if.ensures.same e)) c.in_ok-keep_if.ensures.kept (is_read read (asked_by line) c.parse_request-read.ensures)

pub returns-in_err-hold-in-None-clause-crash : goal.returns-in_err-hold-in-None-clause-crash
returns-in_err-hold-in-None-clause-crash g c = λ b lines s file m. more_lines (c.args.line.now ∷ []) (leaves_served (c.in_ok-keep_if.ensures.serves b lines s) file m)

pub returns-in_ok-hold-in-None-clause-serves : goal.returns-in_ok-hold-in-None-clause-serves
returns-in_ok-hold-in-None-clause-serves g c = λ b lines s.
    let line = c.args.line.now in
    let read = c.parse_request-read.result in
    let asked = is_read read (asked_by line) c.parse_request-read.ensures in
    let ready = ready_now c.is_kept_before-before.result c.args.self.now.waiting c.keep_if.new.self.waiting line read c.is_kept_before-before.ensures.ready
    (λ e. ap (λ k. k.waiting) (c.in_ok-keep_if.ensures.same e)) c.in_ok-keep_if.ensures.kept asked in
    serves_held (c.in_ok-keep_if.ensures.serves b lines s) line read c.hold.new.waiting (read_as line read c.utf8.line asked) ready c.in_ok-keep_if.ensures.waiting.count c.in_ok-hold-in-None.ensures.held

pub returns-in_ok-hold-in-None-clause-crash : goal.returns-in_ok-hold-in-None-clause-crash
returns-in_ok-hold-in-None-clause-crash g c = λ b lines s file m. leaves_served (returns-in_ok-hold-in-None-clause-serves g c b lines s) file m

pub returns-in-Some-clause-serves : goal.returns-in-Some-clause-serves
returns-in-Some-clause-serves g c = λ b lines s.
    let line = c.args.line.now in
    let read = c.parse_request-read.result in
    let asked = is_read read (asked_by line) c.parse_request-read.ensures in
    let waiting = c.keep_if.new.self.waiting in
    let ready = ready_now c.is_kept_before-before.result c.args.self.now.waiting waiting line read c.is_kept_before-before.ensures.ready
    (λ e. ap (λ k. k.waiting) (c.in_ok-keep_if.ensures.same e)) c.in_ok-keep_if.ensures.kept asked in
    left_to_caller (c.in_ok-keep_if.ensures.serves b lines s) line read c.in-Some.took ready c.utf8.line asked c.in-Some.ensures.some

pub returns-in-Some-clause-crash : goal.returns-in-Some-clause-crash
returns-in-Some-clause-crash g c = λ b lines s file m. more_lines (c.args.line.now ∷ []) (leaves_served (c.in_ok-keep_if.ensures.serves b lines s) file m)

pub returns-in_err-answer-in-Some-question_in-clause-crash : goal.returns-in_err-answer-in-Some-question_in-clause-crash
returns-in_err-answer-in-Some-question_in-clause-crash g c = λ b lines s file m.
    let line = c.args.line.now in
    let read = c.parse_request-read.result in
    let asked = is_read read (asked_by line) c.parse_request-read.ensures in
    let waiting = c.keep_if.new.self.waiting in
    let ready = ready_now c.is_kept_before-before.result c.args.self.now.waiting waiting line read c.is_kept_before-before.ensures.ready
    (λ e. ap (λ k. k.waiting) (c.in_ok-keep_if.ensures.same e)) c.in_ok-keep_if.ensures.kept asked in
    let question = c.in-Some-question_in.question in
    let is = c.in-Some-question_in.ensures.some in
    let none = none_before_question waiting (length line) question is.1 (subst (λ r. IsLineReady waiting (length line) r) is.0 ready is.2) in
    leaves_asked (c.in_ok-keep_if.ensures.serves b lines s) line question (g.S.Sink.taken c.answer.new.out) none (read_as line (Ok question) c.utf8.line (asked ∙ is.0)) c.in_err-answer-in-Some-question_in.ensures.err file m

pub returns-in_ok-answer-in-Some-question_in-clause-serves : goal.returns-in_ok-answer-in-Some-question_in-clause-serves
returns-in_ok-answer-in-Some-question_in-clause-serves g c = λ b lines s.
    let line = c.args.line.now in
    let read = c.parse_request-read.result in
    let asked = is_read read (asked_by line) c.parse_request-read.ensures in
    let waiting = c.keep_if.new.self.waiting in
    let ready = ready_now c.is_kept_before-before.result c.args.self.now.waiting waiting line read c.is_kept_before-before.ensures.ready
    (λ e. ap (λ k. k.waiting) (c.in_ok-keep_if.ensures.same e)) c.in_ok-keep_if.ensures.kept asked in
    let question = c.in-Some-question_in.question in
    let is = c.in-Some-question_in.ensures.some in
    let none = none_before_question waiting (length line) question is.1 (subst (λ r. IsLineReady waiting (length line) r) is.0 ready is.2) in
    let a = c.in_ok-answer-in-Some-question_in.ensures.ok in
    serves_asked (c.in_ok-keep_if.ensures.serves b lines s) line a.0 question (g.S.Sink.taken c.answer.new.out) none (read_as line (Ok question) c.utf8.line (asked ∙ is.0)) a.1 a.3

pub returns-in_ok-answer-in-Some-question_in-clause-crash : goal.returns-in_ok-answer-in-Some-question_in-clause-crash
returns-in_ok-answer-in-Some-question_in-clause-crash g c = λ b lines s file m. leaves_served (returns-in_ok-answer-in-Some-question_in-clause-serves g c b lines s) file m

pub returns-in_err-answer-in-Some-question_in-clause-cause : goal.returns-in_err-answer-in-Some-question_in-clause-cause
returns-in_err-answer-in-Some-question_in-clause-cause g c = λ b lines s.
    let old = g.D.Disk.faults c.args.self.now.log.disk in
    let new = c.keep_if.new.self in
    let now = keeper_view g.D.Disk.seen g.D.Disk.may_leave new (g.S.Sink.taken c.answer.new.out) in
    let failed = g.S.Sink.failed c.answer.new.out in
    passed_on c.from_residual-in_err-answer-in-Some-question_in.result c.from_residual-in_err-answer-in-Some-question_in.ensures.1
    (λ e is. subst (λ f. WhyNotKept old (g.D.Disk.faults new.log.disk) failed now f) (sym is) (not_answered old (g.D.Disk.faults new.log.disk) failed now c.in_err-answer-in-Some-question_in.field-0.0 c.in_err-answer-in-Some-question_in.ensures.why))

pub returns-in_err-keep_if-clause-shut : goal.returns-in_err-keep_if-clause-shut
returns-in_err-keep_if-clause-shut g c = λ mixes b lines s file m. c.keep_if.ensures.shut mixes b lines s file m

pub returns-in_err-hold-in-None-clause-shut : goal.returns-in_err-hold-in-None-clause-shut
returns-in_err-hold-in-None-clause-shut g c = λ mixes b lines s file m. c.keep_if.ensures.shut mixes b lines s file m

pub returns-in_ok-hold-in-None-clause-shut : goal.returns-in_ok-hold-in-None-clause-shut
returns-in_ok-hold-in-None-clause-shut g c = λ mixes b lines s file m. c.keep_if.ensures.shut mixes b lines s file m

pub returns-in-Some-clause-shut : goal.returns-in-Some-clause-shut
returns-in-Some-clause-shut g c = λ mixes b lines s file m. c.keep_if.ensures.shut mixes b lines s file m

pub returns-in_err-answer-in-Some-question_in-clause-shut : goal.returns-in_err-answer-in-Some-question_in-clause-shut
returns-in_err-answer-in-Some-question_in-clause-shut g c = λ mixes b lines s file m. c.keep_if.ensures.shut mixes b lines s file m

pub returns-in_ok-answer-in-Some-question_in-clause-shut : goal.returns-in_ok-answer-in-Some-question_in-clause-shut
returns-in_ok-answer-in-Some-question_in-clause-shut g c = λ mixes b lines s file m. c.keep_if.ensures.shut mixes b lines s file m
