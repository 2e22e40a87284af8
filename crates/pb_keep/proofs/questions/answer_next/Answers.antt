use Rattle.std.proofs.Common.{subst, sym}
use Rattle.pb_keep.specs.Input.{IsLineRead}
use Rattle.pb_keep.specs.Questions.{WhyNotAnswered}
use Rattle.pb_keep.proofs.Asking.{begun_next, begun_none}
use Rattle.pb_keep.proofs.Causing.{not_read_alone}
use Rattle.pb_keep.proofs.Mapping.{on_err}
use Rattle.pb_keep.proofs.questions.answer_next.Goals as goal

pub returns-in-Err-clause-begun : goal.returns-in-Err-clause-begun
returns-in-Err-clause-begun g c = begun_none (g.I.LineSource.remaining c.args.input.now) (g.S.Sink.taken c.args.out.now)

pub returns-in-Err-clause-why : goal.returns-in-Err-clause-why
returns-in-Err-clause-why g c =
    let failed = g.S.Sink.failed c.args.out.now in
    let unread = g.I.LineSource.failed c.read_line.new.input in
    subst (λ f. WhyNotAnswered unread failed f) (sym c.into.ensures) (not_read_alone (g.I.LineSource.failed c.args.input.now) unread failed c.read_line.result c.in-Err.fault c.in-Err.is c.read_line.ensures.fails)

pub returns-in_err-answer_alone-in-Some-clause-begun : goal.returns-in_err-answer_alone-in-Some-clause-begun
returns-in_err-answer_alone-in-Some-clause-begun g c =
    let from = g.I.LineSource.remaining c.args.input.now in
    let to = g.I.LineSource.remaining c.read_line.new.input in
    let read = subst (λ l. IsLineRead c.in-Ok.read l from to) (sym c.as_slice.ensures.value) c.in-Ok.ensures.read in
    let asks = c.in-Some.ensures.asks from to read in
    on_err c.from_residual.result (begun_next from to (g.S.Sink.taken c.args.out.now) (g.S.Sink.taken c.answer_alone.new.out) asks.0 c.in-Some.asked asks.1 asks.2 c.in_err-answer_alone-in-Some.ensures.err)
