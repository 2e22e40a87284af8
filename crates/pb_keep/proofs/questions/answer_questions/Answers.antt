use Rattle.pb_keep.proofs.Asking.{begun_on, read_none, turn_on}
use Rattle.pb_keep.proofs.Mapping.{on_err}
use Rattle.pb_keep.proofs.questions.answer_questions.Goals as goal

pub loop-turn-init : goal.loop-turn-init
loop-turn-init g c = read_none (g.I.LineSource.remaining c.args.input.now) (g.S.Sink.taken c.args.out.now)

pub loop-turn-preserved : goal.loop-turn-preserved
loop-turn-preserved g c = turn_on c.loop-turn.invariant (g.I.LineSource.remaining c.answer_next.new.input) (g.S.Sink.taken c.answer_next.new.out) c.in_ok-is_read.is_read c.if-not-is_read.false c.in_ok-is_read.ensures.turn

pub returns-in_err-is_read-clause-begun : goal.returns-in_err-is_read-clause-begun
returns-in_err-is_read-clause-begun g c = on_err c.from_residual.result (begun_on c.loop-turn.invariant (g.S.Sink.taken c.answer_next.new.out) c.in_err-is_read.ensures.begun)
