use Rattle.pb_keep.specs.Words.{kept_table}
use Rattle.pb_keep.specs.Questions.{AnswersRead}
use Rattle.pb_keep.proofs.questions.answer_questions.Given as goal

-- the lines so far are answered
abbrev pub invariant-loop-turn : goal.invariant-loop-turn
invariant-loop-turn g l = AnswersRead l.fn.keeper.since.0 (kept_table l.fn.keeper.state l.fn.keeper.stats.items) l.fn.keeper.log.end (g.I.LineSource.remaining l.initial.input) (g.I.LineSource.remaining l.input) (g.S.Sink.taken l.initial.out) (g.S.Sink.taken l.out)
