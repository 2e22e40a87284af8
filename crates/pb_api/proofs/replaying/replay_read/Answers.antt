use Rattle.std.proofs.Common.{ap, inl, length, subst}
use Rattle.pb_api.specs.declared.kind.AnswerKind.{AnswerKind}
use Rattle.pb_api.specs.Answers.{GivesText, buffer_call}
use Rattle.pb_api.proofs.Reported.{report_taken}
use Rattle.pb_api.proofs.replaying.replay_read.Goals as goal

pub returns-in-Ok-replay_texts : goal.returns-in-Ok-replay_texts
returns-in-Ok-replay_texts c = inl (record {
  text = c.replay_texts.new.sink.bytes.items;
  replays = report_taken _ _ _ _ _ _ _ _ (ap length c.in-Ok.ensures.firsts) c.new-page.ensures.bytes c.in-Ok-replay_texts.ensures;
  gives = subst (λ t. GivesText AnswerKind.Done t (buffer_call c.args.out.now c.with_text.new.out c.with_text.result)) c.bytes.ensures c.with_text.ensures;
})
