use Rattle.std.proofs.Common.{arith}
use Rattle.pb_driver.proofs.ReplayEndings.{texts_are_replayed}
use Rattle.pb_driver.proofs.replay.replay_texts.Goals as goal

pub returns : goal.returns
returns g c = grind (arith, texts_are_replayed, c.args, c.in_ok-world, g.S.Sink.taken, g.S.Sink.failed, c.run-outcome.new.sink, c.deref.result.now, c.run-outcome.result, c.run-outcome.ensures)
