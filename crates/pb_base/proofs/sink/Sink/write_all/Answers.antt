use Rattle.std.proofs.Common.{arith, ◌∙◌}
use Rattle.std.proofs.lemmas.Grind.{common_steps}
use Rattle.pb_base.proofs.Parts.{goes_to, took_without_fault}
use Rattle.pb_base.proofs.sink.Sink.write_all.Goals as goal

pub loop-rest-preserved : goal.loop-rest-preserved
loop-rest-preserved g c = (goes_to _ _ _ c.args.bytes.now c.loop-rest.rest.now _ c.in_ok-count.count c.loop-rest.invariant.0 c.in_ok-count.ensures.bytes (grind (arith, common_steps)), took_without_fault _ _ _ c.in_ok-count.count c.if-count-eq0.false c.in_ok-count.ensures.fails ∙ c.loop-rest.invariant.1)
