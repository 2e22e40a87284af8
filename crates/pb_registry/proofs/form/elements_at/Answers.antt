use Rattle.std.proofs.Common.{arith}
use Rattle.pb_registry.proofs.Counted.{elements_found}
use Rattle.pb_registry.proofs.form.elements_at.Goals as goal

pub returns : goal.returns
returns c = grind (arith, elements_found, c.and_then.result, c.args.name.now, c.args.value.now)
