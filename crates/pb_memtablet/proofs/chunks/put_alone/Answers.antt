use Rattle.std.proofs.Common.{arith}
use Rattle.std.proofs.lemmas.Grind.{common_steps}
use Rattle.pb_memtablet.proofs.chunks.put_alone.Goals as goal

pub unwrap-requires : goal.unwrap-requires
unwrap-requires g c = grind arith

pub returns-clause-entries : goal.returns-clause-entries
returns-clause-entries g c = grind (arith, common_steps)

pub returns-clause-each : goal.returns-clause-each
returns-clause-each g c = grind arith

pub returns-clause-spares : goal.returns-clause-spares
returns-clause-spares g c = grind (arith, common_steps)
