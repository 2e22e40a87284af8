use Rattle.std.proofs.Common.{subst}
use Rattle.pb_sound.specs.RunWrites.{AreRunWrites}
use Rattle.pb_sound.proofs.RunWrites.{runs_write_batches}
use Rattle.pb_finished.specs.Finished.{Meant}
use Rattle.pb_finished.proofs.finished.Finished.known.Goals as goal

pub returns-clause-writes : goal.returns-clause-writes
returns-clause-writes c = subst (λ (m : Meant). AreRunWrites m.writes) c.self.view_is (runs_write_batches _ _ _ _ _ _ c.self.invariant)
