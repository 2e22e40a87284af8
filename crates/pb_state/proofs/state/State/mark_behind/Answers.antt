use Rattle.pb_state.proofs.MarkedBehind.{sound_when_marked}
use Rattle.pb_state.proofs.state.State.mark_behind.Goals as goal

pub invariant_of-self : goal.invariant_of-self
invariant_of-self g c = sound_when_marked _ c.mark_behind.new.self c.mark_behind.result c.mark_behind.ensures.ok c.mark_behind.ensures.err c.self.invariant
