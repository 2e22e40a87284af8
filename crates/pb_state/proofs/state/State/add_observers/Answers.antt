use Rattle.pb_state.proofs.MoreMarks.{sound_still}
use Rattle.pb_state.proofs.state.State.add_observers.Goals as goal

pub invariant_of-self : goal.invariant_of-self
invariant_of-self g c = sound_still c.args.more.items _ c.add_observers.new.self c.add_observers.result c.add_observers.ensures.ok c.add_observers.ensures.err c.self.invariant
