use Rattle.pb_state.proofs.Rising.{last_inserts, added_rises}
use Rattle.pb_state.proofs.transactions.Transactions.add_with.Goals as goal

pub invariant_of-self-2 : goal.invariant_of-self-2
invariant_of-self-2 g c =
    rw c.append.ensures (rw c.make_room.ensures.items (added_rises c.self.inside.list.items c.args.self.now c.args.start.0 c.args.transaction c.self.invariant c.self.view_is c.requires.last))

pub returns-clause-ok : goal.returns-clause-ok
returns-clause-ok g c =
    rw c.append.ensures (rw c.make_room.ensures.items (last_inserts c.self.inside.list.items c.args.self.now c.args.start.0 c.args.transaction c.self.invariant c.self.view_is c.requires.last))
