use Rattle.std.proofs.Common.{arith}
use Rattle.pb_state.proofs.Rising.{found_in_map, start_at, change_inserts, set_rises}
use Rattle.pb_state.proofs.transactions.Transactions.at_mut.Goals as goal

pub index_mut-requires : goal.index_mut-requires
index_mut-requires c = grind (arith, start_at, c.self.inside.list.items, c.args.self.now, c.args.at.place, c.self.invariant, c.self.view_is)

pub invariant_of-self-lent : goal.invariant_of-self-lent
invariant_of-self-lent c = λ w.
    let at = start_at c.self.inside.list.items c.args.self.now c.args.at.start.0 c.args.at.place c.self.invariant c.self.view_is c.requires.0 c.requires.1 in
    set_rises c.self.inside.list.items c.args.at.start.0 c.args.at.place c.index_mut.result.now w c.self.invariant at c.index_mut.ensures.value

pub returns : goal.returns
returns c = grind (arith, start_at, change_inserts, found_in_map, c.self.inside.list.items, c.args.self.now, c.args.at.place, c.self.invariant, c.self.view_is, c.index_mut.ensures.value, c.index_mut.result.now)
