use Rattle.std.proofs.Common.{arith}
use Rattle.std.proofs.lemmas.List.{append_assoc}
use Rattle.pb_memtablet.proofs.Pairs.{both-inserted}
use Rattle.pb_memtablet.proofs.sorted.insert_both.Goals as goal

pub returns-clause-items : goal.returns-clause-items
returns-clause-items g c = grind (arith, append_assoc, both-inserted, c.args.elements.now.items, c.args.first, c.args.second, c.args.place, c.push.new.self.items, c.push.ensures.items, c.unwrap.ensures, c.push-2.new.self.items, c.push-2.ensures.items, c.unwrap-2.ensures, c.len-end.result, c.requires.within, c.copy_within.ensures.items)
