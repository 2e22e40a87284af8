use Rattle.std.proofs.Common.{arith, ◌≡◌, slice_get}
use Rattle.std.specs.FinMap as map
use Rattle.pb_store.specs.Contents.{entries_after}
use Rattle.pb_store.proofs.Joined.{entries-joined}
use Rattle.pb_store.proofs.Following.{rest_behind}
use Rattle.pb_store.proofs.table.Table.next_entry.Given.{Over}
use Rattle.pb_store.proofs.table.Table.next_entry.Goals as goal
use Rattle.pb_store.proofs.table.Table.next_entry.Goals.{After-entry_after}

told : (g : Over) (c : After-entry_after g) → c.entry_after.result ≡ slice_get (entries_after c.args.after (map.entries c.args.self.now.contents.entries)) 0
told g c = grind (arith, entries-joined, c.entry_after.ensures, c.args.after, g.T.Tablet.contents, c.deref.ensures.value, c.self.inside.parts.items, c.self.invariant.tiled, c.self.view_is)

pub returns-clause-entry : goal.returns-clause-entry
returns-clause-entry g c = told g c

pub returns-clause-rest : goal.returns-clause-rest
returns-clause-rest g c = rest_behind c.args.after (map.entries c.args.self.now.contents.entries) c.entry_after.result (map.entries_sorted c.args.self.now.contents.entries) (told g c)
