use Rattle.std.proofs.Common.{arith}
use Rattle.std.proofs.lemmas.List.{length-append}
use Rattle.std.specs.FinMap as map
use Rattle.pb_store.specs.Tiles.{tiles_of, all_entries}
use Rattle.pb_store.proofs.table.+count_in.Goals as goal

pub returns : goal.returns
returns g t c =
    let rest = all_entries (tiles_of g.T.Tablet.contents c.in-Some.others.now) in
    let size = map.len-entries (g.T.Tablet.contents c.in-Some.first.now.1).entries in
    let both = length-append (map.entries (g.T.Tablet.contents c.in-Some.first.now.1).entries) rest in
    grind (arith, size, both, c.in-Some.ensures.variant, c.in-Some.ensures.cases, c.in-Some.is, c.len.ensures, c.count_in.ensures, c.saturating_add.ensures)
