use Rattle.std.proofs.Common.{◌≡◌, true, false, Some, ap, sym, ◌∙◌, is_some}
use Rattle.std.specs.FinMap as map
use Rattle.pb_state.specs.Words.{data_of, start_of}
use Rattle.pb_state.proofs.readings.version_of.Goals as goal

pub unreachable-requires : goal.unreachable-requires
unreachable-requires g c =
    let newest = c.in-Some-default-Write.ensures in
    let there = c.requires.written c.args.cell.now c.in-Some-default-Write.commit.0 c.in-Some-default-Write.start.0 (ap start_of (newest.1 ∙ ap Some c.in-Some-default-Write.field-0-1-is)) in
    let none : is_some (data_of c.get.result) ≡ false = ap is_some (sym c.data_of.ensures ∙ c.in_default-data_of.is) in
    let some : is_some (data_of c.get.result) ≡ true = ap (λ o. is_some (data_of o)) (c.get.ensures.item ∙ ap (map.get c.args.table.now.contents.entries) c.slot_of.ensures) ∙ there in
    cc
