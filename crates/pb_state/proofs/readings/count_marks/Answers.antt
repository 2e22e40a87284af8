use Rattle.std.proofs.Common.{arith, sym, ◌∙◌}
use Rattle.std.specs.FinMap as map
use Rattle.pb_state.proofs.Walking.{walked_on, walked_all, walked_none}
use Rattle.pb_state.proofs.readings.count_marks.Goals as goal

pub loop-cell-init : goal.loop-cell-init
loop-cell-init g c = record { walked = walked_none (map.entries c.args.table.now.contents.marks); within = omega arith }

pub overflow_add-count : goal.overflow_add-count
overflow_add-count g c =
    let on = (walked_on c.args.table.now.contents.marks c.loop-cell.last c.loop-cell.count c.in-Some.cell c.loop-cell.invariant.walked c.in-Some.ensures).1 in
    let long = map.len-entries c.args.table.now.contents.marks in
    omega (arith, on, long, c.requires)

pub loop-cell-smaller : goal.loop-cell-smaller
loop-cell-smaller g c =
    let on = (walked_on c.args.table.now.contents.marks c.loop-cell.last c.loop-cell.count c.in-Some.cell c.loop-cell.invariant.walked c.in-Some.ensures).1 in
    omega (arith, on)

pub loop-cell-preserved : goal.loop-cell-preserved
loop-cell-preserved g c =
    let on = walked_on c.args.table.now.contents.marks c.loop-cell.last c.loop-cell.count c.in-Some.cell c.loop-cell.invariant.walked c.in-Some.ensures in
    let short = on.1 in
    record { walked = on.0; within = omega (arith, short) }

pub returns : goal.returns
returns g c = walked_all c.args.table.now.contents.marks c.loop-cell.last c.loop-cell.count c.loop-cell.invariant.walked c.in_default.ensures ∙ sym (map.len-entries c.args.table.now.contents.marks)
