use Rattle.std.proofs.Common.{length, sym, ap, ◌∙◌, arith}
use Rattle.std.proofs.lemmas.List.{length_push}
use Rattle.std.specs.FinMap as map
use Rattle.pb_answers.specs.Words.{cell_cmp}
use Rattle.pb_store.proofs.Copied.{no_marks_yet, all_marks_of}
use Rattle.pb_answers.proofs.Counting.{one_counted, one_less_left, units_counted}
use Rattle.pb_answers.proofs.quiet.count_marks.Goals as goal

pub loop-cell-init : goal.loop-cell-init
loop-cell-init g c = ap length c.new-marked.ensures.items ∙ sym (map.len-empty cell_cmp (Unit {0})) ∙ ap map.len (no_marks_yet c.args.table.now.contents.marks)

pub loop-cell-smaller : goal.loop-cell-smaller
loop-cell-smaller g c =
    let less = one_less_left c.args.table.now.contents.marks c.loop-cell.last c.in-Some.cell c.in-Some.ensures in
    let counted = c.loop-cell.invariant in
    let more = ap length c.in_ok-push.ensures.items ∙ length_push c.loop-cell.marked.items tt in
    omega (arith, less, counted, more)

pub loop-cell-preserved : goal.loop-cell-preserved
loop-cell-preserved g c =
    let one = one_counted c.args.table.now.contents.marks c.loop-cell.last c.in-Some.cell c.in-Some.ensures in
    let counted = c.loop-cell.invariant in
    let more = ap length c.in_ok-push.ensures.items ∙ length_push c.loop-cell.marked.items tt in
    omega (arith, one, counted, more)

pub returns : goal.returns
returns g c = units_counted c.loop-cell.marked _ c.len.ensures ∙ c.loop-cell.invariant ∙ ap map.len (all_marks_of c.args.table.now.contents.marks c.loop-cell.last c.in_default.ensures)
