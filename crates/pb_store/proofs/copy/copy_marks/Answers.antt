use Rattle.std.proofs.Common.{arith, ◌≡◌, Some, ap, ◌∙◌, subst}
use Rattle.std.specs.FinMap as map
use Rattle.pb_store.specs.Contents.{Contents, Marks, IsNextMark}
use Rattle.pb_store.proofs.Copied.{marks_up_to, no_marks_yet, all_marks_of, one_more_mark, fewer_left}
use Rattle.pb_store.proofs.copy.copy_marks.Goals as goal
use Rattle.pb_store.proofs.copy.copy_marks.Given.{Over}
use Rattle.pb_store.proofs.copy.copy_marks.Goals.{In_ok-mark_in}

pub loop-cell-init : goal.loop-cell-init
loop-cell-init g c = c.requires ∙ ap (λ (ms : Marks). record { entries = (g.T.Tablet.contents c.args.from.now).entries; marks = ms }) (no_marks_yet (g.T.Tablet.contents c.args.from.now).marks)

module _ (g : Over) (c : In_ok-mark_in g) where
  next : IsNextMark (g.T.Tablet.contents c.args.from.now).marks c.loop-cell.after (Some c.in-Some.cell)
  next = subst (IsNextMark (g.T.Tablet.contents c.args.from.now).marks c.loop-cell.after) c.in-Some.is c.next_mark.ensures

  marks_then : (g.T.Tablet.contents c.mark_in.new.tablet).marks ≡ map.insert (marks_up_to c.loop-cell.after (g.T.Tablet.contents c.args.from.now).marks) c.in-Some.cell tt
  marks_then = ap (λ (k : Contents). k.marks) (c.in_ok-mark_in.ensures) ∙ ap (λ (k : Contents). map.insert k.marks c.in-Some.cell tt) c.loop-cell.invariant

pub loop-cell-smaller : goal.loop-cell-smaller
loop-cell-smaller g c = grind (arith, marks_up_to, marks_then, fewer_left, next, g.T.Tablet.contents, c.args.from.now, c.loop-cell.to, c.loop-cell.after, c.loop-cell.invariant, c.mark_in.new.tablet, c.in-Some.cell)

pub loop-cell-preserved : goal.loop-cell-preserved
loop-cell-preserved g c = grind (arith, one_more_mark, next, g.T.Tablet.contents, c.args.from.now, c.in_ok-mark_in.ensures, c.in-Some.cell, c.loop-cell.invariant, c.loop-cell.after)

pub returns : goal.returns
returns g c = grind (arith, all_marks_of, g.T.Tablet.contents, c.args.from.now, c.loop-cell.invariant, c.loop-cell.after, c.in_default.is, c.next_mark.ensures)
