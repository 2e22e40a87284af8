use Rattle.std.specs.BTreeMap as tree
use Rattle.std.proofs.Common.{sym, ◌∙◌}
use Rattle.pb_script.specs.Words.{cell_cmp}
use Rattle.pb_script.proofs.Newests.{newest_noted, stamp_passed_over}
use Rattle.pb_script.proofs.reports.newest.note.Goals as goal

pub returns-in_ok-put_newest : goal.returns-in_ok-put_newest
returns-in_ok-put_newest c = λ puts h. record {
  told = newest_noted puts c.args.put.now (λ x. tree.get cell_cmp c.args.table.now x) (λ x. tree.get cell_cmp c.put_newest.new.table x) (sym c.is_data.ensures ∙ c.if-is_data.true) c.in_ok-put_newest.ensures.newer c.in_ok-put_newest.ensures.older h.told;
  rising = c.in_ok-put_newest.ensures.rising;
}

pub returns-else-is_data : goal.returns-else-is_data
returns-else-is_data c = λ puts h. record { told = stamp_passed_over puts c.args.put.now (λ x. tree.get cell_cmp c.args.table.now x) (sym c.is_data.ensures ∙ c.if-is_data.false) h.told; rising = h.rising }
