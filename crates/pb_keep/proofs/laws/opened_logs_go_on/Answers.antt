use Rattle.pb_keep.proofs.Surviving.{compactions_go_on, lines_survive}
use Rattle.pb_keep.proofs.laws.opened_logs_go_on.Goals as goal

pub returns-clause-survive : goal.returns-clause-survive
returns-clause-survive c = lines_survive c.files_have_one_list.ensures

pub returns-clause-compacted : goal.returns-clause-compacted
returns-clause-compacted c = compactions_go_on c.files_have_one_list.ensures c.snapshots_begin.ensures
