use Rattle.std.proofs.Common.{◌≡◌, take}
use Rattle.pb_state.proofs.cells.batch_list.Given as goal

abbrev pub invariant-loop-next : goal.invariant-loop-next
invariant-loop-next l = l.list.items ≡ take l.next l.batch
