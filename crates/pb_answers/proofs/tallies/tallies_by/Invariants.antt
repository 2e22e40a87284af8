use Rattle.std.proofs.Common.{◌≡◌, take, slice_index_or}
use Rattle.pb_keeper.specs.Stats.{no_runs}
use Rattle.pb_answers.specs.Lists.{tallies_by}
use Rattle.pb_answers.proofs.tallies.tallies_by.Given as goal

abbrev pub invariant-loop-number : goal.invariant-loop-number
invariant-loop-number l = l.tallies.items ≡ tallies_by (λ o. (slice_index_or l.stats o no_runs).runs) 0 (take l.number l.observers)
