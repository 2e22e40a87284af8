use Rattle.std.proofs.Common.{length, ◌-◌}
use Rattle.pb_base.proofs.writes.+is_same_from.Given as goal

abbrev pub decreases-is_same_from : goal.decreases-is_same_from
decreases-is_same_from l = length l.a.now - l.from
