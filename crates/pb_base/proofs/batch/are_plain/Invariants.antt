use Rattle.std.proofs.Common.{◌≡◌, drop}
use Rattle.std.specs.List.{list_all}
use Rattle.pb_base.specs.Batch.{writes_of, is_data_write}
use Rattle.pb_base.proofs.batch.are_plain.Given as goal

abbrev pub invariant-loop-write : goal.invariant-loop-write
invariant-loop-write l = list_all is_data_write (writes_of (drop l.write-index l.writes)) ≡ list_all is_data_write (writes_of l.writes)
