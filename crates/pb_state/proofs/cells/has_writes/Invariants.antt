use Rattle.std.proofs.Common.{◌≡◌, drop}
use Rattle.std.specs.List.{list_all}
use Rattle.pb_state.specs.Words.{is_in}
use Rattle.pb_state.proofs.cells.has_writes.Given as goal

abbrev pub invariant-loop-write : goal.invariant-loop-write
invariant-loop-write l = list_all (λ w. is_in l.cells w.0) (drop l.write-index l.writes) ≡ list_all (λ w. is_in l.cells w.0) l.writes
