use Rattle.std.proofs.Common.{◌≡◌, drop}
use Rattle.std.specs.List.{list_all}
use Rattle.pb_state.specs.Words.{is_in}
use Rattle.pb_state.proofs.cells.has_batch.Given as goal

abbrev pub invariant-loop-place : goal.invariant-loop-place
invariant-loop-place l = list_all (λ w. is_in l.cells w.0) (drop l.place l.batch) ≡ list_all (λ w. is_in l.cells w.0) l.batch
