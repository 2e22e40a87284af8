use Rattle.std.proofs.Common.{◌≡◌, ◌≢◌, ℕ, ◌<◌, [], Some, slice_get}
use Rattle.pb_threads.specs.Words.{Writes}
use Rattle.pb_threads.proofs.run.look_through.Given as goal

abbrev pub invariant-loop-batch : goal.invariant-loop-batch
invariant-loop-batch l = (i : ℕ) (b : Writes) → i < l.batch-index → slice_get l.fn.batches i ≡ Some b → b ≢ []
