use Rattle.std.proofs.Common.{◌≡◌, take}
use Rattle.pb_threads.proofs.run.copies_of.Given as goal

abbrev pub invariant-loop-observer : goal.invariant-loop-observer
invariant-loop-observer l = l.copies.items ≡ take l.observer-index l.fn.observers
