use Rattle.std.proofs.Common.{◌≡◌, ◌+◌, ◌≤◌, ◌++◌, length, vec_len, vec_capacity}
use Rattle.pb_registry.specs.Observers.{observers_of}
use Rattle.pb_registry.proofs.manifest.Registry.into_observers.Given as goal

abbrev pub invariant-loop-name : goal.invariant-loop-name
invariant-loop-name l = record {
  items : l.observers.items ++ observers_of l.name-iterator ≡ l.fn.self;
  room : vec_len l.observers + length l.name-iterator ≤ vec_capacity l.observers;
}
