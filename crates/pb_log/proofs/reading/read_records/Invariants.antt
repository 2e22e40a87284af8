use Rattle.std.proofs.Common.{◌≡◌, ◌++◌, ◌+◌, ◌≤◌, length, map}
use Rattle.pb_log.specs.Records.{blocks, AreShort}
use Rattle.pb_log.proofs.reading.read_records.Given as goal

-- the blocks so far and the rest are the whole, and each turn takes a byte at least
abbrev pub invariant-loop : goal.invariant-loop
invariant-loop l = record {
  whole : l.bytes ≡ blocks 0 (map (λ v. v.items) l.records.items) ++ l.rest;
  shorts : AreShort (map (λ v. v.items) l.records.items);
  fewer : length l.rest + l.counter ≤ length l.bytes;
  place : l.taken ≡ length (blocks 0 (map (λ v. v.items) l.records.items));
}
