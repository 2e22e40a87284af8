use Rattle.std.proofs.Common.{◌≡◌, ℕ, drop, take, length}
use Rattle.std.specs.FinMap as map
use Rattle.pb_store.specs.Contents.{entries_after}
use Rattle.pb_store.proofs.copy.copy_entries.Given as goal

-- the entries after the last one are those from a place on, and those before it are copied
abbrev pub invariant-loop-slot : goal.invariant-loop-slot
invariant-loop-slot g l =
    let entries = map.entries (g.T.Tablet.contents l.from).entries in
    record {
      place : ℕ;
      left : entries_after l.after entries ≡ drop place entries;
      copied : g.T.Tablet.contents l.to ≡ record { entries = map.from_entries (take place entries); marks = map.empty };
    }

abbrev pub decreases-loop-slot : goal.decreases-loop-slot
decreases-loop-slot g l = length (entries_after l.after (map.entries (g.T.Tablet.contents l.from).entries))
