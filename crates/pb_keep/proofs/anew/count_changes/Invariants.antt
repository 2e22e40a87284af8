use Rattle.std.proofs.Common.{◌≡◌, List, map, Ok, length, take}
use Rattle.pb_keep.specs.Words.{Writes}
use Rattle.pb_keep.specs.Kept.{changes_of, reported_count, AreTexts}
use Rattle.pb_keep.proofs.anew.count_changes.Given as goal

-- the changes of the records so far are counted, and these are texts
abbrev pub invariant-loop-record : goal.invariant-loop-record
invariant-loop-record l = (all : List Writes) × (changes_of (map (λ v. v.items) (take l.record-index l.records)) ≡ Ok all) × AreTexts (map (λ v. v.items) (take l.record-index l.records)) × (l.count ≡ reported_count (length all))
