-- A log of which the first changes are made again.
use Rattle.std.proofs.Common.{◌≡◌, ℕ, List, Ok, refl, subst}
use Rattle.pb_log.specs.Laws.{FilesHaveOneReading}
use Rattle.pb_snapshots.specs.RecordLaws.{SnapshotsAreNoTexts}
use Rattle.pb_keep.specs.Words.{HasRecords, KeptTable, ObserverOf, StateOf, Writes}
use Rattle.pb_keep.specs.declared.fault.KeepFault.{KeepFault}
use Rattle.pb_keep.specs.Causes.{IsOfAnew, IsOfReading, WhyNotMadeAgain}
use Rattle.pb_keep.specs.Kept.{changes_of, head, origin_of, AreTexts, HasLog, IsBegunWith}
use Rattle.pb_keep.specs.Left.{IsOfMaking}
use Rattle.pb_keep.proofs.Records.{has_no_changes}

-- what was found in the file
abbrev pub has_log : (limit : ℕ) (observers : List ObserverOf) (manifest file : List ℕ) (records scripts : List (List ℕ)) (since : ℕ) (first : KeptTable) (changes : List Writes) → IsBegunWith observers records scripts since first
    → HasRecords (head limit manifest) records file → changes_of scripts ≡ Ok changes → AreTexts scripts → HasLog limit observers manifest file
has_log limit observers manifest file records scripts since first changes b has make texts = record {
  origin = origin_of limit manifest b.snapshot;
  limit_is = refl;
  manifest_is = refl;
  first = first;
  first_is = b.first_is;
  changes = changes;
  had = record { fits = b.fits; scripts = scripts; has = subst (λ rs. HasRecords (head limit manifest) rs file) b.records_are has; make = make; texts = texts };
}

-- its changes weren't read
pub not_counted : FilesHaveOneReading → SnapshotsAreNoTexts → (limit : ℕ) (observers : List ObserverOf) (manifest : List ℕ) (before now since : ℕ) (file : List ℕ) (records scripts : List (List ℕ)) (first : KeptTable) (new : StateOf) → IsBegunWith observers records scripts since first
    → HasRecords (head limit manifest) records file → (e : KeepFault) → IsOfReading scripts e → WhyNotMadeAgain limit observers manifest before now file new e
not_counted reading no_texts limit observers manifest before now since file records scripts first new b has (KeepFault.NoMemory e) of = tt
not_counted reading no_texts limit observers manifest before now since file records scripts first new b has KeepFault.Record of =
    has_no_changes reading no_texts limit manifest file b.snapshot scripts b.taken_off (subst (λ rs. HasRecords (head limit manifest) rs file) b.records_are has) of
not_counted reading no_texts limit observers manifest before now since file records scripts first new b has _ of = absurd of

-- where they were read, what stopped one is no record
pub stopped_in_making : (records : List (List ℕ)) (changes : List Writes) → changes_of records ≡ Ok changes → AreTexts records → (e : KeepFault) → IsOfAnew records e → IsOfMaking e
stopped_in_making records changes reads texts (KeepFault.NoMemory e) of = tt
stopped_in_making records changes reads texts KeepFault.Record of = of changes texts reads
stopped_in_making records changes reads texts KeepFault.NoTimestamp of = tt
stopped_in_making records changes reads texts _ of = absurd of
