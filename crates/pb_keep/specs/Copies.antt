-- How many changes a log has, and why it isn't copied.
use Rattle.std.specs.Prelude.{◌≡◌, ◌≢◌, ◌⊎◌, ℕ, true, false, List, ◌∷◌, ◌++◌, length, Ok}
use Rattle.pb_log.specs.declared.fault.LogFault.{LogFault}
use Rattle.pb_log.specs.Causes.{WhyNotCopied}
use Rattle.pb_keep.specs.Words.{HasRecords, Writes, WhyNotOpened, header}
use Rattle.pb_keep.specs.declared.fault.KeepFault.{KeepFault}
use Rattle.pb_keep.specs.Kept.{begins_as_snapshot, changes_of, head, head_of, reported_count, snapshot_records, HaveNoScript, Origin}

-- the records of a log of this origin with these scripts, from the first one on
abbrev pub records_of : Origin → List (List ℕ) → List (List ℕ)
records_of origin scripts = header (head_of origin) ∷ (snapshot_records origin.snapshot ++ scripts)

-- these are the scripts among the records of a log: all but the first, if that is a snapshot's
pub record AreScripts (records scripts : List (List ℕ)) : Type 0 where
  pub all : begins_as_snapshot records ≡ false → scripts ≡ records
  pub others : begins_as_snapshot records ≡ true → (first : List ℕ) × (records ≡ first ∷ scripts)

-- so many changes, as they are reported, has a log of this limit and this manifest since its snapshot
pub record HasCount (limit : ℕ) (manifest file : List ℕ) (n : ℕ) : Type 0 where
  pub records : List (List ℕ)
  pub has : HasRecords (head limit manifest) records file
  pub scripts : List (List ℕ)
  pub parts : AreScripts records scripts
  pub changes : List Writes
  pub make : changes_of scripts ≡ Ok changes
  pub count : n ≡ reported_count (length changes)

-- the file is a log of this limit and this manifest, and one of its records isn't read as a script
pub record LacksScript (limit : ℕ) (manifest file : List ℕ) : Type 0 where
  pub records : List (List ℕ)
  pub has : HasRecords (head limit manifest) records file
  pub scripts : List (List ℕ)
  pub parts : AreScripts records scripts
  pub lacks : HaveNoScript scripts

-- why the changes of a log of this limit and this manifest aren't counted, where this is its file, and so many calls of its disk had failed
-- before and have failed now
abbrev pub WhyNotCounted : ℕ → List ℕ → ℕ → ℕ → List ℕ → KeepFault → Type 0
WhyNotCounted limit manifest before now file (KeepFault.NoMemory e) = Unit {0}
WhyNotCounted limit manifest before now file (KeepFault.Log e) = WhyNotOpened (head limit manifest) before now file e
WhyNotCounted limit manifest before now file KeepFault.Record = LacksScript limit manifest file
WhyNotCounted limit manifest before now file _ = ⊥

-- why a log of this origin that ends there isn't copied into this file: memory was refused, a call of one of both disks failed, the log isn't
-- open, or the file isn't empty; or the limit and the manifest aren't its own
abbrev pub WhyNoCopy : Origin → ℕ → List ℕ → ℕ → ℕ → ℕ → ℕ → ℕ → List ℕ → KeepFault → Type 0
WhyNoCopy origin limit manifest old new old_copy new_copy end file (KeepFault.NoMemory e) = Unit {0}
WhyNoCopy origin limit manifest old new old_copy new_copy end file (KeepFault.Log e) = WhyNotCopied old new old_copy new_copy end file e ⊎ ((e ≡ LogFault.OtherManifest) × (head_of origin ≢ head limit manifest))
WhyNoCopy origin limit manifest old new old_copy new_copy end file _ = ⊥
