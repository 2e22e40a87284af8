-- Why a call of a log may fail.
use Rattle.std.specs.Prelude.{◌≡◌, ◌⊎◌, ℕ, ◌+◌, ◌<◌, ◌≤◌, ◌^◌, List, [], ◌∷◌, length}
use Rattle.sqlite_disk.specs.Disk.{MoreFaults}
use Rattle.pb_log.specs.declared.fault.LogFault.{LogFault}
use Rattle.pb_log.specs.declared.fault.LogFault.TheVariants.{NoMemory, Disk, Full, Damaged, OtherManifest, NewerVersion, NoHeader}
use Rattle.pb_log.specs.Records.{blocks, IsLog, IsReadable}
use Rattle.pb_log.specs.Header.{header, WhyNoHeader, WhyNotOurs}

-- the call did nothing
abbrev pub IsNotBegun : LogFault → Type 0
IsNotBegun (NoMemory n) = Unit {0}
IsNotBegun Full = Unit {0}
IsNotBegun _ = ⊥

-- what the file holds is the cause
abbrev pub IsOfTheFile : LogFault → Type 0
IsOfTheFile (Damaged at) = Unit {0}
IsOfTheFile OtherManifest = Unit {0}
IsOfTheFile NewerVersion = Unit {0}
IsOfTheFile NoHeader = Unit {0}
IsOfTheFile _ = ⊥

-- a growth was refused, or the disk failed
abbrev pub WhyNotRead : ℕ → ℕ → LogFault → Type 0
WhyNotRead old new (NoMemory n) = Unit {0}
WhyNotRead old new (Disk e) = MoreFaults old new
WhyNotRead old new _ = ⊥

-- the same, or the log has 2^62 bytes
abbrev pub WhyNotPut : ℕ → ℕ → ℕ → LogFault → Type 0
WhyNotPut old new end (NoMemory n) = Unit {0}
WhyNotPut old new end (Disk e) = MoreFaults old new
WhyNotPut old new end Full = 2 ^ 62 ≤ end
WhyNotPut old new end _ = ⊥

-- no file that a put leaves is damaged, and the place is where the records end
pub record IsDamaged (file : List ℕ) (at : ℕ) : Type 0 where
  pub unreadable : (rs : List (List ℕ)) → IsReadable file rs → ⊥
  pub place : (rs : List (List ℕ)) → IsLog file rs → at ≡ length (blocks 0 rs)

abbrev pub WhyNotRecovered : ℕ → ℕ → List ℕ → LogFault → Type 0
WhyNotRecovered old new file (NoMemory n) = Unit {0}
WhyNotRecovered old new file (Disk e) = MoreFaults old new
WhyNotRecovered old new file (Damaged at) = IsDamaged file at
WhyNotRecovered old new file _ = ⊥

-- the file has a first record, of which this holds
pub record HasFirst (P : List ℕ → Type 0) (file : List ℕ) : Type 0 where
  pub first : List ℕ
  pub others : List (List ℕ)
  pub is : IsLog file (first ∷ others)
  pub why : P first

-- the first record isn't the header
abbrev pub HasOther : List ℕ → List ℕ → LogFault → Type 0
HasOther manifest file e = HasFirst (λ first. WhyNotOurs manifest first e) file

-- no record stands in the file, and it is longer than what a crash leaves in which the header was put
pub record IsNoLog (manifest file : List ℕ) : Type 0 where
  pub none : IsLog file []
  pub long : 14 + length (header manifest) < length file

abbrev pub WhyNotOpened : List ℕ → ℕ → ℕ → List ℕ → LogFault → Type 0
WhyNotOpened manifest old new file (NoMemory n) = Unit {0}
WhyNotOpened manifest old new file (Disk e) = MoreFaults old new
WhyNotOpened manifest old new file Full = ⊥
WhyNotOpened manifest old new file (Damaged at) = IsDamaged file at
WhyNotOpened manifest old new file NoHeader = HasOther manifest file NoHeader ⊎ IsNoLog manifest file
WhyNotOpened manifest old new file e = HasOther manifest file e

-- why a log that ends there isn't copied into this file: a call of one of both disks failed, the log isn't open, or the file isn't empty
abbrev pub WhyNotCopied : ℕ → ℕ → ℕ → ℕ → ℕ → List ℕ → LogFault → Type 0
WhyNotCopied old new old_copy new_copy end file (NoMemory n) = Unit {0}
WhyNotCopied old new old_copy new_copy end file (Disk e) = MoreFaults old new ⊎ MoreFaults old_copy new_copy
WhyNotCopied old new old_copy new_copy end file NoHeader = (end ≡ 0) ⊎ (0 < length file)
WhyNotCopied old new old_copy new_copy end file _ = ⊥

-- why the manifest of a log isn't read
abbrev pub WhyNoManifest : ℕ → ℕ → List ℕ → LogFault → Type 0
WhyNoManifest old new file NewerVersion = HasFirst (λ first. WhyNoHeader first NewerVersion) file
WhyNoManifest old new file NoHeader = HasFirst (λ first. WhyNoHeader first NoHeader) file
WhyNoManifest old new file e = WhyNotRecovered old new file e
