-- The first record of a log, which names its version and has its manifest.
use Rattle.std.specs.Prelude.{◌≡◌, ◌≢◌, ◌⊎◌, ℕ, List, [], ◌∷◌, ◌++◌, Option, Some, None, codes}
use Rattle.pb_log.specs.declared.fault.LogFault.{LogFault}
use Rattle.pb_log.specs.declared.fault.LogFault.TheVariants.{OtherManifest, NewerVersion, NoHeader}
use Rattle.pb_log.specs.Records.{IsLog}

-- how the header of each version begins
abbrev pub magic : List ℕ
magic = codes "percobpf log "

-- version 1, and the end of its line
abbrev pub version : List ℕ
version = 49 ∷ 10 ∷ []

-- the header of a log of this manifest
abbrev pub header : List ℕ → List ℕ
header manifest = magic ++ version ++ manifest

-- The file's records are the header and these. One without a record is a log of none.
abbrev pub HasRecords : List ℕ → List (List ℕ) → List ℕ → Type 0
HasRecords manifest rs file = IsLog file (header manifest ∷ rs) ⊎ ((rs ≡ []) × IsLog file [])

-- the manifest that the header of the file has, or none where there is no record
abbrev pub HasManifest : Option (List ℕ) → List ℕ → Type 0
HasManifest (Some manifest) file = (rs : List (List ℕ)) × IsLog file (header manifest ∷ rs)
HasManifest None file = IsLog file []

-- why a record is the header of no log
abbrev pub WhyNoHeader : List ℕ → LogFault → Type 0
WhyNoHeader first NoHeader = (rest : List ℕ) → first ≢ magic ++ rest
WhyNoHeader first NewerVersion = (rest : List ℕ) × (first ≡ magic ++ rest) × ((own : List ℕ) → rest ≢ version ++ own)
WhyNoHeader first _ = ⊥

-- why a record isn't the header of a log of this manifest
abbrev pub WhyNotOurs : List ℕ → List ℕ → LogFault → Type 0
WhyNotOurs manifest first OtherManifest = (own : List ℕ) × (first ≡ header own) × (own ≢ manifest)
WhyNotOurs manifest first e = WhyNoHeader first e
