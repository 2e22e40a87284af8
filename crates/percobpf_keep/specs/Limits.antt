-- Which limits a log is served with.
use Rattle.std.specs.Prelude.{◌≡◌, ℕ, Bool, List, ◌+◌, ◌^◌, ◌-◌, if◌then◌else◌, min, max, string_bytes, Option, Some, None}
use Rattle.pb_keep.specs.Kept.{head}
use Rattle.pb_log.specs.Header.{HasManifest}
use Rattle.percobpf_keep.specs.declared.head.Head.{Head}

-- the wanted one, or else the other
abbrev pub wanted_or : ℕ → Option ℕ → ℕ
wanted_or other (Some limit) = limit
wanted_or other None = other

-- the limit of entries of a log that goes on as it is: its own, or that of a new log
abbrev pub entries_of_log : Option Head → Option ℕ → ℕ
entries_of_log (Some own) wanted = own.limit
entries_of_log None wanted = wanted_or 10000000 wanted

-- the first record of this file has such a limit and such a manifest, or it has no record
abbrev pub HasHead : Option Head → List ℕ → Type 0
HasHead None file = HasManifest None file
HasHead (Some own) file = HasManifest (Some (head own.limit (string_bytes own.manifest))) file

-- no other limit is wanted than the log's own
abbrev pub IsNoOtherWanted : Option Head → Option ℕ → Type 0
IsNoOtherWanted None wanted = Unit {0}
IsNoOtherWanted (Some own) None = Unit {0}
IsNoOtherWanted (Some own) (Some limit) = limit ≡ own.limit

-- the limit of entries with which a file is opened: its own one, or that of a new log
pub record IsLimitOf (wanted : Option ℕ) (file : List ℕ) (limit : ℕ) : Type 0 where
  pub own : Option Head
  pub has : HasHead own file
  pub is : limit ≡ entries_of_log own wanted
  pub no_other : IsNoOtherWanted own wanted

-- from how many bytes on a log is compacted: these at least, and twice as many as after the last compaction
abbrev pub next_bytes : ℕ → ℕ → ℕ
next_bytes least end = max least (min (end + end) (2 ^ 64 - 1))

-- the same while lines are served: it changes where the log was compacted, or is too large and can't be
abbrev pub limit_after : Bool → ℕ → ℕ → ℕ → ℕ
limit_after is_done least end limit = if is_done then next_bytes least end else limit
