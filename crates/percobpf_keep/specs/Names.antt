-- The names that no table has.
use Rattle.std.specs.Prelude.{◌≡◌, ◌⊎◌, ◌++◌, ℕ, List, codes, decimal}

-- it ends so
abbrev pub HasEnding : List ℕ → List ℕ → Type 0
HasEnding ending name = (stem : List ℕ) × (name ≡ stem ++ ending)

-- it is left to new logs, and to what stands beside these
abbrev pub IsReserved : List ℕ → Type 0
IsReserved name = HasEnding (codes "~new") name ⊎ HasEnding (codes "~new-wal") name

-- the name of this number for the log that takes the place of a log of that name
abbrev pub new_name : List ℕ → ℕ → List ℕ
new_name log number = log ++ (codes "." ++ (decimal number ++ codes "~new"))

-- the name of the file beside a log of this name
abbrev pub name_beside : List ℕ → List ℕ
name_beside path = path ++ codes "-wal"

-- these are such a name, and that of the file beside it; both are left to new logs
pub record AreNewNames (log path beside : List ℕ) : Type 0 where
  pub number : ℕ
  pub named : path ≡ new_name log number
  pub named_beside : beside ≡ name_beside path
  pub reserved : IsReserved path
  pub reserved_beside : IsReserved beside
