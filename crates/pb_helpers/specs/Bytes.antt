-- The bytes of a record of either version. The model of `Record` is its bytes, and its invariant says how many they
-- are, so that from a record's value its version is known.
use Rattle.std.specs.Prelude.{◌≡◌, ◌⊎◌, ℕ, Bool, true, false, ◌-◌, List, ◌++◌, length, take, replicate}
use Rattle.pb_isa.specs.declared.limits.TheConstants.{RECORD_BYTES, MAX_RECORD_BYTES}
use Rattle.pb_helpers.specs.declared.change.Version.{Version}

-- 80 or 120, which is also the size that a program of that version is judged for
abbrev pub size_of : Version → ℕ
size_of Version.First = RECORD_BYTES
size_of Version.Second = MAX_RECORD_BYTES

-- whether it shows what the cell held at the acknowledged timestamp
abbrev pub is_second : Version → Bool
is_second Version.First = false
is_second Version.Second = true

-- a record with zeros up to the most bytes that one has
abbrev pub padded : List ℕ → List ℕ
padded bs = bs ++ replicate (MAX_RECORD_BYTES - length bs) 0

-- an array has the bytes of a record of this size, which is that of a version, and zeros after them
abbrev pub IsFilled : ℕ → List ℕ → Type 0
IsFilled size bytes =
    ((size ≡ RECORD_BYTES) ⊎ (size ≡ MAX_RECORD_BYTES))
    × (length (take size bytes) ≡ size)
    × (bytes ≡ padded (take size bytes))
