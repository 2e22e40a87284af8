-- What a write to a sink did, by which each sink keeps whether it has failed, and what a sink has taken of some bytes.
use Rattle.std.specs.Prelude.{◌≡◌, ℕ, zero, suc, Bool, true, false, List, ◌++◌, Option, Result, Ok, Err}
use Rattle.std.specs.Io.KnownBytes.{Appends}

-- the write failed, or took no byte, which is as bad where there was one
abbrev pub took_none : {E : Type 0} → Result ℕ E → Bool
took_none (Ok zero) = true
took_none (Ok (suc n)) = false
took_none (Err e) = true

-- the front of the bytes was appended to what had been taken, and the rest is left
abbrev pub IsPart : Option (List ℕ) → Option (List ℕ) → List ℕ → List ℕ → Type 0
IsPart old now bytes rest = (front : List ℕ) × (bytes ≡ front ++ rest) × Appends old now front

-- a beginning of the bytes was appended
abbrev pub AppendsPart : Option (List ℕ) → Option (List ℕ) → List ℕ → Type 0
AppendsPart old now bytes = (rest : List ℕ) × IsPart old now bytes rest
