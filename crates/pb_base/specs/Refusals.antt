-- How the refusal of a program is reported. `Display` of `Refused` cites it, and so does what is written about one.
use Rattle.std.specs.Prelude.{ℕ, List, ◌++◌, codes, decimal}

-- the slot, from 0, and the code, without a newline
abbrev pub slot_and_code : ℕ → ℕ → List ℕ
slot_and_code slot code = codes "refused slot " ++ (decimal slot ++ (codes " code " ++ decimal code))
