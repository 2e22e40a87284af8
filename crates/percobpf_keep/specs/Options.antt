-- Options before what is to be done, and the numbers that they want.
use Rattle.std.specs.Prelude.{◌≡◌, ℕ, ◌-◌, ◌^◌, List, ◌∷◌, Option, None, Some, Result, Ok, Err, String, codes, string_bytes}
use Rattle.std.specs.declared.alloc.Global.{Global}
use Rattle.pb_reading.specs.Reading.{numeral_upto}
use Rattle.percobpf_keep.specs.declared.failure.Failure.{Failure}
use Rattle.percobpf_keep.specs.declared.failure.Wanted.{Wanted}

-- a word is read as this number, or is none below 2^64
abbrev pub number_word : List ℕ → Result ℕ (Unit {0})
number_word word = numeral_upto tt tt (2 ^ 64 - 1) word

-- what is read where such a number is wanted: none where no word is left, or where the word is no number
abbrev pub IsNumberOr : Result ℕ (Unit {0}) → Failure → Result ℕ Failure → Type 0
IsNumberOr (Ok n) none result = result ≡ Ok n
IsNumberOr (Err e) none result = result ≡ Err none

abbrev pub IsNumberRead : Option (String Global) → Wanted → Result ℕ Failure → Type 0
IsNumberRead None wanted result = result ≡ Err Failure.Words
IsNumberRead (Some word) wanted result = IsNumberOr (number_word (string_bytes word)) (Failure.NoNumber wanted word) result

-- the words begin with this option and its number, if one is given, and these are left
abbrev pub HasNumber : List ℕ → Option ℕ → List (String Global) → List (String Global) → Type 0
HasNumber option None words rest = words ≡ rest
HasNumber option (Some n) words rest = (first word : String Global) × (words ≡ first ∷ word ∷ rest) × (string_bytes first ≡ option) × (number_word (string_bytes word) ≡ Ok n)

-- they begin with this option and a folder, if one is given, and these are left
abbrev pub HasFolder : List ℕ → Option (String Global) → List (String Global) → List (String Global) → Type 0
HasFolder option None words rest = words ≡ rest
HasFolder option (Some folder) words rest = (first : String Global) × (words ≡ first ∷ folder ∷ rest) × (string_bytes first ≡ option)

-- they begin with a limit of entries and a folder for copies, as far as these are given
pub record AreGiven (limit : Option ℕ) (copies : Option (String Global)) (words rest : List (String Global)) : Type 0 where
  pub between : List (String Global)
  pub limit_is : HasNumber (codes "--limit") limit words between
  pub copies_are : HasFolder (codes "--copies") copies between rest
