-- What a manifest says, by the value that its text is read as: so spaces, the order of members and one that is named
-- twice are `serde_json`'s. The readers of src/form.rt and src/observer.rt cite these, each the one of its name.
use Rattle.std.specs.Prelude.{ℕ, suc, Bool, false, not, ◌&&◌, ◌||◌, ◌==◌, nat_lt, nat_le, if◌then◌else◌, List, [], ◌∷◌, map, length, codes, Option, Some, None, is_some, option_map, option_and_then, unwrap_or, Result, Ok, Err}
use Rattle.std.specs.List.{list_all, list_any}
use Rattle.std.specs.Char.{is_ascii_digit, is_ascii_lowercase, is_ascii_uppercase}
use Rattle.hex.specs.Hex.{decode_of}
use Rattle.serde_json.specs.Data.{Data, Items, no_items, item, Members, no_members, member}
use Rattle.serde_json.specs.Find.{get, as_number, as_str, as_array, as_object, as_u64}
use Rattle.serde_json.specs.Read.{read}
use Rattle.pb_registry.specs.Words.{COLUMNS, MAX_OBSERVERS, ◌>>=◌, Profile, HelperSet, Version}
use Rattle.pb_registry.specs.declared.code.ManifestCode.{ManifestCode}
use Rattle.pb_registry.specs.Helpers.{helpers_of}

-- how many members there are, by going over them
abbrev pub members_count : Members → ℕ
members_count no_members = 0
members_count (member k d ms) = suc (members_count ms)

-- how many members an object has, and 0 where there is no object
abbrev pub count_in : Option Members → ℕ
count_in None = 0
count_in (Some ms) = members_count ms

-- how many members an object has, and 0 of another value
abbrev pub member_count : Data → ℕ
member_count d = count_in (as_object d)

-- a number is written with digits alone, and is below 2 ^ 64
abbrev pub number_in : Data → Option ℕ
number_in d = option_and_then as_u64 (as_number d)

-- a value that is a number here: without sign, fraction and exponent
abbrev pub is_json_number : Data → Bool
is_json_number d = is_some (number_in d)

-- the number of the member of this name, where it has one
abbrev pub number_at : List ℕ → Data → Option ℕ
number_at name d = option_and_then number_in (get name d)

-- the text of the member of this name, where it is a text
abbrev pub text_at : List ℕ → Data → Option (List ℕ)
text_at name d = option_and_then as_str (get name d)

-- the member of this name is a text
abbrev pub has_text : List ℕ → Data → Bool
has_text name d = is_some (text_at name d)

-- the elements of an array
abbrev pub elements : Items → List Data
elements no_items = []
elements (item d ds) = d ∷ elements ds

-- the elements of the member of this name, where it is an array
abbrev pub elements_at : List ℕ → Data → Option (List Data)
elements_at name d = option_map elements (option_and_then as_array (get name d))

-- each element of an array is such, and there is an array
abbrev pub all_in : (Data → Bool) → Option (List Data) → Bool
all_in p None = false
all_in p (Some ds) = list_all p ds

-- the member of this name is an array of numbers
abbrev pub has_numbers : List ℕ → Data → Bool
has_numbers name d = all_in is_json_number (elements_at name d)

-- the members `name`, `column`, `helpers` and `code`, of their types
abbrev pub has_members : Data → Bool
has_members d = has_text (codes "name") d && (is_some (number_at (codes "column") d) && (has_numbers (codes "helpers") d && has_text (codes "code") d))

-- in profile 2 a member `record` may stand beside them, a number
abbrev pub has_record : Profile → Data → Bool
has_record Profile.One d = false
has_record Profile.Two d = is_some (number_at (codes "record") d)

-- exactly these members
abbrev pub is_observer : Profile → Data → Bool
is_observer p d = (member_count d == (if has_record p d then 5 else 4)) && has_members d

-- the profile of a number, 1 or 2
abbrev pub profile_of : ℕ → Option Profile
profile_of n = if n == 1 then Some Profile.One else if n == 2 then Some Profile.Two else None

-- the profile in which a manifest's programs are read, and what stands in its `observers`
pub record ManifestOf : Type 0 where
  pub profile : Profile
  pub elements : List Data

-- a manifest has both a profile and an array
abbrev pub manifest_of : Option Profile → Option (List Data) → Option ManifestOf
manifest_of None ds = None
manifest_of (Some p) None = None
manifest_of (Some p) (Some ds) = Some (record { profile = p; elements = ds })

-- an object with exactly the members `profile`, which is 1 or 2, and `observers`, which is an array
abbrev pub manifest_in : Data → Option ManifestOf
manifest_in d = if member_count d == 2 then manifest_of (option_and_then profile_of (number_at (codes "profile") d)) (elements_at (codes "observers") d) else None

-- the form comes first, then the number of observers
abbrev pub whole_in : Option ManifestOf → Result ManifestOf ManifestCode
whole_in None = Err ManifestCode.Form
whole_in (Some m) = if not (list_all (is_observer m.profile) m.elements) then Err ManifestCode.Form else if nat_lt MAX_OBSERVERS (length m.elements) then Err ManifestCode.TooMany else Ok m

-- ---- one observer

-- a to z, 0 to 9 and `-`: a name is a word of schedules and reports, so it has no blank
abbrev pub is_name_letter : ℕ → Bool
is_name_letter b = is_ascii_lowercase b || (is_ascii_digit b || (b == 45))

-- 1 to 32 of a to z, 0 to 9 and `-`
abbrev pub is_name : List ℕ → Bool
is_name s = nat_lt 0 (length s) && (nat_le (length s) 32 && list_all is_name_letter s)

-- an observer's name, of its letters and length
abbrev pub name_in : Option (List ℕ) → Result (List ℕ) ManifestCode
name_in None = Err ManifestCode.Form
name_in (Some s) = if is_name s then Ok s else Err ManifestCode.Name

-- 0 to 15
abbrev pub column_in : Option ℕ → Result ℕ ManifestCode
column_in None = Err ManifestCode.Form
column_in (Some n) = if nat_lt n COLUMNS then Ok n else Err ManifestCode.Column

-- the numbers of these values, 0 for one that isn't a number
abbrev pub numbers_of : List Data → List ℕ
numbers_of ds = map (λ d. unwrap_or (number_in d) 0) ds

-- the set that the numbers name, or that they name none
abbrev pub helpers_or_fault : Option HelperSet → Result HelperSet ManifestCode
helpers_or_fault None = Err ManifestCode.Helpers
helpers_or_fault (Some h) = Ok h

-- a set out of the helpers 1 to 4
abbrev pub helpers_in : Option (List Data) → Result HelperSet ManifestCode
helpers_in None = Err ManifestCode.Form
helpers_in (Some ds) = helpers_or_fault (helpers_of (numbers_of ds))

-- bytes, or digits that aren't pairs of hexadecimal ones
abbrev pub decoded : {E : Type 0} → Result (List ℕ) E → Result (List ℕ) ManifestCode
decoded (Ok bytes) = Ok bytes
decoded (Err e) = Err ManifestCode.Digits

-- digits 0 to 9 and a to f, two for a byte
abbrev pub bytes_in : Option (List ℕ) → Result (List ℕ) ManifestCode
bytes_in None = Err ManifestCode.Form
bytes_in (Some s) = if list_any is_ascii_uppercase s then Err ManifestCode.Digits else decoded (decode_of s)

-- the version of the change record: 1 where none is named
abbrev pub record_version : Option ℕ → Result Version ManifestCode
record_version None = Ok Version.First
record_version (Some n) = if n == 1 then Ok Version.First else if n == 2 then Ok Version.Second else Err ManifestCode.Record

-- an observer as it is written: its name's bytes, its column, its helpers, the version of its record, and its code's bytes
pub record WrittenOf : Type 0 where
  pub name : List ℕ
  pub column : ℕ
  pub helpers : HelperSet
  pub version : Version
  pub bytes : List ℕ

-- name, column, helpers, record and digits are read in this order, so the fault that is reported has the lowest code
unfoldable pub members_of : Data → Result WrittenOf ManifestCode
members_of d = do
  name ← name_in (text_at (codes "name") d)
  column ← column_in (number_at (codes "column") d)
  helpers ← helpers_in (elements_at (codes "helpers") d)
  version ← record_version (number_at (codes "record") d)
  bytes ← bytes_in (text_at (codes "code") d)
  Ok (record { name = name; column = column; helpers = helpers; version = version; bytes = bytes })

-- a text that isn't JSON is 50, before anything of its form is asked
abbrev pub manifest_read : Option Data → Result ManifestOf ManifestCode
manifest_read None = Err ManifestCode.Text
manifest_read (Some d) = whole_in (manifest_in d)

-- the manifest that a text is, or the fault of its whole
abbrev pub manifest_of_text : List ℕ → Result ManifestOf ManifestCode
manifest_of_text text = manifest_read (read text)
