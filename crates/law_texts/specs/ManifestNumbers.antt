-- What the numbers of a manifest name (docs/FORMATS.md): the profile of its programs, and the version of an observer's change
-- record. `pb_registry` turns each into a name by the same cases as its code, which could name any other.
use Rattle.std.specs.Prelude.{◌≡◌, ℕ, ◌<◌, List, [], ◌∷◌, codes, Option, Some, None, Result, Ok, Err}
use Rattle.serde_json.specs.Data.{Data, number, string, array, object, unsigned, Items, no_items, item, member, no_members}
use Rattle.law_texts.specs.Words.{Profile, ObserverOf, ManifestCode, number_of, IsObserver, ManifestOf, elements, number_at, manifest_in, manifest_read, members_of}

-- a manifest with this number as its profile, and these observers
abbrev pub manifest : ℕ → Items → Data
manifest n observers = object (member (codes "observers") (array observers) (member (codes "profile") (number (unsigned n)) no_members))

-- the result of reading such a manifest in a profile
abbrev pub read_in : Profile → Items → Option ManifestOf
read_in profile observers = Some (record { profile = profile; elements = elements observers })

-- 1 and 2 name a profile, and no other number does
pub record ManifestsNameProfiles : Type 0 where
  pub one : (observers : Items) → manifest_in (manifest 1 observers) ≡ read_in Profile.One observers
  pub two : (observers : Items) → manifest_in (manifest 2 observers) ≡ read_in Profile.Two observers
  pub zero : (observers : Items) → manifest_in (manifest 0 observers) ≡ None
  pub more : (n : ℕ) (observers : Items) → 2 < n → manifest_in (manifest n observers) ≡ None

-- an observer without helpers, and one whose member `record` has this number
abbrev pub without_record : List ℕ → ℕ → List ℕ → Data
without_record name column code =
    object (member (codes "code") (string code) (member (codes "column") (number (unsigned column)) (member (codes "helpers") (array no_items) (member (codes "name") (string name) no_members))))

abbrev pub with_record : ℕ → List ℕ → ℕ → List ℕ → Data
with_record n name column code =
    object (member (codes "code") (string code) (member (codes "column") (number (unsigned column)) (member (codes "helpers") (array no_items) (member (codes "name") (string name) (member (codes "record") (number (unsigned n)) no_members)))))

-- the manifest of one observer, with this number as its profile
abbrev pub with_one : ℕ → Data → Data
with_one n observer = manifest n (item observer no_items)

-- it is read, with that observer
abbrev pub one_read : Profile → Data → Result ManifestOf ManifestCode
one_read profile observer = Ok (record { profile = profile; elements = observer ∷ [] })

-- the member may stand in profile 2 alone, and else the manifest is refused with 51
pub record OnlyTwoHasRecords : Type 0 where
  pub one_without : (name : List ℕ) (column : ℕ) (code : List ℕ) → manifest_read (Some (with_one 1 (without_record name column code))) ≡ one_read Profile.One (without_record name column code)
  pub one_with : (n : ℕ) (name : List ℕ) (column : ℕ) (code : List ℕ) → manifest_read (Some (with_one 1 (with_record n name column code))) ≡ Err ManifestCode.Form
  pub two_without : (name : List ℕ) (column : ℕ) (code : List ℕ) → manifest_read (Some (with_one 2 (without_record name column code))) ≡ one_read Profile.Two (without_record name column code)
  pub two_with : (n : ℕ) (name : List ℕ) (column : ℕ) (code : List ℕ) → manifest_read (Some (with_one 2 (with_record n name column code))) ≡ one_read Profile.Two (with_record n name column code)
  pub number : number_of ManifestCode.Form ≡ 51

-- how many bytes a change record has where the member `record` is this or left out
pub data HasRecordSize : Option ℕ → ℕ → Type 0 where
  left_out : HasRecordSize None 80
  first : HasRecordSize (Some 1) 80
  second : HasRecordSize (Some 2) 120

-- each observer that is read has its program in the manifest's profile, and the record that its member names; an observer whose
-- member names none is refused with 54
pub record ManifestsNameRecords : Type 0 where
  pub profile : (p : Profile) (d : Data) (o : ObserverOf) → IsObserver p d o → o.program.program.profile ≡ p
  pub size : (p : Profile) (d : Data) (o : ObserverOf) → IsObserver p d o → HasRecordSize (number_at (codes "record") d) o.program.record_size
  pub refused : (n : ℕ) (code : List ℕ) → 2 < n → members_of (with_record n (codes "watch") 0 code) ≡ Err ManifestCode.Record
  pub number : number_of ManifestCode.Record ≡ 54
