-- What the numbers of a manifest name.
use Rattle.std.proofs.Common.{◌≡◌, ℕ, ◌<◌, ◌==◌, Bool, true, false, cond, List, codes, Option, Some, None, Result, Ok, Err, refl, sym, ap, subst, ◌∙◌, arith}
use Rattle.std.proofs.lemmas.Bool.{eqb-true}
use Rattle.std.proofs.lemmas.Bool.Decides.{nat_tests}
use Rattle.serde_json.specs.Data.{Data, Items}
use Rattle.law_texts.specs.Words.{◌>>=◌, size_of, Version, ManifestCode, WrittenOf, name_in, text_at, column_in, number_at, helpers_in, elements_at, record_version, bytes_in, manifest_in, members_of}
use Rattle.law_texts.specs.ManifestNumbers.{manifest, ManifestsNameProfiles, with_record, OnlyTwoHasRecords, HasRecordSize, ManifestsNameRecords}

-- no other number names a profile
no_profile : (n : ℕ) (observers : Items) → 2 < n → manifest_in (manifest n observers) ≡ None
no_profile n observers more = grind (arith, nat_tests)

pub name_profiles : ManifestsNameProfiles
name_profiles = record { one = λ observers. refl; two = λ observers. refl; zero = λ observers. refl; more = no_profile }

pub only_two : OnlyTwoHasRecords
only_two = record { one_without = λ name column code. refl; one_with = λ n name column code. refl; two_without = λ name column code. refl; two_with = λ n name column code. refl; number = refl }

-- what a reading of two steps made, its first step made something of
first_made : {A B E : Type 0} (r : Result A E) (f : A → Result B E) (y : B) → (r >>= f) ≡ Ok y → (x : A) × (r ≡ Ok x) × (f x ≡ Ok y)
first_made (Ok x) f y e = (x, refl, e)
first_made (Err c) f y e = absurd cc

-- an observer that is read has the version that its member names
version_is : (d : Data) (w : WrittenOf) → members_of d ≡ Ok w → record_version (number_at (codes "record") d) ≡ Ok w.version
unfolding members_of
version_is d w e =
    let name = first_made (name_in (text_at (codes "name") d)) _ w e in
    let column = first_made (column_in (number_at (codes "column") d)) _ w name.2 in
    let helpers = first_made (helpers_in (elements_at (codes "helpers") d)) _ w column.2 in
    let version = first_made (record_version (number_at (codes "record") d)) _ w helpers.2 in
    let bytes = first_made (bytes_in (text_at (codes "code") d)) _ w version.2 in
    let same : w.version ≡ version.0 = (let is = bytes.2 in cc) in
    version.1 ∙ ap Ok (sym same)

-- a version of a record has so many bytes
has_size : (r : Option ℕ) (v : Version) → record_version r ≡ Ok v → HasRecordSize r (size_of v)
has_size None v e = let first : Version.First ≡ v = cc in subst (λ z. HasRecordSize None (size_of z)) first HasRecordSize.left_out
has_size (Some n) v e = one (n == 1) refl e
  where
    two : (b : Bool) → (n == 2) ≡ b → cond b (Ok Version.Second) (Err ManifestCode.Record) ≡ Ok v → HasRecordSize (Some n) (size_of v)
    two true is f = let second : Version.Second ≡ v = cc in subst (λ z. HasRecordSize (Some n) (size_of z)) second (subst (λ k. HasRecordSize (Some k) 120) (sym (eqb-true n 2 is)) HasRecordSize.second)
    two false is f = absurd cc

    one : (b : Bool) → (n == 1) ≡ b → cond b (Ok Version.First) (cond (n == 2) (Ok Version.Second) (Err ManifestCode.Record)) ≡ Ok v → HasRecordSize (Some n) (size_of v)
    one true is f = let first : Version.First ≡ v = cc in subst (λ z. HasRecordSize (Some n) (size_of z)) first (subst (λ k. HasRecordSize (Some k) 80) (sym (eqb-true n 1 is)) HasRecordSize.first)
    one false is f = two (n == 2) refl f

other : (n : ℕ) → 2 < n → record_version (Some n) ≡ Err ManifestCode.Record
other n more = grind (arith, nat_tests)

-- a fault of the first of two steps is the fault of both
then_fails : {A B E : Type 0} (r : Result A E) (f : A → Result B E) (c : E) → r ≡ Err c → (r >>= f) ≡ Err c
then_fails r f c e = ap (λ v. v >>= f) e

-- an observer for another version is refused
refused : (n : ℕ) (code : List ℕ) → 2 < n → members_of (with_record n (codes "watch") 0 code) ≡ Err ManifestCode.Record
unfolding members_of
refused n code more = then_fails (record_version (Some n)) _ ManifestCode.Record (other n more)

pub name_records : ManifestsNameRecords
name_records = record {
  profile = λ p d o is. is.2.program.profile_is;
  size = λ p d o is. subst (HasRecordSize (number_at (codes "record") d)) (sym (ap (λ j. j.record_size) is.2.program.judged_is)) (has_size (number_at (codes "record") d) is.0.version (version_is d is.0 is.1));
  refused = refused;
  number = refl;
}
