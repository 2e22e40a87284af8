-- The names of the observers in a map are its keys.
use Rattle.std.proofs.Common.{arith, ◌≡◌, ℕ, false, Option, Some, None, Result, Ok, List, [], ◌∷◌, is_some, String, Global, refl, sym, ap, ◌∙◌, string_bytes, codes, bytes_eq}
use Rattle.pb_registry.specs.Words.{◌>>=◌, HelperSet, Profile, Version, ObserverOf}
use Rattle.std.specs.List.{IsDistinct, AllByRecursion, list_any}
use Rattle.std.specs.Map.{lookup, keys_of}
use Rattle.serde_json.specs.Data.{Data}
use Rattle.pb_registry.specs.declared.code.ManifestCode.{ManifestCode}
use Rattle.pb_registry.specs.declared.observer.RegisteredObserver.{RegisteredObserver}
use Rattle.pb_registry.specs.Manifests.{WrittenOf, name_in, text_at, column_in, number_at, helpers_in, elements_at, record_version, bytes_in, members_of}
use Rattle.pb_registry.specs.Observers.{observers_of}
use Rattle.pb_registry.specs.Judging.{IsObserver, is_among, is_used, names_of}
use Rattle.pb_base.proofs.Logic.{none_is as nothing_found}

-- a name is a key of the map exactly where an observer has it
pub found_name : (s : List ℕ) (es : List (String Global × RegisteredObserver)) → is_some (lookup (λ k. bytes_eq s (string_bytes k)) es) ≡ list_any (bytes_eq s) (names_of (observers_of es))
found_name s [] = refl
found_name s (e ∷ es) = grind (arith, found_name s es)

-- the members of an observer read one after the other, each of them given
abbrev written : Result (List ℕ) ManifestCode → Result ℕ ManifestCode → Result HelperSet ManifestCode → Result Version ManifestCode → Result (List ℕ) ManifestCode → Result WrittenOf ManifestCode
written n a h v b = do
  name ← n
  column ← a
  helpers ← h
  version ← v
  bytes ← b
  Ok (record { name = name; column = column; helpers = helpers; version = version; bytes = bytes })

name_of : (t : Option (List ℕ)) (a : Result ℕ ManifestCode) (h : Result HelperSet ManifestCode) (v : Result Version ManifestCode) (b : Result (List ℕ) ManifestCode) (w : WrittenOf) → written (name_in t) a h v b ≡ Ok w → t ≡ Some w.name
name_of t a h v b w e = grind arith

-- what is read of an element has the name that the element has
named : (d : Data) (w : WrittenOf) → members_of d ≡ Ok w → text_at (codes "name") d ≡ Some w.name
unfolding members_of
named d w e = name_of (text_at (codes "name") d) (column_in (number_at (codes "column") d)) (helpers_in (elements_at (codes "helpers") d)) (record_version (number_at (codes "record") d)) (bytes_in (text_at (codes "code") d)) w e

-- a key that is a new name isn't in the map
pub new_name : (p : Profile) (es : List (String Global × RegisteredObserver)) (d : Data) (o : ObserverOf) (k : String Global) → IsObserver p d o → o.name ≡ string_bytes k → is_used (names_of (observers_of es)) d ≡ false → lookup (λ y. bytes_eq (string_bytes k) (string_bytes y)) es ≡ None
new_name p es d o k (w, written, is) same new =
    let name : text_at (codes "name") d ≡ Some (string_bytes k) = named d w written ∙ ap Some (sym is.name ∙ same) in
    let unlike : list_any (bytes_eq (string_bytes k)) (names_of (observers_of es)) ≡ false = sym (ap (is_among (names_of (observers_of es))) name) ∙ new in
    nothing_found (lookup (λ y. bytes_eq (string_bytes k) (string_bytes y)) es) (found_name (string_bytes k) es ∙ unlike)

-- a name that is none of the keys is none of the names
apart_from : (s : List ℕ) (es : List (String Global × RegisteredObserver)) → AllByRecursion (λ y. bytes_eq s (string_bytes y) ≡ false) (keys_of es) → AllByRecursion (λ y. bytes_eq s y ≡ false) (names_of (observers_of es))
apart_from s [] h = h
apart_from s (e ∷ es) h = (h.0, apart_from s es h.1)

-- distinct keys are distinct names
pub distinct_names : (es : List (String Global × RegisteredObserver)) → IsDistinct (λ x y. bytes_eq (string_bytes x) (string_bytes y)) (keys_of es) → IsDistinct bytes_eq (names_of (observers_of es))
unfolding IsDistinct
distinct_names [] h = h
distinct_names (e ∷ es) h = (apart_from (string_bytes e.0) es h.0, distinct_names es h.1)
