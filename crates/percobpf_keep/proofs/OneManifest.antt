-- That a manifest has one list of observers.
use Rattle.std.proofs.Common.{◌≡◌, ℕ, List, [], ◌∷◌, Result, Ok, Err, refl, ap, subst, sym, ◌∙◌}
use Rattle.std.specs.List.{AllZip}
use Rattle.pb_decode.specs.Encoding.{Encodes}
use Rattle.pb_reading.proofs.Readings.{ok_is}
use Rattle.pb_accepted.specs.Observers.{ObserverOf}
use Rattle.pb_registry.specs.Words.{HelperSet, JudgedOf, Profile, ProgramOf, Version, judged_by}
use Rattle.pb_registry.specs.Accepting.{IsAcceptedCode}
use Rattle.pb_registry.specs.Judging.{AreTaken, IsObserver, IsUpload, ReadsManifest}
use Rattle.pb_registry.specs.Manifests.{ManifestOf, WrittenOf, manifest_of_text}
use Rattle.pb_registry.specs.declared.code.ManifestCode.{ManifestCode}

-- of two lists that stand so to a third they are the same, if each item is
same_each : {A B : Type 0} (R : A → B → Type 0) → ((d : A) (x y : B) → R d x → R d y → x ≡ y) → (ds : List A) (xs ys : List B) → AllZip R ds xs → AllZip R ds ys → xs ≡ ys
same_each R one [] [] [] a b = refl
same_each R one [] [] (y ∷ ys) a b = absurd b
same_each R one [] (x ∷ xs) ys a b = absurd a
same_each R one (d ∷ ds) [] ys a b = absurd a
same_each R one (d ∷ ds) (x ∷ xs) [] a b = absurd b
same_each R one (d ∷ ds) (x ∷ xs) (y ∷ ys) a b = ap (λ z. z ∷ xs) (one d x y a.0 b.0) ∙ ap (λ l. y ∷ l) (same_each R one ds xs ys a.1 b.1)

abbrev observer_of : List ℕ → ℕ → JudgedOf → ObserverOf
observer_of name column program = record { name = name; column = column; program = program }

-- bytes of a profile are one program
module _ (one : (bytes : List ℕ) (p q : ProgramOf) → p.profile ≡ q.profile → Encodes bytes p → Encodes bytes q → p ≡ q) where
  same_program : (p : Profile) (v : Version) (bytes : List ℕ) (h : HelperSet) (x y : JudgedOf) → IsAcceptedCode p v bytes h x → IsAcceptedCode p v bytes h y → x ≡ y
  same_program p v bytes h x y a b = a.judged_is ∙ ap (λ q. judged_by v q h) (one bytes x.program y.program (a.profile_is ∙ sym b.profile_is) a.encodes b.encodes) ∙ sym b.judged_is

  same_upload : (p : Profile) (w : WrittenOf) (x y : ObserverOf) → IsUpload p w x → IsUpload p w y → x ≡ y
  same_upload p w x y a b = (λ i. observer_of ((a.name ∙ sym b.name) i) ((a.column ∙ sym b.column) i) ((same_program p w.version w.bytes w.helpers x.program y.program a.program b.program) i))

  same_taken : (m : Result ManifestOf ManifestCode) (xs ys : List ObserverOf) → AreTaken m xs → AreTaken m ys → xs ≡ ys
  same_taken (Ok m) xs ys a b =
      same_each (IsObserver m.profile)
      (λ d x y p q. same_upload m.profile q.0 x y (subst (λ w. IsUpload m.profile w x) (ok_is p.0 q.0 (sym p.1 ∙ q.1)) p.2) q.2)
      m.elements xs ys a.each b.each
  same_taken (Err e) xs ys a b = absurd a

  pub same_observers : (text : List ℕ) (xs ys : List ObserverOf) → ReadsManifest text (Ok xs) → ReadsManifest text (Ok ys) → xs ≡ ys
  same_observers text xs ys a b = same_taken (manifest_of_text text) xs ys a b
