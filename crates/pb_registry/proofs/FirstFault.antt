-- The observers of a manifest up to one of them.
use Rattle.std.proofs.Common.{◌≡◌, ◌≢◌, ◌⊎◌, inl, inr, ◌<◌, ℕ, ◌+◌, Bool, true, false, Some, None, Ok, List, [], ◌∷◌, ◌++◌, map, take, length, get_or, refl, sym, ap, subst, ◌∙◌, true≢false, if◌then◌else◌, bytes_eq}
use Rattle.std.specs.List.{AllZip, IsDistinct}
use Rattle.std.proofs.lemmas.List.{take_more, map-append, take-map, length-map}
use Rattle.indexmap.proofs.SetLemmas.{AllZip-push}
use Rattle.std.proofs.lemmas.List as lists
use Rattle.std.proofs.lemmas.Option.{slice_get-get_or}
use Rattle.serde_json.specs.View.{view}
use Rattle.serde_json.specs.declared.value.Value.{Value}
use Rattle.pb_registry.specs.Words.{Profile, ObserverOf}
use Rattle.pb_registry.specs.declared.code.ManifestCode.{ManifestCode}
use Rattle.pb_registry.specs.declared.fault.RegistryFault.{RegistryFault}
use Rattle.pb_registry.specs.Codes.{is_memory, memory}
use Rattle.pb_registry.specs.Judging.{IsObserver, AreObservers, HasOneMore, IsLowestAfter, IsFirstElementFault, TellsFault, names_of, fault_with, fault_at}

-- before the first element there are no observers
pub no_observers : (p : Profile) (os : List ObserverOf) → os ≡ [] → AreObservers p [] os
unfolding IsDistinct
no_observers p os none = subst (AreObservers p []) (sym none) (record { each = tt; apart = tt })

-- the element at i
module _ (p : Profile) (vs : List Value) (i : ℕ) (v : Value) (lt : i < length vs) (at : get_or vs i v ≡ v) (old : List ObserverOf) (good : AreObservers p (map view (take i vs)) old) where
  pub one_more_observer : (new : List ObserverOf) → HasOneMore p (view v) old new → IsDistinct bytes_eq (names_of new) → AreObservers p (map view (take (i + 1) vs)) new
  one_more_observer new (o, is, pushed) apart =
      let front : map view (take (i + 1) vs) ≡ map view (take i vs) ++ view v ∷ [] = ap (map view) (take_more vs i v lt) ∙ map-append view (take i vs) (get_or vs i v ∷ []) ∙ ap (λ w. map view (take i vs) ++ view w ∷ []) at in
      record {
        each = subst (λ ds. AllZip (IsObserver p) ds new) (sym front) (subst (AllZip (IsObserver p) (map view (take i vs) ++ view v ∷ [])) (sym pushed) (AllZip-push (IsObserver p) (map view (take i vs)) old (view v) o good.each is));
        apart = apart;
      }

  first_fault : (code : ManifestCode) → IsLowestAfter (names_of old) p (view v) code → IsFirstElementFault p (map view vs) i code
  first_fault code fault = record {
    before = old;
    good = subst (λ ds. AreObservers p ds old) (sym (take-map view i vs)) good;
    element = view v;
    there = slice_get-get_or (map view vs) i (view v) (subst (λ n. i < n) (sym (length-map vs view)) lt) ∙ ap Some (lists.get_or-map view vs i v (view v) lt ∙ ap view at);
    fault = fault;
  }

  pub told_fault : (code : ManifestCode) (f : RegistryFault) → f ≡ fault_at i code → (code ≢ memory → IsLowestAfter (names_of old) p (view v) code) → (f ≡ fault_with None memory) ⊎ TellsFault (Ok (record { profile = p; elements = map view vs })) f
  told_fault code f is fault = by (is_memory code) refl
    where
      by : (b : Bool) → is_memory code ≡ b → (f ≡ fault_with None memory) ⊎ TellsFault (Ok (record { profile = p; elements = map view vs })) f
      by true m = inl (is ∙ ap (λ b. if b then fault_with None memory else fault_with (Some i) code) m)
      by false m = inr (i, code, first_fault code (fault (λ e. true≢false (sym (ap is_memory e) ∙ m))), is ∙ ap (λ b. if b then fault_with None memory else fault_with (Some i) code) m)
