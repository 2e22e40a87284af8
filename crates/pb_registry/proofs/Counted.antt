-- The members of an object, and the elements of an array.
use Rattle.std.proofs.Common.{◌≡◌, suc, Option, Some, None, List, [], ◌∷◌, map, length, String, Global, Vec, Bor, refl, sym, ap, option_map}
use Rattle.serde_json.specs.View.{view, items_view, members_view}
use Rattle.serde_json.specs.declared.value.Value.{Value}
use Rattle.pb_registry.specs.Manifests.{members_count, elements}

-- an object has as many members as the library's map has entries
pub members_counted : (es : List (String Global × Value)) → members_count (members_view es) ≡ length es
members_counted [] = refl
members_counted (e ∷ es) = ap suc (members_counted es)

-- an array's elements are the views of its values
pub elements_viewed : (vs : List Value) → elements (items_view vs) ≡ map view vs
elements_viewed [] = refl
elements_viewed (v ∷ vs) = ap (λ ds. view v ∷ ds) (elements_viewed vs)

-- an array's elements, where there is one
pub elements_found : (r : Option (Bor (Vec Value Global))) → option_map (λ v. map view v.now.items) r ≡ option_map elements (option_map (λ v. items_view v.now.items) r)
elements_found None = refl
elements_found (Some v) = ap Some (sym (elements_viewed v.now.items))
