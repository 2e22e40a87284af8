-- An empty tablet whose rows begin at 0 makes a table.
use Rattle.std.proofs.Common.{◌≡◌, true, List, [], ◌∷◌, subst, arith}
use Rattle.std.specs.FinMap as map
use Rattle.pb_base.specs.declared.names.Row.{Row}
use Rattle.pb_base.specs.declared.refusal.Refusal.{Refusal}
use Rattle.pb_base.specs.Reasons.{TellsReason}
use Rattle.pb_store.specs.Contents.{Contents, is_nothing, nothing}
use Rattle.pb_store.specs.Tiles.{tiles_of, table_reason}

is_nothing_inside : is_nothing nothing ≡ true
is_nothing_inside = grind (arith, map.len-empty)

pub no_reason : {T : Type 0} (contents : T → Contents) (parts : List (Row × T)) (t : T) (r : Refusal) → parts ≡ (record { 0 = 0 }, t) ∷ [] → contents t ≡ nothing
    → TellsReason (table_reason (tiles_of contents parts)) r → ⊥
no_reason contents parts t r is empty h =
    let one : TellsReason (table_reason ((0, nothing) ∷ [])) r =
    subst (λ c. TellsReason (table_reason ((0, c) ∷ [])) r) empty (subst (λ ps. TellsReason (table_reason (tiles_of contents ps)) r) is h) in
    rw is_nothing_inside at one
