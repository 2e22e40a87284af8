-- The writes that are still to be printed.
use Rattle.std.proofs.Common.{arith, ◌≡◌, ℕ, suc, ◌+◌, List, ◌∷◌, ◌++◌, drop, Some, ap, ◌∙◌, append_assoc, add-one, drop-cons, slice_get, flat_map}
use Rattle.std.proofs.lemmas.Option.{slice_get_within, get_or_from_slice_get}
use Rattle.pb_story.specs.Words.{Cell, Content, Writes}

-- what is left to print is the next write and what is left after it
drop_next : (ws : Writes) (i : ℕ) (w : Cell × Content) → slice_get ws i ≡ Some w → drop i ws ≡ w ∷ drop (i + 1) ws
drop_next ws i w h =
    let inside = slice_get_within ws i w h in
    rw add-one (drop-cons ws i w inside ∙ ap (λ (x : Cell × Content). x ∷ drop (suc i) ws) (get_or_from_slice_get ws i w w h))

-- the text grew by the write of this place
pub tell_next : (f : Cell × Content → List ℕ) (ws : Writes) (i : ℕ) (w : Cell × Content) (before text all : List ℕ)
    → slice_get ws i ≡ Some w → text ≡ before ++ f w → before ++ flat_map f (drop i ws) ≡ all → text ++ flat_map f (drop (i + 1) ws) ≡ all
tell_next f ws i w before text all h grew is = grind (arith, append_assoc, drop_next)
