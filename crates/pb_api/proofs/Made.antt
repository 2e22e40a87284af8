-- Writes that are put into places, one after the other.
use Rattle.std.proofs.Common.{◌≡◌, ◌∙◌, ℕ, suc, ◌+◌, ◌-◌, ◌<◌, ◌≤◌, List, [], ◌∷◌, ◌++◌, map, length, take, set, get_or, replicate, sym, ap, subst, arith, append_assoc, length-take-le}
use Rattle.std.proofs.lemmas.List.{length-map, map_more}
use Rattle.std.proofs.Math.Seq.{set-append_seam}
use Rattle.pb_base.specs.declared.cell.Cell.{Cell}
use Rattle.pb_base.specs.declared.content.Content.{Content}
use Rattle.pb_base.specs.Batch.{Writes}
use Rattle.pb_api.specs.declared.running.WriteMade.{WriteMade}
use Rattle.pb_api.specs.Runs.{write_made, no_write}

-- the place after a front
set_after : (front : List WriteMade) (x : WriteMade) (rest : List WriteMade) (i : ℕ) (y : WriteMade) → length front ≡ i → set (front ++ x ∷ rest) i y ≡ (front ++ y ∷ []) ++ rest
set_after front x rest i y e = subst (λ k. set (front ++ x ∷ rest) k y ≡ (front ++ y ∷ []) ++ rest) e (set-append_seam front x rest y ∙ sym (append_assoc front (y ∷ []) rest))

-- so many writes, and empty places after them
abbrev pub made_to : Writes → ℕ → List WriteMade
made_to ws i = map write_made (take i ws) ++ replicate (16 - i) no_write

one_place : (i : ℕ) → i < 16 → 16 - i ≡ suc (16 - (i + 1))
one_place i few = omega (arith, few)

-- one more
next_made : (ws : Writes) (i : ℕ) (d : Cell × Content) → i < length ws → length ws ≤ 16 → set (made_to ws i) i (write_made (get_or ws i d)) ≡ made_to ws (i + 1)
next_made ws i d at few =
    let front = map write_made (take i ws) in
    let count : length front ≡ i = length-map (take i ws) write_made ∙ length-take-le i ws (omega (arith, at)) in
    let rest = replicate (16 - (i + 1)) no_write in
    subst (λ n. set (front ++ replicate n no_write) i (write_made (get_or ws i d)) ≡ made_to ws (i + 1)) (sym (one_place i (omega (arith, at, few))))
    (set_after front no_write rest i (write_made (get_or ws i d)) count ∙ ap (λ l. l ++ rest) (sym (map_more write_made ws i d at)))

pub made_next : (ws : Writes) (i : ℕ) (made : List WriteMade) (w : Cell × Content) (x : WriteMade) → i < length ws → length ws ≤ 16 → made ≡ made_to ws i
    → w ≡ get_or ws i w → x ≡ write_made w → set made i x ≡ made_to ws (i + 1)
made_next ws i made w x at few so_far is made_is = (λ k. set (so_far k) i ((made_is ∙ ap write_made is) k)) ∙ next_made ws i w at few
