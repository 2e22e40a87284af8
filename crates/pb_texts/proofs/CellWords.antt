-- The words of a trial's cells, three at a time.
use Rattle.std.proofs.Common.{arith, ◌≡◌, ◌≤◌, ◌<◌, ◌-◌, ℕ, List, [], ◌∷◌, ◌++◌, length, take, drop, get_or, Option, Some, None, false, option_map, option_and_then, append_assoc, ap, sym, ◌∙◌, refl}
use Rattle.std.proofs.lemmas.List.{take_rest}
use denote.Ref.{Bor}
use Rattle.pb_reading.specs.Reading.{texts_of}
use Rattle.pb_texts.specs.declared.words.choice.TrialCell.{TrialCell}
use Rattle.pb_texts.specs.TrialWords.{trial_cell, cells_named}

abbrev with_more : List TrialCell → Option (List TrialCell) → Option (List TrialCell)
with_more done cells = option_map (λ more. done ++ more) cells

-- one cell more
cell_more : (done : List TrialCell) (cell : TrialCell) (rest : Option (List TrialCell))
    → with_more done (option_map (λ cells. cell ∷ cells) rest) ≡ with_more (done ++ cell ∷ []) rest
cell_more done cell None = refl
cell_more done cell (Some rest) = grind (arith, append_assoc)

-- a cell is taken off the words that are left
pub goes_on : (left : List (Bor (List ℕ))) (none : Bor (List ℕ)) (done : List TrialCell) (cell : TrialCell) (all : Option (List TrialCell)) → 3 ≤ length left
    → trial_cell (get_or left 0 none).now (get_or left 1 none).now (get_or left 2 none).now ≡ Some cell → with_more done (cells_named (texts_of left)) ≡ all
    → with_more (done ++ cell ∷ []) (cells_named (texts_of (take (length left - 3) (drop 3 left)))) ≡ all
goes_on [] none done cell all h e is = absurd (omega (arith, h))
goes_on (r ∷ []) none done cell all h e is = absurd (omega (arith, h))
goes_on (r ∷ k ∷ []) none done cell all h e is = absurd (omega (arith, h))
goes_on (r ∷ k ∷ v ∷ rest) none done cell all h e is =
    ap (λ words. with_more (done ++ cell ∷ []) (cells_named (texts_of words))) (take_rest (r ∷ k ∷ v ∷ rest) 3)
    ∙ (sym (cell_more done cell (cells_named (texts_of rest)))
    ∙ (ap (λ o. with_more done (option_and_then (λ (x : TrialCell). option_map (λ cells. x ∷ cells) (cells_named (texts_of rest))) o)) (sym e) ∙ is))

-- fewer than three words that are left name no cell
pub ends_short : (left : List (Bor (List ℕ))) (done : List TrialCell) (all : Option (List TrialCell)) → length left < 3 → (length left ≡ 0 → ⊥) → with_more done (cells_named (texts_of left)) ≡ all → None ≡ all
ends_short [] done all h n is = absurd (n refl)
ends_short (r ∷ []) done all h n is = is
ends_short (r ∷ k ∷ []) done all h n is = is
ends_short (r ∷ k ∷ v ∷ rest) done all h n is = absurd (omega (arith, h))
