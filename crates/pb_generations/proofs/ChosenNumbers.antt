-- The numbers that observers get where a table has another list of them: those that stay have their places in the new one, and the
-- others stand after all that it has.
use Rattle.std.proofs.Common.{◌≡◌, ℕ, zero, suc, ◌+◌, ◌≤◌, ◌==◌, arith, Bool, true, false, cond, not, List, [], ◌∷◌, ◌++◌, length, Option, Some, None, option_map, slice_get, refl, sym, ap, ◌∙◌}
use Rattle.std.proofs.lemmas.Option.{none-some, slice_get_within}
use Rattle.pb_base.proofs.Logic.{one_value, same_some}
use Rattle.pb_generations.specs.Words.{Cell, ObserverOf, Entry, Received, entries_by}
use Rattle.pb_generations.specs.Chosen.{AreChosen, chosen_cell, new_number, place_among, placed_after, renumbered_received, renumbered_said}
use Rattle.pb_generations.specs.Renumbered.{AreNumberedBy, IsOneToOne, renumbered_cell, renumbered_entry, renumbered_journal, renumbered_step}
use Rattle.pb_generations.specs.SameButMarks.{SameButMarks, is_of_marks, without_marks}
use Rattle.pb_generations.proofs.LongerLists.{stay_in_front}
use Rattle.pb_generations.proofs.RenumberedCells.{one_cell}

-- ---- places

-- where the list has the number
pub place_is : (places : List ℕ) (o n : ℕ) → place_among places o ≡ Some n → slice_get places n ≡ Some o
unfolding place_among
place_is [] o n e = absurd (none-some n e)
place_is (p ∷ places) o n e = by (p == o) refl (place_among places o) (λ k there. place_is places o k there) n e
  where
    by : (b : Bool) → (p == o) ≡ b → (r : Option ℕ) → ((k : ℕ) → r ≡ Some k → slice_get places k ≡ Some o) → (n : ℕ) → cond b (Some zero) (option_map (λ k. suc k) r) ≡ Some n → slice_get (p ∷ places) n ≡ Some o
    by true is r later zero e = ap (λ (k : ℕ). Some k) (grind (arith, is))
    by true is r later (suc n) e = absurd (grind (arith, e))
    by false is None later n e = absurd (none-some n e)
    by false is (Some k) later zero e = absurd (grind (arith, e))
    by false is (Some k) later (suc n) e = later n (ap (λ (j : ℕ). Some j) (grind (arith, e)))

-- a number that it has has a place
place_some : (places : List ℕ) (n o : ℕ) → slice_get places n ≡ Some o → (k : ℕ) × (place_among places o ≡ Some k)
unfolding place_among
place_some [] n o e = absurd (none-some o e)
place_some (p ∷ places) n o e = by (p == o) refl (λ k there. place_some places k o there) n e
  where
    by : (b : Bool) → (p == o) ≡ b → ((n : ℕ) → slice_get places n ≡ Some o → (k : ℕ) × (place_among places o ≡ Some k)) → (n : ℕ) → slice_get (p ∷ places) n ≡ Some o
        → (k : ℕ) × (cond b (Some zero) (option_map (λ k. suc k) (place_among places o)) ≡ Some k)
    by true is later n e = (zero, refl)
    by false is later zero e = absurd (grind (arith, is, e))
    by false is later (suc n) e = let rest = later n e in (suc rest.0, ap (option_map (λ k. suc k)) rest.1)

-- no two places have one number, so that is the one
pub place_found : (places : List ℕ) (n o : ℕ) → ((m k p : ℕ) → slice_get places m ≡ Some p → slice_get places k ≡ Some p → m ≡ k) → slice_get places n ≡ Some o → place_among places o ≡ Some n
place_found places n o apart there =
    let some = place_some places n o there in
    some.1 ∙ ap (λ (k : ℕ). Some k) (apart some.0 n o (place_is places o some.0 some.1) there)

-- ---- numbers

pub numbers_one_to_one : (places : List ℕ) (size : ℕ) → length places ≤ size → IsOneToOne (new_number places size)
numbers_one_to_one places size room i j e = by (place_among places i) refl (place_among places j) refl e
  where
    by : (a : Option ℕ) → place_among places i ≡ a → (b : Option ℕ) → place_among places j ≡ b → placed_after size i a ≡ placed_after size j b → i ≡ j
    by (Some n) here (Some m) there e = one_value (slice_get places n) i j (place_is places i n here) (ap (slice_get places) e ∙ place_is places j m there)
    by (Some n) here None there e = absurd (omega (arith, room, e, slice_get_within places n i (place_is places i n here)))
    by None here (Some m) there e = absurd (omega (arith, room, e, slice_get_within places m j (place_is places j m there)))
    by None here None there e = omega (arith, e)

-- the cell of one that stays is its own by its new number
pub chosen_is_renumbered : (places : List ℕ) (size : ℕ) (x y : Cell) → chosen_cell places x ≡ Some y → renumbered_cell (new_number places size) x ≡ y
chosen_is_renumbered places size (Cell.Data row column) y e = same_some (Cell.Data row column) y e
chosen_is_renumbered places size (Cell.Ack o row column) y e = by (place_among places o) refl e
  where
    by : (r : Option ℕ) → place_among places o ≡ r → option_map (λ n. Cell.Ack n row column) r ≡ Some y → Cell.Ack (placed_after size o (place_among places o)) row column ≡ y
    by None there e = absurd (none-some y e)
    by (Some n) there e = ap (λ (r : Option ℕ). Cell.Ack (placed_after size o r) row column) there ∙ same_some (Cell.Ack n row column) y e

-- so no two cells become one
pub one_chosen : (places : List ℕ) (x z y : Cell) → chosen_cell places x ≡ Some y → chosen_cell places z ≡ Some y → x ≡ z
one_chosen places x z y first second =
    let size = length places in
    one_cell (new_number places size) (numbers_one_to_one places size (omega arith)) x z (chosen_is_renumbered places size x y first ∙ sym (chosen_is_renumbered places size z y second))

-- what stands after the first list
after_front : (few more : List ObserverOf) (n i : ℕ) → n ≡ length few + i → slice_get (few ++ more) n ≡ slice_get more i
after_front [] more n i e = ap (slice_get more) (omega (arith, e))
after_front (x ∷ few) more zero i e = absurd (omega (arith, e))
after_front (x ∷ few) more (suc n) i e = after_front few more n i (omega (arith, e))

pub numbers_stand : (places : List ℕ) (observers gone front added : List ObserverOf) → AreChosen places observers front
    → AreNumberedBy (new_number places (length (front ++ added))) (observers ++ gone) ((front ++ added) ++ (observers ++ gone))
numbers_stand places observers gone front added chosen i observer there = by (place_among places i) refl
  where
    by : (a : Option ℕ) → place_among places i ≡ a → slice_get ((front ++ added) ++ (observers ++ gone)) (placed_after (length (front ++ added)) i a) ≡ Some observer
    by (Some n) here =
        let its = chosen.each n i (place_is places i n here) in
        let same : its.0 ≡ observer = one_value (slice_get (observers ++ gone) i) its.0 observer (stay_in_front observers gone i its.0 its.1) there in
        stay_in_front (front ++ added) (observers ++ gone) n observer (stay_in_front front added n observer (its.2 ∙ ap (λ (z : ObserverOf). Some z) same))
    by None here = after_front (front ++ added) (observers ++ gone) _ i refl ∙ there

-- ---- journals, by the new numbers

module _ (number : ℕ → ℕ) where
  renumbered_left : (journal : List Entry) → without_marks (renumbered_journal number journal) ≡ renumbered_journal number (without_marks journal)
  renumbered_left [] = refl
  renumbered_left (e ∷ es) =
      let kind : is_of_marks (renumbered_step number e.step) ≡ is_of_marks e.step = grind arith in
      ap (λ b. cond (not b) (renumbered_entry number e ∷ without_marks (renumbered_journal number es)) (without_marks (renumbered_journal number es))) kind ∙ by (is_of_marks e.step) (renumbered_left es)
    where
      by : (b : Bool) → without_marks (renumbered_journal number es) ≡ renumbered_journal number (without_marks es)
          → cond (not b) (renumbered_entry number e ∷ without_marks (renumbered_journal number es)) (without_marks (renumbered_journal number es)) ≡ renumbered_journal number (cond (not b) (e ∷ without_marks es) (without_marks es))
      by true rest = rest
      by false rest = ap (λ l. renumbered_entry number e ∷ l) rest

  pub renumbered_same : (a b : List Entry) → SameButMarks a b → SameButMarks (renumbered_journal number a) (renumbered_journal number b)
  renumbered_same a b same = renumbered_left a ∙ ap (renumbered_journal number) same ∙ sym (renumbered_left b)

  pub said_renumbered : (seat : ℕ) (said : List Received) → entries_by seat (renumbered_said number said) ≡ renumbered_journal number (entries_by seat said)
  said_renumbered seat [] = refl
  said_renumbered seat (r ∷ said) = ap (λ l. record { seat = seat; step = (renumbered_received number r).step; answer = (renumbered_received number r).answer } ∷ l) (said_renumbered seat said)
