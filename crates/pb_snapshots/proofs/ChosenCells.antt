-- The cells of a table under the new numbers of its observers: which they are, and that no two become one.
use Rattle.std.proofs.Common.{◌≡◌, ℕ, List, true, Option, Some, None, option_map, refl, sym, ap, ◌∙◌, subst}
use Rattle.pb_base.proofs.Logic.{same_some}
use Rattle.pb_snapshots.specs.Words.{Cell, Revision, Row, ObserverOf, AreChosen, chosen_cell, has_its_observer, is_content_of, is_of_column}
use Rattle.pb_generations.specs.Chosen.{place_among}
use Rattle.pb_generations.proofs.ChosenNumbers.{place_is}

mapped_some : {A B : Type 0} (f : A → B) (o : Option A) (y : B) → option_map f o ≡ Some y → (x : A) × (o ≡ Some x) × (f x ≡ y)
mapped_some f (Some x) y is = (x, refl, same_some (f x) y is)
mapped_some f None y is = absurd cc

-- an acknowledgment stays one, under the place of its observer
pub ack_stays : (places : List ℕ) (o column : ℕ) (row : Row) (y : Cell) → chosen_cell places (Cell.Ack o row column) ≡ Some y → (n : ℕ) × (place_among places o ≡ Some n) × (Cell.Ack n row column ≡ y)
ack_stays places o column row y is = mapped_some (λ n. Cell.Ack n row column) (place_among places o) y is

-- one number has one place at most
one_place : (places : List ℕ) (o p n : ℕ) → place_among places o ≡ Some n → place_among places p ≡ Some n → o ≡ p
one_place places o p n a b = same_some o p (sym (place_is places o n a) ∙ place_is places p n b)

ack_parts : (m n c d : ℕ) (r q : Row) → Cell.Ack m r c ≡ Cell.Ack n q d → (m ≡ n) × (r ≡ q) × (c ≡ d)
ack_parts m n c d r q is = (cc, cc, cc)

-- two cells don't become one
pub one_cell : (places : List ℕ) (x y z : Cell) → chosen_cell places x ≡ Some z → chosen_cell places y ≡ Some z → x ≡ y
one_cell places (Cell.Data row column) (Cell.Data other_row other_column) z a b = same_some (Cell.Data row column) (Cell.Data other_row other_column) (a ∙ sym b)
one_cell places (Cell.Data row column) (Cell.Ack p other_row other_column) z a b =
    let stays = ack_stays places p other_column other_row z b in
    let same : Cell.Data row column ≡ Cell.Ack stays.0 other_row other_column = same_some (Cell.Data row column) z a ∙ sym stays.2 in
    absurd cc
one_cell places (Cell.Ack o row column) (Cell.Data other_row other_column) z a b =
    let stays = ack_stays places o column row z a in
    let same : Cell.Data other_row other_column ≡ Cell.Ack stays.0 row column = same_some (Cell.Data other_row other_column) z b ∙ sym stays.2 in
    absurd cc
one_cell places (Cell.Ack o row column) (Cell.Ack p other_row other_column) z a b =
    let m = ack_stays places o column row z a in
    let n = ack_stays places p other_column other_row z b in
    let parts = ack_parts m.0 n.0 column other_column row other_row (m.2 ∙ sym n.2) in
    let number : o ≡ p = one_place places o p m.0 m.1 (n.1 ∙ ap Some (sym parts.0)) in
    λ i. Cell.Ack (number i) (parts.1 i) (parts.2 i)

-- ---- their contents

module _ (places : List ℕ) (observers front : List ObserverOf) (are : AreChosen places observers front) where
  -- what is a content of a cell is one of what that becomes
  pub content_stays : (x y : Cell) (v : Revision) → chosen_cell places x ≡ Some y → is_content_of x v ≡ true → is_content_of y v ≡ true
  content_stays (Cell.Data row column) y v is own = subst (λ (z : Cell). is_content_of z v ≡ true) (same_some (Cell.Data row column) y is) own
  content_stays (Cell.Ack o row column) y v is own = let n = ack_stays places o column row y is in subst (λ (z : Cell). is_content_of z v ≡ true) n.2 own

  -- and its observer is there
  pub observer_stays : (x y : Cell) → chosen_cell places x ≡ Some y → has_its_observer observers x ≡ true → has_its_observer front y ≡ true
  observer_stays (Cell.Data row column) y is there = subst (λ (z : Cell). has_its_observer front z ≡ true) (same_some (Cell.Data row column) y is) refl
  observer_stays (Cell.Ack o row column) y is there =
      let n = ack_stays places o column row y is in
      let one = are.each n.0 o (place_is places o n.0 n.1) in
      subst (λ (z : Cell). has_its_observer front z ≡ true) n.2 (ap (λ p. is_of_column p column) (one.2 ∙ sym one.1) ∙ there)
