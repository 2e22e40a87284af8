-- What is tested of cells, of what a transaction writes and of what it has prewritten comes out the same under other numbers of the
-- observers.
use Rattle.std.proofs.Common.{◌≡◌, ℕ, Bool, true, false, cond, not, ◌&&◌, ◌||◌, List, [], ◌∷◌, Option, Some, None, refl, sym, ap, ◌∙◌, is_none, option_map, map, nat_eq}
use Rattle.std.specs.List.{list_all}
use Rattle.std.specs.Ordering.{eq_by_cmp}
use Rattle.std.proofs.lemmas.Bool.{and_parts}
use Rattle.pb_generations.specs.Words.{Writes, content_in, is_data_write, primary_in, cell_cmp, column_of, is_data, row_of, Cell, Content, Reason, secondary_reasons, is_committed, is_declared, is_before_primary, is_early, prewrite_reasons, is_whole, unstamped_reasons, TransactionOf, is_in}
use Rattle.pb_base.proofs.SameCells.{cell_is, same_cells}
use Rattle.pb_history.proofs.Updates.{same_cell, same_cell_is, same_cell_itself, at_place}
use Rattle.pb_generations.specs.Renumbered.{IsOneToOne, renumbered_cell, renumbered_transaction, renumbered_writes}

same_truth : (a b : Bool) → (a ≡ true → b ≡ true) → (b ≡ true → a ≡ true) → a ≡ b
same_truth true b on off = sym (on refl)
same_truth false true on off = off refl
same_truth false false on off = refl

-- the number of an acknowledgment's observer
acknowledged_by : Cell → ℕ
acknowledged_by (Cell.Data row column) = 0
acknowledged_by (Cell.Ack o row column) = o

module _ (number : ℕ → ℕ) where
  -- ---- data cells stay

  data_stays : (x : Cell) → is_data x ≡ true → renumbered_cell number x ≡ x
  data_stays (Cell.Data row column) e = refl
  data_stays (Cell.Ack o row column) e = absurd cc

  pub plain_stay : (ws : Writes) → list_all is_data_write ws ≡ true → renumbered_writes number ws ≡ ws
  plain_stay [] h = refl
  plain_stay (w ∷ ws) h =
      let p = and_parts (is_data_write w) (list_all is_data_write ws) h in
      λ i. (data_stays w.0 (and_parts (is_data w.0) _ p.0).0 i, w.1) ∷ plain_stay ws p.1 i

  pub primary_renumbered : (ws : Writes) → primary_in (renumbered_writes number ws) ≡ option_map (renumbered_cell number) (primary_in ws)
  primary_renumbered [] = refl
  primary_renumbered (w ∷ ws) = refl

module _ (number : ℕ → ℕ) (one : IsOneToOne number) where
  abbrev new_cell : Cell → Cell
  new_cell = renumbered_cell number

  -- ---- no two cells become one

  pub one_cell : (x y : Cell) → new_cell x ≡ new_cell y → x ≡ y
  unfolding acknowledged_by
  one_cell (Cell.Data r c) (Cell.Data s d) e = e
  one_cell (Cell.Data r c) (Cell.Ack p s d) e = absurd cc
  one_cell (Cell.Ack o r c) (Cell.Data s d) e = absurd cc
  one_cell (Cell.Ack o r c) (Cell.Ack p s d) e =
      let who : o ≡ p = one o p (ap acknowledged_by e) in
      let rows : r ≡ s = ap row_of e in
      let columns : c ≡ d = ap column_of e in
      λ i. Cell.Ack (who i) (rows i) (columns i)

  pub tie_renumbered : (x y : Cell) → eq_by_cmp cell_cmp (new_cell x) (new_cell y) ≡ eq_by_cmp cell_cmp x y
  tie_renumbered x y = same_truth _ _ (λ e. same_cells x y (one_cell x y (cell_is (new_cell x) (new_cell y) e))) (λ e. same_cells (new_cell x) (new_cell y) (ap new_cell (cell_is x y e)))

  same_renumbered : (x y : Cell) → same_cell (new_cell x) (new_cell y) ≡ same_cell x y
  same_renumbered x y = same_truth _ _
      (λ e. ap (same_cell x) (sym (one_cell x y (same_cell_is (new_cell x) (new_cell y) e))) ∙ same_cell_itself x)
      (λ e. ap (λ z. same_cell (new_cell x) (new_cell z)) (sym (same_cell_is x y e)) ∙ same_cell_itself (new_cell x))

  pub place_renumbered : (y : Cell) (u : ℕ) (x : Cell) (s : ℕ) → at_place (new_cell y) u (new_cell x) s ≡ at_place y u x s
  place_renumbered y u x s = ap (λ b. b && nat_eq u s) (same_renumbered y x)

  -- ---- what a transaction writes

  pub in_renumbered : (xs : List Cell) (x : Cell) → is_in (map new_cell xs) (new_cell x) ≡ is_in xs x
  in_renumbered [] x = refl
  in_renumbered (y ∷ ys) x = λ i. tie_renumbered y x i || in_renumbered ys x i

  pub content_renumbered : (ws : Writes) (x : Cell) → content_in (renumbered_writes number ws) (new_cell x) ≡ content_in ws x
  content_renumbered [] x = refl
  content_renumbered (w ∷ ws) x = λ i. cond (tie_renumbered x w.0 i) (Some w.1) (content_renumbered ws x i)

  all_renumbered : (before : List Cell) (ws : Writes) → list_all (λ (w : Cell × Content). is_in (map new_cell before) w.0) (renumbered_writes number ws) ≡ list_all (λ (w : Cell × Content). is_in before w.0) ws
  all_renumbered before [] = refl
  all_renumbered before (w ∷ ws) = λ i. in_renumbered before w.0 i && all_renumbered before ws i

  pub whole_renumbered : (t : TransactionOf) → is_whole (renumbered_transaction number t) ≡ is_whole t
  whole_renumbered t = all_renumbered t.prewritten t.declared

  before_renumbered : (p : Option Cell) (before : List Cell) (x : Cell) → is_before_primary (option_map new_cell p) (map new_cell before) (new_cell x) ≡ is_before_primary p before x
  before_renumbered None before x = refl
  before_renumbered (Some p) before x = λ i. not (tie_renumbered x p i) && not (in_renumbered before p i)

  pub early_renumbered : (t : TransactionOf) (x : Cell) → is_early (renumbered_transaction number t) (new_cell x) ≡ is_early t x
  early_renumbered t x = ap (λ p. is_before_primary p (map new_cell t.prewritten) (new_cell x)) (primary_renumbered number t.declared) ∙ before_renumbered (primary_in t.declared) t.prewritten x

  -- ---- so the same is refused

  pub prewrite_reasons_renumbered : (x : Cell) (t : TransactionOf) → prewrite_reasons (new_cell x) (renumbered_transaction number t) ≡ prewrite_reasons x t
  prewrite_reasons_renumbered x t i =
      (Reason.WrongPhase, not (is_declared t.phase) || early_renumbered t x i)
      ∷ (Reason.NotDeclared, is_none (content_renumbered t.declared x i))
      ∷ (Reason.AlreadyPrewritten, in_renumbered t.prewritten x i)
      ∷ []

  pub secondary_reasons_renumbered : (x : Cell) (t : TransactionOf) → secondary_reasons (new_cell x) (renumbered_transaction number t) ≡ secondary_reasons x t
  secondary_reasons_renumbered x t i = (Reason.WrongPhase, not (is_committed t.phase)) ∷ (Reason.NotDeclared, is_none (content_renumbered t.declared x i)) ∷ []

  pub unstamped_reasons_renumbered : (t : TransactionOf) → unstamped_reasons (renumbered_transaction number t) ≡ unstamped_reasons t
  unstamped_reasons_renumbered t i = (Reason.WrongPhase, not (is_declared t.phase) || not (whole_renumbered t i)) ∷ []
