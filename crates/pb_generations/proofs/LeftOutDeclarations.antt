-- What is declared by a run of a known observer, or by a script, is of known cells.
use Rattle.std.proofs.Common.{◌≡◌, ℕ, ◌<◌, Bool, true, nat_lt, ◌&&◌, arith, List, [], ◌∷◌, length, Some, refl, subst}
use Rattle.std.specs.List.{list_all}
use Rattle.std.proofs.lemmas.Bool.{and_parts}
use Rattle.std.proofs.lemmas.Option.{none-some, slice_get_within}
use Rattle.pb_generations.specs.Words.{Writes, is_data_write, is_unstamped, primary_in, is_data, Cell, ObserverOf, IsKnown, MayDeclare, cells_of, RecordedRead, Declared, Work}
use Rattle.pb_base.proofs.Logic.{same_some}
use Rattle.pb_history.proofs.DeclaredCells.{batch_plain, run_plain}
use Rattle.pb_generations.specs.LeftOut.{is_known_cell, are_known_writes}

both : (a b : Bool) → a ≡ true → b ≡ true → (a && b) ≡ true
both a b p q = grind (arith, p, q)

pub number_is_known : (o n : ℕ) → o < n → nat_lt o n ≡ true
number_is_known o n low = grind (arith, low)

module _ (n : ℕ) where
  data_is_known : (x : Cell) → is_data x ≡ true → is_known_cell n x ≡ true
  data_is_known (Cell.Data row column) is = refl
  data_is_known (Cell.Ack o row column) is = cc

  pub plain_are_known : (ws : Writes) → list_all is_data_write ws ≡ true → are_known_writes n ws ≡ true
  plain_are_known [] is = refl
  plain_are_known (w ∷ ws) is =
      let parts = and_parts (is_data_write w) (list_all is_data_write ws) is in
      both _ _ (data_is_known w.0 (and_parts (is_data w.0) (is_unstamped w.1) parts.0).0) (plain_are_known ws parts.1)

  pub primary_is_known : (ws : Writes) (p : Cell) → are_known_writes n ws ≡ true → primary_in ws ≡ Some p → is_known_cell n p ≡ true
  primary_is_known [] p known is = absurd (none-some p is)
  primary_is_known (w ∷ ws) p known is = subst (λ (x : Cell). is_known_cell n x ≡ true) (same_some w.0 p is) (and_parts (is_known_cell n w.0) (are_known_writes n ws) known).0

pub declares_known : (front : List ObserverOf) (work : Work) (s : ℕ) (reads : List RecordedRead) (what : Declared) → IsKnown what → MayDeclare front work s reads what → are_known_writes (length front) (cells_of front work s what) ≡ true
declares_known front Work.Script s reads (Declared.Script batch) known may = plain_are_known (length front) batch (batch_plain batch known)
declares_known front (Work.Run p row) s reads (Declared.Run o f) known may =
    both _ _ (number_is_known p (length front) (slice_get_within front p may.1.observer may.1.observer_is)) (plain_are_known (length front) f.writes (run_plain f.writes known.1))
declares_known front Work.Script s reads (Declared.Run o f) known may = absurd may
declares_known front (Work.Run p row) s reads (Declared.Script batch) known may = absurd may
