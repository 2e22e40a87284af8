-- What is declared names each cell once, and an acknowledgment only as that of its run.
use Rattle.std.proofs.Common.{arith, ◌≡◌, ℕ, true, List, [], ◌∷◌, length, None, refl, nat_lt, nat_le, ◌&&◌}
use Rattle.std.specs.List.{list_all}
use Rattle.std.proofs.lemmas.Bool.{and_parts}
use Rattle.pb_history.specs.Words.{Cell, Row, MAX_CELLS, is_data, Writes, content_in, is_data_write, are_distinct, is_batch, AreRunWrites, Work, Declared, ObserverOf, IsKnown, cells_of}

-- a data cell is no acknowledgment
no_data : (y : Cell) (o : ℕ) (row : Row) (column : ℕ) → is_data y ≡ true → Cell.Ack o row column ≡ y → ⊥
no_data y o row column h e = grind arith

-- a list of data cells has no acknowledgment
pub no_ack : (ws : Writes) (o : ℕ) (row : Row) (column : ℕ) → list_all is_data_write ws ≡ true → content_in ws (Cell.Ack o row column) ≡ None
no_ack [] o row column h = refl
no_ack (w ∷ ws) o row column h =
    let q = and_parts (is_data_write w) (list_all is_data_write ws) h in
    grind (arith, no_data, no_ack ws o row column q.1)

-- a batch writes data cells alone
pub batch_plain : (ws : Writes) → is_batch ws ≡ true → list_all is_data_write ws ≡ true
batch_plain ws h = grind arith

-- and so does a program, so that an acknowledgment comes in by its run only
pub run_plain : (ws : Writes) → AreRunWrites ws → list_all is_data_write ws ≡ true
run_plain ws w = grind arith

batch_distinct : (ws : Writes) → is_batch ws ≡ true → are_distinct ws ≡ true
batch_distinct ws h = (and_parts (nat_lt 0 (length ws) && nat_le (length ws) MAX_CELLS && list_all is_data_write ws) (are_distinct ws) h).1

run_distinct : (ws : Writes) → AreRunWrites ws → are_distinct ws ≡ true
run_distinct ws w = grind arith

-- what is declared names no cell twice: a run's acknowledgment isn't among its program's writes
pub cells_distinct : (observers : List ObserverOf) (work : Work) (s : ℕ) (what : Declared) → IsKnown what → are_distinct (cells_of observers work s what) ≡ true
cells_distinct observers work s what known = grind (arith, batch_distinct, run_distinct, no_ack, run_plain)
