-- What a script's transaction writes. `is_batch` is the invariant of `Batch`; a run's writes are of the same type and
-- go by `content_in` too, so that one definition says what a declared transaction gives a cell.
use Rattle.std.specs.Prelude.{ℕ, Bool, true, false, ◌&&◌, nat_lt, nat_le, if◌then◌else◌, List, [], ◌∷◌, length, map, Option, Some, None, is_none}
use Rattle.std.specs.List.{list_all}
use Rattle.std.specs.Ordering.{eq_by_cmp}
use Rattle.pb_base.specs.declared.names.Row.{Row}
use Rattle.pb_base.specs.declared.cell.Cell.{Cell}
use Rattle.pb_base.specs.declared.content.Content.{Content}
use Rattle.pb_base.specs.declared.limits.TheConstants.{MAX_CELLS}
use Rattle.pb_base.specs.Cell.{cell_cmp, is_data}

-- cells with what is written to them
abbrev pub Writes : Type 0
Writes = List (Cell × Content)

-- rows, columns and contents as data cells with contents: a batch keeps the first, and contracts see the second
abbrev pub writes_of : List (Row × ℕ × Content) → Writes
writes_of ws = map (λ w. (Cell.Data w.0 w.1, w.2)) ws

-- what is written to a cell: the first that names it
abbrev pub content_in : Writes → Cell → Option Content
content_in [] x = None
content_in (w ∷ ws) x = if eq_by_cmp cell_cmp x w.0 then Some w.1 else content_in ws x

-- the first cell, if there is one
abbrev pub primary_in : Writes → Option Cell
primary_in [] = None
primary_in (w ∷ ws) = Some w.0

-- a value or a deletion, which is what a data cell may get
abbrev pub is_unstamped : Content → Bool
is_unstamped (Content.Value v) = true
is_unstamped Content.Deleted = true
is_unstamped (Content.Stamp t) = false

-- to a data cell, and without a stamp, since those stand in acknowledgment cells alone
abbrev pub is_data_write : Cell × Content → Bool
is_data_write w = is_data w.0 && is_unstamped w.1

-- no cell is named twice
abbrev pub are_distinct : Writes → Bool
are_distinct [] = true
are_distinct (w ∷ ws) = is_none (content_in ws w.0) && are_distinct ws

-- 1 to 16 distinct data cells, none with a stamp
abbrev pub is_batch : Writes → Bool
is_batch ws = nat_lt 0 (length ws) && nat_le (length ws) MAX_CELLS && list_all is_data_write ws && are_distinct ws
