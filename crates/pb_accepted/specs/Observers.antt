-- The observers of a table (OSDI 2010, section 2.4), with the cells that they observe and acknowledge.
use Rattle.std.specs.Prelude.{ℕ, List, Option, Some, None, slice_get, refl}
use Rattle.std.specs.Coded.{Coded, code_by, coded×, coded_ℕ, coded_list}
use Rattle.pb_accepted.specs.Words.{Cell, Row, JudgedOf, judged_code}

-- an observer: its name, the column that it observes, and its accepted program
pub record ObserverOf : Type 0 where
  pub name : List ℕ
  pub column : ℕ
  pub program : JudgedOf

-- an observer as a tree of numbers
abbrev pub observer_code : Coded ObserverOf
observer_code =
    code_by (List ℕ × (ℕ × JudgedOf)) (coded× (coded_list coded_ℕ) (coded× coded_ℕ judged_code))
    (λ o. (o.name, (o.column, o.program)))
    (λ p. record { name = p.0; column = p.1.0; program = p.1.1 })
    (λ _. refl)

-- the column, or 0 where there is no such observer; no step of a run is taken there
abbrev pub column_or_zero : Option ObserverOf → ℕ
column_or_zero None = 0
column_or_zero (Some o) = o.column

-- the column that an observer observes
abbrev pub observed_column : List ObserverOf → ℕ → ℕ
observed_column observers o = column_or_zero (slice_get observers o)

-- the cell that an observer observes in a row
abbrev pub observed_cell : List ObserverOf → ℕ → Row → Cell
observed_cell observers o row = Cell.Data row (observed_column observers o)

-- where an observer keeps up to which start it has handled the changes of its cell in a row
abbrev pub acknowledgment : List ObserverOf → ℕ → Row → Cell
acknowledgment observers o row = Cell.Ack o row (observed_column observers o)

-- the acknowledgment of an observer that may not be there
abbrev pub acknowledgment_at : Option ObserverOf → ℕ → Row → Option Cell
acknowledgment_at None o row = None
acknowledgment_at (Some observer) o row = Some (Cell.Ack o row observer.column)
