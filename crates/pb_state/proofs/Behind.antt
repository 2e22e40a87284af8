-- Where an observer isn't up to date on a cell, and where all are.
use Rattle.std.proofs.Common.{ℕ, ◌<◌, ◌≤◌, ◌⊎◌, Bool, List, length, arith, MatchBool}
use Rattle.std.proofs.lemmas.Option.{slice_get_within}
use Rattle.pb_state.specs.Words.{Cell, Row, Revision, Entries, ObserverOf, last_timestamp, IsVersion, SomeBehind, AllUpToDate}
use Rattle.pb_state.specs.Behind.{SomeLate, AreOnTime}

module _ (observers : List ObserverOf) (e : Entries) (row : Row) (column : ℕ) where
  pub some_behind : (v : Revision) → IsVersion e (Cell.Data row column) last_timestamp v → SomeLate e row column v.commit.0 observers → SomeBehind observers e (Cell.Data row column)
  some_behind v n late = grind arith

  above : (b c : ℕ) → (c < b) ⊎ (b ≤ c)
  above b c = grind arith

  pub all_up_to_date : (v : Revision) → IsVersion e (Cell.Data row column) last_timestamp v → AreOnTime e row column v.commit.0 observers (length observers) → AllUpToDate observers e (Cell.Data row column)
  all_up_to_date v n times p observer there observes c low written = grind (arith, slice_get_within, above, n.newest)

-- what a test decides either way, carried over to what follows from it
pub either_way : {A B C D : Type 0} (b : Bool) → (A → C) → (B → D) → MatchBool b A B → MatchBool b C D
either_way b f g h = grind arith
