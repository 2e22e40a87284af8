-- Each step leaves observers and seats, and marks one cell more at most.
use Rattle.std.proofs.Common.{◌≡◌, ℕ, ◌+◌, ◌-◌, ◌≤◌, Bool, true, false, cond, List, arith}
use Rattle.std.specs.FinMap as map
use Rattle.pb_core.specs.Words.{Cell, cell_cmp_total, Marks, Step, Answer, ObserverOf, StateOf, is_observed, with_mark, if_locked, StepCase}

-- what stays whatever the step is, and how far the marks may grow
pub record KeepsRest (s t : StateOf) : Type 0 where
  pub observers : t.observers ≡ s.observers
  pub seats : t.seats ≡ s.seats
  pub marks : map.len t.marks ≤ map.len s.marks + 1

kept_as : (s t u : StateOf) → t ≡ u → KeepsRest s u → KeepsRest s t
kept_as s t u is k = grind arith

same_rest : (s : StateOf) → map.len s.marks ≤ map.len s.marks + 1
same_rest s = omega arith

put_mark : (b : Bool) (n k : ℕ) → k ≡ cond b n (n + 1) → k ≤ n + 1
put_mark b n k is = grind arith

-- a write record marks one cell at most
marked : (observers : List ObserverOf) (m : Marks) (x : Cell) → map.len (with_mark observers m x) ≤ map.len m + 1
marked observers m x = by (is_observed observers x)
  where
    by : (b : Bool) → map.len (cond b (map.insert m x tt) m) ≤ map.len m + 1
    by true = put_mark _ _ _ (map.len-insert cell_cmp_total m x tt)
    by false = omega arith

less : (b : Bool) (n k : ℕ) → k ≡ cond b (n - 1) n → k ≤ n + 1
less b n k is = grind arith

unmarked : (m : Marks) (x : Cell) → map.len (map.remove m x) ≤ map.len m + 1
unmarked m x = less _ _ _ (map.len-remove cell_cmp_total m x)

kept_if_locked : (s : StateOf) (b : Bool) (x : Cell) (n c : ℕ) → KeepsRest s (if_locked s b x n c)
kept_if_locked s b x n c = grind (arith, marked, same_rest)

-- each kind of step keeps it
pub case_kept : (s : StateOf) (seat : ℕ) (step : Step) (a : Answer) (t : StateOf) → StepCase s seat step a t → KeepsRest s t
case_kept s seat step a t c = grind (arith, kept_as, same_rest, marked, kept_if_locked, unmarked)
