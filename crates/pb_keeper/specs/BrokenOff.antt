-- Conversations that were broken off, where memory or a timestamp was refused: how much there is of them at most.
use Rattle.std.specs.Prelude.{◌≡◌, ℕ, ◌+◌, ◌*◌, ◌≤◌, Bool, true, false, List, count_by}
use Rattle.pb_keeper.specs.Words.{Step, Work, Received}

-- a step that asks for a timestamp
abbrev pub asks_timestamp : Step → Bool
asks_timestamp (Step.Begin work) = true
asks_timestamp (Step.Stamp start) = true
asks_timestamp _ = false

-- how many timestamps were asked for
abbrev pub timestamp_count : List Received → ℕ
timestamp_count said = count_by (λ r. asks_timestamp r.step) said

-- a step that begins a change
abbrev pub starts_change : Step → Bool
starts_change (Step.Begin Work.Script) = true
starts_change _ = false

-- how many changes were begun
abbrev pub change_count : List Received → ℕ
change_count said = count_by (λ r. starts_change r.step) said

-- no more than so many runs, each with two timestamps
pub record IsOfRuns (n : ℕ) (said : List Received) : Type 0 where
  pub timestamps : timestamp_count said ≤ 2 * n
  pub no_change : change_count said ≡ 0

-- no more than one change, and so many runs after it, each with two timestamps
pub record IsOfChange (n : ℕ) (said : List Received) : Type 0 where
  pub timestamps : timestamp_count said ≤ 2 + 2 * n
  pub one_change : change_count said ≤ 1
