-- A change with the passes that follow it.
use Rattle.std.specs.Prelude.{◌≡◌, ℕ, ◌+◌, ◌-◌, ◌*◌, ◌/◌, min, Bool, false, nat_lt, List, ◌++◌}
use Rattle.std.specs.Io.Iter.{u64_saturate}
use Rattle.pb_keeper.specs.Words.{Writes, Ts, ObserverOf, Received, Outcome, MAX_PASSES}
use Rattle.pb_keeper.specs.declared.passes.TheConstants.{MAX_RUNS, MAX_RUN_ENTRIES}
use Rattle.pb_keeper.specs.Drains.{IsDrainWithin, within, cut_off}
use Rattle.pb_keeper.specs.Leads.{IsEndedChange}

-- whether a drain ended with a pass that found no mark, and not since no more passes or no more runs may be made
abbrev pub comes_to_rest : {observers : List ObserverOf} {bound : ℕ} {said : List Received} → IsDrainWithin observers bound said → Bool
comes_to_rest (within drain few) = nat_lt drain.at MAX_PASSES
comes_to_rest (cut_off due is) = false

-- a drain that came to rest, or one that did not
abbrev pub IsDrainThat : List ObserverOf → ℕ → Bool → List Received → Type 0
IsDrainThat observers bound rests said = (d : IsDrainWithin observers bound said) × (rests ≡ comes_to_rest d)

-- how many runs observers make at most that catch up with a table of so many entries, as far as 64 bits can say
abbrev pub catching_up_bound : ℕ → ℕ → ℕ
catching_up_bound entries observers = u64_saturate (MAX_RUNS + entries * observers)

-- how many runs may follow a change at most where the table has so many entries, so that these stay within the limit
abbrev pub runs_within : ℕ → ℕ → ℕ
runs_within limit entries = min MAX_RUNS ((limit - entries) / MAX_RUN_ENTRIES)

-- a whole change of this batch, committed so, and then a drain of so many runs at most
pub record IsMade (observers : List ObserverOf) (bound : ℕ) (batch : Writes) (commit : Ts) (said : List Received) : Type 0 where
  pub change : List Received
  pub changed : IsEndedChange batch (Outcome.Committed commit) change
  pub drain : List Received
  pub drained : IsDrainWithin observers bound drain
  pub said_is : said ≡ change ++ drain
