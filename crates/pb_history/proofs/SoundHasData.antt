-- In a sound state the data of what stands are there.
use Rattle.std.proofs.Common.{◌≡◌, ℕ, true, Some, ap, ◌∙◌, is_some, option_map}
use Rattle.pb_history.specs.Words.{Cell, StateOf, TransactionOf, data_at, lock_at, write_at}
use Rattle.pb_history.specs.Sound.{IsSoundTable, KeepsData}

module _ (state : StateOf) (i : IsSoundTable state) where
  locked_data : (x : Cell) (s : ℕ) (p : Cell) → lock_at state.entries x s ≡ Some p → is_some (data_at state.entries x s) ≡ true
  locked_data x s p e = ap is_some (i.lock_data x s p e ∙ (i.was_declared s x (i.lock_prewritten x s p e).0).1)

  written_data : (x : Cell) (c s : ℕ) → write_at state.entries x c ≡ Some s → is_some (data_at state.entries x s) ≡ true
  written_data x c s e = ap is_some (i.record_data x c s e ∙ (i.was_declared s x (i.record_prewritten x c s e)).1)

  pub keeps_data : KeepsData state
  keeps_data = record {
    whole = record { locked = locked_data; written = written_data };
    begun = λ s t e. i.begun s t.phase (ap (option_map (λ (u : TransactionOf). u.phase)) e);
    fits = i.small;
  }
