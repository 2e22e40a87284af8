-- What is kept of the observers of a new list: of those that stay what was counted before, and of the others nothing.
use Rattle.std.proofs.Common.{◌≡◌, ℕ, zero, suc, ◌<◌, List, [], ◌∷◌, ◌++◌, length, replicate, slice_index_or, Option, Some, None, slice_get, refl}
use Rattle.pb_keeper.specs.Keeps.{total_in}
use Rattle.pb_keeper.specs.Stats.{no_runs, saturated, AreKeptStats, chosen_stats, total_at}
use Rattle.pb_keeper.specs.declared.stats.ObserverStats.{ObserverStats}

-- where no run was made, nothing is counted
pub none_counted : (n o : ℕ) → slice_index_or (replicate n no_runs) o no_runs ≡ saturated no_runs
none_counted zero o = refl
none_counted (suc n) zero = refl
none_counted (suc n) (suc o) = none_counted n o

module _ (total : ℕ → ObserverStats) (stats : List ObserverStats) (are : AreKeptStats total stats) (n : ℕ) where
  -- of those that stay, and so many others
  pub kept_with_none : (places : List ℕ) → ((m p : ℕ) → slice_get places m ≡ Some p → p < length stats) → (o : ℕ) → slice_index_or (chosen_stats places stats ++ replicate n no_runs) o no_runs ≡ saturated (total_in places total o)
  kept_with_none [] within o = none_counted n o
  kept_with_none (p ∷ places) within zero = are p (within zero p refl)
  kept_with_none (p ∷ places) within (suc o) = kept_with_none places (λ m q e. within (suc m) q e) o

-- where no run met a conflict none is counted under the new numbers
pub none_of_any : (total : ℕ → ObserverStats) → ((o : ℕ) → (total o).conflicts ≡ 0) → (o : Option ℕ) → (total_at total o).conflicts ≡ 0
none_of_any total clean None = refl
none_of_any total clean (Some p) = clean p
