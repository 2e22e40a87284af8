-- What doesn't stand in a sound table: write records above its clock, and where it is quiet, locks.
use Rattle.std.proofs.Common.{◌≡◌, ◌≢◌, ◌^◌, ℕ, ◌<◌, ◌≤◌, inl, inr, arith, refl, sym, ◌∙◌, Option, Some, None}
use Rattle.std.proofs.lemmas.Bool.{cases_lt}
use Rattle.std.proofs.lemmas.Option.{none-some}
use Rattle.pb_generations.specs.Words.{Cell, NoLock, lock_at, write_at, StateOf, phase_in, Phase, IsQuiet, IsSoundTable}
use Rattle.pb_history.proofs.Updates.{none_if}

begun_by : (clock s : ℕ) (o : Option Phase) → ((h : Phase) → o ≡ Some h → s ≤ clock) → o ≢ None → s ≤ clock
begun_by clock s None begun some = absurd (some refl)
begun_by clock s (Some h) begun some = begun h refl

module _ (state : StateOf) (sound : IsSoundTable state) (x : Cell) where
  pub no_record_above : (d : ℕ) → state.clock < d → write_at state.entries x d ≡ None
  no_record_above d above = none_if (write_at state.entries x d) (λ s there. omega (arith, above, (sound.stamped s d (inr (sound.record_committed x d s there))).1))

  pub no_lock_ever : NoLock state.entries x → (s : ℕ) → lock_at state.entries x s ≡ None
  no_lock_ever unlocked s = none_if (lock_at state.entries x s) (λ p there. elim (cases_lt s (2 ^ 64)) [
    | inl fits ↦ none-some p (sym (unlocked s fits) ∙ there)
    | inr past ↦ omega (arith, past, sound.small, begun_by state.clock s (phase_in state s) (sound.begun s) (sound.past_reading s x (sound.lock_prewritten x s p there).0).1)
  ])

  pub no_lock_at : IsQuiet state → (s : ℕ) → lock_at state.entries x s ≡ None
  no_lock_at quiet = no_lock_ever (quiet.unlocked x)
