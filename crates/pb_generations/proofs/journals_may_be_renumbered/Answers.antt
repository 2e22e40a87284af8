use Rattle.std.proofs.Common.{ℕ, sym, ap, ◌∙◌, option_map}
use Rattle.pb_history.proofs.Updates.{none_if}
use Rattle.pb_base.proofs.Logic.{none_some}
use Rattle.pb_generations.specs.Words.{Cell, NoLock, lock_at, StateOf, IsQuiet}
use Rattle.pb_generations.specs.Renumbered.{IsRenumbered, renumbered_cell}
use Rattle.pb_generations.proofs.RenumberedJournals.{legal_renumbered}
use Rattle.pb_generations.proofs.journals_may_be_renumbered.Goals as goal

-- no lock stands on a renumbered cell, and none on another
unlocked_renumbered : (number : ℕ → ℕ) (old new : StateOf) → IsRenumbered number old new → IsQuiet old → (y : Cell) → NoLock new.entries y
unlocked_renumbered number old new is quiet y u fits = none_if (lock_at new.entries y u) (λ p e.
    let x = is.entries.no_more_locks y u p e in
    none_some p (sym (ap (λ (z : Cell). lock_at new.entries z u) x.1 ∙ is.entries.locks x.0 u ∙ ap (option_map (renumbered_cell number)) (quiet.unlocked x.0 u fits)) ∙ e))

pub returns-clause-journals : goal.returns-clause-journals
returns-clause-journals c number observers others seats clock journal old one by legal = legal_renumbered number one observers others by seats clock journal old legal

pub returns-clause-quiet : goal.returns-clause-quiet
returns-clause-quiet c number old new is quiet = record { unmarked = quiet.unmarked; unlocked = unlocked_renumbered number old new is quiet }
