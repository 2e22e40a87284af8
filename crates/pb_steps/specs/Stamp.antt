-- Once every declared cell is prewritten, the transaction takes a fresh timestamp as its commit (OSDI 2010, section 2.3).
use Rattle.std.specs.Prelude.{◌≡◌, ℕ, ◌+◌, Bool, true, false, not, ◌||◌, [], ◌∷◌}
use Rattle.std.specs.List.{list_all}
use Rattle.std.specs.FinMap as map
use Rattle.pb_steps.specs.Words.{Reason}
use Rattle.pb_steps.specs.declared.phase.Phase.{Phase}
use Rattle.pb_steps.specs.Phases.{is_declared}
use Rattle.pb_steps.specs.State.{StateOf, TransactionOf, is_in}
use Rattle.pb_steps.specs.Reasons.{Reasons, is_out, IsOwn, own_reasons}

-- every declared cell is prewritten
abbrev pub is_whole : TransactionOf → Bool
is_whole t = list_all (λ w. is_in t.prewritten w.0) t.declared

-- a commit comes after all locks, so that a snapshot from it on meets lock or write record of each cell
abbrev pub unstamped_reasons : TransactionOf → Reasons
unstamped_reasons t = (Reason.WrongPhase, not (is_declared t.phase) || not (is_whole t)) ∷ []

-- want of a timestamp is reported before whose transaction it is, since its number is lower
abbrev pub stamp_reasons : StateOf → ℕ → ℕ → Reasons
stamp_reasons s seat start = (Reason.OutOfTimestamps, is_out s) ∷ own_reasons s seat start unstamped_reasons

-- the clock goes on by one, which is the transaction's commit; nothing is written yet
pub record Stamps (old : StateOf) (seat s c : ℕ) (new : StateOf) : Type 0 where
  pub t : TransactionOf
  pub own : IsOwn old seat s t
  pub left : is_out old ≡ false
  pub phase : is_declared t.phase ≡ true
  pub whole : is_whole t ≡ true
  pub fresh : c ≡ old.clock + 1
  pub new_is : new ≡ record old { clock = c; transactions = map.insert old.transactions s (record t { phase = Phase.Stamped (record { 0 = c }) }) }
