-- A transaction declares what it writes, its first cell the primary (OSDI 2010, section 2.2).
use Rattle.std.specs.Prelude.{◌≡◌, ℕ, true, not, List, [], ◌∷◌}
use Rattle.pb_steps.specs.Words.{Reason, ObserverOf}
use Rattle.pb_steps.specs.declared.step.Declared.{Declared}
use Rattle.pb_steps.specs.declared.phase.Phase.{Phase}
use Rattle.pb_steps.specs.Phases.{is_reading}
use Rattle.pb_steps.specs.State.{StateOf, TransactionOf, with_transaction, cells_of}
use Rattle.pb_steps.specs.Declarations.{IsKnown, MayDeclare, is_its}
use Rattle.pb_steps.specs.Reasons.{Reasons, IsOwn}

-- it has declared before, or can't declare this by its work, its start and its reads
abbrev pub declare_reasons : List ObserverOf → ℕ → Declared → TransactionOf → Reasons
declare_reasons observers start what t = (Reason.WrongPhase, not (is_reading t.phase)) ∷ (Reason.NotItsDeclaration, not (is_its observers t.work start t.reads what)) ∷ []

-- what is declared is what the transaction may declare, and has its meaning
pub record Declares (old : StateOf) (seat s : ℕ) (what : Declared) (new : StateOf) : Type 0 where
  pub t : TransactionOf
  pub own : IsOwn old seat s t
  pub reading : is_reading t.phase ≡ true
  pub known : IsKnown what
  pub its : MayDeclare old.observers t.work s t.reads what
  pub new_is : new ≡ with_transaction old s (record t { phase = Phase.Declared; declared = cells_of old.observers t.work s what })
