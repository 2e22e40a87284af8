-- What holds of each run, of each look for a mark and of each ended change, and of one part after another, holds of changes with their
-- drains.
use Rattle.std.proofs.Common.{◌≡◌, ℕ, ◌≤◌, List, [], ◌∷◌, ◌++◌, sym, subst}
use Rattle.pb_conversations.proofs.Joining.{of_parts}
use Rattle.pb_passes.proofs.Drains.{HoldsOfRuns}
use Rattle.pb_keeper.specs.Words.{ObserverOf, Received, Writes, Ts, Outcome, IsOfParts}
use Rattle.pb_keeper.proofs.BoundedDrains.{of_drain_within}
use Rattle.pb_keeper.specs.Leads.{IsEndedChange}
use Rattle.pb_keeper.specs.Made.{IsMade}
use Rattle.pb_keeper.specs.declared.passes.TheConstants.{MAX_RUNS}

-- the next change was made, with the drain that follows it
pub record IsNextMade (observers : List ObserverOf) (changes now : List Writes) (said : List Received) : Type 0 where
  pub batch : Writes
  pub commit : Ts
  pub bound : ℕ
  pub few : bound ≤ MAX_RUNS
  pub now_is : now ≡ changes ++ batch ∷ []
  pub made : IsMade observers bound batch commit said

-- these changes, each once and in order, each with the drain that follows it
abbrev pub AreMade : List ObserverOf → List Writes → List Received → Type 0
AreMade observers changes said = IsOfParts (IsNextMade observers) [] changes said

module _ {P : List Received → Type 0} (observers : List ObserverOf) (each : HoldsOfRuns observers P) (change : (batch : Writes) (o : Outcome) (said : List Received) → IsEndedChange batch o said → P said) where
  of_made : (changes now : List Writes) (said : List Received) → IsNextMade observers changes now said → P said
  of_made changes now said next =
      let is = next.made in
      subst P (sym is.said_is) (each.adds.both is.change is.drain (change next.batch (Outcome.Committed next.commit) is.change is.changed) (of_drain_within observers each next.bound is.drain is.drained))

  pub of_all : (changes : List Writes) (said : List Received) → AreMade observers changes said → P said
  of_all changes said made = of_parts each.adds of_made [] changes said made
