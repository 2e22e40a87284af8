-- What holds of each run and of each look for a mark, of nothing, and of two parts where it holds of each, holds of runs on a cell, of
-- passes and of drains, also where these were cut off in a run of which it holds so far.
use Rattle.std.proofs.Common.{◌≡◌, ◌<◌, ℕ, inl, inr, List, [], ◌∷◌, length, Option, Some, None, sym, subst}
use Rattle.pb_passes.specs.Words.{Cell, Step, Answer, ObserverOf, Received, told}
use Rattle.pb_conversations.proofs.Joining.{Adds, of_parts, of_end}
use Rattle.pb_passes.specs.declared.passes.TheConstants.{MAX_PASSES}
use Rattle.pb_passes.specs.Passes.{IsRun, IsNextTurn, AreAllRuns, IsMarkRun, IsPass, IsNextPass, EndsDrain, IsDrain}
use Rattle.pb_passes.specs.Begun.{IsRunBegun, AreRunsBegun, IsMarkBegun, IsPassBegun, IsDrainBegun}

pub record HoldsOfRuns (observers : List ObserverOf) (P : List Received → Type 0) : Type 0 where
  pub adds : Adds P
  pub mark : (after : Option Cell) (a : Answer) → P (told (Step.NextMark after) a ∷ [])
  pub run : (i : ℕ) (x : Cell) (said : List Received) → IsRun observers i x said → P said

module _ {P : List Received → Type 0} (observers : List ObserverOf) (each : HoldsOfRuns observers P) where
  alike : (a b : List Received) → a ≡ b → P b → P a
  alike a b e p = subst P (sym e) p

  pub of_turn : (x : Cell) (i j : ℕ) (said : List Received) → IsNextTurn observers x i j said → P said
  of_turn x i j said t = elim t.1 [ inl run ↦ each.run i x said run | inr other ↦ alike said [] other.1 each.adds.nothing ]

  pub of_runs : (x : Cell) (said : List Received) → AreAllRuns observers x said → P said
  of_runs x said r = of_parts each.adds (of_turn x) 0 (length observers) said r

  with_mark : (after : Option Cell) (a : Answer) (more : List Received) → P more → P (told (Step.NextMark after) a ∷ more)
  with_mark after a more p = each.adds.both (told (Step.NextMark after) a ∷ []) more (each.mark after a) p

  pub of_mark : (after now : Option Cell) (said : List Received) → IsMarkRun observers after now said → P said
  of_mark after now said m = alike said _ m.said_is (with_mark after (Answer.Marked m.x) m.more (of_runs m.x m.more m.runs))

  pub of_pass : (last : Option Cell) (said : List Received) → IsPass observers last said → P said
  of_pass last said p = of_end each.adds of_mark None said (λ after rest e. alike rest _ e.1 (each.mark after Answer.NoMark)) p

  pub of_next_pass : (i j : ℕ) (said : List Received) → IsNextPass observers i j said → P said
  of_next_pass i j said p = of_pass (Some p.1.0) said p.1.1

  of_last : (count : ℕ) (said : List Received) → EndsDrain observers count said → P said
  of_last count said e = elim e [ inl p ↦ of_pass None said p.1 | inr p ↦ alike said [] p.1 each.adds.nothing ]

  pub of_drain : (said : List Received) → IsDrain observers said → P said
  of_drain said d = of_end each.adds of_next_pass 0 said of_last d

  module _ (next : Option Step) (begun : (i : ℕ) (x : Cell) (said : List Received) → IsRunBegun observers i x next said → P said) where
    of_runs_begun : (x : Cell) (said : List Received) → AreRunsBegun observers x next said → P said
    of_runs_begun x said r = of_end each.adds (of_turn x) 0 said (λ i part b. begun i x part b) r

    of_mark_begun : (after : Option Cell) (said : List Received) → IsMarkBegun observers next after said → P said
    of_mark_begun after said m = elim m [
      | inl e ↦ alike said [] e.1 each.adds.nothing
      | inr r ↦ alike said _ r.2 (with_mark after (Answer.Marked r.0) r.1 (of_runs_begun r.0 r.1 r.3))
    ]

    of_pass_begun : (count : ℕ) (said : List Received) → (count < MAX_PASSES) × IsPassBegun observers next said → P said
    of_pass_begun count said p = of_end each.adds of_mark None said of_mark_begun p.1

    pub of_drain_begun : (said : List Received) → IsDrainBegun observers next said → P said
    of_drain_begun said d = of_end each.adds of_next_pass 0 said of_pass_begun d
