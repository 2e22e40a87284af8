-- What holds of each run and of each look for a mark, of nothing, and of two parts where it holds of each, holds of a drain that makes so
-- many runs at most.
use Rattle.std.proofs.Common.{◌<◌, ℕ, List, [], ◌∷◌, Option, None, sym, subst}
use Rattle.pb_conversations.proofs.Joining.{of_end}
use Rattle.pb_passes.proofs.Drains.{HoldsOfRuns, of_turn, of_mark, of_next_pass, of_drain}
use Rattle.pb_keeper.specs.Words.{Cell, Step, Answer, ObserverOf, Received, told, MAX_PASSES}
use Rattle.pb_keeper.specs.Drains.{AreRunsDue, IsMarkDue, IsPassDue, IsDrainDue, IsDrainWithin, within, cut_off}

module _ {P : List Received → Type 0} (observers : List ObserverOf) (each : HoldsOfRuns observers P) where
  of_runs_due : (x : Cell) (said : List Received) → AreRunsDue observers x said → P said
  of_runs_due x said r = of_end each.adds (of_turn observers each x) 0 said (λ i part due. subst P (sym due.1) each.adds.nothing) r

  of_mark_due : (after : Option Cell) (said : List Received) → IsMarkDue observers after said → P said
  of_mark_due after said m = subst P (sym m.said_is) (each.adds.both (told (Step.NextMark after) (Answer.Marked m.x) ∷ []) m.more (each.mark after (Answer.Marked m.x)) (of_runs_due m.x m.more m.runs))

  of_pass_due : (count : ℕ) (said : List Received) → (count < MAX_PASSES) × IsPassDue observers said → P said
  of_pass_due count said p = of_end each.adds (of_mark observers each) None said of_mark_due p.1

  of_drain_due : (said : List Received) → IsDrainDue observers said → P said
  of_drain_due said d = of_end each.adds (of_next_pass observers each) 0 said of_pass_due d

  pub of_drain_within : (bound : ℕ) (said : List Received) → IsDrainWithin observers bound said → P said
  of_drain_within bound said (within drain few) = of_drain observers each said drain
  of_drain_within bound said (cut_off due is) = of_drain_due said due
