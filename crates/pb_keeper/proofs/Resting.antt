-- Changes with their drains leave no lock.
use Rattle.std.proofs.Common.{arith, ℕ, List, [], ◌∷◌, refl, sym, ap, subst, ◌∙◌}
use Rattle.std.specs.FinMap as finite
use Rattle.pb_passes.proofs.Drains.{HoldsOfRuns}
use Rattle.pb_keeper.specs.Words.{Writes, slot_cmp, slot_at, Sort, lock_at, primary_of, StateOf, opening, Step, ObserverOf, StepsKeepSound, OpeningIsSound, IsSoundTable, Received, told, HasMoreObservers, IsMarkedBehind, IsUnlocked, carried, chosen_state, unmarked, ChosenAreSound, LeftAreSound, Outcome}
use Rattle.pb_keeper.specs.Leads.{IsEndedChange}
use Rattle.pb_keeper.specs.Stats.{KeptTable}
use Rattle.pb_keeper.specs.Keeps.{CatchesUp, IsChosenOf, IsFirstTable, opened, anew, changed, Keeps, KeepsFrom, KeptIsUnlocked}
use Rattle.pb_keeper.proofs.BoundedDrains.{of_drain_within}
use Rattle.pb_keeper.proofs.EachPart.{of_all}
use Rattle.pb_keeper.proofs.LedTables.{led_by}
use Rattle.pb_keeper.proofs.Wholes.{Preserves, preserves_adds, stays_sound, plain_walk, run_rests, change_commits, free_after}

-- a conversation that leaves no lock where there was none
abbrev pub Rests : List Received → Type 0
Rests said = Preserves IsUnlocked said

module _ (keeps : StepsKeepSound) where
  pub parts_rest : (observers : List ObserverOf) → HoldsOfRuns observers Rests
  parts_rest observers = record {
    adds = preserves_adds keeps IsUnlocked;
    mark = λ after a m n sound free r. free_after m n free (plain_walk m n (told (Step.NextMark after) a ∷ []) free (refl, tt) r).0;
    run = λ i x said is m n sound free r. (run_rests keeps _ said is.end is.whole.run m n is.whole.talk sound free r).1;
  }

  pub change_rests : (batch : Writes) (o : Outcome) (said : List Received) → IsEndedChange batch o said → Rests said
  change_rests batch o said is m n sound free r = (change_commits keeps batch o m n sound free (record { said = said; form = is; leads = r })).1

-- ---- generations

opening_free : (observers : List ObserverOf) → IsUnlocked (opening observers 1 0)
opening_free observers x u = ap primary_of (finite.get-empty slot_cmp (slot_at x Sort.Lock u))

-- nor do marks change what is sound
marks_sound : (old new : StateOf) → IsMarkedBehind (unmarked old) new → IsSoundTable old → IsSoundTable new
marks_sound old new marked sound = subst IsSoundTable (sym marked.is) sound

-- more observers change nothing of it either, and leave no lock
more_sound : (more : List ObserverOf) (old new : StateOf) → HasMoreObservers more old new → IsSoundTable old → IsSoundTable new
more_sound more old new has sound = subst IsSoundTable (sym has.is) sound

more_free : (more : List ObserverOf) (old new : StateOf) → HasMoreObservers more old new → IsUnlocked old → IsUnlocked new
more_free more old new has free x u = ap (λ (z : StateOf). lock_at z.entries x u) has.is ∙ free x u

module _ (keeps : StepsKeepSound) (opens : OpeningIsSound) (left : LeftAreSound) (chosen : ChosenAreSound) where
  -- as a sound table goes on with the observers that stay, it is sound
  chosen_sound : (places : List ℕ) (front : List ObserverOf) (old new : KeptTable) → IsChosenOf places front old new → IsSoundTable old.state → IsSoundTable new.state
  chosen_sound places front old new is sound = marks_sound (chosen_state old.state front new.state.entries new.state.transactions) new.state is.marked (chosen places front old.state new.state.entries new.state.transactions sound is.are is.snapshot is.left).0

  -- as a generation begins, a table is sound
  pub first_sound : (past : List Writes) (first : KeptTable) → IsFirstTable past first → IsSoundTable first.state
  first_sound past first (opened observers) = opens observers 1 0 (grind arith)
  first_sound past first (anew limit before changes start old new began k room is stats) =
      let leads = led_by limit start changes old k in
      marks_sound (carried old.state first.state.entries first.state.transactions) first.state is.marked (left old.state first.state.entries first.state.transactions (stays_sound keeps start.state old.state leads.said (first_sound before start began) leads.leads) is.snapshot is.left).0
  first_sound past first (changed limit before changes start old between new places front more began k room is up) =
      let leads = led_by limit start changes old k in
      stays_sound keeps up.marked.state first.state up.drained.said
      (more_sound more between.state up.marked.state up.observed
      (chosen_sound places front old between is (stays_sound keeps start.state old.state leads.said (first_sound before start began) leads.leads))) up.drained.leads

  pub from_sound : (limit : ℕ) (past changes : List Writes) (first table : KeptTable) → IsFirstTable past first → KeepsFrom limit first changes table → IsSoundTable table.state
  from_sound limit past changes first table began k = let leads = led_by limit first changes table k in stays_sound keeps first.state table.state leads.said (first_sound past first began) leads.leads

  -- and so it is where it got other observers
  pub marked_sound : (limit : ℕ) (past changes : List Writes) (first old between new : KeptTable) (places : List ℕ) (front more : List ObserverOf) → IsFirstTable past first → KeepsFrom limit first changes old → IsChosenOf places front old between
      → (up : CatchesUp more between new) → IsSoundTable up.marked.state
  marked_sound limit past changes first old between new places front more began k is up = more_sound more between.state up.marked.state up.observed (chosen_sound places front old between is (from_sound limit past changes first old began k))

  -- and no lock stands in it
  pub marked_free : (old between new : KeptTable) (places : List ℕ) (front more : List ObserverOf) → IsChosenOf places front old between → (up : CatchesUp more between new) → IsUnlocked up.marked.state
  marked_free old between new places front more is up = more_free more between.state up.marked.state up.observed is.snapshot.unlocked

  pub from_free : (limit : ℕ) (past changes : List Writes) (first table : KeptTable) → IsFirstTable past first → IsUnlocked first.state → KeepsFrom limit first changes table → IsUnlocked table.state
  from_free limit past changes first table began free k =
      let leads = led_by limit first changes table k in
      of_all first.state.observers (parts_rest keeps first.state.observers) (change_rests keeps) changes leads.said leads.form.form first.state table.state (first_sound past first began) free leads.leads

  -- nor does one as it begins
  pub first_free : (past : List Writes) (first : KeptTable) → IsFirstTable past first → IsUnlocked first.state
  first_free past first (opened observers) = opening_free observers
  first_free past first (anew limit before changes start old new began leads room is stats) = is.snapshot.unlocked
  first_free past first (changed limit before changes start old between new places front more began k room is up) =
      of_drain_within up.marked.state.observers (parts_rest keeps up.marked.state.observers) up.bound up.drained.said up.drained.form.form up.marked.state first.state
      (marked_sound limit before changes start old between new places front more began k is up) (marked_free old between new places front more is up) up.drained.leads

  -- a table that keeps changes is sound
  pub kept_sound : (limit : ℕ) (first : KeptTable) (changes : List Writes) (table : KeptTable) → Keeps limit first changes table → IsSoundTable table.state
  kept_sound limit first changes table k = from_sound limit k.past changes first table k.began k.leads

  pub kept_is_unlocked : KeptIsUnlocked
  kept_is_unlocked limit first changes table k = from_free limit k.past changes first table k.began (first_free k.past first k.began) k.leads
