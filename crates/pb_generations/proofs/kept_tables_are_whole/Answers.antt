use Rattle.std.proofs.Common.{◌≡◌, ℕ, ◌<◌, List, ◌++◌, length, refl, sym, ap, subst, ◌∙◌}
use Rattle.pb_generations.specs.Words.{ObserverOf, last_timestamp, StateOf, TableStep, Entry, IsMarkedBehind}
use Rattle.pb_generations.specs.Chosen.{IsChosenSnapshot, chosen_state, new_number}
use Rattle.pb_generations.specs.KeptTables.{IsKeptTable, opened, stepped, anew, chosen, AreCovered, StandsForAll}
use Rattle.pb_generations.specs.Mirrored.{IsMirroredBy, IsUnlocked, IsPartOf, carried, unmarked}
use Rattle.pb_generations.specs.Renumbered.{renumbered_journal}
use Rattle.pb_generations.specs.Snapshots.{AreEnded, IsSnapshotOf}
use Rattle.pb_generations.proofs.StandingTables.{Stands, Laws, at_first, next_stands, begun_anew, with_others, answers_known}
use Rattle.pb_generations.proofs.kept_tables_are_whole.Goals as goal

module _ (laws : Laws) where
  stands : (observers gone : List ObserverOf) (seats clock c : ℕ) (journal : List Entry) (now : StateOf) → IsKeptTable observers gone seats clock c journal now → Stands observers gone seats clock c journal now
  stands observers gone seats clock c journal now (opened _ _ _ room) = at_first laws observers seats clock room
  stands observers gone seats clock c journal now (stepped _ _ _ _ g before old e new kept job names step) =
      let h = stands observers gone seats clock c before old kept in
      next_stands laws observers gone seats clock c before old h e now job names (subst (λ (s : StateOf). TableStep s e.seat e.step e.answer now) h.now_is step)
  stands observers gone seats clock c journal now (anew _ _ _ _ g before old f ts new kept unlocked room snapshot ended behind) =
      let h = stands observers gone seats clock g journal old kept in
      subst (λ (s : StateOf). IsUnlocked s → s.clock < last_timestamp → IsSnapshotOf s f → AreEnded s ts → IsMarkedBehind (unmarked (carried s f ts)) now → Stands observers gone seats clock s.clock journal now) (sym h.now_is)
      (λ u r s d b. begun_anew laws observers gone seats clock g journal old h u r f ts now s d b) unlocked room snapshot ended behind
  stands observers gone seats clock c journal now (chosen few left _ _ g before old places front added f ts between new kept unlocked room are snapshot ended behind more) =
      let h = stands few left seats clock g before old kept in
      subst (λ (s : StateOf). IsUnlocked s → s.clock < last_timestamp → IsChosenSnapshot places s f → AreEnded s ts → IsMarkedBehind (unmarked (chosen_state s front f ts)) between
      → Stands (front ++ added) (few ++ left) seats clock s.clock (renumbered_journal (new_number places (length (front ++ added))) before) now) (sym h.now_is)
      (λ u r s d b. with_others laws few left seats clock g before old h u r places front added f ts between now are s d b more) unlocked room snapshot ended behind

whole_of : (observers gone : List ObserverOf) (seats clock c : ℕ) (journal : List Entry) (now : StateOf) → Stands observers gone seats clock c journal now → StandsForAll observers gone seats clock c journal now
whole_of observers gone seats clock c journal now h = record {
  whole = h.whole;
  legal = h.legal;
  lean = h.lean;
  lacks = h.lacks;
  mirrors = subst (λ (s : StateOf). IsMirroredBy c h.lean s.entries s.transactions) (sym h.now_is) h.mirrors;
  within = subst (λ (s : StateOf). IsPartOf h.lean.entries s.entries) (sym h.now_is) h.within;
  now_is = subst (λ (s : StateOf). s ≡ carried h.lean s.entries s.transactions) (sym h.now_is) refl;
  observers_are = ap (λ (s : StateOf). s.observers) h.now_is ∙ h.observers_are;
  covered = subst (λ (s : StateOf). AreCovered observers s.marks h.whole.entries) (sym h.now_is) h.covered;
}

laws_of : goal.After-steps_carry_over → Laws
laws_of c = record {
  itself = c.old_may_be_dropped.ensures.itself;
  steps = c.steps_carry_over.ensures;
  over = c.snapshots_carry_over.ensures;
  begin = c.others_may_be_left_out.ensures.begin;
  missed = c.others_may_be_left_out.ensures.steps;
  named = c.others_may_be_left_out.ensures.answers;
  marks = c.others_may_be_left_out.ensures.marks;
  serve = c.snapshots_serve_without_others.ensures.serve;
  renumber = c.journals_may_be_renumbered.ensures.journals;
  has = c.sound_has_data.ensures;
}

pub returns-clause-whole : goal.returns-clause-whole
returns-clause-whole c observers gone seats clock g journal now kept = whole_of observers gone seats clock g journal now (stands (laws_of c) observers gone seats clock g journal now kept)

pub returns-clause-answers : goal.returns-clause-answers
returns-clause-answers c observers gone seats clock g journal now kept seat step answer new job names taken =
    let h = stands (laws_of c) observers gone seats clock g journal now kept in
    answers_known (laws_of c) observers gone seats clock g journal now h seat step answer new job names (subst (λ (s : StateOf). TableStep s seat step answer new) h.now_is taken)
