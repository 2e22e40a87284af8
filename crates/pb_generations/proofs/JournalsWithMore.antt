-- A journal without its steps of marks is one of the table with more observers too.
use Rattle.std.proofs.Common.{◌≡◌, ℕ, arith, Bool, true, false, not, cond, List, [], ◌∷◌, refl, sym, ap, subst, ◌∙◌}
use Rattle.std.specs.FinMap as map
use Rattle.pb_generations.specs.Words.{ObserverOf, Marks, StateOf, opening, StepCase, TableStep, Answer, Step, IsLegal, JournalLeads, Entry}
use Rattle.pb_history.proofs.TransactionAfter.{case_observers}
use Rattle.pb_generations.specs.SameButMarks.{is_of_marks, without_marks}
use Rattle.pb_generations.proofs.LongerLists.{Stay}
use Rattle.pb_generations.proofs.StepsWithMore.{GoesWithMore, with_more, allowed_more, goes_with_more}

-- a step of marks changes nothing else
pub marks_alone : (old : StateOf) (seat : ℕ) (step : Step) (answer : Answer) (new : StateOf) → is_of_marks step ≡ true → StepCase old seat step answer new → new ≡ record old { marks = new.marks }
marks_alone old seat step answer new of is = grind (arith, of, is)

-- where the rest of the journal leads the table with more observers
pub record LeadsWithMore (old : StateOf) (many : List ObserverOf) (marks : Marks) (journal : List Entry) (new : StateOf) : Type 0 where
  pub left : Marks
  pub run : JournalLeads (with_more old many marks) (without_marks journal) (with_more new many left)

module _ (few many : List ObserverOf) (stay : Stay few many) where
  stay_at : (s : StateOf) → s.observers ≡ few → Stay s.observers many
  stay_at s is = subst (λ (os : List ObserverOf). Stay os many) (sym is) stay

  module _ (old : StateOf) (e : Entry) (es : List Entry) (next new : StateOf) (marks : Marks) (os : old.observers ≡ few) (step : TableStep old e.seat e.step e.answer next) where
    after_marks : is_of_marks e.step ≡ true → LeadsWithMore next many marks es new → LeadsWithMore old many marks (e ∷ es) new
    after_marks of rest =
        let is = marks_alone old e.seat e.step e.answer next of step.taken in
        let same : with_more next many marks ≡ with_more old many marks = ap (λ (z : StateOf). with_more z many marks) is in
        record {
          left = rest.left;
          run = subst (λ (b : Bool). JournalLeads (with_more old many marks) (cond (not b) (e ∷ without_marks es) (without_marks es)) (with_more new many rest.left)) (sym of)
              (subst (λ (z : StateOf). JournalLeads z (without_marks es) (with_more new many rest.left)) same rest.run);
        }

    after_other : is_of_marks e.step ≡ false → (one : GoesWithMore old many marks e.seat e.step e.answer next) → LeadsWithMore next many one.left es new → LeadsWithMore old many marks (e ∷ es) new
    after_other of one rest = record {
      left = rest.left;
      run = subst (λ (b : Bool). JournalLeads (with_more old many marks) (cond (not b) (e ∷ without_marks es) (without_marks es)) (with_more new many rest.left)) (sym of)
          (with_more next many one.left, record { allowed = allowed_more old many (stay_at old os) marks e.seat e.step step.allowed; taken = one.taken }, rest.run);
    }

  leads_with_more : (old : StateOf) (journal : List Entry) (new : StateOf) (marks : Marks) → old.observers ≡ few → JournalLeads old journal new → LeadsWithMore old many marks journal new
  leads_with_more old [] new marks os leads = record { left = marks; run = ap (λ (z : StateOf). with_more z many marks) leads }
  leads_with_more old (e ∷ es) new marks os leads =
      let on : leads.0.observers ≡ few = case_observers old e.seat leads.0 0 e.step e.answer leads.1.taken ∙ os in
      elim (is_of_marks e.step) as (λ b. is_of_marks e.step ≡ b → LeadsWithMore old many marks (e ∷ es) new) [
        | true ↦ λ of. after_marks old e es leads.0 new marks os leads.1 of (leads_with_more leads.0 es new marks on leads.2)
        | false ↦ λ of.
            let one = goes_with_more old many (stay_at old os) marks leads.0 e.seat e.step e.answer of leads.1.taken in
            after_other old e es leads.0 new marks os leads.1 of one (leads_with_more leads.0 es new one.left on leads.2)
      ] refl

  -- from the opening on
  pub record LegalWithMore (seats clock : ℕ) (journal : List Entry) (state : StateOf) : Type 0 where
    pub left : Marks
    pub legal : IsLegal many seats clock (without_marks journal) (with_more state many left)

  pub legal_with_more : (seats clock : ℕ) (journal : List Entry) (state : StateOf) → IsLegal few seats clock journal state → LegalWithMore seats clock journal state
  legal_with_more seats clock journal state legal =
      let all = leads_with_more (opening few seats clock) journal state map.empty refl legal.run in
      record { left = all.left; legal = record { fits = legal.fits; run = all.run } }
