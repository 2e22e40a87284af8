-- A seat's conversation goes on, and no step changes the observers.
use Rattle.std.proofs.Common.{◌≡◌, List, [], ◌∷◌, ◌++◌, refl, sym, subst}
use Rattle.pb_keeper.specs.Words.{Step, Answer, StateOf, TableStep, Entry, Received, JournalLeads, told, entries_by}
use Rattle.pb_generations.proofs.JoinedJournals.{joined_leads, journal_observers}
use Rattle.pb_generations.proofs.SeatEntries.{by_append}
use Rattle.pb_keeper.specs.Leads.{SaidLeads}

-- no step changes the observers
pub leads_observers : {P : List Received → Type 0} (a b : StateOf) → SaidLeads P a b → b.observers ≡ a.observers
leads_observers a b g = journal_observers a (entries_by 0 g.said) b g.leads

-- no step was made
pub leads_none : {P : List Received → Type 0} (a : StateOf) → P [] → SaidLeads P a a
leads_none a is = record { said = []; form = is; leads = refl }

-- one part, and then another
unfoldable pub leads_on : {P Q R : List Received → Type 0} {a b c : StateOf} → SaidLeads P a b → SaidLeads Q b c → ((said more : List Received) → P said → Q more → R (said ++ more)) → SaidLeads R a c
leads_on {a = a} {b = b} {c = c} g h join = record {
  said = g.said ++ h.said;
  form = join g.said h.said g.form h.form;
  leads = subst (λ (es : List Entry). JournalLeads a es c) (sym (by_append 0 g.said h.said)) (joined_leads a b c (entries_by 0 g.said) (entries_by 0 h.said) g.leads h.leads);
}

-- one answer
pub leads_one : (a b : StateOf) (step : Step) (answer : Answer) → TableStep a 0 step answer b → SaidLeads (λ said. said ≡ told step answer ∷ []) a b
leads_one a b step answer taken = record { said = told step answer ∷ []; form = refl; leads = (b, taken, refl) }
