-- A renumbered journal, without its steps of marks, is one of the table that has the observers under the new numbers.
use Rattle.std.proofs.Common.{◌≡◌, ℕ, arith, Bool, true, false, not, cond, List, [], ◌∷◌, refl, sym, ap, subst, ◌∙◌, option_map}
use Rattle.std.specs.FinMap as map
use Rattle.std.specs.Ordering.{nat_cmp}
use Rattle.pb_generations.specs.Words.{ObserverOf, Entries, Marks, StateOf, Transactions, opening, TableStep, Step, IsLegal, JournalLeads, Entry}
use Rattle.pb_history.proofs.TransactionAfter.{case_observers}
use Rattle.pb_generations.specs.Renumbered.{AreNumberedBy, IsOneToOne, IsRenumbered, TransactionsAreRenumbered, renumbered_entry, renumbered_journal, renumbered_step, renumbered_transaction}
use Rattle.pb_generations.specs.SameButMarks.{is_of_marks, without_marks, IsLegalButMarks}
use Rattle.pb_generations.proofs.HistoryButMarks.{without_twice}
use Rattle.pb_generations.proofs.JoinedJournals.{journal_observers}
use Rattle.pb_generations.proofs.JournalsWithMore.{marks_alone}
use Rattle.pb_generations.proofs.RenumberedEntries.{AreMoved, entries_renumbered, nothing_moved}
use Rattle.pb_generations.proofs.RenumberedRefusals.{under_numbers, allowed_renumbered}
use Rattle.pb_generations.proofs.RenumberedSteps.{GoesRenumbered, goes_renumbered}

still_of_marks : (number : ℕ → ℕ) (step : Step) → is_of_marks (renumbered_step number step) ≡ is_of_marks step
still_of_marks number step = grind arith

module _ (number : ℕ → ℕ) (one : IsOneToOne number) (few many : List ObserverOf) (by : AreNumberedBy number few many) where
  by_at : (s : StateOf) → s.observers ≡ few → AreNumberedBy number s.observers many
  by_at s is = subst (λ (os : List ObserverOf). AreNumberedBy number os many) (sym is) by

  -- where the rest of the journal leads the other table
  record LeadsRenumbered (old : StateOf) (e : Entries) (ts : Transactions) (marks : Marks) (journal : List Entry) (new : StateOf) : Type 0 where
    entries : Entries
    transactions : Transactions
    left : Marks
    run : JournalLeads (under_numbers old e ts many marks) (without_marks (renumbered_journal number journal)) (under_numbers new entries transactions many left)
    moved : AreMoved number one new.entries entries
    same : TransactionsAreRenumbered number new.transactions transactions

  -- the entry goes where it is of marks, and else stands in front
  in_front : (old new : StateOf) (e : Entry) (es : List Entry) (b : Bool) → is_of_marks e.step ≡ b → JournalLeads old (cond (not b) (renumbered_entry number e ∷ without_marks (renumbered_journal number es)) (without_marks (renumbered_journal number es))) new
      → JournalLeads old (without_marks (renumbered_journal number (e ∷ es))) new
  in_front old new e es b of leads =
      let rest = without_marks (renumbered_journal number es) in
      subst (λ (z : Bool). JournalLeads old (cond (not z) (renumbered_entry number e ∷ rest) rest) new) (sym (still_of_marks number e.step ∙ of)) leads

  module _ (old : StateOf) (e : Entry) (es : List Entry) (next new : StateOf) (f : Entries) (ts : Transactions) (marks : Marks) (os : old.observers ≡ few) (moved : AreMoved number one old.entries f) (same : TransactionsAreRenumbered number old.transactions ts) (step : TableStep old e.seat e.step e.answer next) where
    after_marks : is_of_marks e.step ≡ true → LeadsRenumbered next f ts marks es new → LeadsRenumbered old f ts marks (e ∷ es) new
    after_marks of rest =
        let is = marks_alone old e.seat e.step e.answer next of step.taken in
        let there = under_numbers new rest.entries rest.transactions many rest.left in
        record {
          entries = rest.entries;
          transactions = rest.transactions;
          left = rest.left;
          run = in_front (under_numbers old f ts many marks) there e es true of (subst (λ (z : StateOf). JournalLeads z (without_marks (renumbered_journal number es)) there) (ap (λ (z : StateOf). under_numbers z f ts many marks) is) rest.run);
          moved = rest.moved;
          same = rest.same;
        }

    after_other : is_of_marks e.step ≡ false → (goes : GoesRenumbered number one old many (by_at old os) f ts marks moved same e.seat e.step e.answer next) → LeadsRenumbered next goes.entries goes.transactions goes.left es new → LeadsRenumbered old f ts marks (e ∷ es) new
    after_other of goes rest = record {
      entries = rest.entries;
      transactions = rest.transactions;
      left = rest.left;
      run = in_front (under_numbers old f ts many marks) (under_numbers new rest.entries rest.transactions many rest.left) e es false of
          (under_numbers next goes.entries goes.transactions many goes.left, record { allowed = allowed_renumbered number one old many (by_at old os) f ts marks same e.seat e.step e.answer next step; taken = goes.taken }, rest.run);
      moved = rest.moved;
      same = rest.same;
    }

  leads_renumbered : (old : StateOf) (journal : List Entry) (new : StateOf) (f : Entries) (ts : Transactions) (marks : Marks) → old.observers ≡ few → AreMoved number one old.entries f → TransactionsAreRenumbered number old.transactions ts
      → JournalLeads old journal new → LeadsRenumbered old f ts marks journal new
  leads_renumbered old [] new f ts marks os moved same leads = record {
    entries = f;
    transactions = ts;
    left = marks;
    run = ap (λ (z : StateOf). under_numbers z f ts many marks) leads;
    moved = subst (λ (z : StateOf). AreMoved number one z.entries f) (sym leads) moved;
    same = subst (λ (z : StateOf). TransactionsAreRenumbered number z.transactions ts) (sym leads) same;
  }
  leads_renumbered old (e ∷ es) new f ts marks os moved same leads =
      let on : leads.0.observers ≡ few = case_observers old e.seat leads.0 0 e.step e.answer leads.1.taken ∙ os in
      elim (is_of_marks e.step) as (λ b. is_of_marks e.step ≡ b → LeadsRenumbered old f ts marks (e ∷ es) new) [
        | true ↦ λ of.
            let is = marks_alone old e.seat e.step e.answer leads.0 of leads.1.taken in
            after_marks old e es leads.0 new f ts marks os moved same leads.1 of
            (leads_renumbered leads.0 es new f ts marks on (subst (λ (z : StateOf). AreMoved number one z.entries f) (sym is) moved) (subst (λ (z : StateOf). TransactionsAreRenumbered number z.transactions ts) (sym is) same) leads.2)
        | false ↦ λ of.
            let goes = goes_renumbered number one old many (by_at old os) f ts marks moved same leads.0 e.seat e.step e.answer of leads.1.taken in
            after_other old e es leads.0 new f ts marks os moved same leads.1 of goes (leads_renumbered leads.0 es new goes.entries goes.transactions goes.left on goes.moved_after goes.same_after leads.2)
      ] refl

  no_transactions : TransactionsAreRenumbered number map.empty map.empty
  no_transactions s = map.get-empty nat_cmp s ∙ sym (ap (option_map (renumbered_transaction number)) (map.get-empty nat_cmp s))

  -- from the opening on
  pub legal_renumbered : (seats clock : ℕ) (journal : List Entry) (old : StateOf) → IsLegal few seats clock journal old → (new : StateOf) × IsRenumbered number old new × IsLegalButMarks many seats clock (renumbered_journal number journal) new
  legal_renumbered seats clock journal old legal =
      let all = leads_renumbered (opening few seats clock) journal old map.empty map.empty map.empty refl (nothing_moved number one) no_transactions legal.run in
      let os : old.observers ≡ few = journal_observers (opening few seats clock) journal old legal.run in (
        under_numbers old all.entries all.transactions many all.left,
        record { entries = entries_renumbered number one old.entries all.entries all.moved; transactions = all.same; observers = by_at old os; clock = refl; seats = refl },
        record {
          past = without_marks (renumbered_journal number journal);
          same = without_twice (renumbered_journal number journal);
          legal = record { fits = legal.fits; run = all.run };
        },
      )
