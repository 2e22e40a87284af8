-- One run of steps after another, and what neither changes.
use Rattle.std.proofs.Common.{◌≡◌, List, [], ◌∷◌, ◌++◌, ap, subst, ◌∙◌}
use Rattle.pb_generations.specs.Words.{StateOf, JournalLeads, Entry}
use Rattle.pb_history.proofs.TransactionAfter.{case_observers}
use Rattle.pb_generations.proofs.LateStarts.{seats_stay}

pub joined_leads : (a b c : StateOf) (xs ys : List Entry) → JournalLeads a xs b → JournalLeads b ys c → JournalLeads a (xs ++ ys) c
joined_leads a b c [] ys first second = subst (λ (s : StateOf). JournalLeads s ys c) first second
joined_leads a b c (x ∷ xs) ys first second = (first.0, first.1, joined_leads first.0 b c xs ys first.2 second)

pub journal_seats : (old : StateOf) (es : List Entry) (new : StateOf) → JournalLeads old es new → new.seats ≡ old.seats
journal_seats old [] new leads = ap (λ (z : StateOf). z.seats) leads
journal_seats old (e ∷ es) new leads = journal_seats leads.0 es new leads.2 ∙ seats_stay old e.seat leads.0 e.step e.answer leads.1.taken

pub journal_observers : (old : StateOf) (es : List Entry) (new : StateOf) → JournalLeads old es new → new.observers ≡ old.observers
journal_observers old [] new leads = ap (λ (z : StateOf). z.observers) leads
journal_observers old (e ∷ es) new leads = journal_observers leads.0 es new leads.2 ∙ case_observers old e.seat leads.0 0 e.step e.answer leads.1.taken
