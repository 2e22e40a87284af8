-- What the only seat says while it makes changes leaves a table that is kept over generations one that is.
use Rattle.std.proofs.Common.{◌≡◌, ℕ, List, [], ◌∷◌, ◌++◌, Option, refl, sym, ap, subst, ◌∙◌}
use Rattle.std.proofs.lemmas.List.{append_assoc, append-nil}
use Rattle.pb_passes.proofs.Drains.{HoldsOfRuns}
use Rattle.pb_keeper.specs.Words.{Writes, row_of, Cell, ObserverOf, StateOf, Step, Answer, JournalLeads, Entry, Received, told, Outcome, entries_by, IsKeptTable, opened, stepped, anew, chosen, RunsKeepTables, WholeChangesKeepTables, MarksKeepTables, IsOfParts}
use Rattle.pb_history.proofs.TransactionAfter.{case_observers}
use Rattle.pb_generations.proofs.SeatEntries.{by_append}
use Rattle.pb_keeper.specs.Drains.{HasRuns}
use Rattle.pb_keeper.specs.Leads.{SaidLeads, IsEndedChange}
use Rattle.pb_keeper.specs.Stops.{WasKept}
use Rattle.pb_keeper.specs.declared.stats.ObserverStats.{ObserverStats}
use Rattle.pb_conversations.proofs.Joining.{Adds, of_parts}
use Rattle.pb_keeper.proofs.PassAlong.{Led}
use Rattle.pb_keeper.proofs.Wholes.{leads_parts}

-- its observers are those that it is kept with
pub kept_observers : (observers gone : List ObserverOf) (seats clock c : ℕ) (journal : List Entry) (now : StateOf) → IsKeptTable observers gone seats clock c journal now → now.observers ≡ observers
kept_observers observers gone seats clock c journal now (opened l n t room) = refl
kept_observers observers gone seats clock c journal now (stepped l h n t d g before e new k job known step) = case_observers before e.seat now 0 e.step e.answer step.taken ∙ kept_observers l h n t d g before k
kept_observers observers gone seats clock c journal now (anew l h n t d g old f ts new k free room snapshot ended marked) = ap (λ (z : StateOf). z.observers) marked.is ∙ kept_observers l h n t d g old k
kept_observers observers gone seats clock c journal now (chosen l h n t d g old places front added f ts between new k free room are snapshot ended marked has) =
    ap (λ (z : StateOf). z.observers) has.is ∙ ap (λ (z : StateOf). z.observers ++ added) marked.is

-- a conversation after which a table is kept that was kept before it
abbrev pub LeavesKept : List ObserverOf → List Received → Type 0
LeavesKept observers said =
    (gone : List ObserverOf) (c : ℕ) (before : List Received) (m n : StateOf) → IsKeptTable observers gone 1 0 c (entries_by 0 before) m → JournalLeads m (entries_by 0 said) n
    → IsKeptTable observers gone 1 0 c (entries_by 0 (before ++ said)) n

module _ (observers : List ObserverOf) where
  leaves_add : Adds (LeavesKept observers)
  leaves_add = record {
    nothing = λ gone c before m n k r.
        subst (λ (l : List Received). IsKeptTable observers gone 1 0 c (entries_by 0 l) n) (sym (append-nil before)) (subst (λ (s : StateOf). IsKeptTable observers gone 1 0 c (entries_by 0 before) s) (sym r) k);
    both = λ a b p q gone c before m n k r.
        let parts = leads_parts m n a b r in
        subst (λ (l : List Received). IsKeptTable observers gone 1 0 c (entries_by 0 l) n) (append_assoc before a b) (q gone c (before ++ a) parts.0 n (p gone c before m parts.0 k parts.1) parts.2);
  }

  -- one journal after another is that of both conversations
  as_one : (gone : List ObserverOf) (c : ℕ) (before said : List Received) (n : StateOf) → IsKeptTable observers gone 1 0 c (entries_by 0 before ++ entries_by 0 said) n → IsKeptTable observers gone 1 0 c (entries_by 0 (before ++ said)) n
  as_one gone c before said n k = subst (λ (es : List Entry). IsKeptTable observers gone 1 0 c es n) (sym (by_append 0 before said)) k

  pub mark_leaves : MarksKeepTables → (after : Option Cell) (a : Answer) → LeavesKept observers (told (Step.NextMark after) a ∷ [])
  mark_leaves marks after a gone c before m n k r = let said = told (Step.NextMark after) a ∷ [] in as_one gone c before said n (marks observers gone 1 0 c (entries_by 0 before) m n k 0 said (after, a, refl) r)

  pub change_leaves : WholeChangesKeepTables → (batch : Writes) (o : Outcome) (said : List Received) → IsEndedChange batch o said → LeavesKept observers said
  change_leaves whole batch o said is gone c before m n k r = as_one gone c before said n (whole observers gone 1 0 c (entries_by 0 before) m n k 0 said (batch, (is.0, o, is.1)) r)

  pub parts_leave : RunsKeepTables → MarksKeepTables → HoldsOfRuns observers (LeavesKept observers)
  parts_leave runs marks = record {
    adds = leaves_add;
    mark = mark_leaves marks;
    run = λ i x said is gone c before m n k r. as_one gone c before said n (runs observers gone 1 0 c (entries_by 0 before) m n k 0 said (i, is.o, row_of x, is.whole.job, is.observer.there, is.whole.reaches) r);
  }

-- so the table is kept after such a conversation
pub kept_after : {P : List Received → Type 0} (a b : StateOf) → WasKept a → ((said : List Received) → P said → LeavesKept a.observers said) → SaidLeads P a b → WasKept b
kept_after a b k leaves g = record {
  observers = k.observers;
  gone = k.gone;
  c = k.c;
  said = k.said ++ g.said;
  kept = subst (λ (l : List ObserverOf). LeavesKept l g.said) (kept_observers k.observers k.gone 1 0 k.c (entries_by 0 k.said) a k.kept) (leaves g.said g.form) k.gone k.c k.said a b k.kept g.leads;
}

-- and after parts whose runs are counted
pub kept_while : {S : Type 0} {Part : S → S → List Received → Type 0} {p q : S} {s t : List ObserverStats} {i m : ℕ} {a b : StateOf} → WasKept a → ((x y : S) (said : List Received) → Part x y said → LeavesKept a.observers said)
    → Led a.observers s t (HasRuns (IsOfParts Part p q) i) m a b → WasKept b
kept_while {p = p} {q = q} {a = a} {b = b} k leaves g = kept_after a b k (λ said f. of_parts (leaves_add a.observers) leaves p q said f.form.form.0) g
