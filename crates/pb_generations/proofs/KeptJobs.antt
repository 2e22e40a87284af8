-- A job of a table that is kept, such as a run of an observer or a change: each of its steps is one of a job and names known cells, since
-- what it was answered did so.
use Rattle.std.proofs.Common.{◌≡◌, ℕ, List, [], ◌∷◌, ◌++◌, length, Some, slice_get, sym, ap, subst, ◌∙◌, append_assoc, append-nil, inl, inr}
use Rattle.std.proofs.lemmas.Option.{slice_get_within}
use Rattle.pb_generations.specs.Words.{Writes, Row, ObserverOf, StateOf, Step, JournalLeads, Entry, Received, IsConversation, JobOf, took, went, no_part, one_part, ChangeOf, Converses, change_job, new_change, entries_by, Reaches, run_job, RunOf, fresh, watch_of}
use Rattle.pb_history.proofs.JournalParts.{leads_in_parts}
use Rattle.pb_history.proofs.Updates.{has_more, has_right}
use Rattle.pb_generations.specs.KeptTables.{IsKeptTable, stepped, IsStepOfJob, RunsAskSteps, ChangesAskSteps, KeptAnswersAreKnown}
use Rattle.pb_generations.specs.KnownSteps.{AreKnownAnswers, RunsNameKnown}
use Rattle.pb_generations.specs.LeftOut.{AnswersKnown, NamesKnown}
use Rattle.pb_generations.proofs.KnownJobs.{change_names_known}
use Rattle.pb_generations.proofs.SeatEntries.{entry, by_append, said_there}

-- a conversation with an answer more
one_more_known : (n : ℕ) (said : List Received) (r : Received) → AreKnownAnswers n said → AnswersKnown n r.answer → AreKnownAnswers n (said ++ r ∷ [])
one_more_known n said r all known x has = elim (has_more said r x has) [
  | inl is ↦ subst (λ (z : Received). AnswersKnown n z.answer) is known
  | inr before ↦ all x before
]

module _ (answers : KeptAnswersAreKnown) (observers gone : List ObserverOf) (seats clock c : ℕ) (journal : List Entry) (old : StateOf) (kept : IsKeptTable observers gone seats clock c journal old) (seat : ℕ) where
  -- the table is kept, and what it answered is known
  abbrev pub StaysKept : List Received → StateOf → Type 0
  StaysKept said new = IsKeptTable observers gone seats clock c (journal ++ entries_by seat said) new × AreKnownAnswers (length observers) said

  module _ {S : Type 0} (job : JobOf S) (first : S)
      (asks : (said : List Received) (k : S) (step : Step) → IsConversation job first said k → job.next k ≡ Some step → IsStepOfJob observers (journal ++ entries_by seat said) step)
      (names : (said : List Received) (k : S) (now : StateOf) (step : Step) → IsConversation job first said k → AreKnownAnswers (length observers) said → JournalLeads old (entries_by seat said) now → job.next k ≡ Some step → NamesKnown (length observers) step) where
    kept_job : (said : List Received) (k : S) (new : StateOf) → IsConversation job first said k → JournalLeads old (entries_by seat said) new → StaysKept said new
    kept_job said k new no_part leads =
        (subst (λ (l : List Entry). IsKeptTable observers gone seats clock c l new) (sym (append-nil journal)) (subst (λ (s : StateOf). IsKeptTable observers gone seats clock c journal s) (sym leads) kept), λ r has. absurd has)
    kept_job said k new (one_part from to before more talk (took r next can hears)) leads =
        let part = leads_in_parts old (entries_by seat before) (entry seat r ∷ []) new (subst (λ (l : List Entry). JournalLeads old l new) (by_append seat before (r ∷ [])) leads) in
        let mid = kept_job before from part.0 talk part.1 in
        let so_far = journal ++ entries_by seat before in
        let asked = asks before from r.step talk next in
        let named = names before from part.0 r.step talk mid.1 part.1 next in
        let known = answers observers gone seats clock c so_far part.0 mid.0 seat r.step r.answer part.2.0 asked named part.2.1 in
        let last = subst (λ (s : StateOf). IsKeptTable observers gone seats clock c (so_far ++ entry seat r ∷ []) s) (sym part.2.2) (stepped observers gone seats clock c so_far part.0 (entry seat r) part.2.0 mid.0 asked named part.2.1) in (
          subst (λ (l : List Entry). IsKeptTable observers gone seats clock c l new) (append_assoc journal (entries_by seat before) (entry seat r ∷ []) ∙ ap (λ (l : List Entry). journal ++ l) (sym (by_append seat before (r ∷ [])))) last,
          one_more_known (length observers) before r mid.1 known,
        )
    kept_job said k new (one_part from to before more talk (went by_itself)) leads =
        subst (λ (l : List Received). StaysKept l new) (sym (append-nil before)) (kept_job before from new talk (subst (λ (l : List Received). JournalLeads old (entries_by seat l) new) (append-nil before) leads))

  pub kept_run : RunsAskSteps → RunsNameKnown → (o : ℕ) (observer : ObserverOf) (row : Row) → slice_get observers o ≡ Some observer
      → (said : List Received) (k : RunOf) (new : StateOf) → Reaches (fresh (watch_of o observer row)) said k → JournalLeads old (entries_by seat said) new → StaysKept said new
  kept_run asks names o observer row there =
      kept_job run_job (fresh (watch_of o observer row))
      (λ said k step reaches next. asks observers (journal ++ entries_by seat said) seat o observer row said k step there reaches (λ r has. has_right journal (entries_by seat said) _ (said_there seat said r has)) next)
      (λ said k now step reaches known leads next. names (length observers) o observer row said k step (slice_get_within observers o observer there) reaches known next)

  pub kept_change : ChangesAskSteps → (batch : Writes) (said : List Received) (k : ChangeOf) (new : StateOf) → Converses (new_change batch) said k → JournalLeads old (entries_by seat said) new → StaysKept said new
  kept_change asks batch =
      kept_job change_job (new_change batch) (λ said k step talk next. asks observers (journal ++ entries_by seat said) k step next)
      (λ said k now step talk known leads next. change_names_known (length observers) seat batch old now said k step talk leads next)
