use Rattle.std.proofs.Common.{◌≡◌, ℕ, true, List, [], ◌∷◌, ◌++◌, length, map, refl, sym, ap, subst, ◌∙◌, append_assoc, append-nil}
use Rattle.pb_generations.specs.Words.{Writes, Cell, Ts, ObserverOf, StateOf, Answer, Declared, Step, Work, JournalLeads, Entry, Received, IsWholeChange, told, AreCleared, IsWhole, committed, conflicted_first, conflicted_later, lost, prewrites, Outcome, entries_by}
use Rattle.pb_history.proofs.DeclaredCells.{batch_plain}
use Rattle.pb_generations.specs.KeptTables.{IsKeptTable, stepped, IsStepOfJob}
use Rattle.pb_generations.specs.LeftOut.{NamesKnown, is_known_cell}
use Rattle.pb_generations.proofs.KeptJobs.{kept_run, kept_change}
use Rattle.pb_generations.proofs.KnownJobs.{AreKnownCells, cells_of_writes, declared_batch}
use Rattle.pb_generations.proofs.LeftOutDeclarations.{plain_are_known}
use Rattle.pb_generations.proofs.SeatEntries.{entry}
use Rattle.pb_generations.proofs.jobs_keep_tables.Goals as goal

module _ (observers : List ObserverOf) where
  -- each is a step of a job, whatever the journal, and names known cells
  abbrev AreAsked : List Received → Type 0
  AreAsked [] = Unit {0}
  AreAsked (r ∷ rs) = ((journal : List Entry) → IsStepOfJob observers journal r.step) × NamesKnown (length observers) r.step × AreAsked rs

  of_asked : (gone : List ObserverOf) (seats clock c seat : ℕ) (journal : List Entry) (old new : StateOf) (said : List Received) → IsKeptTable observers gone seats clock c journal old → AreAsked said
      → JournalLeads old (entries_by seat said) new → IsKeptTable observers gone seats clock c (journal ++ entries_by seat said) new
  of_asked gone seats clock c seat journal old new [] kept are leads =
      subst (λ (l : List Entry). IsKeptTable observers gone seats clock c l new) (sym (append-nil journal)) (subst (λ (s : StateOf). IsKeptTable observers gone seats clock c journal s) (sym leads) kept)
  of_asked gone seats clock c seat journal old new (r ∷ said) kept are leads =
      let first = stepped observers gone seats clock c journal old (entry seat r) leads.0 kept (are.0 journal) are.1 leads.1 in
      let rest = of_asked gone seats clock c seat (journal ++ entry seat r ∷ []) leads.0 new said first are.2 leads.2 in
      subst (λ (l : List Entry). IsKeptTable observers gone seats clock c l new) (append_assoc journal (entry seat r ∷ []) (entries_by seat said)) rest

  -- ---- a whole change

  abbrev AreKnown : List Cell → Type 0
  AreKnown cells = AreKnownCells (length observers) cells

  known_parts : (xs ys : List Cell) → AreKnown (xs ++ ys) → AreKnown xs × AreKnown ys
  known_parts [] ys known = (tt, known)
  known_parts (x ∷ xs) ys known = let parts = known_parts xs ys known.1 in ((known.0, parts.0), parts.1)

  asked_append : (a b : List Received) → AreAsked a → AreAsked b → AreAsked (a ++ b)
  asked_append [] b are rest = rest
  asked_append (r ∷ a) b are rest = (are.0, are.1, asked_append a b are.2 rest)

  asked_each : (f : Cell → Step) → ((journal : List Entry) (x : Cell) → IsStepOfJob observers journal (f x)) → ((x : Cell) → is_known_cell (length observers) x ≡ true → NamesKnown (length observers) (f x))
      → (xs : List Cell) → AreKnown xs → AreAsked (map (λ x. told (f x) Answer.Done) xs)
  asked_each f asked names [] known = tt
  asked_each f asked names (x ∷ xs) known = (λ journal. asked journal x, names x known.0, asked_each f asked names xs known.1)

  asked_prewrites : (s : Ts) (xs : List Cell) → AreKnown xs → AreAsked (prewrites s xs)
  asked_prewrites s = asked_each (λ x. Step.Prewrite s x) (λ journal x. tt) (λ x known. known)

  asked_cleared : (xs : List Cell) (rs : List Received) → AreKnown xs → AreCleared xs rs → AreAsked rs
  asked_cleared [] rs known is = subst AreAsked (sym is) tt
  asked_cleared (x ∷ xs) [] known is = tt
  asked_cleared (x ∷ xs) (r ∷ rs) known is = (λ journal. subst (IsStepOfJob observers journal) (sym is.0) tt, subst (NamesKnown (length observers)) (sym is.0) known.0, asked_cleared xs rs known.1 is.2)

  module _ (s : Ts) (batch : Writes) where
    asked_whole : (cells : List Cell) (said : List Received) (o : Outcome) → AreKnown cells → IsWhole s (Declared.Script batch) cells said o → AreAsked said
    asked_whole cells said o known (committed x others c) =
        (λ journal. tt, tt, asked_append (prewrites s (x ∷ others)) _ (asked_prewrites s (x ∷ others) known) (λ journal. tt, tt, (λ journal. tt, tt, asked_each (λ x. Step.CommitSecondary s x) (λ journal x. tt) (λ x known. known) others known.1)))
    asked_whole cells said o known (conflicted_first x after) = (λ journal. tt, tt, (λ journal. tt, known.0, tt))
    asked_whole cells said o known (conflicted_later x y before after a cs can cleared) =
        let parts = known_parts before (y ∷ after) known.1 in
        (λ journal. tt, tt, asked_append (prewrites s (x ∷ before)) _ (asked_prewrites s (x ∷ before) (known.0, parts.0)) (λ journal. tt, parts.1.0, (λ journal. tt, known.0, asked_cleared before cs parts.0 cleared)))
    asked_whole cells said o known (lost x others c cs cleared) =
        (λ journal. tt, tt, asked_append (prewrites s (x ∷ others)) _ (asked_prewrites s (x ∷ others) known) (λ journal. tt, tt, (λ journal. tt, tt, asked_cleared others cs known.1 cleared)))

-- the first step of a transaction is its declaration
begins_with : (s : Ts) (what : Declared) (cells : List Cell) (said : List Received) (o : Outcome) → IsWhole s what cells said o → (more : List Received) × (said ≡ told (Step.Declare s what) Answer.Done ∷ more)
begins_with s what cells said o (committed x others c) = (_, refl)
begins_with s what cells said o (conflicted_first x after) = (_, refl)
begins_with s what cells said o (conflicted_later x y before after a cs can cleared) = (_, refl)
begins_with s what cells said o (lost x others c cs cleared) = (_, refl)

-- so a change that a table took is of a batch
whole_asked : (observers : List ObserverOf) (seat : ℕ) (batch : Writes) (start : Ts) (said : List Received) (o : Outcome) (old new : StateOf) → IsWholeChange batch start said o → JournalLeads old (entries_by seat said) new → AreAsked observers said
whole_asked observers seat batch start said o old new whole leads =
    let begin = told (Step.Begin Work.Script) (Answer.At start) in
    let first = begins_with start (Declared.Script batch) _ whole.rest o whole.whole in
    let took = subst (λ (l : List Received). JournalLeads old (entries_by seat l) new) (whole.said_is ∙ ap (λ (l : List Received). begin ∷ l) first.1) leads in
    let is = declared_batch seat batch old new begin (told (Step.Declare start (Declared.Script batch)) Answer.Done) first.0 start took refl in
    let cells = cells_of_writes (length observers) batch (plain_are_known (length observers) batch (batch_plain batch is)) in
    subst (AreAsked observers) (sym whole.said_is) (λ journal. tt, tt, asked_whole observers start batch _ whole.rest o cells whole.whole)

pub returns-clause-runs : goal.returns-clause-runs
returns-clause-runs c observers gone seats clock g journal old new kept seat said run leads =
    (kept_run c.kept_tables_are_whole.ensures.answers observers gone seats clock g journal old kept seat c.jobs_ask_steps.ensures.runs c.jobs_name_known_cells.ensures.runs run.0 run.1 run.2 run.4 said run.3 new run.5 leads).0

pub returns-clause-changes : goal.returns-clause-changes
returns-clause-changes c observers gone seats clock g journal old new kept seat said change leads =
    (kept_change c.kept_tables_are_whole.ensures.answers observers gone seats clock g journal old kept seat c.jobs_ask_steps.ensures.changes change.0 said change.1 new change.2 leads).0

pub returns-clause-whole : goal.returns-clause-whole
returns-clause-whole c observers gone seats clock g journal old new kept seat said change leads =
    of_asked observers gone seats clock g seat journal old new said kept (whole_asked observers seat change.0 change.1.0 said change.1.1 old new change.1.2 leads) leads

pub returns-clause-marks : goal.returns-clause-marks
returns-clause-marks c observers gone seats clock g journal old new kept seat said mark leads =
    of_asked observers gone seats clock g seat journal old new said kept (subst (AreAsked observers) (sym mark.2) (λ journal. tt, tt, tt)) leads
