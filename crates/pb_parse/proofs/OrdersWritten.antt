-- What is read as an order is written as the order's line.
use Rattle.std.proofs.Common.{◌≡◌, ℕ, ◌-◌, ◌≤◌, true, cond, List, [], ◌∷◌, ◌++◌, Result, Ok, refl, sym, ap, subst, ◌∙◌, arith, inl, inr, ◌⊎◌, codes, decimal, bytes_eq}
use Rattle.std.proofs.lemmas.List.{append-nil}
use Rattle.std.proofs.lemmas.List.Splits.{join_with_byte-slice_split}
use Rattle.pb_parse.specs.Words.{COLUMNS, MAX_CHANGES, MAX_EVENTS, MAX_SEATS, Cell, next_word, words_of, ObserverOf}
use Rattle.pb_parse.specs.declared.event.Job.{Job}
use Rattle.pb_parse.specs.declared.event.Event.{Event}
use Rattle.pb_parse.specs.declared.schedule.words.Order.{Order}
use Rattle.pb_parse.specs.declared.schedule.code.ScheduleCode.{ScheduleCode}
use Rattle.pb_parse.specs.ScheduleWords.{next_number, next_actor, next_row, next_observer, next_change, next_run, next_job, once, launch_of, times_of, step_of, crash_of, next_data_cell, next_acknowledgment, next_cell, once_on, order_by, order_of_words, order_of}
use Rattle.pb_parse.specs.EventLines.{cell_words, job_words, event_words, IsActor, FitsJob, FitsCell, IsRowCell, FitsEvent, AreWordsOf, IsLineOf}
use Rattle.pb_reading.proofs.Parts.{AreParts, parts_are}
use Rattle.pb_reading.proofs.Readings.{then_ok, ok_is, next_is, none_left}
use Rattle.pb_parse.proofs.NextWords.{same_text, once_is, number_is, next_number_is, next_row_is, next_observer_is}
use Rattle.pb_base.proofs.Logic.{chosen_branch}

-- the first word is the spelling of an actor's number
pub record TakesActor (actor : ℕ) (words rest : List (List ℕ)) : Type 0 where
  pub written : words ≡ decimal actor ∷ rest
  pub fits : IsActor actor

-- an actor is read from the spelling of its number alone
pub actor_is : (words : List (List ℕ)) (x : ℕ × List (List ℕ)) → next_actor words ≡ Ok x → TakesActor x.0 words x.1
actor_is words x h =
    let n = next_number_is 1 (MAX_SEATS - 1) words x (omega arith) h in
    let low = n.low in record { written = n.written; fits = (omega (arith, low), omega arith) }

-- ---- jobs

-- the words in front are those of a job that may stand there
record TakesJob (observers : List ObserverOf) (job : Job) (words rest : List (List ℕ)) : Type 0 where
  written : words ≡ job_words observers job ++ rest
  fits : FitsJob observers job

-- a change is read from its words alone
change_is : (observers : List ObserverOf) (words : List (List ℕ)) (x : Job × List (List ℕ)) → next_change words ≡ Ok x → TakesJob observers x.0 (codes "change" ∷ words) x.1
unfolding next_change
change_is observers words x h =
    let a = then_ok (next_number 1 MAX_CHANGES words) _ x h in
    let n = next_number_is 1 MAX_CHANGES words a.0 (omega arith) a.1 in
    grind (arith, ok_is)

-- a run is read from its words alone
run_is : (observers : List ObserverOf) (words : List (List ℕ)) (x : Job × List (List ℕ)) → AreParts 32 words → next_run observers words ≡ Ok x → TakesJob observers x.0 (codes "run" ∷ words) x.1
unfolding next_run
run_is observers words x some h =
    let a = then_ok (next_observer observers words) _ x h in
    let n = next_observer_is observers words a.0 some a.1 in
    let b = then_ok (next_row a.0.1) _ x a.2 in
    let r = next_row_is a.0.1 b.0 b.1 in
    grind (arith, ok_is)

-- the word in front is this one
in_front : (P : List (List ℕ) → Type 0) (words : List (List ℕ)) (x : List ℕ × List (List ℕ)) (word : List ℕ) → words ≡ x.0 ∷ x.1 → bytes_eq x.0 word ≡ true → P (word ∷ x.1) → P words
in_front P words x word cut is h = subst P (sym (cut ∙ ap (λ (w : List ℕ). w ∷ x.1) (same_text x.0 word is))) h

job_is : (observers : List ObserverOf) (words : List (List ℕ)) (x : Job × List (List ℕ)) → AreParts 32 words → next_job observers words ≡ Ok x → TakesJob observers x.0 words x.1
unfolding next_job
job_is observers words x some h =
    let a = then_ok (next_word ScheduleCode.Form words) _ x h in
    let cut = next_is ScheduleCode.Form words a.0 a.1 in
    let parts = subst (AreParts 32) cut some in
    elim (chosen_branch (bytes_eq a.0.0 (codes "change")) (next_change a.0.1) _ (Ok x) a.2) [
      | inl p ↦ in_front (λ ws. TakesJob observers x.0 ws x.1) words a.0 (codes "change") cut p.0 (change_is observers a.0.1 x p.1)
      | inr q ↦ elim (chosen_branch (bytes_eq a.0.0 (codes "run")) (next_run observers a.0.1) _ (Ok x) q.1) [
        | inl p ↦ in_front (λ ws. TakesJob observers x.0 ws x.1) words a.0 (codes "run") cut p.0 (run_is observers a.0.1 x parts.1 p.1)
        | inr r ↦ let no = r.1 in absurd cc
      ]
    ]

-- ---- cells

-- the words in front are those of a cell that may stand there
record TakesCell (observers : List ObserverOf) (x : Cell) (words rest : List (List ℕ)) : Type 0 where
  written : words ≡ cell_words observers x ++ rest
  fits : FitsCell observers x

record TakesDataCell (observers : List ObserverOf) (x : Cell) (words rest : List (List ℕ)) : Type 0 where
  cell : TakesCell observers x words rest
  data_cell : IsRowCell x

-- a data cell is read from its row and column alone
data_is : (observers : List ObserverOf) (words : List (List ℕ)) (x : Cell × List (List ℕ)) → next_data_cell words ≡ Ok x → TakesDataCell observers x.0 words x.1
unfolding next_data_cell
data_is observers words x h =
    let a = then_ok (next_row words) _ x h in
    let r = next_row_is words a.0 a.1 in
    let b = then_ok (next_number 0 (COLUMNS - 1) a.0.1) _ x a.2 in
    let n = next_number_is 0 (COLUMNS - 1) a.0.1 b.0 (omega arith) b.1 in
    let high = n.high in
    subst (λ (y : Cell × List (List ℕ)). TakesDataCell observers y.0 words y.1) (ok_is (Cell.Data a.0.0 b.0.0, b.0.1) x b.2)
    (record { cell = record { written = r.0 ∙ ap (λ (ws : List (List ℕ)). decimal a.0.0.0 ∷ ws) n.written; fits = (r.1, omega (arith, high)) }; data_cell = tt })

acknowledgment_is : (observers : List ObserverOf) (words : List (List ℕ)) (x : Cell × List (List ℕ)) → AreParts 32 words → next_acknowledgment observers words ≡ Ok x → TakesCell observers x.0 (codes "ack" ∷ words) x.1
unfolding next_acknowledgment
acknowledgment_is observers words x some h =
    let a = then_ok (next_observer observers words) _ x h in
    let n = next_observer_is observers words a.0 some a.1 in
    let b = then_ok (next_row a.0.1) _ x a.2 in
    let r = next_row_is a.0.1 b.0 b.1 in
    grind (arith, ok_is)

-- a cell is read from its words alone, whichever of two forms it has
cell_is : (observers : List ObserverOf) (words : List (List ℕ)) (x : Cell × List (List ℕ)) → AreParts 32 words → next_cell observers words ≡ Ok x → TakesCell observers x.0 words x.1
cell_is observers [] x some h = absurd cc
cell_is observers (word ∷ words) x some h = elim (chosen_branch (bytes_eq word (codes "ack")) (next_acknowledgment observers words) _ (Ok x) h) [
  | inl p ↦ in_front (λ ws. TakesCell observers x.0 ws x.1) (word ∷ words) (word, words) (codes "ack") refl p.0 (acknowledgment_is observers words x some.1 p.1)
  | inr q ↦ (data_is observers (word ∷ words) x q.1).cell
]

-- ---- orders

-- the words are the order's, and what they name may stand there
record IsWritten (observers : List ObserverOf) (order : Order) (words : List (List ℕ)) : Type 0 where
  written : AreWordsOf observers order words
  fits : FitsEvent observers order.event

-- the words of an event that is asked for once, and none after them
once_written : (observers : List ObserverOf) (event : Event) (words rest : List (List ℕ)) (order : Order) → once event rest ≡ Ok order → words ≡ event_words observers event ++ rest → FitsEvent observers event → IsWritten observers order words
once_written observers event words rest order h is fits = grind (arith, once_is, append-nil)

launch_is : (observers : List ObserverOf) (words : List (List ℕ)) (order : Order) → AreParts 32 words → launch_of observers words ≡ Ok order → IsWritten observers order (codes "launch" ∷ words)
unfolding launch_of
launch_is observers words order some h =
    let a = then_ok (next_actor words) _ order h in
    let n = actor_is words a.0 a.1 in
    let b = then_ok (next_job observers a.0.1) _ order a.2 in
    let parts = subst (AreParts 32) n.written some in
    let j = job_is observers a.0.1 b.0 parts.1 b.1 in
    once_written observers (Event.Launch a.0.0 b.0.0) (codes "launch" ∷ words) b.0.1 order b.2
    (ap (λ (ws : List (List ℕ)). codes "launch" ∷ ws) (n.written ∙ ap (λ (ws : List (List ℕ)). decimal a.0.0 ∷ ws) j.written)) (n.fits, j.fits)

-- how often stands in no word, or in the spelling of a number
times_is : (words : List (List ℕ)) (n : ℕ) → times_of words ≡ Ok n → ((n ≡ 1) × (words ≡ [])) ⊎ ((1 ≤ n) × (n ≤ MAX_EVENTS) × (words ≡ decimal n ∷ []))
unfolding times_of
times_is words n h = grind (arith, ok_is, then_ok, number_is, none_left)

step_is : (observers : List ObserverOf) (words : List (List ℕ)) (order : Order) → step_of words ≡ Ok order → IsWritten observers order (codes "step" ∷ words)
unfolding step_of
step_is observers words order h =
    let a = then_ok (next_actor words) _ order h in
    let n = actor_is words a.0 a.1 in
    grind (arith, ok_is, times_is)

crash_is : (observers : List ObserverOf) (words : List (List ℕ)) (order : Order) → crash_of words ≡ Ok order → IsWritten observers order (codes "crash" ∷ words)
unfolding crash_of
crash_is observers words order h =
    let a = then_ok (next_actor words) _ order h in
    let n = actor_is words a.0 a.1 in
    once_written observers (Event.Crash a.0.0) (codes "crash" ∷ words) a.0.1 order a.2 (ap (λ (ws : List (List ℕ)). codes "crash" ∷ ws) n.written) n.fits

settle_is : (observers : List ObserverOf) (words : List (List ℕ)) (order : Order) → AreParts 32 words → once_on Event.Settle (next_cell observers words) ≡ Ok order → IsWritten observers order (codes "settle" ∷ words)
unfolding once_on
settle_is observers words order some h =
    let a = then_ok (next_cell observers words) _ order h in
    let x = cell_is observers words a.0 some a.1 in
    once_written observers (Event.Settle a.0.0) (codes "settle" ∷ words) a.0.1 order a.2 (ap (λ (ws : List (List ℕ)). codes "settle" ∷ ws) x.written) x.fits

clear_is : (observers : List ObserverOf) (words : List (List ℕ)) (order : Order) → AreParts 32 words → once_on Event.Clear (next_cell observers words) ≡ Ok order → IsWritten observers order (codes "clear" ∷ words)
unfolding once_on
clear_is observers words order some h =
    let a = then_ok (next_cell observers words) _ order h in
    let x = cell_is observers words a.0 some a.1 in
    once_written observers (Event.Clear a.0.0) (codes "clear" ∷ words) a.0.1 order a.2 (ap (λ (ws : List (List ℕ)). codes "clear" ∷ ws) x.written) x.fits

sweep_is : (observers : List ObserverOf) (words : List (List ℕ)) (order : Order) → once_on Event.Sweep (next_data_cell words) ≡ Ok order → IsWritten observers order (codes "sweep" ∷ words)
unfolding once_on
sweep_is observers words order h =
    let a = then_ok (next_data_cell words) _ order h in
    let x = data_is observers words a.0 a.1 in
    once_written observers (Event.Sweep a.0.0) (codes "sweep" ∷ words) a.0.1 order a.2 (ap (λ (ws : List (List ℕ)). codes "sweep" ∷ ws) x.cell.written) (x.data_cell, x.cell.fits)

-- one verb: if the word is it, what stands after it gives the order, and else the other verbs do
verb_is : (verb : List ℕ) (this : List ℕ) (r others : Result Order ScheduleCode) (order : Order) (P : List ℕ → Type 0) → cond (bytes_eq verb this) r others ≡ Ok order → (r ≡ Ok order → P this) → (others ≡ Ok order → P verb) → P verb
verb_is verb this r others order P h mine rest = grind (arith, chosen_branch, same_text)

-- an order is read from its words alone, whichever verb they begin with
by_verb : (observers : List ObserverOf) (verb : List ℕ) (words : List (List ℕ)) (order : Order) → AreParts 32 words → order_by observers verb words ≡ Ok order → IsWritten observers order (verb ∷ words)
by_verb observers verb words order some h =
    let P = λ (v : List ℕ). IsWritten observers order (v ∷ words) in
    verb_is verb (codes "launch") _ _ order P h (launch_is observers words order some)
    (λ h. verb_is verb (codes "step") _ _ order P h (step_is observers words order)
    (λ h. verb_is verb (codes "crash") _ _ order P h (crash_is observers words order)
    (λ h. verb_is verb (codes "settle") _ _ order P h (settle_is observers words order some)
    (λ h. verb_is verb (codes "clear") _ _ order P h (clear_is observers words order some)
    (λ h. verb_is verb (codes "sweep") _ _ order P h (sweep_is observers words order) (λ h. absurd cc))))))

words_written : (observers : List ObserverOf) (words : List (List ℕ)) (order : Order) → AreParts 32 words → order_of_words observers words ≡ Ok order → IsWritten observers order words
unfolding order_of_words
words_written observers [] order some h = absurd cc
words_written observers (verb ∷ words) order some h = by_verb observers verb words order some.1 h

-- a line that is read is the order's, joined by single blanks, since joining undoes the cut
pub line_written : (observers : List ObserverOf) (line : List ℕ) (order : Order) → order_of observers line ≡ Ok order → IsLineOf observers order line
line_written observers line order h =
    let w = words_written observers (words_of line) order (parts_are 32 line) h in
    (words_of line, w.written, w.fits, sym (join_with_byte-slice_split 32 line))
