-- An order's line is read as the order.
use Rattle.std.proofs.Common.{◌≡◌, ℕ, ◌-◌, ◌^◌, ◌<◌, ◌≤◌, Bool, true, false, List, [], ◌∷◌, ◌++◌, Result, Ok, refl, sym, ap, subst, ◌∙◌, arith, inl, inr, codes, decimal, bytes_eq}
use Rattle.std.specs.List.{join_with_byte}
use Rattle.pb_parse.specs.Words.{COLUMNS, MAX_CHANGES, MAX_EVENTS, MAX_SEATS, Cell, Row, is_numeral, words_of, ObserverOf, acknowledgment}
use Rattle.pb_parse.specs.declared.event.Job.{Job}
use Rattle.pb_parse.specs.declared.event.Event.{Event}
use Rattle.pb_parse.specs.declared.schedule.words.Order.{Order}
use Rattle.pb_parse.specs.declared.schedule.code.ScheduleCode.{ScheduleCode}
use Rattle.pb_parse.specs.ScheduleWords.{next_actor, next_change, next_run, next_job, once, launch_of, times_of, step_of, crash_of, next_data_cell, next_acknowledgment, next_cell, once_on, order_of_words, order_of}
use Rattle.pb_parse.specs.EventLines.{name_of, cell_words, job_words, event_words, IsActor, IsRow, IsNamed, FitsJob, FitsCell, IsRowCell, FitsEvent, IsStep, IsLineOf}
use Rattle.pb_reading.proofs.Parts.{Lacks, AreParts, lacks_if, joined_parts, blank_no_digit, decimal_lacks}
use Rattle.pb_parse.proofs.NextWords.{same_text, number_back, next_number_back, next_row_back, next_observer_back}
use Rattle.pb_reading.proofs.NumeralValues.{numeral_of}

-- each actor is read from the spelling of its number
pub actor_back : (actor : ℕ) (rest : List (List ℕ)) → IsActor actor → next_actor (decimal actor ∷ rest) ≡ Ok (actor, rest)
actor_back actor rest fits = let low = fits.0 in let high = fits.1 in next_number_back 1 (MAX_SEATS - 1) actor rest (omega arith) low (omega (arith, high))

change_back : (number : ℕ) (rest : List (List ℕ)) → 1 ≤ number → number ≤ MAX_CHANGES → next_change (decimal number ∷ rest) ≡ Ok (Job.Change number, rest)
unfolding next_change
change_back number rest low high = rw (next_number_back 1 MAX_CHANGES number rest (omega arith) low high) refl

run_back : (observers : List ObserverOf) (o : ℕ) (row : Row) (rest : List (List ℕ)) → IsNamed observers o → IsRow row → next_run observers (name_of observers o ∷ decimal row.0 ∷ rest) ≡ Ok (Job.Run o row, rest)
unfolding next_run
run_back observers o row rest named fits = rw (next_observer_back observers o (decimal row.0 ∷ rest) named, next_row_back row rest fits) refl

-- each job is read from its words
job_back : (observers : List ObserverOf) (job : Job) → FitsJob observers job → next_job observers (job_words observers job) ≡ Ok (job, [])
unfolding next_job
job_back observers job fits = grind (arith, change_back, run_back)

-- each data cell is read from its words
data_back : (row : Row) (column : ℕ) (rest : List (List ℕ)) → IsRow row → column < COLUMNS → next_data_cell (decimal row.0 ∷ decimal column ∷ rest) ≡ Ok (Cell.Data row column, rest)
unfolding next_data_cell
data_back row column rest fits lt = rw (next_row_back row (decimal column ∷ rest) fits, next_number_back 0 (COLUMNS - 1) column rest (omega arith) (omega arith) (omega (arith, lt))) refl

acknowledgment_back : (observers : List ObserverOf) (o : ℕ) (row : Row) (rest : List (List ℕ)) → IsNamed observers o → IsRow row → next_acknowledgment observers (name_of observers o ∷ decimal row.0 ∷ rest) ≡ Ok (acknowledgment observers o row, rest)
unfolding next_acknowledgment
acknowledgment_back observers o row rest named fits = rw (next_observer_back observers o (decimal row.0 ∷ rest) named, next_row_back row rest fits) refl

-- a number isn't `ack`
pub not_ack : (n : ℕ) (b : Bool) → n < 2 ^ 64 → bytes_eq (decimal n) (codes "ack") ≡ b → b ≡ false
not_ack n false lt is = refl
not_ack n true lt is = let e : is_numeral (codes "ack") ≡ true = subst (λ (w : List ℕ). is_numeral w ≡ true) (same_text (decimal n) (codes "ack") is) (numeral_of n lt) in absurd cc

-- each cell is read from its words: a row is no `ack`, so the forms aren't mixed up
cell_back : (observers : List ObserverOf) (x : Cell) → FitsCell observers x → next_cell observers (cell_words observers x) ≡ Ok (x, [])
cell_back observers (Cell.Data row column) fits = rw (not_ack row.0 (bytes_eq (decimal row.0) (codes "ack")) fits.0 refl) (data_back row column [] fits.0 fits.1)
cell_back observers (Cell.Ack o row column) fits = acknowledgment_back observers o row [] fits.0 fits.1 ∙ ap (λ (k : ℕ). Ok (Cell.Ack o row k, [])) (sym fits.2)

-- ---- orders

once_back : (e : Event) → once e [] ≡ Ok (record { event = e; times = 1 })
unfolding once
once_back e = refl

once_on_back : (make : Cell → Event) (r : Result (Cell × List (List ℕ)) ScheduleCode) (x : Cell) → r ≡ Ok (x, []) → once_on make r ≡ Ok (record { event = make x; times = 1 })
unfolding once_on
once_on_back make r x is = rw is (once_back (make x))

launch_back : (observers : List ObserverOf) (actor : ℕ) (job : Job) → IsActor actor → FitsJob observers job → launch_of observers (decimal actor ∷ job_words observers job) ≡ Ok (record { event = Event.Launch actor job; times = 1 })
unfolding launch_of
launch_back observers actor job fits may = rw (actor_back actor (job_words observers job) fits, job_back observers job may) (once_back (Event.Launch actor job))

step_back : (actor : ℕ) → IsActor actor → step_of (decimal actor ∷ []) ≡ Ok (record { event = Event.Step actor; times = 1 })
unfolding step_of times_of
step_back actor fits = rw (actor_back actor [] fits) refl

crash_back : (actor : ℕ) → IsActor actor → crash_of (decimal actor ∷ []) ≡ Ok (record { event = Event.Crash actor; times = 1 })
unfolding crash_of
crash_back actor fits = rw (actor_back actor [] fits) (once_back (Event.Crash actor))

sweep_back : (observers : List ObserverOf) (x : Cell) → IsRowCell x → FitsCell observers x → once_on Event.Sweep (next_data_cell (cell_words observers x)) ≡ Ok (record { event = Event.Sweep x; times = 1 })
sweep_back observers (Cell.Data row column) data_cell fits = once_on_back Event.Sweep _ (Cell.Data row column) (data_back row column [] fits.0 fits.1)
sweep_back observers (Cell.Ack o row column) data_cell fits = absurd data_cell

-- each event that may stand in a line is read from its words, once
event_back : (observers : List ObserverOf) (e : Event) → FitsEvent observers e → order_of_words observers (event_words observers e) ≡ Ok (record { event = e; times = 1 })
unfolding order_of_words
event_back observers e fits = grind (arith, launch_back, step_back, crash_back, once_on_back, cell_back, sweep_back)

-- and a step as often as the last word states
steps_back : (observers : List ObserverOf) (actor n : ℕ) → IsActor actor → 1 ≤ n → n ≤ MAX_EVENTS → order_of_words observers (codes "step" ∷ decimal actor ∷ decimal n ∷ []) ≡ Ok (record { event = Event.Step actor; times = n })
unfolding order_of_words step_of times_of
steps_back observers actor n fits low high = rw (actor_back actor (decimal n ∷ []) fits, number_back 1 MAX_EVENTS n (omega arith) low high) refl

-- ---- and their lines

row_word : (row : Row) → IsRow row → Lacks 32 (decimal row.0)
row_word row fits = decimal_lacks 32 row.0 blank_no_digit fits

actor_word : (actor : ℕ) → IsActor actor → Lacks 32 (decimal actor)
actor_word actor fits = let high = fits.1 in decimal_lacks 32 actor blank_no_digit (omega (arith, high))

job_are : (observers : List ObserverOf) (job : Job) → FitsJob observers job → AreParts 32 (job_words observers job)
job_are observers (Job.Change number) fits = let high = fits.1 in (lacks_if 32 (codes "change") refl, (decimal_lacks 32 number blank_no_digit (omega (arith, high)), tt))
job_are observers (Job.Run o row) fits = (lacks_if 32 (codes "run") refl, (lacks_if 32 (name_of observers o) fits.0.word, (row_word row fits.1, tt)))

-- the words of a cell have no blanks, so they are cut apart as they were joined
cell_are : (observers : List ObserverOf) (x : Cell) → FitsCell observers x → AreParts 32 (cell_words observers x)
cell_are observers (Cell.Data row column) fits = let lt = fits.1 in (row_word row fits.0, (decimal_lacks 32 column blank_no_digit (omega (arith, lt)), tt))
cell_are observers (Cell.Ack o row column) fits = (lacks_if 32 (codes "ack") refl, (lacks_if 32 (name_of observers o) fits.0.word, (row_word row fits.1, tt)))

-- an event's line is cut into its words
event_cut : (observers : List ObserverOf) (e : Event) → FitsEvent observers e → words_of (join_with_byte 32 (event_words observers e)) ≡ event_words observers e
event_cut observers (Event.Launch actor job) fits = joined_parts 32 (codes "launch") (decimal actor ∷ job_words observers job) (lacks_if 32 (codes "launch") refl) (actor_word actor fits.0, job_are observers job fits.1)
event_cut observers (Event.Step actor) fits = joined_parts 32 (codes "step") (decimal actor ∷ []) (lacks_if 32 (codes "step") refl) (actor_word actor fits, tt)
event_cut observers (Event.Crash actor) fits = joined_parts 32 (codes "crash") (decimal actor ∷ []) (lacks_if 32 (codes "crash") refl) (actor_word actor fits, tt)
event_cut observers (Event.Settle x) fits = joined_parts 32 (codes "settle") (cell_words observers x) (lacks_if 32 (codes "settle") refl) (cell_are observers x fits)
event_cut observers (Event.Clear x) fits = joined_parts 32 (codes "clear") (cell_words observers x) (lacks_if 32 (codes "clear") refl) (cell_are observers x fits)
event_cut observers (Event.Sweep x) fits = joined_parts 32 (codes "sweep") (cell_words observers x) (lacks_if 32 (codes "sweep") refl) (cell_are observers x fits.1)

once_line : (observers : List ObserverOf) (e : Event) (n : ℕ) (line : List ℕ) (words : List (List ℕ)) → FitsEvent observers e → n ≡ 1 → words ≡ event_words observers e → line ≡ join_with_byte 32 words → order_of observers line ≡ Ok (record { event = e; times = n })
once_line observers e n line words fits one are is = grind (arith, event_cut, event_back)

steps_line : (observers : List ObserverOf) (e : Event) (n : ℕ) (line : List ℕ) (words : List (List ℕ)) → FitsEvent observers e → IsStep e → 1 ≤ n → n ≤ MAX_EVENTS → words ≡ event_words observers e ++ decimal n ∷ [] → line ≡ join_with_byte 32 words → order_of observers line ≡ Ok (record { event = e; times = n })
steps_line observers (Event.Step actor) n line words fits step low high are is =
    ap (order_of observers) (is ∙ ap (join_with_byte 32) are)
    ∙ ap (order_of_words observers) (joined_parts 32 (codes "step") (decimal actor ∷ decimal n ∷ []) (lacks_if 32 (codes "step") refl) (actor_word actor fits, (decimal_lacks 32 n blank_no_digit (omega (arith, high)), tt)))
    ∙ steps_back observers actor n fits low high
steps_line observers (Event.Launch actor job) n line words fits step low high are is = absurd step
steps_line observers (Event.Crash actor) n line words fits step low high are is = absurd step
steps_line observers (Event.Settle x) n line words fits step low high are is = absurd step
steps_line observers (Event.Clear x) n line words fits step low high are is = absurd step
steps_line observers (Event.Sweep x) n line words fits step low high are is = absurd step

-- each line of the format is read, as the order that it is of
pub line_read : (observers : List ObserverOf) (line : List ℕ) (order : Order) → IsLineOf observers order line → order_of observers line ≡ Ok order
line_read observers line order h = elim h.1 [
  | inl one ↦ once_line observers order.event order.times line h.0 h.2 one.0 one.1 h.3
  | inr more ↦ steps_line observers order.event order.times line h.0 h.2 more.0 more.1 more.2 more.3 h.3
]
