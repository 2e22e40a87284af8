-- A line's fault, unless it is its form, is that of a field; and a field's fault is the line's.
use Rattle.std.proofs.Common.{◌≡◌, ℕ, ◌-◌, ◌^◌, true, cond, List, [], ◌∷◌, Result, Ok, Err, sym, ap, subst, ◌∙◌, arith, inl, inr, ◌⊎◌, codes, decimal, bytes_eq}
use Rattle.std.proofs.lemmas.Bool.{ltb-false}
use Rattle.pb_parse.specs.Words.{COLUMNS, MAX_CHANGES, MAX_EVENTS, MAX_SEATS, Cell, Row, ◌>>=◌, next_word, words_of, ObserverOf, acknowledgment}
use Rattle.pb_parse.specs.declared.event.Job.{Job}
use Rattle.pb_parse.specs.declared.event.Event.{Event}
use Rattle.pb_parse.specs.declared.schedule.words.Order.{Order}
use Rattle.pb_parse.specs.declared.schedule.code.ScheduleCode.{ScheduleCode}
use Rattle.pb_parse.specs.ScheduleWords.{next_number, next_actor, next_row, observer_named, next_observer, next_change, next_run, next_job, once, launch_of, times_of, step_of, crash_of, next_data_cell, next_acknowledgment, next_cell, once_on, order_by, order_of_words, order_of}
use Rattle.pb_parse.specs.EventLines.{name_of, IsActor, IsRow, IsNamed}
use Rattle.pb_parse.specs.ScheduleFaults.{LaunchActor, ChangeNumber, RunName, RunRow, StepActor, StepTimes, CrashActor, SettleRow, SettleColumn, SettleName, SettleAckRow, ClearRow, ClearColumn, ClearName, ClearAckRow, SweepRow, SweepColumn, IsOutside, IsNoRow, IsNoColumn, IsNobody, StopsAtField}
use Rattle.pb_reading.proofs.Parts.{AreParts, parts_are}
use Rattle.pb_reading.proofs.Readings.{err_is, then_err, next_fault, next_is}
use Rattle.pb_parse.proofs.NextWords.{same_text, next_row_is, next_observer_is, some_named}
use Rattle.pb_parse.proofs.OrdersWritten.{actor_is}
use Rattle.pb_base.proofs.Logic.{chosen_branch}

-- ---- numbers

-- the first word is digits out of this range
record BadNumber (least greatest : ℕ) (words : List (List ℕ)) (cause : ScheduleCode) : Type 0 where
  word : List ℕ
  rest : List (List ℕ)
  cut : words ≡ word ∷ rest
  outside : IsOutside least greatest word cause

next_number_fault : (least greatest : ℕ) (words : List (List ℕ)) (cause : ScheduleCode) → next_number least greatest words ≡ Err cause → (cause ≡ ScheduleCode.Form) ⊎ BadNumber least greatest words cause
unfolding next_number
next_number_fault least greatest words cause h = grind arith

next_row_fault : (words : List (List ℕ)) (cause : ScheduleCode) → next_row words ≡ Err cause → (cause ≡ ScheduleCode.Form) ⊎ BadNumber 0 (2 ^ 64 - 1) words cause
unfolding next_row
next_row_fault words cause h = grind (arith, then_err, next_number_fault)

-- ---- names

-- the first word names no observer
record BadName (observers : List ObserverOf) (words : List (List ℕ)) (cause : ScheduleCode) : Type 0 where
  word : List ℕ
  rest : List (List ℕ)
  cut : words ≡ word ∷ rest
  nobody : IsNobody observers word cause

-- a name is refused only where no observer has it
named_fault : (observers : List ObserverOf) (name : List ℕ) (cause : ScheduleCode) → observer_named observers name ≡ Err cause → IsNobody observers name cause
named_fault observers name cause h = grind (arith, chosen_branch, ltb-false, some_named, err_is)

next_observer_fault : (observers : List ObserverOf) (words : List (List ℕ)) (cause : ScheduleCode) → next_observer observers words ≡ Err cause → (cause ≡ ScheduleCode.Form) ⊎ BadName observers words cause
unfolding next_observer
next_observer_fault observers words cause h = grind (arith, then_err, next_fault, next_is, named_fault)

-- after a name, a row out of range
record BadRowBehind (observers : List ObserverOf) (words : List (List ℕ)) (cause : ScheduleCode) : Type 0 where
  observer : ℕ
  behind : List (List ℕ)
  named : IsNamed observers observer
  written : words ≡ name_of observers observer ∷ behind
  row : BadNumber 0 (2 ^ 64 - 1) behind cause

-- a name and a row, one of them at fault
abbrev NameAndRow : List ObserverOf → List (List ℕ) → ScheduleCode → Type 0
NameAndRow observers words cause = (cause ≡ ScheduleCode.Form) ⊎ (BadName observers words cause ⊎ BadRowBehind observers words cause)

abbrev named_row : {A : Type 0} → (ℕ → Row → A) → List ObserverOf → List (List ℕ) → Result (A × List (List ℕ)) ScheduleCode
named_row make observers words = do
  observer ← next_observer observers words
  row ← next_row observer.1
  Ok (make observer.0 row.0, row.1)

name_and_row : {A : Type 0} (observers : List ObserverOf) (words : List (List ℕ)) (cause : ScheduleCode) (make : ℕ → Row → A) → AreParts 32 words → named_row make observers words ≡ Err cause → NameAndRow observers words cause
name_and_row observers words cause make some h =
    elim (then_err (next_observer observers words) _ cause h) [
      | inl own ↦ grind (arith, next_observer_fault)
      | inr a ↦ let n = next_observer_is observers words a.0 some a.1 in
          elim (then_err (next_row a.0.1) _ cause a.2) [
            | inl own ↦ elim (next_row_fault a.0.1 cause own) [
              | inl form ↦ inl form
              | inr row ↦ inr (inr (record { observer = a.0.0; behind = a.0.1; named = n.named; written = n.written; row = row }))
            ]
            | inr b ↦ let e = b.2 in absurd cc
          ]
    ]

-- ---- jobs

-- `change` and a number out of its range
record BadChange (words : List (List ℕ)) (cause : ScheduleCode) : Type 0 where
  behind : List (List ℕ)
  written : words ≡ codes "change" ∷ behind
  number : BadNumber 1 MAX_CHANGES behind cause

-- `run` with a name that nobody has, or a row out of range after a name
record BadRun (observers : List ObserverOf) (words : List (List ℕ)) (cause : ScheduleCode) : Type 0 where
  behind : List (List ℕ)
  written : words ≡ codes "run" ∷ behind
  field : BadName observers behind cause ⊎ BadRowBehind observers behind cause

-- why a job isn't read: its form, or one of its fields
abbrev BadJob : List ObserverOf → List (List ℕ) → ScheduleCode → Type 0
BadJob observers words cause = (cause ≡ ScheduleCode.Form) ⊎ (BadChange words cause ⊎ BadRun observers words cause)

change_fault : (words : List (List ℕ)) (cause : ScheduleCode) → next_change words ≡ Err cause → (cause ≡ ScheduleCode.Form) ⊎ BadNumber 1 MAX_CHANGES words cause
unfolding next_change
change_fault words cause h = grind (arith, then_err, next_number_fault)

run_fault : (observers : List ObserverOf) (words : List (List ℕ)) (cause : ScheduleCode) → AreParts 32 words → next_run observers words ≡ Err cause → NameAndRow observers words cause
unfolding next_run
run_fault observers words cause some h = name_and_row observers words cause Job.Run some h

in_front : (words : List (List ℕ)) (x : List ℕ × List (List ℕ)) (word : List ℕ) → words ≡ x.0 ∷ x.1 → bytes_eq x.0 word ≡ true → words ≡ word ∷ x.1
in_front words x word cut is = cut ∙ ap (λ (w : List ℕ). w ∷ x.1) (same_text x.0 word is)

-- a job that isn't read is at fault for one of these
job_fault : (observers : List ObserverOf) (words : List (List ℕ)) (cause : ScheduleCode) → AreParts 32 words → next_job observers words ≡ Err cause → BadJob observers words cause
unfolding next_job
job_fault observers words cause some h =
    elim (then_err (next_word ScheduleCode.Form words) _ cause h) [
      | inl none ↦ inl (next_fault ScheduleCode.Form words cause none)
      | inr a ↦ let cut = next_is ScheduleCode.Form words a.0 a.1 in
          let parts = subst (AreParts 32) cut some in
          elim (chosen_branch (bytes_eq a.0.0 (codes "change")) (next_change a.0.1) _ (Err cause) a.2) [
            | inl p ↦ elim (change_fault a.0.1 cause p.1) [
              | inl form ↦ inl form
              | inr number ↦ inr (inl (record { behind = a.0.1; written = in_front words a.0 (codes "change") cut p.0; number = number }))
            ]
            | inr q ↦ elim (chosen_branch (bytes_eq a.0.0 (codes "run")) (next_run observers a.0.1) _ (Err cause) q.1) [
              | inl p ↦ elim (run_fault observers a.0.1 cause parts.1 p.1) [
                | inl form ↦ inl form
                | inr field ↦ inr (inr (record { behind = a.0.1; written = in_front words a.0 (codes "run") cut p.0; field = field }))
              ]
              | inr r ↦ inl (sym (err_is {A = Job × List (List ℕ)} ScheduleCode.Form cause r.1))
            ]
          ]
    ]

-- ---- cells

-- a row, and after it digits that are no column
record BadColumn (words : List (List ℕ)) (cause : ScheduleCode) : Type 0 where
  row : Row
  behind : List (List ℕ)
  fits : IsRow row
  written : words ≡ decimal row.0 ∷ behind
  column : BadNumber 0 (COLUMNS - 1) behind cause

abbrev BadDataCell : List (List ℕ) → ScheduleCode → Type 0
BadDataCell words cause = (cause ≡ ScheduleCode.Form) ⊎ (BadNumber 0 (2 ^ 64 - 1) words cause ⊎ BadColumn words cause)

data_fault : (words : List (List ℕ)) (cause : ScheduleCode) → next_data_cell words ≡ Err cause → BadDataCell words cause
unfolding next_data_cell
data_fault words cause h =
    elim (then_err (next_row words) _ cause h) [
      | inl own ↦ elim (next_row_fault words cause own) [
        | inl form ↦ inl form
        | inr row ↦ inr (inl row)
      ]
      | inr a ↦ let r = next_row_is words a.0 a.1 in
          elim (then_err (next_number 0 (COLUMNS - 1) a.0.1) _ cause a.2) [
            | inl own ↦ elim (next_number_fault 0 (COLUMNS - 1) a.0.1 cause own) [
              | inl form ↦ inl form
              | inr column ↦ inr (inr (record { row = a.0.0; behind = a.0.1; fits = r.1; written = r.0; column = column }))
            ]
            | inr b ↦ let e = b.2 in absurd cc
          ]
    ]

acknowledgment_fault : (observers : List ObserverOf) (words : List (List ℕ)) (cause : ScheduleCode) → AreParts 32 words → next_acknowledgment observers words ≡ Err cause → NameAndRow observers words cause
unfolding next_acknowledgment
acknowledgment_fault observers words cause some h = name_and_row observers words cause (acknowledgment observers) some h

record BadAcknowledgment (observers : List ObserverOf) (words : List (List ℕ)) (cause : ScheduleCode) : Type 0 where
  behind : List (List ℕ)
  written : words ≡ codes "ack" ∷ behind
  field : BadName observers behind cause ⊎ BadRowBehind observers behind cause

abbrev BadCell : List ObserverOf → List (List ℕ) → ScheduleCode → Type 0
BadCell observers words cause = BadDataCell words cause ⊎ BadAcknowledgment observers words cause

-- a cell that isn't read is at fault for its form, or for one of its fields
cell_fault : (observers : List ObserverOf) (words : List (List ℕ)) (cause : ScheduleCode) → AreParts 32 words → next_cell observers words ≡ Err cause → BadCell observers words cause
cell_fault observers [] cause some h = inl (inl (sym (err_is {A = Cell × List (List ℕ)} ScheduleCode.Form cause h)))
cell_fault observers (word ∷ words) cause some h = elim (chosen_branch (bytes_eq word (codes "ack")) (next_acknowledgment observers words) _ (Err cause) h) [
  | inl p ↦ elim (acknowledgment_fault observers words cause some.1 p.1) [
    | inl form ↦ inl (inl form)
    | inr field ↦ inr (record { behind = words; written = ap (λ (w : List ℕ). w ∷ words) (same_text word (codes "ack") p.0); field = field })
  ]
  | inr q ↦ inl (data_fault (word ∷ words) cause q.1)
]

-- ---- orders

-- a line's fault: its form, or the field at which its words stop
abbrev Blames : List ObserverOf → List (List ℕ) → ScheduleCode → Type 0
Blames observers words cause = (cause ≡ ScheduleCode.Form) ⊎ StopsAtField observers words cause

-- what stands after a whole order is a fault of the form
once_fault : (event : Event) (words : List (List ℕ)) (cause : ScheduleCode) → once event words ≡ Err cause → cause ≡ ScheduleCode.Form
unfolding once
once_fault event words cause h = grind arith

launch_job : (observers : List ObserverOf) (actor : ℕ) (words rest : List (List ℕ)) (cause : ScheduleCode) → IsActor actor → words ≡ decimal actor ∷ rest → BadJob observers rest cause → Blames observers (codes "launch" ∷ words) cause
launch_job observers actor words rest cause may is (inl form) = inl form
launch_job observers actor words rest cause may is (inr (inl change)) =
    let n = change.number in
    inr (record { field = ChangeNumber actor; word = n.word; rest = n.rest; cut = ap (λ (ws : List (List ℕ)). codes "launch" ∷ ws) (is ∙ ap (λ (ws : List (List ℕ)). decimal actor ∷ ws) (change.written ∙ ap (λ (ws : List (List ℕ)). codes "change" ∷ ws) n.cut)); fits = may; refused = n.outside })
launch_job observers actor words rest cause may is (inr (inr run)) =
    let front : codes "launch" ∷ words ≡ codes "launch" ∷ decimal actor ∷ codes "run" ∷ run.behind = ap (λ (ws : List (List ℕ)). codes "launch" ∷ ws) (is ∙ ap (λ (ws : List (List ℕ)). decimal actor ∷ ws) run.written) in
    elim run.field [
      | inl name ↦ inr (record { field = RunName actor; word = name.word; rest = name.rest; cut = front ∙ ap (λ (ws : List (List ℕ)). codes "launch" ∷ decimal actor ∷ codes "run" ∷ ws) name.cut; fits = may; refused = name.nobody })
      | inr row ↦ let n = row.row in
          inr (record { field = RunRow actor row.observer; word = n.word; rest = n.rest; cut = front ∙ ap (λ (ws : List (List ℕ)). codes "launch" ∷ decimal actor ∷ codes "run" ∷ ws) (row.written ∙ ap (λ (ws : List (List ℕ)). name_of observers row.observer ∷ ws) n.cut); fits = (may, row.named); refused = n.outside })
    ]

-- a launch that isn't read is at fault for its form or for a field, and so with each verb below
launch_fault : (observers : List ObserverOf) (words : List (List ℕ)) (cause : ScheduleCode) → AreParts 32 words → launch_of observers words ≡ Err cause → Blames observers (codes "launch" ∷ words) cause
unfolding launch_of
launch_fault observers words cause some h =
    elim (then_err (next_actor words) _ cause h) [
      | inl own ↦ elim (next_number_fault 1 (MAX_SEATS - 1) words cause own) [
        | inl form ↦ inl form
        | inr n ↦ inr (record { field = LaunchActor; word = n.word; rest = n.rest; cut = ap (λ (ws : List (List ℕ)). codes "launch" ∷ ws) n.cut; fits = tt; refused = n.outside })
      ]
      | inr a ↦ let n = actor_is words a.0 a.1 in
          let parts = subst (AreParts 32) n.written some in
          elim (then_err (next_job observers a.0.1) _ cause a.2) [
            | inl own ↦ launch_job observers a.0.0 words a.0.1 cause n.fits n.written (job_fault observers a.0.1 cause parts.1 own)
            | inr b ↦ inl (once_fault (Event.Launch a.0.0 b.0.0) b.0.1 cause b.2)
          ]
    ]

times_fault : (words : List (List ℕ)) (cause : ScheduleCode) → times_of words ≡ Err cause → (cause ≡ ScheduleCode.Form) ⊎ BadNumber 1 MAX_EVENTS words cause
unfolding times_of
times_fault words cause h = grind arith

step_fault : (observers : List ObserverOf) (words : List (List ℕ)) (cause : ScheduleCode) → step_of words ≡ Err cause → Blames observers (codes "step" ∷ words) cause
unfolding step_of
step_fault observers words cause h =
    elim (then_err (next_actor words) _ cause h) [
      | inl own ↦ elim (next_number_fault 1 (MAX_SEATS - 1) words cause own) [
        | inl form ↦ inl form
        | inr n ↦ inr (record { field = StepActor; word = n.word; rest = n.rest; cut = ap (λ (ws : List (List ℕ)). codes "step" ∷ ws) n.cut; fits = tt; refused = n.outside })
      ]
      | inr a ↦ let k = actor_is words a.0 a.1 in
          elim (then_err (times_of a.0.1) _ cause a.2) [
            | inl own ↦ elim (times_fault a.0.1 cause own) [
              | inl form ↦ inl form
              | inr n ↦ inr (record { field = StepTimes a.0.0; word = n.word; rest = n.rest; cut = ap (λ (ws : List (List ℕ)). codes "step" ∷ ws) (k.written ∙ ap (λ (ws : List (List ℕ)). decimal a.0.0 ∷ ws) n.cut); fits = k.fits; refused = n.outside })
            ]
            | inr b ↦ let e = b.2 in absurd cc
          ]
    ]

crash_fault : (observers : List ObserverOf) (words : List (List ℕ)) (cause : ScheduleCode) → crash_of words ≡ Err cause → Blames observers (codes "crash" ∷ words) cause
unfolding crash_of
crash_fault observers words cause h =
    elim (then_err (next_actor words) _ cause h) [
      | inl own ↦ elim (next_number_fault 1 (MAX_SEATS - 1) words cause own) [
        | inl form ↦ inl form
        | inr n ↦ inr (record { field = CrashActor; word = n.word; rest = n.rest; cut = ap (λ (ws : List (List ℕ)). codes "crash" ∷ ws) n.cut; fits = tt; refused = n.outside })
      ]
      | inr a ↦ inl (once_fault (Event.Crash a.0.0) a.0.1 cause a.2)
    ]

on_fault : (make : Cell → Event) (r : Result (Cell × List (List ℕ)) ScheduleCode) (cause : ScheduleCode) → once_on make r ≡ Err cause → (cause ≡ ScheduleCode.Form) ⊎ (r ≡ Err cause)
unfolding once_on
on_fault make r cause h = grind (arith, then_err, once_fault)

-- where a verb that names any cell may stop: at a row, a column, a name, or a row after a name
record CellFields (observers : List ObserverOf) (verb : List ℕ) : Type 0 where
  blame_row : (words rest : List (List ℕ)) (word : List ℕ) (cause : ScheduleCode) → words ≡ verb ∷ word ∷ rest → IsNoRow word cause → StopsAtField observers words cause
  blame_column : (words rest : List (List ℕ)) (row : Row) (word : List ℕ) (cause : ScheduleCode) → words ≡ verb ∷ decimal row.0 ∷ word ∷ rest → IsRow row → IsNoColumn word cause → StopsAtField observers words cause
  blame_name : (words rest : List (List ℕ)) (word : List ℕ) (cause : ScheduleCode) → words ≡ verb ∷ codes "ack" ∷ word ∷ rest → IsNobody observers word cause → StopsAtField observers words cause
  blame_ack_row : (words rest : List (List ℕ)) (o : ℕ) (word : List ℕ) (cause : ScheduleCode) → words ≡ verb ∷ codes "ack" ∷ name_of observers o ∷ word ∷ rest → IsNamed observers o → IsNoRow word cause → StopsAtField observers words cause

settle_fields : (observers : List ObserverOf) → CellFields observers (codes "settle")
settle_fields observers = record {
  blame_row = λ words rest word cause cut out. record { field = SettleRow; word = word; rest = rest; cut = cut; fits = tt; refused = out };
  blame_column = λ words rest row word cause cut fits out. record { field = SettleColumn row; word = word; rest = rest; cut = cut; fits = fits; refused = out };
  blame_name = λ words rest word cause cut out. record { field = SettleName; word = word; rest = rest; cut = cut; fits = tt; refused = out };
  blame_ack_row = λ words rest o word cause cut fits out. record { field = SettleAckRow o; word = word; rest = rest; cut = cut; fits = fits; refused = out };
}

clear_fields : (observers : List ObserverOf) → CellFields observers (codes "clear")
clear_fields observers = record {
  blame_row = λ words rest word cause cut out. record { field = ClearRow; word = word; rest = rest; cut = cut; fits = tt; refused = out };
  blame_column = λ words rest row word cause cut fits out. record { field = ClearColumn row; word = word; rest = rest; cut = cut; fits = fits; refused = out };
  blame_name = λ words rest word cause cut out. record { field = ClearName; word = word; rest = rest; cut = cut; fits = tt; refused = out };
  blame_ack_row = λ words rest o word cause cut fits out. record { field = ClearAckRow o; word = word; rest = rest; cut = cut; fits = fits; refused = out };
}

bad_cell : (observers : List ObserverOf) (verb : List ℕ) (words : List (List ℕ)) (cause : ScheduleCode) → CellFields observers verb → BadCell observers words cause → Blames observers (verb ∷ words) cause
bad_cell observers verb words cause f (inl (inl form)) = inl form
bad_cell observers verb words cause f (inl (inr (inl n))) = inr (f.blame_row (verb ∷ words) n.rest n.word cause (ap (λ (ws : List (List ℕ)). verb ∷ ws) n.cut) n.outside)
bad_cell observers verb words cause f (inl (inr (inr c))) =
    let n = c.column in
    inr (f.blame_column (verb ∷ words) n.rest c.row n.word cause (ap (λ (ws : List (List ℕ)). verb ∷ ws) (c.written ∙ ap (λ (ws : List (List ℕ)). decimal c.row.0 ∷ ws) n.cut)) c.fits n.outside)
bad_cell observers verb words cause f (inr a) =
    elim a.field [
      | inl name ↦ inr (f.blame_name (verb ∷ words) name.rest name.word cause (ap (λ (ws : List (List ℕ)). verb ∷ ws) (a.written ∙ ap (λ (ws : List (List ℕ)). codes "ack" ∷ ws) name.cut)) name.nobody)
      | inr r ↦ let n = r.row in
          inr (f.blame_ack_row (verb ∷ words) n.rest r.observer n.word cause (ap (λ (ws : List (List ℕ)). verb ∷ ws) (a.written ∙ ap (λ (ws : List (List ℕ)). codes "ack" ∷ ws) (r.written ∙ ap (λ (ws : List (List ℕ)). name_of observers r.observer ∷ ws) n.cut))) r.named n.outside)
    ]

-- `settle` and `clear` have the same fields, so one lemma serves both
any_cell_fault : (observers : List ObserverOf) (verb : List ℕ) (make : Cell → Event) (words : List (List ℕ)) (cause : ScheduleCode) → AreParts 32 words → CellFields observers verb → once_on make (next_cell observers words) ≡ Err cause → Blames observers (verb ∷ words) cause
any_cell_fault observers verb make words cause some f h = grind (arith, on_fault, bad_cell, cell_fault)

bad_data : (observers : List ObserverOf) (words : List (List ℕ)) (cause : ScheduleCode) → BadDataCell words cause → Blames observers (codes "sweep" ∷ words) cause
bad_data observers words cause (inl form) = inl form
bad_data observers words cause (inr (inl n)) = inr (record { field = SweepRow; word = n.word; rest = n.rest; cut = ap (λ (ws : List (List ℕ)). codes "sweep" ∷ ws) n.cut; fits = tt; refused = n.outside })
bad_data observers words cause (inr (inr c)) =
    let n = c.column in
    inr (record { field = SweepColumn c.row; word = n.word; rest = n.rest; cut = ap (λ (ws : List (List ℕ)). codes "sweep" ∷ ws) (c.written ∙ ap (λ (ws : List (List ℕ)). decimal c.row.0 ∷ ws) n.cut); fits = c.fits; refused = n.outside })

sweep_fault : (observers : List ObserverOf) (words : List (List ℕ)) (cause : ScheduleCode) → once_on Event.Sweep (next_data_cell words) ≡ Err cause → Blames observers (codes "sweep" ∷ words) cause
sweep_fault observers words cause h =
    elim (on_fault Event.Sweep (next_data_cell words) cause h) [
      | inl form ↦ inl form
      | inr own ↦ bad_data observers words cause (data_fault words cause own)
    ]

-- one verb: if the word is it, the fault is in what stands after it, and else the other verbs name the fault
verb_fault : (verb this : List ℕ) (r others : Result Order ScheduleCode) (cause : ScheduleCode) (P : List ℕ → Type 0) → cond (bytes_eq verb this) r others ≡ Err cause → (r ≡ Err cause → P this) → (others ≡ Err cause → P verb) → P verb
verb_fault verb this r others cause P h mine rest = grind (arith, chosen_branch, same_text)

by_verb : (observers : List ObserverOf) (verb : List ℕ) (words : List (List ℕ)) (cause : ScheduleCode) → AreParts 32 words → order_by observers verb words ≡ Err cause → Blames observers (verb ∷ words) cause
by_verb observers verb words cause some h =
    let P = λ (v : List ℕ). Blames observers (v ∷ words) cause in
    verb_fault verb (codes "launch") _ _ cause P h (launch_fault observers words cause some)
    (λ h. verb_fault verb (codes "step") _ _ cause P h (step_fault observers words cause)
    (λ h. verb_fault verb (codes "crash") _ _ cause P h (crash_fault observers words cause)
    (λ h. verb_fault verb (codes "settle") _ _ cause P h (any_cell_fault observers (codes "settle") Event.Settle words cause some (settle_fields observers))
    (λ h. verb_fault verb (codes "clear") _ _ cause P h (any_cell_fault observers (codes "clear") Event.Clear words cause some (clear_fields observers))
    (λ h. verb_fault verb (codes "sweep") _ _ cause P h (sweep_fault observers words cause) (λ h. inl (sym (err_is {A = Order} ScheduleCode.Form cause h))))))))

-- with any words at its beginning, a line's fault is its form or a field's
words_blamed : (observers : List ObserverOf) (words : List (List ℕ)) (cause : ScheduleCode) → AreParts 32 words → order_of_words observers words ≡ Err cause → Blames observers words cause
unfolding order_of_words
words_blamed observers words cause some h = grind (arith, err_is, by_verb)

-- so a line that isn't of a wrong form stops at a field
pub blames_field : (observers : List ObserverOf) (line : List ℕ) (cause : ScheduleCode) → order_of observers line ≡ Err cause → (cause ≡ ScheduleCode.Form) ⊎ StopsAtField observers (words_of line) cause
blames_field observers line cause h = words_blamed observers (words_of line) cause (parts_are 32 line) h
