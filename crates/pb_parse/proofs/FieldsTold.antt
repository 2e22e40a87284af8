-- If the words of a line stop at a field, the line has the field's fault, with any words after it.
use Rattle.std.proofs.Common.{◌≡◌, ℕ, ◌-◌, ◌^◌, ◌<◌, Bool, true, false, List, ◌∷◌, ◌++◌, length, Result, Err, refl, sym, ap, subst, ◌∙◌, arith, nat_lt, codes, decimal, bytes_eq}
use Rattle.std.proofs.lemmas.Bool.{ltb-true}
use Rattle.pb_parse.specs.Words.{COLUMNS, MAX_CHANGES, MAX_EVENTS, MAX_SEATS, Cell, Row, is_numeral, words_of, ObserverOf}
use Rattle.pb_parse.specs.declared.event.Event.{Event}
use Rattle.pb_parse.specs.declared.schedule.code.ScheduleCode.{ScheduleCode}
use Rattle.pb_parse.specs.ScheduleWords.{number_between, next_number, next_row, first_named, next_observer, next_change, next_run, next_job, launch_of, times_of, step_of, crash_of, next_data_cell, next_acknowledgment, next_cell, once_on, order_of_words, order_of}
use Rattle.pb_parse.specs.EventLines.{name_of, IsActor, IsRow, IsNamed}
use Rattle.pb_parse.specs.ScheduleFaults.{Field, LaunchActor, ChangeNumber, RunName, RunRow, StepActor, StepTimes, CrashActor, SettleRow, SettleColumn, SettleName, SettleAckRow, ClearRow, ClearColumn, ClearName, ClearAckRow, SweepRow, SweepColumn, words_in_front, FitsInFront, IsOutside, IsNoRow, IsNoColumn, IsNobody, IsRefusedAt, StopsAtField}
use Rattle.pb_parse.proofs.NextWords.{same_text, next_row_back, next_observer_back, first_is}
use Rattle.pb_parse.proofs.OrdersRead.{actor_back, not_ack}

refused : {A : Type 0} (e : ScheduleCode) (cause : ScheduleCode) → cause ≡ e → ◌≡◌ {A = Result A ScheduleCode} (Err e) (Err cause)
refused {A} e cause is = ap (λ (c : ScheduleCode). Err c) (sym is)

-- ---- numbers

-- digits out of the range are refused as such
outside_is : (least greatest : ℕ) (word : List ℕ) (cause : ScheduleCode) → IsOutside least greatest word cause → number_between least greatest word ≡ Err cause
outside_is least greatest word cause out = grind arith

number_refused : (least greatest : ℕ) (word : List ℕ) (rest : List (List ℕ)) (cause : ScheduleCode) → IsOutside least greatest word cause → next_number least greatest (word ∷ rest) ≡ Err cause
unfolding next_number
number_refused least greatest word rest cause out = rw (outside_is least greatest word cause out) refl

row_refused : (word : List ℕ) (rest : List (List ℕ)) (cause : ScheduleCode) → IsNoRow word cause → next_row (word ∷ rest) ≡ Err cause
unfolding next_row
row_refused word rest cause out = rw (number_refused 0 (2 ^ 64 - 1) word rest cause out) refl

-- ---- names

-- a name that no observer has is found nowhere
nobody_there : (observers : List ObserverOf) (word : List ℕ) (cause : ScheduleCode) (b : Bool) → nat_lt (first_named observers word) (length observers) ≡ b → IsNobody observers word cause → b ≡ false
nobody_there observers word cause false is none = refl
nobody_there observers word cause true is none =
    let lt : first_named observers word < length observers = ltb-true _ _ is in
    let f = first_is observers word lt in
    absurd (none.nobody (first_named observers word) lt f.same)

-- so it is refused, with the fault of a name that no observer has
name_refused : (observers : List ObserverOf) (word : List ℕ) (rest : List (List ℕ)) (cause : ScheduleCode) → IsNobody observers word cause → next_observer observers (word ∷ rest) ≡ Err cause
unfolding next_observer
name_refused observers word rest cause none = rw (nobody_there observers word cause _ refl none) (refused {A = ℕ × List (List ℕ)} ScheduleCode.NoObserver cause none.told)

-- ---- jobs

change_refused : (word : List ℕ) (rest : List (List ℕ)) (cause : ScheduleCode) → IsOutside 1 MAX_CHANGES word cause → next_change (word ∷ rest) ≡ Err cause
unfolding next_change
change_refused word rest cause out = rw (number_refused 1 MAX_CHANGES word rest cause out) refl

run_name_refused : (observers : List ObserverOf) (word : List ℕ) (rest : List (List ℕ)) (cause : ScheduleCode) → IsNobody observers word cause → next_run observers (word ∷ rest) ≡ Err cause
unfolding next_run
run_name_refused observers word rest cause none = rw (name_refused observers word rest cause none) refl

run_row_refused : (observers : List ObserverOf) (o : ℕ) (word : List ℕ) (rest : List (List ℕ)) (cause : ScheduleCode) → IsNamed observers o → IsNoRow word cause → next_run observers (name_of observers o ∷ word ∷ rest) ≡ Err cause
unfolding next_run
run_row_refused observers o word rest cause named out = rw (next_observer_back observers o (word ∷ rest) named, row_refused word rest cause out) refl

-- after an actor, a job that is refused is the launch's fault
launch_job_refused : (observers : List ObserverOf) (actor : ℕ) (words : List (List ℕ)) (cause : ScheduleCode) → IsActor actor → next_job observers words ≡ Err cause → launch_of observers (decimal actor ∷ words) ≡ Err cause
unfolding launch_of
launch_job_refused observers actor words cause may is = rw (actor_back actor words may, is) refl

launch_actor_refused : (observers : List ObserverOf) (word : List ℕ) (rest : List (List ℕ)) (cause : ScheduleCode) → IsOutside 1 (MAX_SEATS - 1) word cause → launch_of observers (word ∷ rest) ≡ Err cause
unfolding launch_of
launch_actor_refused observers word rest cause out = rw (number_refused 1 (MAX_SEATS - 1) word rest cause out) refl

-- ---- cells

column_refused : (row : Row) (word : List ℕ) (rest : List (List ℕ)) (cause : ScheduleCode) → IsRow row → IsNoColumn word cause → next_data_cell (decimal row.0 ∷ word ∷ rest) ≡ Err cause
unfolding next_data_cell
column_refused row word rest cause fits out = rw (next_row_back row (word ∷ rest) fits, number_refused 0 (COLUMNS - 1) word rest cause out) refl

data_row_refused : (word : List ℕ) (rest : List (List ℕ)) (cause : ScheduleCode) → IsNoRow word cause → next_data_cell (word ∷ rest) ≡ Err cause
unfolding next_data_cell
data_row_refused word rest cause out = rw (row_refused word rest cause out) refl

-- digits aren't `ack`
digits_apart : (word : List ℕ) (b : Bool) → is_numeral word ≡ true → bytes_eq word (codes "ack") ≡ b → b ≡ false
digits_apart word false digits is = refl
digits_apart word true digits is = let e : is_numeral (codes "ack") ≡ true = subst (λ (w : List ℕ). is_numeral w ≡ true) (same_text word (codes "ack") is) digits in absurd cc

cell_row_refused : (observers : List ObserverOf) (word : List ℕ) (rest : List (List ℕ)) (cause : ScheduleCode) → IsNoRow word cause → next_cell observers (word ∷ rest) ≡ Err cause
cell_row_refused observers word rest cause out = rw (digits_apart word (bytes_eq word (codes "ack")) out.numeral refl) (data_row_refused word rest cause out)

cell_column_refused : (observers : List ObserverOf) (row : Row) (word : List ℕ) (rest : List (List ℕ)) (cause : ScheduleCode) → IsRow row → IsNoColumn word cause → next_cell observers (decimal row.0 ∷ word ∷ rest) ≡ Err cause
cell_column_refused observers row word rest cause fits out = rw (not_ack row.0 (bytes_eq (decimal row.0) (codes "ack")) fits refl) (column_refused row word rest cause fits out)

ack_name_refused : (observers : List ObserverOf) (word : List ℕ) (rest : List (List ℕ)) (cause : ScheduleCode) → IsNobody observers word cause → next_cell observers (codes "ack" ∷ word ∷ rest) ≡ Err cause
unfolding next_acknowledgment
ack_name_refused observers word rest cause none = rw (name_refused observers word rest cause none) refl

ack_row_refused : (observers : List ObserverOf) (o : ℕ) (word : List ℕ) (rest : List (List ℕ)) (cause : ScheduleCode) → IsNamed observers o → IsNoRow word cause → next_cell observers (codes "ack" ∷ name_of observers o ∷ word ∷ rest) ≡ Err cause
unfolding next_acknowledgment
ack_row_refused observers o word rest cause named out = rw (next_observer_back observers o (word ∷ rest) named, row_refused word rest cause out) refl

on_refused : (make : Cell → Event) (r : Result (Cell × List (List ℕ)) ScheduleCode) (cause : ScheduleCode) → r ≡ Err cause → once_on make r ≡ Err cause
unfolding once_on
on_refused make r cause is = rw is refl

-- ---- orders

step_actor_refused : (word : List ℕ) (rest : List (List ℕ)) (cause : ScheduleCode) → IsOutside 1 (MAX_SEATS - 1) word cause → step_of (word ∷ rest) ≡ Err cause
unfolding step_of
step_actor_refused word rest cause out = rw (number_refused 1 (MAX_SEATS - 1) word rest cause out) refl

step_times_refused : (actor : ℕ) (word : List ℕ) (rest : List (List ℕ)) (cause : ScheduleCode) → IsActor actor → IsOutside 1 MAX_EVENTS word cause → step_of (decimal actor ∷ word ∷ rest) ≡ Err cause
unfolding step_of times_of
step_times_refused actor word rest cause may out = rw (actor_back actor (word ∷ rest) may, outside_is 1 MAX_EVENTS word cause out) refl

crash_refused : (word : List ℕ) (rest : List (List ℕ)) (cause : ScheduleCode) → IsOutside 1 (MAX_SEATS - 1) word cause → crash_of (word ∷ rest) ≡ Err cause
unfolding crash_of
crash_refused word rest cause out = rw (number_refused 1 (MAX_SEATS - 1) word rest cause out) refl

-- a word that can't stand in its field is refused there, after words that may stand before it
field_refused : (observers : List ObserverOf) (field : Field) (word : List ℕ) (rest : List (List ℕ)) (cause : ScheduleCode) → FitsInFront observers field → IsRefusedAt observers field word cause → order_of_words observers (words_in_front observers field ++ word ∷ rest) ≡ Err cause
unfolding order_of_words next_job
field_refused observers LaunchActor word rest cause fits out = launch_actor_refused observers word rest cause out
field_refused observers (ChangeNumber actor) word rest cause fits out = launch_job_refused observers actor _ cause fits (change_refused word rest cause out)
field_refused observers (RunName actor) word rest cause fits out = launch_job_refused observers actor _ cause fits (run_name_refused observers word rest cause out)
field_refused observers (RunRow actor o) word rest cause fits out = launch_job_refused observers actor _ cause fits.0 (run_row_refused observers o word rest cause fits.1 out)
field_refused observers StepActor word rest cause fits out = step_actor_refused word rest cause out
field_refused observers (StepTimes actor) word rest cause fits out = step_times_refused actor word rest cause fits out
field_refused observers CrashActor word rest cause fits out = crash_refused word rest cause out
field_refused observers SettleRow word rest cause fits out = on_refused Event.Settle _ cause (cell_row_refused observers word rest cause out)
field_refused observers (SettleColumn row) word rest cause fits out = on_refused Event.Settle _ cause (cell_column_refused observers row word rest cause fits out)
field_refused observers SettleName word rest cause fits out = on_refused Event.Settle _ cause (ack_name_refused observers word rest cause out)
field_refused observers (SettleAckRow o) word rest cause fits out = on_refused Event.Settle _ cause (ack_row_refused observers o word rest cause fits out)
field_refused observers ClearRow word rest cause fits out = on_refused Event.Clear _ cause (cell_row_refused observers word rest cause out)
field_refused observers (ClearColumn row) word rest cause fits out = on_refused Event.Clear _ cause (cell_column_refused observers row word rest cause fits out)
field_refused observers ClearName word rest cause fits out = on_refused Event.Clear _ cause (ack_name_refused observers word rest cause out)
field_refused observers (ClearAckRow o) word rest cause fits out = on_refused Event.Clear _ cause (ack_row_refused observers o word rest cause fits out)
field_refused observers SweepRow word rest cause fits out = on_refused Event.Sweep _ cause (data_row_refused word rest cause out)
field_refused observers (SweepColumn row) word rest cause fits out = on_refused Event.Sweep _ cause (column_refused row word rest cause fits out)

-- a line that stops at a field has the field's fault
pub field_fault_told : (observers : List ObserverOf) (line : List ℕ) (cause : ScheduleCode) → StopsAtField observers (words_of line) cause → order_of observers line ≡ Err cause
field_fault_told observers line cause s = ap (order_of_words observers) s.cut ∙ field_refused observers s.field s.word s.rest cause s.fits s.refused
