-- Too many events are the fault exactly of a line that is read and goes past what a schedule may have.
use Rattle.std.proofs.Common.{arith, ◌≡◌, ◌≢◌, ℕ, ◌+◌, ◌<◌, Bool, false, List, length, Ok, Err, refl, ◌∙◌, inl, inr, ◌⊎◌, ◌↔◌}
use Rattle.std.proofs.lemmas.Bool.{lt-ltb}
use Rattle.pb_parse.specs.Words.{MAX_EVENTS, is_skipped, ObserverOf}
use Rattle.pb_parse.specs.declared.event.Event.{Event}
use Rattle.pb_parse.specs.declared.schedule.words.Order.{Order}
use Rattle.pb_parse.specs.declared.schedule.code.ScheduleCode.{ScheduleCode}
use Rattle.pb_parse.specs.ScheduleWords.{order_of}
use Rattle.pb_parse.specs.Schedules.{with_order, with_event_line}
use Rattle.pb_parse.specs.ScheduleFaults.{Field, IsRefusedAt, GoesPast}
use Rattle.pb_reading.proofs.Readings.{then_err}
use Rattle.pb_parse.proofs.FieldsRefused.{blames_field}
use Rattle.pb_parse.proofs.WholeSchedules.{skip_line, shown_line}

-- the causes of a field's refusal
abbrev IsFieldCause : ScheduleCode → Type 0
IsFieldCause cause = (cause ≡ ScheduleCode.Range) ⊎ (cause ≡ ScheduleCode.NoObserver)

-- a field is refused as out of range, or as a name that no observer has
field_cause : (observers : List ObserverOf) (field : Field) (word : List ℕ) (cause : ScheduleCode) → IsRefusedAt observers field word cause → IsFieldCause cause
field_cause observers field word cause out = grind arith

-- so a line's own fault is its form or one of these two, and never too many events
line_cause : (observers : List ObserverOf) (line : List ℕ) (cause : ScheduleCode) → order_of observers line ≡ Err cause → (cause ≡ ScheduleCode.Form) ⊎ IsFieldCause cause
line_cause observers line cause h = elim (blames_field observers line cause h) [
  | inl form ↦ inl form
  | inr s ↦ inr (field_cause observers s.field s.word cause s.refused)
]

-- so too many events are no line's own fault
never : (cause : ScheduleCode) → (cause ≡ ScheduleCode.Form) ⊎ IsFieldCause cause → cause ≢ ScheduleCode.TooMany
never cause w is = grind arith

-- ---- one line

-- why a line that isn't skipped is at fault: by itself, or since it goes past what a schedule may have
record Faulty (observers : List ObserverOf) (before : List Event) (line : List ℕ) (cause : ScheduleCode) : Type 0 where
  shown : is_skipped line ≡ false
  how : (order_of observers line ≡ Err cause) ⊎ ((order : Order) × (order_of observers line ≡ Ok order) × (MAX_EVENTS < length before + order.times) × (ScheduleCode.TooMany ≡ cause))

-- events are refused for nothing but their number
past : (before : List Event) (order : Order) (cause : ScheduleCode) → with_order before order ≡ Err cause → (MAX_EVENTS < length before + order.times) × (ScheduleCode.TooMany ≡ cause)
past before order cause h = grind arith

faulty : (observers : List ObserverOf) (before : List Event) (line : List ℕ) (cause : ScheduleCode) (b : Bool) → is_skipped line ≡ b → with_event_line observers before line ≡ Err cause → Faulty observers before line cause
faulty observers before line cause b is h = grind (arith, skip_line, then_err, shown_line, past)

-- 92 comes only where a line is read and goes past
goes_past : (observers : List ObserverOf) (before : List Event) (line : List ℕ) → with_event_line observers before line ≡ Err ScheduleCode.TooMany → GoesPast observers before line
goes_past observers before line h = grind (arith, faulty, never, line_cause, past)

-- and a line that is read and goes past is 92
too_many : (observers : List ObserverOf) (before : List Event) (line : List ℕ) → GoesPast observers before line → with_event_line observers before line ≡ Err ScheduleCode.TooMany
too_many observers before line g = shown_line observers before line g.shown ∙ rw (g.read, lt-ltb MAX_EVENTS (length before + g.order.times) g.past) refl

pub told_too_many : (observers : List ObserverOf) (before : List Event) (line : List ℕ) → (with_event_line observers before line ≡ Err ScheduleCode.TooMany) ↔ GoesPast observers before line
told_too_many observers before line = (goes_past observers before line, too_many observers before line)
