-- A text is read as events exactly where its lines ask for them.
use Rattle.std.proofs.Common.{◌≡◌, ℕ, ◌+◌, ◌≤◌, ◌↔◌, true, false, List, [], ◌++◌, length, Ok, refl, sym, ap, subst, ◌∙◌, arith, length-append, replicate}
use Rattle.std.proofs.lemmas.Bool.{ltb-false, le-ltb}
use Rattle.std.proofs.Math.ListN.{length-replicate}
use Rattle.pb_parse.specs.Words.{MAX_EVENTS, ◌>>=◌, is_skipped, lines_of, ObserverOf}
use Rattle.pb_reading.proofs.LinesInTurn.{Adds, TakesLines, read_adds_all, said_is_read}
use Rattle.pb_reading.proofs.Readings.{then_ok, ok_is, else_ok}
use Rattle.pb_parse.specs.declared.event.Event.{Event}
use Rattle.pb_parse.specs.declared.schedule.words.Order.{Order}
use Rattle.pb_parse.specs.ScheduleCodes.{schedule_code}
use Rattle.pb_parse.specs.ScheduleWords.{order_of}
use Rattle.pb_parse.specs.Schedules.{with_order, with_event_line, schedule_of}
use Rattle.pb_parse.specs.EventLines.{IsSchedule}

abbrev asked : Order → List Event
asked order = replicate order.times order.event

-- no more events than a schedule may have
abbrev Room : List Event → Type 0
Room events = length events ≤ MAX_EVENTS

-- ---- one line

-- a skipped line leaves the events as they are
pub skip_line : (observers : List ObserverOf) (before : List Event) (l : List ℕ) → is_skipped l ≡ true → with_event_line observers before l ≡ Ok before
unfolding with_event_line
skip_line observers before l is = rw is refl

-- any other adds what it asks for
pub shown_line : (observers : List ObserverOf) (before : List Event) (l : List ℕ) → is_skipped l ≡ false → with_event_line observers before l ≡ (order_of observers l >>= with_order before)
unfolding with_event_line
shown_line observers before l is = rw is refl

-- an order asks for so many events
length_asked : (order : Order) → length (asked order) ≡ order.times
length_asked order = length-replicate order.times order.event

-- a line that is read adds its order's events, and goes not past
take_line : (observers : List ObserverOf) (before after : List Event) (l : List ℕ) → is_skipped l ≡ false → with_event_line observers before l ≡ Ok after → Adds (order_of observers) asked Room before after l
take_line observers before after l is h = grind (arith, then_ok, shown_line, else_ok, ok_is, ltb-false, length_asked, length-append)

-- an order that fits is added whole
added : (before : List Event) (order : Order) → length before + order.times ≤ MAX_EVENTS → with_order before order ≡ Ok (before ++ asked order)
added before order most = rw (le-ltb MAX_EVENTS (length before + order.times) most) refl

add_line : (observers : List ObserverOf) (before : List Event) (l : List ℕ) (order : Order) → is_skipped l ≡ false → order_of observers l ≡ Ok order → Room (before ++ asked order) → with_event_line observers before l ≡ Ok (before ++ asked order)
add_line observers before l order is says room = grind (arith, length_asked, length-append, shown_line, added, order.times)

fewer : (before more : List Event) → Room (before ++ more) → Room before
fewer before more room = let b = length-append before more in omega (arith, b, room)

takes : (observers : List ObserverOf) → TakesLines (with_event_line observers) (order_of observers) asked Room
takes observers = record { skips = skip_line observers; adds = take_line observers; takes = add_line observers; fewer = fewer }

-- ---- and all

whole : (observers : List ObserverOf) (text : List ℕ) (events : List Event) → schedule_of observers text ≡ Ok events → IsSchedule observers text events
whole observers text events h =
    let f = read_adds_all schedule_code (with_event_line observers) (order_of observers) asked Room (takes observers) 0 [] events (lines_of text) h (omega arith) in
    record { orders = f.things; lines = f.says; whole = f.whole; few = f.room }

back_whole : (observers : List ObserverOf) (text : List ℕ) (events : List Event) → IsSchedule observers text events → schedule_of observers text ≡ Ok events
back_whole observers text events s =
    said_is_read schedule_code (with_event_line observers) (order_of observers) asked Room (takes observers) 0 (lines_of text) [] s.orders s.lines (subst Room s.whole s.few)
    ∙ ap Ok (sym s.whole)

-- both ways: a text is read as events exactly where its lines ask for them
pub text_is : (observers : List ObserverOf) (text : List ℕ) (events : List Event) → (schedule_of observers text ≡ Ok events) ↔ IsSchedule observers text events
text_is observers text events = (whole observers text events, back_whole observers text events)
