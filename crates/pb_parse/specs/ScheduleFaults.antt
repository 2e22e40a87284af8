-- Where a schedule is at fault: defined by the words of a line up to one that can't stand there, and not by what a reader
-- meets first. The laws of schedules cite it.
use Rattle.std.specs.Prelude.{◌≡◌, ◌≢◌, ◌⊎◌, ℕ, ◌-◌, ◌^◌, ◌<◌, ◌+◌, true, false, List, [], ◌∷◌, ◌++◌, length, codes, Ok, decimal}
use Rattle.std.specs.Str.Parse.{digits_value}
use Rattle.pb_parse.specs.Words.{COLUMNS, MAX_CHANGES, MAX_EVENTS, MAX_SEATS, Row, is_numeral, is_skipped, ObserverOf}
use Rattle.pb_parse.specs.declared.event.Event.{Event}
use Rattle.pb_parse.specs.declared.schedule.words.Order.{Order}
use Rattle.pb_parse.specs.declared.schedule.code.ScheduleCode.{ScheduleCode}
use Rattle.pb_parse.specs.ScheduleWords.{order_of}
use Rattle.pb_parse.specs.EventLines.{name_of, IsActor, IsRow, IsNamed}

-- ---- fields

-- a number or a name of a line, with what the words in front of it name
pub data Field : Type 0 where
  LaunchActor : Field
  ChangeNumber : ℕ → Field
  RunName : ℕ → Field
  RunRow : ℕ → ℕ → Field
  StepActor : Field
  StepTimes : ℕ → Field
  CrashActor : Field
  SettleRow : Field
  SettleColumn : Row → Field
  SettleName : Field
  SettleAckRow : ℕ → Field
  ClearRow : Field
  ClearColumn : Row → Field
  ClearName : Field
  ClearAckRow : ℕ → Field
  SweepRow : Field
  SweepColumn : Row → Field

-- the words of a line up to its field, character for character
abbrev pub words_in_front : List ObserverOf → Field → List (List ℕ)
words_in_front observers LaunchActor = codes "launch" ∷ []
words_in_front observers (ChangeNumber actor) = codes "launch" ∷ decimal actor ∷ codes "change" ∷ []
words_in_front observers (RunName actor) = codes "launch" ∷ decimal actor ∷ codes "run" ∷ []
words_in_front observers (RunRow actor o) = codes "launch" ∷ decimal actor ∷ codes "run" ∷ name_of observers o ∷ []
words_in_front observers StepActor = codes "step" ∷ []
words_in_front observers (StepTimes actor) = codes "step" ∷ decimal actor ∷ []
words_in_front observers CrashActor = codes "crash" ∷ []
words_in_front observers SettleRow = codes "settle" ∷ []
words_in_front observers (SettleColumn row) = codes "settle" ∷ decimal row.0 ∷ []
words_in_front observers SettleName = codes "settle" ∷ codes "ack" ∷ []
words_in_front observers (SettleAckRow o) = codes "settle" ∷ codes "ack" ∷ name_of observers o ∷ []
words_in_front observers ClearRow = codes "clear" ∷ []
words_in_front observers (ClearColumn row) = codes "clear" ∷ decimal row.0 ∷ []
words_in_front observers ClearName = codes "clear" ∷ codes "ack" ∷ []
words_in_front observers (ClearAckRow o) = codes "clear" ∷ codes "ack" ∷ name_of observers o ∷ []
words_in_front observers SweepRow = codes "sweep" ∷ []
words_in_front observers (SweepColumn row) = codes "sweep" ∷ decimal row.0 ∷ []

-- what the words in front name may stand there
abbrev pub FitsInFront : List ObserverOf → Field → Type 0
FitsInFront observers LaunchActor = Unit {0}
FitsInFront observers (ChangeNumber actor) = IsActor actor
FitsInFront observers (RunName actor) = IsActor actor
FitsInFront observers (RunRow actor o) = IsActor actor × IsNamed observers o
FitsInFront observers StepActor = Unit {0}
FitsInFront observers (StepTimes actor) = IsActor actor
FitsInFront observers CrashActor = Unit {0}
FitsInFront observers SettleRow = Unit {0}
FitsInFront observers (SettleColumn row) = IsRow row
FitsInFront observers SettleName = Unit {0}
FitsInFront observers (SettleAckRow o) = IsNamed observers o
FitsInFront observers ClearRow = Unit {0}
FitsInFront observers (ClearColumn row) = IsRow row
FitsInFront observers ClearName = Unit {0}
FitsInFront observers (ClearAckRow o) = IsNamed observers o
FitsInFront observers SweepRow = Unit {0}
FitsInFront observers (SweepColumn row) = IsRow row

-- digits with no zero before another, whose value isn't in this range
pub record IsOutside (least greatest : ℕ) (word : List ℕ) (cause : ScheduleCode) : Type 0 where
  pub numeral : is_numeral word ≡ true
  pub outside : (digits_value 10 word < least) ⊎ (greatest < digits_value 10 word)
  pub told : cause ≡ ScheduleCode.Range

-- digits that are no actor's number; a word that is no number at all has no form, and is no field's fault
abbrev pub IsNoActor : List ℕ → ScheduleCode → Type 0
IsNoActor word cause = IsOutside 1 (MAX_SEATS - 1) word cause

-- digits of 2^64 and more
abbrev pub IsNoRow : List ℕ → ScheduleCode → Type 0
IsNoRow word cause = IsOutside 0 (2 ^ 64 - 1) word cause

-- digits above the last column
abbrev pub IsNoColumn : List ℕ → ScheduleCode → Type 0
IsNoColumn word cause = IsOutside 0 (COLUMNS - 1) word cause

-- the name of no observer
pub record IsNobody (observers : List ObserverOf) (word : List ℕ) (cause : ScheduleCode) : Type 0 where
  pub nobody : (o : ℕ) → o < length observers → name_of observers o ≢ word
  pub told : cause ≡ ScheduleCode.NoObserver

-- the word can't stand in this field, for this cause
abbrev pub IsRefusedAt : List ObserverOf → Field → List ℕ → ScheduleCode → Type 0
IsRefusedAt observers LaunchActor word cause = IsNoActor word cause
IsRefusedAt observers (ChangeNumber actor) word cause = IsOutside 1 MAX_CHANGES word cause
IsRefusedAt observers (RunName actor) word cause = IsNobody observers word cause
IsRefusedAt observers (RunRow actor o) word cause = IsNoRow word cause
IsRefusedAt observers StepActor word cause = IsNoActor word cause
IsRefusedAt observers (StepTimes actor) word cause = IsOutside 1 MAX_EVENTS word cause
IsRefusedAt observers CrashActor word cause = IsNoActor word cause
IsRefusedAt observers SettleRow word cause = IsNoRow word cause
IsRefusedAt observers (SettleColumn row) word cause = IsNoColumn word cause
IsRefusedAt observers SettleName word cause = IsNobody observers word cause
IsRefusedAt observers (SettleAckRow o) word cause = IsNoRow word cause
IsRefusedAt observers ClearRow word cause = IsNoRow word cause
IsRefusedAt observers (ClearColumn row) word cause = IsNoColumn word cause
IsRefusedAt observers ClearName word cause = IsNobody observers word cause
IsRefusedAt observers (ClearAckRow o) word cause = IsNoRow word cause
IsRefusedAt observers SweepRow word cause = IsNoRow word cause
IsRefusedAt observers (SweepColumn row) word cause = IsNoColumn word cause

-- up to a field the words are those of a line that is read, and the field's word can't stand there; the rest is free
pub record StopsAtField (observers : List ObserverOf) (words : List (List ℕ)) (cause : ScheduleCode) : Type 0 where
  pub field : Field
  pub word : List ℕ
  pub rest : List (List ℕ)
  pub cut : words ≡ words_in_front observers field ++ word ∷ rest
  pub fits : FitsInFront observers field
  pub refused : IsRefusedAt observers field word cause

-- ---- how many

-- the line asks for an event, and goes past what a schedule may have
pub record GoesPast (observers : List ObserverOf) (before : List Event) (line : List ℕ) : Type 0 where
  pub order : Order
  pub shown : is_skipped line ≡ false
  pub read : order_of observers line ≡ Ok order
  pub past : MAX_EVENTS < length before + order.times
