-- A replay that C asks for: the report, or the line of the first fault, as `percobpf` prints them.
use Rattle.std.specs.Prelude.{◌⊎◌, ℕ, zero, suc, false, List, [], ◌∷◌, Some, Ok, Err, IsUtf8}
use Rattle.pb_base.specs.Taking.{Taking}
use Rattle.pb_driver.specs.declared.fault.RunFault.{RunFault}
use Rattle.pb_driver.specs.FaultTexts.{run_fault_text}
use Rattle.pb_driver.specs.Replays.{ReplaysTexts}
use Rattle.pb_api.specs.declared.kind.AnswerKind.{AnswerKind}
use Rattle.pb_api.specs.Answers.{BufferCall, GivesText, GivesNone, LacksMemory}

-- a sink that was empty took this text
abbrev pub took : List ℕ → Taking
took text = record { before = Some []; after = Some text; failed = false }

-- the fault of a text or of an event, and neither want of memory nor of a place for the report
abbrev pub IsOfTexts : RunFault → Type 0
IsOfTexts (RunFault.NoMemory refused) = ⊥
IsOfTexts RunFault.Output = ⊥
IsOfTexts f = Unit {0}

-- the answer has the text of a fault, or there was no memory for it
abbrev pub GivesFaultText : List ℕ → BufferCall → Type 0
GivesFaultText text c = GivesText AnswerKind.Refused text c ⊎ LacksMemory c

-- the texts were replayed, in a table of one tablet, and the answer has the report
pub record GivesReport (clock : ℕ) (manifest script schedule : List ℕ) (c : BufferCall) : Type 0 where
  pub text : List ℕ
  pub replays : ReplaysTexts 1 clock manifest script schedule (took text) (Ok tt)
  pub gives : GivesText AnswerKind.Done text c

-- nothing was reported, and the answer has the text of the first fault
pub record GivesReplayFault (clock : ℕ) (manifest script schedule : List ℕ) (c : BufferCall) : Type 0 where
  pub fault : RunFault
  pub of_texts : IsOfTexts fault
  pub replays : ReplaysTexts 1 clock manifest script schedule (took []) (Err fault)
  pub gives : GivesText AnswerKind.Refused (run_fault_text fault) c

-- from want of memory nothing follows of the texts
abbrev pub IsReplayOf : ℕ → List ℕ → List ℕ → List ℕ → BufferCall → Type 0
IsReplayOf clock manifest script schedule c = GivesReport clock manifest script schedule c ⊎ (GivesReplayFault clock manifest script schedule c ⊎ LacksMemory c)

-- the bytes of this number, from 0, are the first that are no text
abbrev pub IsFirstNotUtf8 : List (List ℕ) → ℕ → Type 0
IsFirstNotUtf8 [] place = ⊥
IsFirstNotUtf8 (bytes ∷ rest) zero = IsUtf8 bytes → ⊥
IsFirstNotUtf8 (bytes ∷ rest) (suc place) = IsUtf8 bytes × IsFirstNotUtf8 rest place

-- all are texts
pub record ReplaysAll (clock : ℕ) (manifest script schedule : List ℕ) (c : BufferCall) : Type 0 where
  pub manifest_utf8 : IsUtf8 manifest
  pub script_utf8 : IsUtf8 script
  pub schedule_utf8 : IsUtf8 schedule
  pub replay : IsReplayOf clock manifest script schedule c

-- one is none
pub record FindsNoTextAt (given : List (List ℕ)) (c : BufferCall) : Type 0 where
  pub place : ℕ
  pub first : IsFirstNotUtf8 given place
  pub gives : GivesNone AnswerKind.NotText 0 place c

abbrev pub IsReplayed : ℕ → List ℕ → List ℕ → List ℕ → BufferCall → Type 0
IsReplayed clock manifest script schedule c = ReplaysAll clock manifest script schedule c ⊎ FindsNoTextAt (manifest ∷ script ∷ schedule ∷ []) c
