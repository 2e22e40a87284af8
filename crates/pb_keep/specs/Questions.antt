-- Questions that are answered alone: nothing is made, and no line waits.
use Rattle.std.specs.Prelude.{◌≡◌, ◌⊎◌, ℕ, Bool, true, false, List, [], ◌∷◌, ◌++◌, Option, Result, Ok, Err}
use Rattle.std.specs.Io.KnownBytes.{Appends}
use Rattle.pb_keep.specs.Words.{AppendsPart, KeptTable, Request, ScriptCode, script_code}
use Rattle.pb_keep.specs.declared.fault.KeepFault.{KeepFault}
use Rattle.pb_keep.specs.declared.take.TheConstants.{OUT_OF_PLACE}
use Rattle.pb_keep.specs.declared.waiting.Waits.{Waits}
use Rattle.pb_keep.specs.Causes.{IsOfAnswer}
use Rattle.pb_keep.specs.Held.{IsAnswerTo, IsReadAs}
use Rattle.pb_keep.specs.Input.{AreLinesRead, HasNoLine, IsNextLine}
use Rattle.pb_keep.specs.Taken.{is_question, NamesLog}
use Rattle.pb_keep.specs.Waits.{other_line}

-- the answer to a line that is refused by this code
abbrev pub refused_line : ℕ → List ℕ
refused_line code = other_line (Waits.Refused code)

-- The answer to a line that is read as this, by a table and a log of so many bytes, where all writes above `since` are there. A question is
-- answered as where the table is served, and any other line is refused.
pub record IsOneAnswer (since : ℕ) (table : KeptTable) (log : ℕ) (request : Request) (text : List ℕ) : Type 0 where
  pub asked : is_question request ≡ true → IsAnswerTo since request table text
  pub names : is_question request ≡ true → NamesLog request table log text
  pub other : is_question request ≡ false → text ≡ refused_line OUT_OF_PLACE

-- the same of a line that may be of no form
abbrev pub IsAnswerAlone : ℕ → KeptTable → ℕ → Result Request ScriptCode → List ℕ → Type 0
IsAnswerAlone since table log (Err code) text = text ≡ refused_line (script_code code)
IsAnswerAlone since table log (Ok request) text = IsOneAnswer since table log request text

-- the answer to these bytes of a line
pub record IsLineAnswer (since : ℕ) (table : KeptTable) (log : ℕ) (line text : List ℕ) : Type 0 where
  pub read : Result Request ScriptCode
  pub reads : IsReadAs line read
  pub answer : IsAnswerAlone since table log read text

-- nothing was written, or a beginning of the answer to a line that is read so
abbrev pub MayHaveBegun : ℕ → KeptTable → ℕ → Result Request ScriptCode → Option (List ℕ) → Option (List ℕ) → Type 0
MayHaveBegun since table log read old new = (new ≡ old) ⊎ ((text : List ℕ) × IsAnswerAlone since table log read text × AppendsPart old new text)

-- ---- lines of an input

-- lines are answered one after the other, by this text
pub data AreLineAnswers (since : ℕ) (table : KeptTable) (log : ℕ) : List (List ℕ) → List ℕ → Type 0 where
  none : AreLineAnswers since table log [] []
  one_more : (lines : List (List ℕ)) (line text more : List ℕ) → AreLineAnswers since table log lines text → IsLineAnswer since table log line more → AreLineAnswers since table log (lines ++ line ∷ []) (text ++ more)

-- a line was read and answered
pub record AnswersNext (since : ℕ) (table : KeptTable) (log : ℕ) (from to was now : Option (List ℕ)) : Type 0 where
  pub line : List ℕ
  pub next : IsNextLine line from to
  pub text : List ℕ
  pub answer : IsLineAnswer since table log line text
  pub is_written : Appends was now text

-- whether a line was read, and what was done with it: none is left where it wasn't, and nothing is written
abbrev pub AnswersTurn : ℕ → KeptTable → ℕ → Option (List ℕ) → Option (List ℕ) → Option (List ℕ) → Option (List ℕ) → Bool → Type 0
AnswersTurn since table log from to was now true = AnswersNext since table log from to was now
AnswersTurn since table log from to was now false = HasNoLine from × (now ≡ was)

-- these lines were read of an input, and this is the text that answers them
pub record ReadsAndAnswers (since : ℕ) (table : KeptTable) (log : ℕ) (from to : Option (List ℕ)) (text : List ℕ) : Type 0 where
  pub lines : List (List ℕ)
  pub read : AreLinesRead from lines to
  pub answers : AreLineAnswers since table log lines text

-- the lines that were read are answered, and nothing else is written
pub record AnswersRead (since : ℕ) (table : KeptTable) (log : ℕ) (from to was now : Option (List ℕ)) : Type 0 where
  pub text : List ℕ
  pub answered : ReadsAndAnswers since table log from to text
  pub is_written : Appends was now text

-- all lines of the input are answered
pub record AnswersAll (since : ℕ) (table : KeptTable) (log : ℕ) (from was now : Option (List ℕ)) : Type 0 where
  pub to : Option (List ℕ)
  pub read : AnswersRead since table log from to was now
  pub ended : HasNoLine to

-- a beginning of the answers to lines that were read is written, and nothing else
pub record AnswersBegun (since : ℕ) (table : KeptTable) (log : ℕ) (from was now : Option (List ℕ)) : Type 0 where
  pub to : Option (List ℕ)
  pub text : List ℕ
  pub answered : ReadsAndAnswers since table log from to text
  pub is_written : AppendsPart was now text

-- why no more lines are answered: memory was refused for a line or its answer, or a read or a write failed
abbrev pub WhyNotAnswered : Bool → Bool → KeepFault → Type 0
WhyNotAnswered unread failed KeepFault.Input = unread ≡ true
WhyNotAnswered unread failed e = IsOfAnswer failed e
