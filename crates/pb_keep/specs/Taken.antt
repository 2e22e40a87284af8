-- A line that is taken: what has to be kept before it, and what is done with it.
use Rattle.std.specs.Prelude.{◌≡◌, ◌⊎◌, ◌==◌, ℕ, Bool, true, false, List, [], ◌∷◌, ◌++◌, length, string_bytes, Option, Result, Ok, Err}
use Rattle.pb_keep.specs.Words.{AppendsPart, KeptTable, Request, ScriptCode, StateOf, stats_text}
use Rattle.pb_keep.specs.declared.take.Took.{Took}
use Rattle.pb_keep.specs.declared.waiting.Waits.{Waits}
use Rattle.pb_keep.specs.declared.waiting.Waiting.{Waiting}
use Rattle.pb_keep.specs.Waits.{group_after, group_of, has_line_room, IsNoLine}
use Rattle.pb_keep.specs.Held.{refuses_changes, IsAnswerTo, IsHeldAs}

-- a line that is answered at once, by what the table has
abbrev pub is_question : Request → Bool
is_question (Request.Get row column) = true
is_question (Request.Since above) = true
is_question Request.List = true
is_question Request.IsQuiet = true
is_question Request.Stats = true
is_question Request.Change = false
is_question (Request.ChangeIf condition) = false
is_question Request.Begin = false
is_question Request.End = false
is_question Request.Compact = false
is_question (Request.Copy number) = false

-- a line that asks something of the log: a compaction or a copy
abbrev pub is_of_log : Request → Bool
is_of_log Request.Compact = true
is_of_log (Request.Copy number) = true
is_of_log _ = false

-- The record has room for a change of so many bytes. All that speaks of the table, or begins a record, finds nothing that waits.
abbrev pub IsReadyFor : Waiting → ℕ → Request → Type 0
IsReadyFor waiting line Request.Change = has_line_room waiting.changes (length (string_bytes waiting.script)) line ≡ true
IsReadyFor waiting line Request.End = Unit {0}
IsReadyFor waiting line (Request.ChangeIf condition) = IsNoLine waiting
IsReadyFor waiting line Request.Begin = IsNoLine waiting
IsReadyFor waiting line (Request.Get row column) = IsNoLine waiting
IsReadyFor waiting line (Request.Since above) = IsNoLine waiting
IsReadyFor waiting line Request.List = IsNoLine waiting
IsReadyFor waiting line Request.IsQuiet = IsNoLine waiting
IsReadyFor waiting line Request.Stats = IsNoLine waiting
IsReadyFor waiting line Request.Compact = IsNoLine waiting
IsReadyFor waiting line (Request.Copy number) = IsNoLine waiting

-- what waits was kept, where that has to be so before a line of so many bytes is taken, which is read so
abbrev pub IsLineReady : Waiting → ℕ → Result Request ScriptCode → Type 0
IsLineReady waiting line (Err code) = Unit {0}
IsLineReady waiting line (Ok request) = waiting.is_group ≡ false → IsReadyFor waiting line request

-- a line is no question that is answered at once: it is refused, stands in a group, or asks for something else
abbrev pub IsNoQuestion : Waiting → Result Request ScriptCode → Type 0
IsNoQuestion waiting (Err code) = Unit {0}
IsNoQuestion waiting (Ok request) = waiting.is_group ≡ false → is_question request ≡ false

-- a line asks nothing of the log: it is refused, stands in a group, or asks for something else
abbrev pub IsNotOfLog : Waiting → Result Request ScriptCode → Type 0
IsNotOfLog waiting (Err code) = Unit {0}
IsNotOfLog waiting (Ok request) = waiting.is_group ≡ false → is_of_log request ≡ false

-- a line outside of a group asks for what is left to the caller: a compaction, or a copy of this number
abbrev pub IsLeftToCaller : Waiting → Result Request ScriptCode → Took → Type 0
IsLeftToCaller waiting read Took.Served = ⊥
IsLeftToCaller waiting read Took.Asked = (read ≡ Ok Request.Compact) × (waiting.is_group ≡ false)
IsLeftToCaller waiting read (Took.Copy number) = (read ≡ Ok (Request.Copy number)) × (waiting.is_group ≡ false)

-- a line waits now, after those that waited, on a table of this limit of entries
pub record WaitsNow (limit : ℕ) (state : StateOf) (line : List ℕ) (read : Result Request ScriptCode) (old new : Waiting) : Type 0 where
  pub item : Waits
  pub items : new.items.items ≡ old.items.items ++ item ∷ []
  pub group : group_of new ≡ group_after (group_of old) (length line) item
  pub held : IsHeldAs (refuses_changes limit (old.changes == 0) state) (group_of old) state line read item

-- nothing was written, or a beginning of the answer to a question
abbrev pub MayHaveAnswered : ℕ → Request → KeptTable → Option (List ℕ) → Option (List ℕ) → Type 0
MayHaveAnswered since question table old new = (new ≡ old) ⊎ ((text : List ℕ) × IsAnswerTo since question table text × AppendsPart old new text)

-- with what the runs did stand the bytes of this log
abbrev pub NamesLog : Request → KeptTable → ℕ → List ℕ → Type 0
NamesLog Request.Stats table log text = text ≡ stats_text table.state table.stats log
NamesLog question table log text = Unit {0}
