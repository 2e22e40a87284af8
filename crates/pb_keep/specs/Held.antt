-- What a line asks for, and as what it waits for its answer.
use Rattle.std.specs.Prelude.{◌≡◌, ℕ, ◌<◌, ◌≤◌, ◌&&◌, ◌||◌, ◌==◌, not, Bool, if◌then◌else◌, List, ◌∷◌, ◌++◌, length, codes, decimal, Option, Some, None, Result, Ok, Err, IsUtf8}
use Rattle.std.specs.List.{list_any}
use Rattle.pb_keep.specs.Words.{Writes, Cell, Condition, IsListAnswer, IsSeenIn, IsValueAnswer, IsWritesAnswer, KeptTable, Newest, Request, ScriptCode, StateOf, Ts, asked_by, batch_of, cut, has_room, is_skipped, last_line, lock_count, script_code, stats_text}
use Rattle.std.specs.FinMap as map
use Rattle.pb_keep.specs.declared.take.TheConstants.{FULL, GONE, OUT_OF_PLACE}
use Rattle.pb_keep.specs.declared.waiting.Waits.{Waits}
use Rattle.pb_keep.specs.Waits.{Group, has_line_room}

-- what a line is read as; one that isn't UTF-8 is of no form
pub record IsReadAs (line : List ℕ) (read : Result Request ScriptCode) : Type 0 where
  pub text : IsUtf8 line → asked_by line ≡ read
  pub bytes : (IsUtf8 line → ⊥) → read ≡ Err ScriptCode.Form

-- The change that these operations are. A record has them as a line, which is neither empty nor a remark, and has no newline.
abbrev pub change_as_line : List ℕ → Result Writes ScriptCode
change_as_line operations = if is_skipped operations || list_any (λ b. b == 10) operations then Err ScriptCode.Form else batch_of operations

-- a change waits, or its refusal
abbrev pub waits_for : Result Writes ScriptCode → Waits
waits_for (Ok batch) = Waits.Change batch
waits_for (Err code) = Waits.Refused (script_code code)

-- a change is refused where the table has no room for one
abbrev pub unless_full : Bool → Waits → Waits
unless_full full (Waits.Change batch) = if full then Waits.Refused FULL else Waits.Change batch
unless_full full item = item

-- ---- outside of a group

-- the commit of a cell's newest write, 0 where it has none
abbrev pub commit_seen : Option Newest → Ts
commit_seen None = record { 0 = 0 }
commit_seen (Some newest) = newest.commit

-- a change waits only where the newest write has the commit that is wanted
abbrev pub if_commit : Ts → Ts → Waits → Waits
if_commit wanted newest (Waits.Change batch) = if newest.0 == wanted.0 then Waits.Change batch else Waits.Unmade newest
if_commit wanted newest item = item

-- operations on a condition, which is looked at in this state; where it's met, a full table refuses the change
pub record IsHeldIf (full : Bool) (state : StateOf) (condition : Condition) (operations : List ℕ) (item : Waits) : Type 0 where
  pub newest : Option Newest
  pub seen : IsSeenIn state.entries state.clock (Cell.Data condition.row condition.column) newest
  pub is : item ≡ unless_full full (if_commit condition.commit (commit_seen newest) (waits_for (change_as_line operations)))

-- a line with a condition: its operations stand after the first joint
pub record IsLineHeldIf (full : Bool) (state : StateOf) (condition : Condition) (line : List ℕ) (item : Waits) : Type 0 where
  pub first : List ℕ
  pub operations : List ℕ
  pub parts : cut line ≡ first ∷ cut operations
  pub held : IsHeldIf full state condition operations item

-- as what a line waits; no question waits, and no line that asks something of the log
abbrev pub IsHeldAlone : Bool → StateOf → List ℕ → Request → Waits → Type 0
IsHeldAlone full state line Request.Change item = item ≡ unless_full full (waits_for (change_as_line line))
IsHeldAlone full state line (Request.ChangeIf condition) item = IsLineHeldIf full state condition line item
IsHeldAlone full state line Request.Begin item = item ≡ Waits.Begun
IsHeldAlone full state line Request.End item = item ≡ Waits.Refused OUT_OF_PLACE
IsHeldAlone full state line (Request.Get row column) item = ⊥
IsHeldAlone full state line (Request.Since above) item = ⊥
IsHeldAlone full state line Request.List item = ⊥
IsHeldAlone full state line Request.IsQuiet item = ⊥
IsHeldAlone full state line Request.Stats item = ⊥
IsHeldAlone full state line Request.Compact item = ⊥
IsHeldAlone full state line (Request.Copy number) item = ⊥

-- ---- in a group

-- a change waits only where the group's record has room for it
abbrev pub if_room : Bool → Waits → Waits
if_room has_room (Waits.Change batch) = if has_room then Waits.Change batch else Waits.Refused (script_code ScriptCode.TooMany)
if_room has_room item = item

-- as what a line waits in a group, whose record has so many changes and bytes
abbrev pub waits_within : Bool → ℕ → ℕ → List ℕ → Request → Waits
waits_within full changes bytes line Request.Change = unless_full full (if_room (has_line_room changes bytes (length line)) (waits_for (change_as_line line)))
waits_within full changes bytes line Request.End = Waits.Ended
waits_within full changes bytes line (Request.ChangeIf condition) = Waits.Refused OUT_OF_PLACE
waits_within full changes bytes line Request.Begin = Waits.Refused OUT_OF_PLACE
waits_within full changes bytes line (Request.Get row column) = Waits.Refused OUT_OF_PLACE
waits_within full changes bytes line (Request.Since above) = Waits.Refused OUT_OF_PLACE
waits_within full changes bytes line Request.List = Waits.Refused OUT_OF_PLACE
waits_within full changes bytes line Request.IsQuiet = Waits.Refused OUT_OF_PLACE
waits_within full changes bytes line Request.Stats = Waits.Refused OUT_OF_PLACE
waits_within full changes bytes line Request.Compact = Waits.Refused OUT_OF_PLACE
waits_within full changes bytes line (Request.Copy number) = Waits.Refused OUT_OF_PLACE

-- ---- lines

-- as what a line waits that is read so, on a full table or not; a condition is looked at in this state
abbrev pub IsHeldAs : Bool → Group → StateOf → List ℕ → Result Request ScriptCode → Waits → Type 0
IsHeldAs full group state line (Err code) item = item ≡ Waits.Refused (script_code code)
IsHeldAs full Group.alone state line (Ok request) item = IsHeldAlone full state line request item
IsHeldAs full (Group.within changes bytes) state line (Ok request) item = item ≡ waits_within full changes bytes line request

-- whether the table has no room for a change that is the first of its record; with that a record has room for all of its changes
abbrev pub refuses_changes : ℕ → Bool → StateOf → Bool
refuses_changes limit is_first state = is_first && not (has_room limit state)

-- as what a line waits, before which no change of its record stands, or some do
pub record IsLineHeld (limit : ℕ) (is_first : Bool) (group : Group) (state : StateOf) (line : List ℕ) (item : Waits) : Type 0 where
  pub read : Result Request ScriptCode
  pub reads : IsReadAs line read
  pub held : IsHeldAs (refuses_changes limit is_first state) group state line read item

-- what the runs did, with the bytes of a log, which are known only where the log is
abbrev pub IsStatsOf : KeptTable → List ℕ → Type 0
IsStatsOf table text = (log : ℕ) × (text ≡ stats_text table.state table.stats log)

-- the writes up to this commit are gone, but for those that a snapshot kept
abbrev pub gone_line : ℕ → List ℕ
gone_line since = codes "refused " ++ (decimal GONE ++ (codes " " ++ (decimal since ++ codes "\n")))

-- the writes above a commit, where all above `since` are there
pub record IsSinceAnswer (since : ℕ) (state : StateOf) (above : ℕ) (text : List ℕ) : Type 0 where
  pub gone : above < since → text ≡ gone_line since
  pub there : since ≤ above → IsWritesAnswer state above text

-- the answer to a question, where all writes above `since` are there
abbrev pub IsAnswerTo : ℕ → Request → KeptTable → List ℕ → Type 0
IsAnswerTo since (Request.Get row column) table text = IsValueAnswer table.state (Cell.Data row column) text
IsAnswerTo since (Request.Since above) table text = IsSinceAnswer since table.state above.0 text
IsAnswerTo since Request.List table text = IsListAnswer table text
IsAnswerTo since Request.IsQuiet table text = text ≡ last_line (map.len table.state.marks) (lock_count table.state.entries)
IsAnswerTo since Request.Stats table text = IsStatsOf table text
IsAnswerTo since Request.Change table text = ⊥
IsAnswerTo since (Request.ChangeIf condition) table text = ⊥
IsAnswerTo since Request.Begin table text = ⊥
IsAnswerTo since Request.End table text = ⊥
IsAnswerTo since Request.Compact table text = ⊥
IsAnswerTo since (Request.Copy number) table text = ⊥

-- a line is a question, and this its answer
pub record IsAsked (since : ℕ) (table : KeptTable) (line text : List ℕ) : Type 0 where
  pub request : Request
  pub reads : IsReadAs line (Ok request)
  pub answer : IsAnswerTo since request table text
