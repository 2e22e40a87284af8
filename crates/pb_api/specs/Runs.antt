-- What a run of a program is answered to C: where it leads with the replies that it was given, which is what the machine of
-- the definitions does with them at every placement. A contract of a call says which answer comes of which arguments.
use Rattle.std.specs.Prelude.{◌≡◌, ◌⊎◌, ℕ, suc, ◌-◌, ◌==◌, nat_lt, if◌then◌else◌, List, [], ◌++◌, length, map, replicate, Option, Some, None}
use Rattle.pb_base.specs.declared.limits.TheConstants.{COLUMNS, MAX_CELLS}
use Rattle.pb_base.specs.declared.cell.Cell.{Cell}
use Rattle.pb_base.specs.declared.content.Content.{Content}
use Rattle.pb_base.specs.declared.content.Revision.{Revision}
use Rattle.pb_base.specs.Batch.{Writes}
use Rattle.pb_base.specs.Cell.{row_of, column_of}
use Rattle.pb_isa.specs.declared.profile.Profile.{Profile}
use Rattle.pb_isa.specs.Helpers.{HelperSet}
use Rattle.pb_isa.specs.Programs.{JudgedOf}
use Rattle.pb_isa.specs.Machine.{Reply, Placement, IsPlacement}
use Rattle.pb_isa.specs.Meaning.{Talk, Means}
use Rattle.pb_helpers.specs.declared.ask.Ask.{Ask}
use Rattle.pb_helpers.specs.declared.change.Version.{Version}
use Rattle.pb_helpers.specs.Bytes.{is_second}
use Rattle.pb_helpers.specs.Record.{present, value_bytes}
use Rattle.pb_helpers.specs.OldRecord.{record_by}
use Rattle.pb_registry.specs.Accepting.{IsAcceptedCode, IsRefusedCode}
use Rattle.pb_vm.specs.declared.moved.MachinePhase.{MachinePhase}
use Rattle.pb_vm.specs.Keeping.{IsRunnable}
use Rattle.pb_vm.specs.Moves.{AsksAt, EndsAt}
use Rattle.pb_vm.specs.Position.{Position, position_of}
use Rattle.pb_api.specs.declared.kind.AnswerKind.{AnswerKind}
use Rattle.pb_api.specs.Kinds.{asks_kind, kind_number, no_memory}
use Rattle.pb_api.specs.declared.running.ChangeGiven.{ChangeGiven}
use Rattle.pb_api.specs.declared.running.ReplyGiven.{ReplyGiven}
use Rattle.pb_api.specs.declared.running.WriteMade.{WriteMade}
use Rattle.pb_api.specs.declared.running.Reached.{Reached}

-- ---- what C gives

-- there are 16 columns, so that a greater number names none
abbrev pub column_numbered : ℕ → Option ℕ
column_numbered n = if nat_lt n COLUMNS then Some n else None

-- the value, or none where the number before it is 0
abbrev pub value_given : ℕ → List ℕ → Reply
value_given has_value value = if has_value == 0 then None else Some value

abbrev pub reply_given : ReplyGiven → Reply
reply_given r = value_given r.has_value r.value

-- what the cell got
abbrev pub content_given : ChangeGiven → Content
content_given c = if c.has_value == 0 then Content.Deleted else Content.Value c.value

-- what it had at the acknowledged timestamp
abbrev pub old_given : ChangeGiven → Reply
old_given c = value_given c.has_old c.old

abbrev pub revision_given : ChangeGiven → Revision
revision_given c = record { start = record { 0 = c.start }; commit = record { 0 = c.commit }; content = content_given c }

-- the record of this version
abbrev pub record_given : Version → ChangeGiven → List ℕ
record_given version c = record_by (is_second version) (Cell.Data (record { 0 = c.row }) c.column) (revision_given c) c.acknowledged (old_given c)

-- ---- where a run leads

abbrev pub replies_in : Talk → List Reply
replies_in talk = map (λ x. x.1) talk

-- a machine that has done so many instructions, with these asks and replies
abbrev pub on_way : JudgedOf → List ℕ → ℕ → Talk → ℕ → Position
on_way judged bytes start talk done = position_of judged bytes start talk done MachinePhase.Going

-- the next instruction asks for this cell, after so many, at every placement
abbrev pub AsksNext : JudgedOf → List ℕ → ℕ → Talk → ℕ → Ask → Type 0
AsksNext judged bytes start talk done q = (a : Placement) → IsPlacement (length bytes) a → AsksAt (on_way judged bytes start talk done) q a

-- the next instruction is the exit, after so many, with this in register 0
abbrev pub EndsNext : JudgedOf → List ℕ → ℕ → Talk → ℕ → ℕ → Type 0
EndsNext judged bytes start talk done r = (a : Placement) → IsPlacement (length bytes) a → EndsAt (on_way judged bytes start talk done) r a

-- some replies were given, in order, and these are left
abbrev pub HadReplies : Talk → List Reply → List Reply → Type 0
HadReplies talk rest replies = replies_in talk ++ rest ≡ replies

-- where a machine stops that was given these replies: at the ask after the last of them, or at its end
abbrev pub StopsWithReplies : MachinePhase → Position → List Reply → Type 0
StopsWithReplies MachinePhase.Going v replies = ⊥
StopsWithReplies (MachinePhase.Asking q) v replies = HadReplies v.talk [] replies × AsksNext v.judged v.bytes v.start v.talk v.taken q
StopsWithReplies (MachinePhase.Over r) v replies =
    (done : ℕ) × (v.taken ≡ suc done) × ((rest : List Reply) × HadReplies v.talk rest replies) × EndsNext v.judged v.bytes v.start v.talk done r

-- ---- the answer

abbrev pub write_made : Cell × Content → WriteMade
write_made w = record { row = (row_of w.0).0; column = column_of w.0; has_value = present w.1; value = value_bytes w.1 }

abbrev pub no_write : WriteMade
no_write = record { row = 0; column = 0; has_value = 0; value = replicate 32 0 }

-- the writes, and after them empty places
abbrev pub writes_made : Writes → List WriteMade
writes_made ws = map write_made ws ++ replicate (MAX_CELLS - length ws) no_write

-- none is run: the answer is of this kind, and names a slot and a code, or none
abbrev pub reached_nothing : AnswerKind → ℕ → ℕ → Reached
reached_nothing kind slot code = record { kind = kind_number kind; slot = slot; code = code; instructions = 0; replied = 0; row = 0; column = 0; write_count = 0; result = 0; writes = writes_made [] }

-- after so many replies, and so many instructions, the program asks for this cell
abbrev pub reached_ask : ℕ → ℕ → Ask → Reached
reached_ask replied instructions q = record { kind = asks_kind; slot = 0; code = 0; instructions = instructions; replied = replied; row = q.row.0; column = q.column; write_count = 0; result = 0; writes = writes_made [] }

-- after so many replies, and so many instructions, the exit among them, the program has ended so
abbrev pub reached_end : ℕ → ℕ → ℕ → Writes → Reached
reached_end replied instructions result ws = record { kind = kind_number AnswerKind.Done; slot = 0; code = 0; instructions = instructions; replied = replied; row = 0; column = 0; write_count = length ws; result = result; writes = writes_made ws }

-- The program is given all of the replies, each to an ask, and then asks for another cell. It is accepted, so that there are placements.
pub record IsReachedAsk (judged : JudgedOf) (bytes : List ℕ) (start : ℕ) (replies : List Reply) (x : Reached) : Type 0 where
  pub runnable : IsRunnable judged bytes
  pub talk : Talk
  pub had : HadReplies talk [] replies
  pub done : ℕ
  pub ask : Ask
  pub asks : AsksNext judged bytes start talk done ask
  pub answer : x ≡ reached_ask (length talk) done ask

-- The program is given some of the replies, each to an ask, and asks no more. It ends with what it means by them.
pub record IsReachedEnd (judged : JudgedOf) (bytes : List ℕ) (start : ℕ) (replies : List Reply) (x : Reached) : Type 0 where
  pub talk : Talk
  pub rest : List Reply
  pub had : HadReplies talk rest replies
  pub result : ℕ
  pub writes : Writes
  pub means : Means judged bytes start talk result writes
  pub done : ℕ
  pub ends : EndsNext judged bytes start talk done result
  pub answer : x ≡ reached_end (length talk) (suc done) result writes

abbrev pub RunReaches : JudgedOf → List ℕ → ℕ → List Reply → Reached → Type 0
RunReaches judged bytes start replies x = IsReachedAsk judged bytes start replies x ⊎ IsReachedEnd judged bytes start replies x

-- ---- the whole

-- the rules accept the program that the bytes encode, and this is where it leads on the record of the change
pub record IsRunAccepted (profile : Profile) (version : Version) (helpers : HelperSet) (bytes : List ℕ) (change : ChangeGiven) (start : ℕ) (replies : List Reply) (x : Reached) : Type 0 where
  pub judged : JudgedOf
  pub accepted : IsAcceptedCode profile version bytes helpers judged
  pub reached : RunReaches judged (record_given version change) start replies x

-- the first slot at fault, with the lowest code there
pub record IsRunRefused (profile : Profile) (version : Version) (helpers : HelperSet) (bytes : List ℕ) (x : Reached) : Type 0 where
  pub slot : ℕ
  pub code : ℕ
  pub refused : IsRefusedCode profile version bytes helpers slot code
  pub answer : x ≡ reached_nothing AnswerKind.Refused slot code

-- that of want of memory says nothing of the program
abbrev pub RunsProgram : Profile → Version → HelperSet → List ℕ → ChangeGiven → ℕ → List Reply → Reached → Type 0
RunsProgram profile version helpers bytes change start replies x =
    IsRunAccepted profile version helpers bytes change start replies x ⊎ (IsRunRefused profile version helpers bytes x ⊎ (x ≡ reached_nothing no_memory 0 1))

-- each of the numbers has to stand for something, that of the change's column too
abbrev pub IsRunBy : Option Profile → Option Version → Option HelperSet → Option ℕ → List ℕ → ChangeGiven → ℕ → List Reply → Reached → Type 0
IsRunBy (Some profile) (Some version) (Some helpers) (Some column) bytes change start replies x = RunsProgram profile version helpers bytes change start replies x
IsRunBy profile version helpers column bytes change start replies x = x ≡ reached_nothing AnswerKind.BadArgument 0 0
