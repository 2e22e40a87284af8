-- What a transaction has read, and what a run takes from it: version, acknowledgment and replies.
use Rattle.std.specs.Prelude.{ℕ, Option, Some, None}
use Rattle.std.specs.Coded.{Coded, coded_ℕ, coded_list, coded_option}
use Rattle.pb_steps.specs.Words.{Cell, Ts, Content, Revision, Ask, Reply}
use Rattle.pb_steps.specs.declared.step.Answer.{Answer}

-- the timestamp of a stamp
abbrev pub stamp_of : Content → Ts
stamp_of (Content.Stamp t) = t
stamp_of _ = record { 0 = 0 }

-- the timestamp up to which a transaction of start s read: the one that the read named, or else s
abbrev pub read_up_to : ℕ → Option Ts → ℕ
read_up_to s None = s
read_up_to s (Some t) = t.0

-- the answer that returns a version
abbrev pub found_answer : Revision → Answer
found_answer v = Answer.Found v.start v.commit v.content

-- the version that a read found
abbrev pub version_in : Answer → Option Revision
version_in (Answer.Found start commit content) = Some (record { start = start; commit = commit; content = content })
version_in _ = None

-- the stamp of an acknowledgment as it was read, and 0 where there was none
abbrev pub acknowledged_in : Answer → Ts
acknowledged_in (Answer.Found start commit content) = stamp_of content
acknowledged_in _ = record { 0 = 0 }

-- the cell that an ask names
abbrev pub asked_cell : Ask → Cell
asked_cell a = Cell.Data (record { 0 = a.row }) a.column

-- the reply to a program for a content: a value, and for a deletion or a stamp that there is none
abbrev pub value_of : Content → Reply
value_of (Content.Value v) = Some v
value_of _ = None

-- the value that a read found; none where its cell was absent or deleted
abbrev pub value_in : Answer → Reply
value_in (Answer.Found start commit content) = value_of content
value_in _ = None

-- a reply as a tree of numbers, by which refusal 43 compares them
abbrev pub value_code : Coded Reply
value_code = coded_option (coded_list coded_ℕ)
