-- Asks and replies, as the machine has them: their types in the code are richer, and contracts see the numbers and
-- bytes.
use Rattle.std.specs.Prelude.{Some, None}
use Rattle.pb_isa.specs.Machine as machine
use Rattle.pb_helpers.specs.declared.ask.Ask.{Ask}
use Rattle.pb_helpers.specs.declared.ask.Reply.{Reply}

-- a cell that is asked for, by its numbers
abbrev pub ask_of : Ask → machine.Ask
ask_of q = record { row = q.row.0; column = q.column }

-- the bytes of the value, or none
abbrev pub reply_of : Reply → machine.Reply
reply_of (Reply.Found v) = Some v
reply_of Reply.Absent = None
