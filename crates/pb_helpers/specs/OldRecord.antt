-- The change record of version 2: the bytes of version 1; as 8 bytes with the lowest first, 1 if the cell had a value at the
-- acknowledged timestamp, else 0; and that value, or zeros.
use Rattle.std.specs.Prelude.{ℕ, Bool, List, ◌++◌, cond, Option, Some, None, nat_eq}
use Rattle.pb_base.specs.declared.cell.Cell.{Cell}
use Rattle.pb_base.specs.declared.content.Revision.{Revision}
use Rattle.pb_isa.specs.declared.limits.TheConstants.{MAX_RECORD_BYTES}
use Rattle.pb_isa.specs.Machine.{Reply, reply_bytes}
use Rattle.pb_isa.specs.Programs.{JudgedOf}
use Rattle.pb_helpers.specs.Record.{word_bytes, record_of}

-- 1 for a value, else 0
abbrev pub is_value : Reply → ℕ
is_value (Some v) = 1
is_value None = 0

-- the bytes of version 1 stand unchanged in front, so that a program of either version finds them in the same places
abbrev pub record_with_old : Cell → Revision → ℕ → Reply → List ℕ
record_with_old x found acknowledged old = record_of x found acknowledged ++ (word_bytes (is_value old) ++ reply_bytes old)

-- whether a program is judged for records of version 2, which only their size shows
abbrev pub tells_old : JudgedOf → Bool
tells_old j = nat_eq j.record_size MAX_RECORD_BYTES

-- the record of the version that a program is judged for
abbrev pub record_by : Bool → Cell → Revision → ℕ → Reply → List ℕ
record_by second x found acknowledged old = cond second (record_with_old x found acknowledged old) (record_of x found acknowledged)
