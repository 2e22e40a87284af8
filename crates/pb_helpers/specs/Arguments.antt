-- Which arguments a helper accepts: for each, the codes that the registers break before a call, lowest first. Row and
-- column stand in R1 and R2, and R3 points to 32 stack bytes, which reading fills and writing takes.
use Rattle.std.specs.Prelude.{ℕ, ℤ, Bool, true, false, not, ◌&&◌, if◌then◌else◌, List, [], ◌∷◌, ◌++◌, Option, Some, None}
use Rattle.pb_isa.specs.Helpers.{Helper, Read, Write, Delete, Start}
use Rattle.pb_kinds.specs.declared.frame.Kind.{Kind}
use Rattle.pb_kinds.specs.declared.frame.Frame.{Frame}
use Rattle.pb_kinds.specs.Frames.{kind_of, is_unset, is_number_kind}
use Rattle.pb_kinds.specs.Ranges.{in_stack, are_written}
use Rattle.pb_helpers.specs.declared.code.RuleCode.{RuleCode}
use Rattle.pb_helpers.specs.Codes.{when, CodesRiseWithin}

-- the register with this number is read
abbrev pub unset : Frame → ℕ → List RuleCode
unset f r = when (is_unset (kind_of f r)) RuleCode.ReadsUnset

-- n stack bytes from z on are read
abbrev pub stack_reads : Frame → ℤ → ℕ → List RuleCode
stack_reads f z n = if in_stack z n then when (not (are_written f z n)) RuleCode.UnwrittenByte else RuleCode.OutsideStack ∷ []

-- n bytes from z on are written
abbrev pub stack_writes : ℤ → ℕ → List RuleCode
stack_writes z n = when (not (in_stack z n)) RuleCode.OutsideStack

-- the 32 bytes that a read of a cell fills; what isn't a stack pointer is a wrong argument, and has none
abbrev pub filled_bytes : Kind → List RuleCode
filled_bytes (Kind.Stack k) = stack_writes k 32
filled_bytes _ = []

-- the 32 bytes that a write takes, which are written before
abbrev pub taken_bytes : Frame → Kind → List RuleCode
taken_bytes f (Kind.Stack k) = stack_reads f k 32
taken_bytes f _ = []

-- row and column are numbers: every number is accepted
abbrev pub is_cell : Frame → Bool
is_cell f = is_number_kind (kind_of f 1) && is_number_kind (kind_of f 2)

-- a pointer to the stack; the record is none, since helpers fill and take stack bytes alone
abbrev pub is_place : Kind → Bool
is_place (Kind.Stack k) = true
is_place _ = false

-- row, column and address are set, the bytes lie in the stack, and each argument is of its kind
abbrev pub read_rules : Frame → List RuleCode
read_rules f = unset f 1 ++ unset f 2 ++ unset f 3 ++ filled_bytes (kind_of f 3) ++ when (not (is_cell f && is_place (kind_of f 3))) RuleCode.WrongArgument

-- those of a read, and the bytes are also written
abbrev pub write_rules : Frame → List RuleCode
write_rules f = unset f 1 ++ unset f 2 ++ unset f 3 ++ taken_bytes f (kind_of f 3) ++ when (not (is_cell f && is_place (kind_of f 3))) RuleCode.WrongArgument

-- row and column are set, and numbers
abbrev pub delete_rules : Frame → List RuleCode
delete_rules f = unset f 1 ++ unset f 2 ++ when (not (is_cell f)) RuleCode.WrongArgument

-- the rules of a call, of the declared helper if there is one
abbrev pub call_rules : Frame → Option Helper → List RuleCode
call_rules f None = RuleCode.NotDeclared ∷ []
call_rules f (Some Read) = read_rules f
call_rules f (Some Write) = write_rules f
call_rules f (Some Delete) = delete_rules f
call_rules f (Some Start) = []

-- in any frame the codes of a call are listed lowest first
abbrev pub ArgumentCodesRise : Type 0
ArgumentCodesRise = (f : Frame) (h : Option Helper) → CodesRiseWithin 21 31 (call_rules f h)
