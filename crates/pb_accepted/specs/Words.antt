-- The words of the crates below, for this crate's definitions and proofs.
pub use Rattle.pb_base.specs.declared.cell.Cell.{Cell}
pub use Rattle.pb_base.specs.declared.names.Row.{Row}
pub use Rattle.pb_isa.specs.Helpers.{Delete, Helper, HelperSet, Read, Start, Write, declared_helper, helper_of}
pub use Rattle.pb_isa.specs.Machine.{width}
pub use Rattle.pb_isa.specs.Profiles.{is_narrower}
pub use Rattle.pb_isa.specs.Programs.{JudgedOf, ProgramOf, judged_code}
pub use Rattle.pb_isa.specs.Registers.{number}
pub use Rattle.pb_isa.specs.Slots.{insn_at, layout, slots}
pub use Rattle.pb_isa.specs.declared.insn.AluOp.{AluOp}
pub use Rattle.pb_isa.specs.declared.insn.Cmp.{Cmp}
pub use Rattle.pb_isa.specs.declared.insn.Extension.{Extension}
pub use Rattle.pb_isa.specs.declared.insn.Insn.{Insn}
pub use Rattle.pb_isa.specs.declared.insn.Operand.{Operand}
pub use Rattle.pb_isa.specs.declared.insn.Reg.{Reg}
pub use Rattle.pb_isa.specs.declared.insn.Size.{Size}
pub use Rattle.pb_isa.specs.declared.insn.Width.{Width}
pub use Rattle.pb_isa.specs.declared.limits.TheConstants.{MAX_RECORD_BYTES}
pub use Rattle.pb_kinds.specs.Frames.{has_byte, is_pointer, kind_of}
unfoldable pub use Rattle.pb_kinds.specs.Frames.{entry_frame, join}
pub use Rattle.pb_kinds.specs.Meet.{KnowsKind}
pub use Rattle.pb_kinds.specs.Ranges.{from_low, in_record, in_stack, with_written}
pub use Rattle.pb_kinds.specs.declared.frame.Frame.{Frame}
pub use Rattle.pb_kinds.specs.declared.frame.Kind.{Kind}
pub use Rattle.pb_helpers.specs.Arguments.{ArgumentCodesRise, call_rules, stack_reads, stack_writes, unset}
pub use Rattle.pb_helpers.specs.Bytes.{size_of}
pub use Rattle.pb_helpers.specs.Codes.{CodesRiseWithin, code_number, lowest_code, when}
pub use Rattle.pb_helpers.specs.declared.change.Version.{Version}
pub use Rattle.pb_helpers.specs.declared.code.RuleCode.{RuleCode}
