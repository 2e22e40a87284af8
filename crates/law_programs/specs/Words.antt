-- The words of the crates below, for this crate's definitions and proofs.
pub use Rattle.pb_base.specs.Batch.{Writes}
pub use Rattle.pb_base.specs.Cell.{column_of, row_of}
pub use Rattle.pb_base.specs.declared.cell.Cell.{Cell}
pub use Rattle.pb_base.specs.declared.content.Content.{Content}
pub use Rattle.pb_base.specs.declared.content.Revision.{Revision}
pub use Rattle.pb_isa.specs.Bounds.{Fits}
pub use Rattle.pb_isa.specs.Helpers.{Delete, Helper, HelperSet, Read, Start, Write, declared_helper, has_helper, helper_of, if_declared}
pub use Rattle.pb_isa.specs.Machine.{Reply, extended, mov_sx, reply_bytes}
pub use Rattle.pb_isa.specs.Meaning.{Means, Talk}
pub use Rattle.pb_isa.specs.Profiles.{IsOf, is_of, max_slots}
pub use Rattle.pb_isa.specs.Programs.{JudgedOf, ProgramOf}
pub use Rattle.pb_isa.specs.Registers.{number}
pub use Rattle.pb_isa.specs.Slots.{insn_at, slots}
pub use Rattle.pb_isa.specs.declared.insn.AluOp.{AluOp}
pub use Rattle.pb_isa.specs.declared.insn.Extension.{Extension}
pub use Rattle.pb_isa.specs.declared.insn.Insn.{Insn}
pub use Rattle.pb_isa.specs.declared.insn.Operand.{Operand}
pub use Rattle.pb_isa.specs.declared.insn.Reg.{Reg}
pub use Rattle.pb_isa.specs.declared.insn.Size.{Size}
pub use Rattle.pb_isa.specs.declared.insn.Width.{Width}
pub use Rattle.pb_isa.specs.declared.profile.Profile.{Profile}
pub use Rattle.pb_decode.specs.Encoding.{Encodes, encoding, in_profile}
pub use Rattle.pb_kinds.specs.Frames.{has_byte, is_number_kind, is_pointer, is_unset, kind_of}
pub use Rattle.pb_kinds.specs.Ranges.{are_written, from_low, has_bytes, in_record, in_stack, set_flags, with_written}
pub use Rattle.pb_kinds.specs.declared.frame.Frame.{Frame}
pub use Rattle.pb_kinds.specs.declared.frame.Kind.{Kind}
pub use Rattle.pb_helpers.specs.Arguments.{call_rules, filled_bytes, is_cell, is_place, stack_reads, stack_writes, taken_bytes, unset}
pub use Rattle.pb_helpers.specs.Codes.{CodesRiseWithin, code_number, lowest_code, when}
pub use Rattle.pb_helpers.specs.OldRecord.{is_value, record_with_old}
pub use Rattle.pb_helpers.specs.Record.{record_of, value_bytes, word_at, word_bytes}
pub use Rattle.pb_helpers.specs.declared.code.RuleCode.{RuleCode}
pub use Rattle.pb_accepted.specs.Arriving.{Accepts, Refuses, codes_at, faults, frame_after, has_slot, if_leads}
unfoldable pub use Rattle.pb_accepted.specs.Arriving.{in_at}
pub use Rattle.pb_accepted.specs.Following.{after, after_call, ahead, kind_after, kinds_after_call, leads, move_pointer, with_kind, with_store}
pub use Rattle.pb_accepted.specs.Forward.{LeadsAreLater}
pub use Rattle.pb_accepted.specs.Rules.{CodesRise, alu_rules, at, bytes_of, falls, insn_rules, jump_rules, loads, numeric_rules, on_pointer, reads_operand, sets, stores}
pub use Rattle.pb_accepted.specs.Ways.{Fact, FramesAreMeets, HasKind, IsMeetOfWays, IsWay, Says}
pub use Rattle.pb_sound.specs.ProfilesAgree.{SameAreAccepted, SameAreRefused, SameIsMeant, program_in}
