-- The words of the crates below, for this crate's definitions and proofs.
pub use Rattle.pb_base.specs.Batch.{Writes, are_distinct, content_in, is_batch, is_data_write, is_unstamped}
pub use Rattle.pb_base.specs.Cell.{cell_cmp, cell_cmp_total}
pub use Rattle.pb_base.specs.declared.cell.Cell.{Cell}
pub use Rattle.pb_base.specs.declared.content.Content.{Content}
pub use Rattle.pb_base.specs.declared.limits.TheConstants.{COLUMNS, MAX_CELLS}
pub use Rattle.pb_isa.specs.Alu.{alu, holds, word}
pub use Rattle.pb_isa.specs.Helpers.{Delete, Helper, HelperSet, Read, Start, Write, declared_helper, helper_of, if_declared, no_helpers}
pub use Rattle.pb_isa.specs.Machine.{Ask, Asks, Ends, Environment, Goes, IsPlaced, IsReply, Map, Outcome, Placement, Reply, State, Stuck, add_write, address, called_regs, calls, cell_of, does, does_at, entries, extended, goes, helps, is_reply, lies_in, mov_sx, push_front, reads_cell, replace_write, reply_bytes, reply_result, sets_register, stack_has, stores_bytes, target, width, with_entry, with_list, with_value, with_values, write_result, writes_cell}
unfoldable pub use Rattle.pb_isa.specs.Machine.{act, fetch, state_at_entry}
pub use Rattle.pb_isa.specs.Meaning.{EndsWith, Leads, Means, Point, Talk, environment_of, is_same_ask, kept_writes, on, on_reply, onward, point}
unfoldable pub use Rattle.pb_isa.specs.Meaning.{point_after}
pub use Rattle.pb_isa.specs.NextSlots.{LeadOn}
pub use Rattle.pb_isa.specs.Programs.{IsProgram, JudgedOf, ProgramOf}
pub use Rattle.pb_isa.specs.Registers.{number}
pub use Rattle.pb_isa.specs.Slots.{insn_at, places_of, slots}
pub use Rattle.pb_isa.specs.declared.insn.AluOp.{AluOp}
pub use Rattle.pb_isa.specs.declared.insn.Cmp.{Cmp}
pub use Rattle.pb_isa.specs.declared.insn.Extension.{Extension}
pub use Rattle.pb_isa.specs.declared.insn.Insn.{Insn}
pub use Rattle.pb_isa.specs.declared.insn.Operand.{Operand}
pub use Rattle.pb_isa.specs.declared.insn.Reg.{Reg}
pub use Rattle.pb_isa.specs.declared.insn.Size.{Size}
pub use Rattle.pb_isa.specs.declared.insn.Width.{Width}
pub use Rattle.pb_isa.specs.declared.limits.TheConstants.{MAX_RECORD_BYTES, STACK_BYTES}
pub use Rattle.pb_isa.specs.declared.profile.Profile.{Profile}
pub use Rattle.pb_kinds.specs.Frames.{has_byte, is_pointer, is_unset, kind_of}
unfoldable pub use Rattle.pb_kinds.specs.Frames.{entry_frame}
pub use Rattle.pb_kinds.specs.Ranges.{are_written, from_low, has_bytes, in_record, in_stack, set_flags, with_written}
pub use Rattle.pb_kinds.specs.declared.frame.Frame.{Frame}
pub use Rattle.pb_kinds.specs.declared.frame.Kind.{Kind}
pub use Rattle.pb_helpers.specs.Arguments.{call_rules, filled_bytes, is_cell, is_place, read_rules, stack_reads, stack_writes, taken_bytes, unset}
pub use Rattle.pb_helpers.specs.Bytes.{padded}
pub use Rattle.pb_helpers.specs.Codes.{lowest_code, when}
pub use Rattle.pb_helpers.specs.declared.code.RuleCode.{RuleCode}
pub use Rattle.pb_accepted.specs.Accesses.{access_at, access_from, access_of, call_access}
pub use Rattle.pb_accepted.specs.Arriving.{Accepts, Refuses, codes_at, faults, has_slot, if_leads}
unfoldable pub use Rattle.pb_accepted.specs.Arriving.{in_at}
pub use Rattle.pb_accepted.specs.Following.{after, after_call, ahead, clobber, kind_after, leads, move_pointer, with_kind, with_store}
pub use Rattle.pb_accepted.specs.Forward.{IsForward, LeadsAreLater}
pub use Rattle.pb_accepted.specs.Needs.{NeedsFall}
pub use Rattle.pb_accepted.specs.Rules.{at, bytes_of, falls, insn_rules, jump_rules, loads, numeric_rules, on_pointer, points, reads, reads_operand, sets, stores}
pub use Rattle.pb_accepted.specs.Ways.{Fact, HasByte, HasKind, IsMeetOfWays, IsWay, Says, out_at}
pub use Rattle.pb_accepted.specs.declared.access.Access.{Access}
