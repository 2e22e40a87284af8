-- The words of the crates below, for this crate's definitions and proofs.
pub use Rattle.pb_base.specs.Batch.{Writes, content_in}
pub use Rattle.pb_base.specs.Cell.{cell_cmp}
pub use Rattle.pb_base.specs.declared.cell.Cell.{Cell}
pub use Rattle.pb_base.specs.declared.content.Content.{Content}
pub use Rattle.pb_base.specs.declared.limits.TheConstants.{COLUMNS, MAX_CELLS}
pub use Rattle.pb_isa.specs.Helpers.{Delete, Helper, Read, Start, Write, helper_of}
pub use Rattle.pb_isa.specs.Machine.{Asks, Environment, IsPlaced, IsPlacement, IsReply, Placement, State, add_write, cell_of, extended, replace_write, reply_bytes, reply_result, write_result}
unfoldable pub use Rattle.pb_isa.specs.Machine.{act}
pub use Rattle.pb_isa.specs.Meaning.{Leads, Means, Talk, environment_of, kept_writes, talk_code}
pub use Rattle.pb_isa.specs.Profiles.{IsOf, max_slots}
pub use Rattle.pb_isa.specs.Programs.{IsProgram, JudgedOf, ProgramOf, judged_code}
pub use Rattle.pb_isa.specs.Slots.{insn_at, layout, places_of, slots}
pub use Rattle.pb_isa.specs.declared.insn.Extension.{Extension}
pub use Rattle.pb_isa.specs.declared.insn.Insn.{Insn}
pub use Rattle.pb_isa.specs.declared.insn.Reg.{Reg}
pub use Rattle.pb_isa.specs.declared.insn.Size.{Size}
pub use Rattle.pb_isa.specs.declared.insn.Width.{Width}
pub use Rattle.pb_isa.specs.declared.limits.TheConstants.{MAX_RECORD_BYTES, MAX_SLOTS}
pub use Rattle.pb_isa.specs.declared.profile.Profile.{Profile}
pub use Rattle.pb_helpers.specs.Bytes.{padded}
pub use Rattle.pb_helpers.specs.Replies.{ask_of, reply_of}
pub use Rattle.pb_accepted.specs.Accesses.{access_at}
pub use Rattle.pb_accepted.specs.Arriving.{Accepts}
pub use Rattle.pb_accepted.specs.Effects.{AreResolved, Deletes, Effect, JumpTo, Reads, Tells, call_effect, effect_at, effect_by, extension_of, move_effect}
pub use Rattle.pb_accepted.specs.Forward.{IsForward}
pub use Rattle.pb_accepted.specs.Needs.{called_by, reads_by, reads_from, writes_by, writes_from}
pub use Rattle.pb_accepted.specs.declared.access.Access.{Access}
pub use Rattle.pb_accepted.specs.declared.op.Op.{Op}
pub use Rattle.pb_sound.specs.Accesses.{IsAccess, IsCallAccess, IsInStack}
pub use Rattle.pb_sound.specs.Cells.{Cells, CellsAsk, CellsEnd, CellsGo, CellsOutcome, argument, cells_act, cells_after_call, cells_after_read, cells_call, cells_write}
pub use Rattle.pb_sound.specs.Mirrors.{IsHere, record_first}
pub use Rattle.pb_sound.specs.Placements.{GoesBeside, LeadsToSlot}
pub use Rattle.pb_sound.specs.Positions.{AcceptedCellsRun, CellsAt, CellsMove, DoesNext}
pub use Rattle.pb_sound.specs.Steps.{Together, cells_at_entry}
pub use Rattle.pb_finished.specs.Finished.{Meant}
pub use Rattle.pb_finished.specs.Talk.{talk_of}
pub use Rattle.pb_registers.specs.Core.{core_cells}
pub use Rattle.pb_registers.specs.Next.{filled_at}
pub use Rattle.pb_registers.specs.declared.cells.Core.{Core}
pub use Rattle.pb_registers.specs.declared.next.Next.{Next}
pub use Rattle.pb_act.specs.Acting.{CoreOutcome, IsFit, Leaves, act_outcome, core_act, core_at}
