-- The words of the crates below, for this crate's definitions and proofs.
pub use Rattle.pb_base.specs.Batch.{Writes, content_in}
pub use Rattle.pb_base.specs.Sink.{AppendsPart}
pub use Rattle.pb_base.specs.Taking.{Taking, TookAll, TookNothing, TookPart, taking}
pub use Rattle.pb_base.specs.declared.cell.Cell.{Cell}
pub use Rattle.pb_base.specs.declared.content.Content.{Content}
pub use Rattle.pb_base.specs.declared.content.Revision.{Revision}
pub use Rattle.pb_base.specs.declared.names.Row.{Row}
pub use Rattle.pb_base.specs.declared.names.Ts.{Ts}
pub use Rattle.pb_isa.specs.Machine.{Ask, Ends, Environment, IsPlacement, Placement, Reply, State, act}
pub use Rattle.pb_isa.specs.Meaning.{Leads, Means, Talk, environment_of}
pub use Rattle.pb_isa.specs.Programs.{JudgedOf}
pub use Rattle.pb_isa.specs.Slots.{insn_at, slots}
pub use Rattle.pb_isa.specs.declared.insn.Insn.{Insn}
pub use Rattle.pb_isa.specs.declared.limits.TheConstants.{STACK_BYTES}
pub use Rattle.pb_kinds.specs.declared.frame.Frame.{Frame}
pub use Rattle.pb_kinds.specs.declared.frame.Kind.{Kind}
pub use Rattle.pb_helpers.specs.Bytes.{is_second, size_of}
pub use Rattle.pb_helpers.specs.OldRecord.{record_by}
pub use Rattle.pb_helpers.specs.Replies.{ask_of, reply_of}
pub use Rattle.pb_helpers.specs.declared.change.Version.{Version}
pub use Rattle.pb_verify.specs.Known.{known_at}
pub use Rattle.pb_accepted.specs.Observers.{ObserverOf}
pub use Rattle.pb_sound.specs.Positions.{AreRepliesOf}
pub use Rattle.pb_vm.specs.Moves.{SameGiven}
pub use Rattle.pb_vm.specs.Position.{Position}
pub use Rattle.pb_texts.specs.CommandLines.{is_within}
pub use Rattle.pb_texts.specs.declared.words.choice.Excerpt.{Excerpt}
pub use Rattle.pb_texts.specs.declared.words.choice.Trial.{Trial}
pub use Rattle.pb_texts.specs.declared.words.choice.TrialCell.{TrialCell}
pub use Rattle.pb_steps.specs.Reads.{asked_cell, value_of}
pub use Rattle.pb_steps.specs.declared.step.Answer.{Answer}
pub use Rattle.pb_steps.specs.declared.step.Declared.{Declared}
pub use Rattle.pb_steps.specs.declared.step.Step.{Step}
pub use Rattle.pb_steps.specs.declared.step.Work.{Work}
pub use Rattle.pb_parse.specs.declared.event.Event.{Event}
pub use Rattle.pb_parse.specs.declared.event.Job.{Job}
pub use Rattle.pb_script.specs.ReportLines.{trimmed}
pub use Rattle.pb_script.specs.TableReports.{IsReportIn, Reports}
pub use Rattle.pb_script.specs.declared.fault.ReportFault.{ReportFault}
pub use Rattle.pb_world.specs.Events.{Happens, WorldOf, fault_of, held_job}
pub use Rattle.pb_world.specs.Jobs.{IsSlotOf, next_of}
pub use Rattle.pb_world.specs.declared.fault.EventFault.{EventFault}
pub use Rattle.pb_world.specs.declared.fault.WorldFault.{WorldFault}
pub use Rattle.pb_world.specs.declared.job.ActorJob.{ActorJob}
pub use Rattle.pb_world.specs.declared.note.Note.{Note}
