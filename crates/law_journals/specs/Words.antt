-- The words of the crates below, for this crate's definitions and proofs.
pub use Rattle.pb_base.specs.declared.cell.Cell.{Cell}
pub use Rattle.pb_base.specs.declared.content.Content.{Content}
pub use Rattle.pb_base.specs.declared.content.Revision.{Revision}
pub use Rattle.pb_base.specs.declared.names.Row.{Row}
pub use Rattle.pb_base.specs.declared.names.Ts.{Ts}
pub use Rattle.pb_base.specs.declared.refusal.Reason.{Reason}
pub use Rattle.pb_isa.specs.Machine.{Reply}
pub use Rattle.pb_isa.specs.Meaning.{Talk}
pub use Rattle.pb_helpers.specs.OldRecord.{tells_old}
pub use Rattle.pb_accepted.specs.Observers.{ObserverOf, acknowledgment, observed_cell, observed_column}
pub use Rattle.pb_finished.specs.Finished.{Meant}
pub use Rattle.pb_store.specs.Contents.{Entries}
pub use Rattle.pb_steps.specs.Declarations.{AreReplies, IsItsRun, IsReadOf, MayDeclare, WasOld, old_at}
pub use Rattle.pb_steps.specs.Phases.{is_reading}
pub use Rattle.pb_steps.specs.Readings.{IsVersion, NoLockUpTo, NoVersion, lock_at, write_at}
pub use Rattle.pb_steps.specs.Reads.{acknowledged_in, read_up_to, stamp_of, value_of}
pub use Rattle.pb_steps.specs.Reasons.{IsOwn, own_transaction}
pub use Rattle.pb_steps.specs.State.{StateOf, TransactionOf}
pub use Rattle.pb_steps.specs.Steps.{StepCase, TableStep, step_reason}
pub use Rattle.pb_steps.specs.declared.phase.Phase.{Phase}
pub use Rattle.pb_steps.specs.declared.seen.RecordedRead.{RecordedRead}
pub use Rattle.pb_steps.specs.declared.step.Answer.{Answer}
pub use Rattle.pb_steps.specs.declared.step.Declared.{Declared}
pub use Rattle.pb_steps.specs.declared.step.Step.{Step}
pub use Rattle.pb_steps.specs.declared.step.Work.{Work}
pub use Rattle.pb_history.specs.History.{Has, InHistory, IsEntry, IsSnapshot, Member, NoSnapshot, WritesTo}
pub use Rattle.pb_history.specs.Journals.{IsLegal}
pub use Rattle.pb_history.specs.RunsTold.{IsValueAt}
pub use Rattle.pb_history.specs.Sound.{IsSoundTable}
pub use Rattle.pb_history.specs.TableView.{reads_recorded}
pub use Rattle.pb_history.specs.declared.entry.Entry.{Entry}
