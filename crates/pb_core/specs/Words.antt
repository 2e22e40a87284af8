-- The words of the crates below, for this crate's definitions and proofs.
pub use Rattle.pb_base.specs.Cell.{cell_cmp, cell_cmp_total}
pub use Rattle.pb_base.specs.Reasons.{reason_code}
pub use Rattle.pb_base.specs.declared.cell.Cell.{Cell}
pub use Rattle.pb_base.specs.declared.limits.TheConstants.{MAX_ENTRIES}
pub use Rattle.pb_base.specs.declared.refusal.Reason.{Reason}
pub use Rattle.pb_accepted.specs.Observers.{ObserverOf}
pub use Rattle.pb_store.specs.Contents.{Entries, Marks}
pub use Rattle.pb_store.specs.Slot.{slot_cmp, slot_cmp_total}
pub use Rattle.pb_store.specs.declared.slot.Item.{Item}
pub use Rattle.pb_store.specs.declared.slot.Slot.{Slot}
pub use Rattle.pb_steps.specs.CommitSecondary.{if_locked}
pub use Rattle.pb_steps.specs.Marks.{is_observed, with_mark}
pub use Rattle.pb_steps.specs.State.{StateOf, opening, state_code}
pub use Rattle.pb_steps.specs.Steps.{StepCase, TableStep, step_reason}
pub use Rattle.pb_steps.specs.declared.step.Answer.{Answer}
pub use Rattle.pb_steps.specs.declared.step.Step.{Step}
pub use Rattle.pb_history.specs.CommitOrder.{TellsCommitOrder}
pub use Rattle.pb_history.specs.Handled.{TellsHandlers, TellsOneHandler, TellsQuiet}
pub use Rattle.pb_history.specs.History.{TellsHistory}
pub use Rattle.pb_history.specs.Journals.{IsLegal, JournalLeads}
pub use Rattle.pb_history.specs.MarksTold.{TellsMarks}
pub use Rattle.pb_history.specs.Places.{entries_of, places_from}
pub use Rattle.pb_history.specs.ReadsTold.{TellsReads}
pub use Rattle.pb_history.specs.RunCounts.{TellsRunCounts}
pub use Rattle.pb_history.specs.RunsTold.{TellsRuns}
pub use Rattle.pb_history.specs.ScriptsTold.{TellsScripts}
pub use Rattle.pb_history.specs.SnapshotsTold.{TellsSnapshots}
pub use Rattle.pb_history.specs.Timestamps.{TellsTimestamps}
pub use Rattle.pb_history.specs.WritersTold.{TellsWriters}
pub use Rattle.pb_history.specs.declared.entry.Entry.{Entry}
pub use Rattle.pb_history.specs.declared.entry.Received.{Received}
