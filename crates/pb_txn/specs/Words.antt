-- The words of the crates below, for this crate's definitions and proofs.
pub use Rattle.pb_base.specs.Batch.{Writes, are_distinct, content_in, primary_in}
pub use Rattle.pb_base.specs.Cell.{cell_cmp, cell_cmp_total, column_of, row_of}
pub use Rattle.pb_base.specs.declared.cell.Cell.{Cell}
pub use Rattle.pb_base.specs.declared.content.Content.{Content}
pub use Rattle.pb_base.specs.declared.content.Revision.{Revision}
pub use Rattle.pb_base.specs.declared.names.Ts.{Ts}
pub use Rattle.pb_base.specs.declared.refusal.Reason.{Reason}
pub use Rattle.pb_helpers.specs.OldRecord.{record_by}
pub use Rattle.pb_helpers.specs.Record.{recorded_column, recorded_row}
pub use Rattle.pb_accepted.specs.Observers.{ObserverOf, observed_cell, observed_column}
pub use Rattle.pb_steps.specs.Answers.{CanAnswer}
pub use Rattle.pb_steps.specs.CommitSecondary.{secondary_reasons}
pub use Rattle.pb_steps.specs.Phases.{is_committed, is_declared, is_stamped}
pub use Rattle.pb_steps.specs.Prewrite.{is_before_primary, is_early, prewrite_reasons}
pub use Rattle.pb_steps.specs.Reasons.{Reasons, first_reason, is_out, own_reasons}
pub use Rattle.pb_steps.specs.Stamp.{is_whole, unstamped_reasons}
pub use Rattle.pb_steps.specs.State.{StateOf, TransactionOf, batch_in, cells_of, is_in, new_transaction}
pub use Rattle.pb_steps.specs.Steps.{step_reason}
pub use Rattle.pb_steps.specs.declared.phase.Phase.{Phase}
pub use Rattle.pb_steps.specs.declared.step.Answer.{Answer}
pub use Rattle.pb_steps.specs.declared.step.Declared.{Declared}
pub use Rattle.pb_steps.specs.declared.step.Step.{Step}
pub use Rattle.pb_steps.specs.declared.step.Work.{Work}
pub use Rattle.pb_history.specs.History.{Has, IsEntry, IsForWork, TellsHistory}
pub use Rattle.pb_history.specs.Journals.{IsLegal}
pub use Rattle.pb_history.specs.Laws.{HistoriesAreTold, JournalsAreSound, TransactionsAreTold}
pub use Rattle.pb_history.specs.TransactionsTold.{BeginsOnce, TellsTransactions, committed_phase, entries_naming, is_begin, names_start, transaction_after, transaction_by, transaction_from}
pub use Rattle.pb_history.specs.declared.entry.Entry.{Entry}
pub use Rattle.pb_history.specs.declared.entry.Received.{Received}
pub use Rattle.pb_conversations.specs.Conversations.{IsConversation, JobOf, asking_job, took, went}
pub use Rattle.pb_conversations.specs.Parts.{IsBeginningOf, no_part, one_part}
