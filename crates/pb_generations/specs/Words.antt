-- The words of the crates below, for this crate's definitions and proofs.
pub use Rattle.pb_base.specs.Batch.{Writes, content_in, is_batch, is_data_write, is_unstamped, primary_in}
pub use Rattle.pb_base.specs.Cell.{cell_cmp, column_of, is_data, row_of}
pub use Rattle.pb_base.specs.declared.cell.Cell.{Cell}
pub use Rattle.pb_base.specs.declared.content.Content.{Content}
pub use Rattle.pb_base.specs.declared.content.Revision.{Revision}
pub use Rattle.pb_base.specs.declared.names.Row.{Row}
pub use Rattle.pb_base.specs.declared.names.Ts.{Ts}
pub use Rattle.pb_base.specs.declared.refusal.Reason.{Reason}
pub use Rattle.pb_helpers.specs.OldRecord.{record_by, tells_old}
pub use Rattle.pb_accepted.specs.Observers.{ObserverOf, acknowledgment, column_or_zero, observed_cell}
pub use Rattle.pb_finished.specs.Finished.{IsMeant, Meant}
pub use Rattle.pb_store.specs.Contents.{Entries, Marks, slot_at}
pub use Rattle.pb_store.specs.Slot.{slot_cmp, slot_cmp-IsAntisymmetric, slot_cmp_total}
pub use Rattle.pb_store.specs.declared.slot.Item.{Item}
pub use Rattle.pb_store.specs.declared.slot.Slot.{Slot}
pub use Rattle.pb_store.specs.declared.slot.Sort.{Sort}
pub use Rattle.pb_steps.specs.Begin.{is_unknown}
pub use Rattle.pb_steps.specs.Clear.{NoWriteOf}
pub use Rattle.pb_steps.specs.CommitPrimary.{CommitsPrimary, commit_reasons}
pub use Rattle.pb_steps.specs.CommitSecondary.{CommitsSecondary, if_locked, secondary_reasons}
pub use Rattle.pb_steps.specs.Commits.{commit_lock, commits, erase_lock, rolls_back}
pub use Rattle.pb_steps.specs.Declarations.{AreReplies, IsKnown, IsReadOf, MayDeclare, WasOld, WasSeen, is_its, is_run_by, is_run_of, old_at}
pub use Rattle.pb_steps.specs.Declare.{declare_reasons}
pub use Rattle.pb_steps.specs.Marks.{AllUpToDate, IsUpToDate, SomeBehind, is_marked, is_observed, with_mark}
pub use Rattle.pb_steps.specs.Phases.{is_committed, is_declared, is_reading}
pub use Rattle.pb_steps.specs.Prewrite.{is_before_primary, is_early, prewrite_reasons, put_lock}
pub use Rattle.pb_steps.specs.Read.{ReadsAbsent, ReadsFound, ReadsLocked, read_at_reasons, read_reasons, read_step, with_read}
pub use Rattle.pb_steps.specs.Readings.{IsLockOn, IsNewestVersion, IsVersion, NoLock, NoLockUpTo, NoVersion, SomeLock, SomeWriteFrom, data_at, data_of, last_timestamp, lock_at, primary_of, start_of, write_at}
pub use Rattle.pb_steps.specs.Reads.{acknowledged_in, asked_cell, read_up_to, stamp_of, value_in, version_in}
pub use Rattle.pb_steps.specs.Reasons.{IsOwn, Reasons, first_reason, if_of_seat, is_out, no_seat, own_reasons, own_transaction, reasons_of}
pub use Rattle.pb_steps.specs.Stamp.{is_whole, unstamped_reasons}
pub use Rattle.pb_steps.specs.State.{StateOf, TransactionOf, Transactions, cells_of, is_in, new_transaction, opening, phase_in, with_transaction}
pub use Rattle.pb_steps.specs.Steps.{StepCase, TableStep, step_reason}
pub use Rattle.pb_steps.specs.declared.phase.Phase.{Phase}
pub use Rattle.pb_steps.specs.declared.seen.RecordedRead.{RecordedRead}
pub use Rattle.pb_steps.specs.declared.seen.Seen.{Seen}
pub use Rattle.pb_steps.specs.declared.step.Answer.{Answer}
pub use Rattle.pb_steps.specs.declared.step.Declared.{Declared}
pub use Rattle.pb_steps.specs.declared.step.Step.{Step}
pub use Rattle.pb_steps.specs.declared.step.Work.{Work}
pub use Rattle.pb_history.specs.Handled.{Handles, IsQuiet, TellsOneHandler}
pub use Rattle.pb_history.specs.History.{Has, InHistory, IsEntry, IsSnapshot, Member, NoSnapshot, WritesTo}
pub use Rattle.pb_history.specs.Journals.{IsLegal, JournalLeads}
pub use Rattle.pb_history.specs.Laws.{SoundHasData, StepsKeepSound, TransactionsAreTold}
pub use Rattle.pb_history.specs.Places.{entries_of}
pub use Rattle.pb_history.specs.RecordsTold.{WroteAt}
pub use Rattle.pb_history.specs.RunsTold.{IsAcknowledgedAt}
pub use Rattle.pb_history.specs.SnapshotsTold.{TellsSnapshot, TellsSnapshots}
pub use Rattle.pb_history.specs.Sound.{HasData, IsCommittedAt, IsSoundTable, KeepsData}
pub use Rattle.pb_history.specs.TableView.{TableView, declared_by, prewritten_by, reads_recorded, view_of}
pub use Rattle.pb_history.specs.Timestamps.{AreRising, TellsTimestamps, timestamps, with_timestamp}
pub use Rattle.pb_history.specs.TransactionsTold.{BeginsOnce, TellsTransactions, entries_naming, is_begin, names_start, transaction_after, transaction_by}
pub use Rattle.pb_history.specs.Words.{Reply, Talk}
pub use Rattle.pb_history.specs.declared.entry.Entry.{Entry}
pub use Rattle.pb_history.specs.declared.entry.Received.{Received}
pub use Rattle.pb_state.specs.MarkedBehind.{IsMarkedBehind}
pub use Rattle.pb_state.specs.MoreObservers.{HasMoreObservers}
pub use Rattle.pb_state.specs.SnapshotViews.{IsSnapshotView}
pub use Rattle.pb_conversations.specs.Conversations.{IsConversation, JobOf, took, went}
pub use Rattle.pb_conversations.specs.Parts.{no_part, one_part}
pub use Rattle.pb_txn.specs.Allowed.{IsTimely, IsWorkInRange, PlansAreAllowed}
pub use Rattle.pb_txn.specs.Changes.{ChangeOf, Converses, IsSomeChange, IsWholeChange, change_job, new_change}
pub use Rattle.pb_txn.specs.Conversations.{told}
pub use Rattle.pb_txn.specs.Forms.{AreCleared, IsWhole, PlansConverse, PlansEnd, committed, conflicted_first, conflicted_later, lost, prewrites}
pub use Rattle.pb_txn.specs.Places.{declared_cells}
pub use Rattle.pb_txn.specs.Plans.{PlanOf}
pub use Rattle.pb_txn.specs.Words.{recorded_column, recorded_row}
pub use Rattle.pb_txn.specs.declared.place.Outcome.{Outcome}
pub use Rattle.pb_txn.specs.declared.place.PlanPlace.{PlanPlace}
pub use Rattle.pb_notify.specs.Allowed.{HasRun, JobsAreAllowed, RunsAreKept, entries_by}
pub use Rattle.pb_notify.specs.Conversations.{Reaches, run_job}
pub use Rattle.pb_notify.specs.Forms.{IsAcknowledged, IsHeld}
pub use Rattle.pb_notify.specs.Looks.{look_step}
pub use Rattle.pb_notify.specs.Places.{step_at}
pub use Rattle.pb_notify.specs.Runs.{RunOf, Watch, fresh, next_of, watch_of}
pub use Rattle.pb_notify.specs.declared.look.Look.{Look}
pub use Rattle.pb_notify.specs.declared.place.RunPlace.{RunPlace}
