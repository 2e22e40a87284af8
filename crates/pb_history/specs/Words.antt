-- The words of the crates below, for this crate's definitions and proofs.
pub use Rattle.pb_base.specs.Batch.{Writes, are_distinct, content_in, is_batch, is_data_write, primary_in}
pub use Rattle.pb_base.specs.Cell.{cell_cmp, cell_cmp-IsAntisymmetric, cell_cmp_total, is_data}
pub use Rattle.pb_base.specs.Reasons.{reason_code}
pub use Rattle.pb_base.specs.declared.cell.Cell.{Cell}
pub use Rattle.pb_base.specs.declared.content.Content.{Content}
pub use Rattle.pb_base.specs.declared.content.Revision.{Revision}
pub use Rattle.pb_base.specs.declared.limits.TheConstants.{MAX_CELLS}
pub use Rattle.pb_base.specs.declared.names.Row.{Row}
pub use Rattle.pb_base.specs.declared.names.Ts.{Ts}
pub use Rattle.pb_isa.specs.Machine.{Ask, Reply}
pub use Rattle.pb_isa.specs.Meaning.{Means, Talk}
pub use Rattle.pb_isa.specs.Programs.{JudgedOf}
pub use Rattle.pb_helpers.specs.OldRecord.{record_by, tells_old}
pub use Rattle.pb_accepted.specs.Observers.{ObserverOf, acknowledgment, column_or_zero, observed_cell, observed_column}
pub use Rattle.pb_sound.specs.RunWrites.{AreRunWrites}
pub use Rattle.pb_finished.specs.Finished.{IsMeant, Meant}
pub use Rattle.pb_store.specs.Contents.{ComesAfter, Entries, IsNextMark, IsOfSort, Marks, slot_at}
pub use Rattle.pb_store.specs.Slot.{slot_cmp, slot_cmp-IsAntisymmetric, slot_cmp_total}
pub use Rattle.pb_store.specs.declared.slot.Item.{Item}
pub use Rattle.pb_store.specs.declared.slot.Slot.{Slot}
pub use Rattle.pb_store.specs.declared.slot.Sort.{Sort}
pub use Rattle.pb_steps.specs.Answers.{CanAnswer}
pub use Rattle.pb_steps.specs.Begin.{Begins}
pub use Rattle.pb_steps.specs.Clear.{ClearWaits, ClearsBack, ClearsCommitted}
pub use Rattle.pb_steps.specs.CommitPrimary.{CommitsPrimary, Loses}
pub use Rattle.pb_steps.specs.CommitSecondary.{CommitsSecondary, if_locked}
pub use Rattle.pb_steps.specs.Commits.{commit_lock, commits, erase_lock, rolls_back}
pub use Rattle.pb_steps.specs.Declarations.{AreReplies, IsItsRun, IsKnown, IsReadOf, MayDeclare, WasOld, old_at}
pub use Rattle.pb_steps.specs.Declare.{Declares}
pub use Rattle.pb_steps.specs.Marks.{AllUpToDate, IsBehind, SomeBehind, is_marked, is_observed, stamp_in, with_mark}
pub use Rattle.pb_steps.specs.NextMark.{FindsMark, FindsNone}
pub use Rattle.pb_steps.specs.Phases.{is_committed, is_declared, is_reading}
pub use Rattle.pb_steps.specs.Prewrite.{Conflicts, Prewrites, is_before_primary, put_lock}
pub use Rattle.pb_steps.specs.Read.{ReadsAbsent, ReadsFound, ReadsLocked, with_read}
pub use Rattle.pb_steps.specs.Readings.{IsLockOn, IsNewestVersion, IsVersion, NoLock, NoLockUpTo, NoVersion, data_at, data_of, is_lock, last_timestamp, lock_at, lock_count, primary_of, start_of, write_at}
pub use Rattle.pb_steps.specs.Reads.{acknowledged_in, asked_cell, found_answer, read_up_to, stamp_of, value_in, value_of, version_in}
pub use Rattle.pb_steps.specs.Reasons.{IsOwn, Reasons, is_out}
pub use Rattle.pb_steps.specs.Settle.{MeetsNoLock, MeetsSecondary, Settles}
pub use Rattle.pb_steps.specs.Stamp.{Stamps}
pub use Rattle.pb_steps.specs.State.{StateOf, TransactionOf, Transactions, cells_of, is_in, new_transaction, opening, phase_in, with_transaction}
pub use Rattle.pb_steps.specs.Steps.{StepCase, TableStep, step_reasons}
pub use Rattle.pb_steps.specs.Sweep.{StaysMarked, Sweeps, SweepsNothing}
pub use Rattle.pb_steps.specs.declared.phase.Phase.{Phase}
pub use Rattle.pb_steps.specs.declared.seen.RecordedRead.{RecordedRead}
pub use Rattle.pb_steps.specs.declared.step.Answer.{Answer}
pub use Rattle.pb_steps.specs.declared.step.Declared.{Declared}
pub use Rattle.pb_steps.specs.declared.step.Step.{Step}
pub use Rattle.pb_steps.specs.declared.step.Work.{Work}
