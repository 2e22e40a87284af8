-- The words of the crates below, for this crate's definitions and proofs.
pub use Rattle.pb_base.specs.Batch.{Writes, content_in, is_unstamped, primary_in}
pub use Rattle.pb_base.specs.Cell.{cell_cmp, cell_cmp-IsAntisymmetric, cell_cmp_total}
pub use Rattle.pb_base.specs.Same.{is_same, same_is}
unfoldable pub use Rattle.pb_base.specs.Same.{same}
pub use Rattle.pb_base.specs.declared.cell.Cell.{Cell}
pub use Rattle.pb_base.specs.declared.content.Content.{Content}
pub use Rattle.pb_base.specs.declared.content.Revision.{Revision}
pub use Rattle.pb_base.specs.declared.limits.TheConstants.{MAX_OBSERVERS, MAX_SEATS}
pub use Rattle.pb_base.specs.declared.names.Row.{Row}
pub use Rattle.pb_base.specs.declared.names.Ts.{Ts}
pub use Rattle.pb_base.specs.declared.refusal.Reason.{Reason}
pub use Rattle.pb_isa.specs.Meaning.{Talk}
pub use Rattle.pb_isa.specs.Programs.{JudgedOf, judged_code}
pub use Rattle.pb_helpers.specs.OldRecord.{record_by, tells_old}
pub use Rattle.pb_accepted.specs.Observers.{ObserverOf, acknowledgment, acknowledgment_at, observed_cell}
pub use Rattle.pb_finished.specs.Finished.{Meant}
pub use Rattle.pb_store.specs.Contents.{ComesAfter, Entries, IsNewest, IsNextMark, IsOfSort, Marks, entries_after, slot_at}
pub use Rattle.pb_store.specs.Slot.{slot_cmp, slot_cmp-IsAntisymmetric, slot_cmp_total, sort_rank}
pub use Rattle.pb_store.specs.TableOf.{TableOf}
pub use Rattle.pb_store.specs.declared.slot.Item.{Item}
pub use Rattle.pb_store.specs.declared.slot.Slot.{Slot}
pub use Rattle.pb_store.specs.declared.slot.Sort.{Sort}
pub use Rattle.pb_steps.specs.Clear.{NoWriteOf}
pub use Rattle.pb_steps.specs.CommitSecondary.{if_locked}
pub use Rattle.pb_steps.specs.Commits.{commit_lock}
pub use Rattle.pb_steps.specs.Declarations.{AreReplies, IsItsRun, IsReadOf, MayDeclare, WasOld, WasSeen, are_replies, asked_in, is_at, is_its, is_made_of, is_read_of, is_replied, is_run, is_run_by, old_at, seen_by, seen_in, with_old}
pub use Rattle.pb_steps.specs.Marks.{AllUpToDate, SomeBehind, is_marked, is_observed, stamp_in, with_mark}
pub use Rattle.pb_steps.specs.Phases.{is_reading}
pub use Rattle.pb_steps.specs.Read.{ReadsAbsent, read_step, with_read}
pub use Rattle.pb_steps.specs.Readings.{IsLockOn, IsNewestVersion, IsVersion, NoLock, NoLockUpTo, NoVersion, NoWriteFrom, SomeLock, SomeWriteFrom, data_at, data_of, is_lock, last_timestamp, lock_at, primary_of, start_of, write_at}
pub use Rattle.pb_steps.specs.Reads.{acknowledged_in, asked_cell, found_answer, read_up_to, value_code, value_in, version_in}
pub use Rattle.pb_steps.specs.Reasons.{IsOwn}
pub use Rattle.pb_steps.specs.State.{StateOf, TransactionOf, Transactions, batch_in, cells_of, is_in, opening, with_transaction}
pub use Rattle.pb_steps.specs.Steps.{StepCase, TableStep, step_reason}
pub use Rattle.pb_steps.specs.declared.phase.Phase.{Phase}
pub use Rattle.pb_steps.specs.declared.seen.RecordedRead.{RecordedRead}
pub use Rattle.pb_steps.specs.declared.seen.Seen.{Seen}
pub use Rattle.pb_steps.specs.declared.step.Answer.{Answer}
pub use Rattle.pb_steps.specs.declared.step.Declared.{Declared}
pub use Rattle.pb_steps.specs.declared.step.Step.{Step}
pub use Rattle.pb_steps.specs.declared.step.Work.{Work}
pub use Rattle.pb_history.specs.History.{Has}
pub use Rattle.pb_history.specs.Sound.{IsCommittedAt, IsSoundTable, IsSoundView}
pub use Rattle.pb_history.specs.TableView.{TableView}
