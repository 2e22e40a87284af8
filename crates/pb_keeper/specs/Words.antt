-- The words of the crates below, for this crate's definitions and proofs.
pub use Rattle.pb_base.specs.Batch.{Writes, content_in, primary_in}
pub use Rattle.pb_base.specs.Cell.{column_of, row_of}
pub use Rattle.pb_base.specs.declared.cell.Cell.{Cell}
pub use Rattle.pb_base.specs.declared.content.Content.{Content}
pub use Rattle.pb_base.specs.declared.content.Revision.{Revision}
pub use Rattle.pb_base.specs.declared.names.Row.{Row}
pub use Rattle.pb_base.specs.declared.names.Ts.{Ts}
pub use Rattle.pb_base.specs.declared.refusal.Reason.{Reason}
pub use Rattle.pb_isa.specs.Meaning.{Talk}
pub use Rattle.pb_accepted.specs.Observers.{ObserverOf}
pub use Rattle.pb_finished.specs.Finished.{Meant}
pub use Rattle.pb_store.specs.Contents.{Entries, IsNextMark, slot_at}
pub use Rattle.pb_store.specs.Slot.{slot_cmp}
pub use Rattle.pb_store.specs.declared.slot.Sort.{Sort}
pub use Rattle.pb_steps.specs.Answers.{CanAnswer}
pub use Rattle.pb_steps.specs.Begin.{Begins, is_unknown}
pub use Rattle.pb_steps.specs.CommitPrimary.{CommitsPrimary, Loses, commit_reasons}
pub use Rattle.pb_steps.specs.CommitSecondary.{CommitsSecondary, if_locked, secondary_reasons}
pub use Rattle.pb_steps.specs.Commits.{commit_lock}
pub use Rattle.pb_steps.specs.Declare.{Declares, declare_reasons}
pub use Rattle.pb_steps.specs.Phases.{is_reading}
pub use Rattle.pb_steps.specs.Prewrite.{Conflicts, Prewrites, is_early, prewrite_reasons, put_lock}
pub use Rattle.pb_steps.specs.Read.{read_at_reasons, read_reasons, read_step}
pub use Rattle.pb_steps.specs.Readings.{IsLockOn, last_timestamp, lock_at, primary_of, write_at}
pub use Rattle.pb_steps.specs.Reasons.{IsOwn, Reasons, first_reason, is_out, no_seat, own_transaction, reasons_of, seat_reasons}
pub use Rattle.pb_steps.specs.Stamp.{Stamps, unstamped_reasons}
pub use Rattle.pb_steps.specs.State.{StateOf, TransactionOf, cells_of, is_in, new_transaction, opening, phase_in}
pub use Rattle.pb_steps.specs.Steps.{StepCase, TableStep, step_reason}
pub use Rattle.pb_steps.specs.declared.phase.Phase.{Phase}
pub use Rattle.pb_steps.specs.declared.seen.Seen.{Seen}
pub use Rattle.pb_steps.specs.declared.step.Answer.{Answer}
pub use Rattle.pb_steps.specs.declared.step.Declared.{Declared}
pub use Rattle.pb_steps.specs.declared.step.Step.{Step}
pub use Rattle.pb_steps.specs.declared.step.Work.{Work}
pub use Rattle.pb_history.specs.History.{Has}
pub use Rattle.pb_history.specs.Journals.{JournalLeads}
pub use Rattle.pb_history.specs.Laws.{OpeningIsSound, StepsKeepSound}
pub use Rattle.pb_history.specs.Sound.{IsCommittedAt, IsSoundTable}
pub use Rattle.pb_history.specs.TableView.{declared_by, prewritten_by, view_of}
pub use Rattle.pb_history.specs.TransactionsTold.{committed_phase, names_start, transaction_after}
pub use Rattle.pb_history.specs.declared.entry.Entry.{Entry}
pub use Rattle.pb_history.specs.declared.entry.Received.{Received}
pub use Rattle.pb_state.specs.MarkedBehind.{IsMarkedBehind}
pub use Rattle.pb_state.specs.MoreObservers.{HasMoreObservers}
pub use Rattle.pb_conversations.specs.Conversations.{IsMove, took, went}
pub use Rattle.pb_conversations.specs.Parts.{IsOfParts, EndsIn, no_part, one_part}
pub use Rattle.pb_txn.specs.Changes.{BeginsChange, ChangeOf, ChangesConverse, ChangesEnd, Converses, IsWholeChange, new_change, outcome_in}
pub use Rattle.pb_txn.specs.Conversations.{told}
pub use Rattle.pb_txn.specs.Forms.{AreCleared, IsWhole, PlansStop, committed, conflicted_first, conflicted_later, lost, prewrites, secondaries}
pub use Rattle.pb_txn.specs.Plans.{PlanOf}
pub use Rattle.pb_txn.specs.declared.place.Outcome.{Outcome}
pub use Rattle.pb_notify.specs.Allowed.{entries_by}
pub use Rattle.pb_notify.specs.Conversations.{Reaches, run_job}
pub use Rattle.pb_notify.specs.Forms.{AreAsked, AreRounds, BeginsRun, IsAcknowledged, IsLooked, IsObserved, IsRecalled, IsRound, IsRunConversation, IsWholeRun, JobsConverse, JobsEnd, LooksFrom, absent, asked, at_acknowledgment, at_ask, at_cell, at_first, at_old, blocked, clean, cleared, conflicted, dirty, its_begin, one_more, ran, settled}
pub use Rattle.pb_notify.specs.Runs.{Computes, HearsLook, RunOf, Watch, answered, fresh, need_of, next_of, watch_of}
pub use Rattle.pb_notify.specs.declared.need.JobEnd.{JobEnd}
pub use Rattle.pb_notify.specs.declared.need.Need.{Need}
pub use Rattle.pb_notify.specs.declared.place.RunPlace.{RunPlace}
pub use Rattle.pb_notify.specs.Places.{IsPlanning}
pub use Rattle.pb_passes.specs.Passes.{AreAllRuns, ArePasses, AreRuns, HasColumn, IsDrain, IsJobOn, IsMarkRun, IsMarkless, IsNextPass, IsNextTurn, IsOfOther, IsPass, IsRun, IsTurnOf, IsWalk}
pub use Rattle.pb_passes.specs.declared.passes.TheConstants.{MAX_PASSES}
pub use Rattle.pb_generations.specs.Chosen.{AreChosen, ChosenAreSound, IsChosenSnapshot, chosen_state, new_number, renumbered_said}
pub use Rattle.pb_generations.specs.InTime.{ChangesAreInTime, MarksAreInTime, RunsAreInTime}
pub use Rattle.pb_generations.specs.KeptTables.{IsKeptTable, MarksKeepTables, RunsKeepTables, WholeChangesKeepTables, anew, chosen, opened, stepped}
pub use Rattle.pb_generations.specs.Mirrored.{IsUnlocked, carried, unmarked}
pub use Rattle.pb_generations.specs.Snapshots.{AreLeft, IsSnapshotOf, LeftAreSound}
