-- The words of the crates below, for this crate's definitions and proofs.
pub use Rattle.pb_base.specs.Batch.{Writes}
pub use Rattle.pb_base.specs.Cell.{row_of}
pub use Rattle.pb_base.specs.declared.cell.Cell.{Cell}
pub use Rattle.pb_base.specs.declared.content.Revision.{Revision}
pub use Rattle.pb_base.specs.declared.names.Row.{Row}
pub use Rattle.pb_base.specs.declared.names.Ts.{Ts}
pub use Rattle.pb_base.specs.declared.refusal.Reason.{Reason}
pub use Rattle.pb_base.specs.declared.refusal.Refusal.{Refusal}
pub use Rattle.pb_isa.specs.Meaning.{Talk}
pub use Rattle.pb_accepted.specs.Observers.{ObserverOf}
pub use Rattle.pb_finished.specs.Finished.{Meant}
pub use Rattle.pb_steps.specs.Answers.{CanAnswer}
pub use Rattle.pb_steps.specs.Read.{read_step}
pub use Rattle.pb_steps.specs.Reads.{asked_cell}
pub use Rattle.pb_steps.specs.Reasons.{is_out}
pub use Rattle.pb_steps.specs.State.{StateOf, opening}
pub use Rattle.pb_steps.specs.Steps.{step_reason}
pub use Rattle.pb_steps.specs.declared.seen.Seen.{Seen}
pub use Rattle.pb_steps.specs.declared.step.Answer.{Answer}
pub use Rattle.pb_steps.specs.declared.step.Declared.{Declared}
pub use Rattle.pb_steps.specs.declared.step.Step.{Step}
pub use Rattle.pb_steps.specs.declared.step.Work.{Work}
pub use Rattle.pb_history.specs.History.{Has, InHistory, IsEntry, Member}
pub use Rattle.pb_history.specs.Journals.{JournalLeads}
pub use Rattle.pb_history.specs.Laws.{TransactionsAreTold}
pub use Rattle.pb_history.specs.Places.{entries_of}
pub use Rattle.pb_history.specs.TransactionsTold.{BeginsOnce, TellsTransactions, entries_naming, is_begin, names_start}
pub use Rattle.pb_history.specs.declared.entry.Entry.{Entry}
pub use Rattle.pb_history.specs.declared.entry.Received.{Received}
pub use Rattle.pb_core.specs.Calls.{AreSeats, AreSeatsFrom, SeatOf, SharedOf}
pub use Rattle.pb_core.specs.Histories.{IsLegalTable}
pub use Rattle.pb_conversations.specs.Parts.{no_part, one_part}
pub use Rattle.pb_txn.specs.Changes.{ChangeOf, Converses, IsWholeChange, new_change}
pub use Rattle.pb_txn.specs.Conversations.{told}
pub use Rattle.pb_txn.specs.Forms.{AreCleared, IsWhole, committed, conflicted_first, conflicted_later, lost, prewrites, secondaries}
pub use Rattle.pb_txn.specs.declared.place.Outcome.{Outcome}
pub use Rattle.pb_txn.specs.declared.place.PlanPlace.{PlanPlace}
pub use Rattle.pb_notify.specs.Forms.{AreAsked, AreRounds, IsAcknowledged, IsLooked, IsObserved, IsRecalled, IsRound, IsRunConversation, LooksFrom, absent, asked, at_acknowledgment, at_ask, at_cell, at_old, blocked, clean, conflicted, dirty, its_begin, ran}
pub use Rattle.pb_notify.specs.Runs.{Watch, watch_of}
pub use Rattle.pb_notify.specs.declared.need.JobEnd.{JobEnd}
pub use Rattle.pb_threads.specs.Gains.{Gains, OpeningOf}
pub use Rattle.pb_passes.specs.Begun.{IsDrainBegun, IsRunBegun}
pub use Rattle.pb_passes.specs.Passes.{IsDrain, IsRun}
pub use Rattle.pb_threads.specs.Stops.{AreChangesBegun, AreTriesBegun}
pub use Rattle.pb_threads.specs.Swaps.{Spare}
pub use Rattle.pb_threads.specs.Tries.{AreTried, AreTries, AreVain, IsDone, IsTry, has_commit, is_commit, is_commit_outcome}
pub use Rattle.pb_threads.specs.Work.{AreFilled, AreTriedThen, IsDrainTo, IsLastDrain, IsWork, WorkedOn, is_done, share_of, undone_below}
pub use Rattle.pb_ending.specs.Agrees.{Agree}
