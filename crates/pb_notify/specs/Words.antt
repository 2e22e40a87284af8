-- The words of the crates below, for this crate's definitions and proofs.
pub use Rattle.pb_base.specs.Same.{is_same}
pub use Rattle.pb_base.specs.declared.cell.Cell.{Cell}
pub use Rattle.pb_base.specs.declared.content.Revision.{Revision}
pub use Rattle.pb_base.specs.declared.names.Row.{Row}
pub use Rattle.pb_base.specs.declared.names.Ts.{Ts}
pub use Rattle.pb_base.specs.declared.refusal.Reason.{Reason}
pub use Rattle.pb_isa.specs.Machine.{IsPlacement, Placement, State}
pub use Rattle.pb_isa.specs.Meaning.{Talk}
pub use Rattle.pb_isa.specs.Programs.{JudgedOf, judged_code}
pub use Rattle.pb_isa.specs.Slots.{slots}
pub use Rattle.pb_helpers.specs.OldRecord.{record_by, tells_old}
pub use Rattle.pb_helpers.specs.Replies.{ask_of, reply_of}
pub use Rattle.pb_helpers.specs.declared.ask.Ask.{Ask}
pub use Rattle.pb_accepted.specs.Observers.{ObserverOf, acknowledgment, column_or_zero, observed_cell, observed_column}
pub use Rattle.pb_finished.specs.Finished.{IsMeant, Meant}
pub use Rattle.pb_vm.specs.MachineSlot.{IsAtSlot}
pub use Rattle.pb_vm.specs.Moves.{Advances, AskedFor, AsksAt, EndsAt, Finishes, IsAskOrEnd, IsAtState, Moves, RepliedWith, Went}
pub use Rattle.pb_vm.specs.Position.{Position}
pub use Rattle.pb_vm.specs.declared.moved.MachinePhase.{MachinePhase}
pub use Rattle.pb_vm.specs.declared.moved.Moved.{Moved}
pub use Rattle.pb_steps.specs.Answers.{CanAnswer}
pub use Rattle.pb_steps.specs.CommitPrimary.{commit_reasons}
pub use Rattle.pb_steps.specs.Declarations.{AreReplies, IsItsRun, IsReadOf, WasOld, WasSeen, are_replies, asked_in, is_at, is_its, is_read_of, is_run, is_run_by, old_at, seen_in, with_old}
pub use Rattle.pb_steps.specs.Phases.{is_reading}
pub use Rattle.pb_steps.specs.Prewrite.{prewrite_reasons}
pub use Rattle.pb_steps.specs.Read.{read_step, with_read}
pub use Rattle.pb_steps.specs.Reads.{acknowledged_in, asked_cell, read_up_to, value_code, value_in, version_in}
pub use Rattle.pb_steps.specs.Reasons.{IsOwn, Reasons, first_reason, no_seat, own_reasons}
pub use Rattle.pb_steps.specs.State.{StateOf, TransactionOf, new_transaction}
pub use Rattle.pb_steps.specs.Steps.{step_reason}
pub use Rattle.pb_steps.specs.declared.seen.RecordedRead.{RecordedRead}
pub use Rattle.pb_steps.specs.declared.seen.Seen.{Seen}
pub use Rattle.pb_steps.specs.declared.step.Answer.{Answer}
pub use Rattle.pb_steps.specs.declared.step.Declared.{Declared}
pub use Rattle.pb_steps.specs.declared.step.Step.{Step}
pub use Rattle.pb_steps.specs.declared.step.Work.{Work}
pub use Rattle.pb_history.specs.AcknowledgedTold.{TellsAcknowledged}
pub use Rattle.pb_history.specs.History.{Has, IsEntry}
pub use Rattle.pb_history.specs.Journals.{IsLegal}
pub use Rattle.pb_history.specs.Laws.{AcknowledgedIsEarlier, JournalsAreSound, TransactionsAreTold}
pub use Rattle.pb_history.specs.Places.{entries_of}
pub use Rattle.pb_history.specs.TransactionsTold.{BeginsOnce, TellsTransactions, entries_naming, is_begin, names_start, transaction_after, transaction_by, transaction_from}
pub use Rattle.pb_history.specs.declared.entry.Entry.{Entry}
pub use Rattle.pb_history.specs.declared.entry.Received.{Received}
pub use Rattle.pb_conversations.specs.Conversations.{IsConversation, JobOf, took, went}
pub use Rattle.pb_conversations.specs.Parts.{IsBeginningOf, no_part, one_part}
pub use Rattle.pb_txn.specs.Allowed.{HasSaid, IsTimely, IsWorkInRange, PlansAreAllowed, names}
pub use Rattle.pb_txn.specs.Conversations.{Converses, told}
pub use Rattle.pb_txn.specs.Forms.{IsWhole, PlansConverse, PlansEnd}
pub use Rattle.pb_txn.specs.Places.{LiesWithin, declared_cells, place_after, step_at}
pub use Rattle.pb_txn.specs.Plans.{CanTake, PlanOf, answered, fresh, next_of, outcome_of}
pub use Rattle.pb_txn.specs.declared.place.Outcome.{Outcome}
pub use Rattle.pb_txn.specs.declared.place.PlanPlace.{PlanPlace}
