-- The words of the crates below, for this crate's definitions and proofs.
pub use Rattle.pb_base.specs.Batch.{Writes}
pub use Rattle.pb_base.specs.Cell.{row_of}
pub use Rattle.pb_base.specs.Reasons.{memory_refusal, refusal_by}
pub use Rattle.pb_base.specs.declared.cell.Cell.{Cell}
pub use Rattle.pb_base.specs.declared.names.Ts.{Ts}
pub use Rattle.pb_base.specs.declared.refusal.Reason.{Reason}
pub use Rattle.pb_base.specs.declared.refusal.Refusal.{Refusal}
pub use Rattle.pb_accepted.specs.Observers.{ObserverOf}
pub use Rattle.pb_store.specs.Contents.{Contents}
pub use Rattle.pb_store.specs.Tiles.{refusal_or_want, swap_reason}
pub use Rattle.pb_steps.specs.Answers.{CanAnswer}
pub use Rattle.pb_steps.specs.declared.step.Answer.{Answer}
pub use Rattle.pb_steps.specs.declared.step.Declared.{Declared}
pub use Rattle.pb_steps.specs.declared.step.Step.{Step}
pub use Rattle.pb_steps.specs.declared.step.Work.{Work}
pub use Rattle.pb_history.specs.declared.entry.Entry.{Entry}
pub use Rattle.pb_history.specs.declared.entry.Received.{Received}
pub use Rattle.pb_core.specs.Calls.{AreSeatsFrom, SeatOf, SharedOf, call_reason}
pub use Rattle.pb_core.specs.Histories.{IsLegalTable}
pub use Rattle.pb_conversations.specs.Conversations.{HasAsked, took}
pub use Rattle.pb_conversations.specs.Parts.{IsOfParts, EndsIn, IsNextOf, no_part, one_part}
pub use Rattle.pb_txn.specs.Changes.{ChangeOf, ChangesConverse, ChangesEnd, Converses, IsSomeChange, IsWholeChange, change_job, new_change, outcome_of}
pub use Rattle.pb_txn.specs.Conversations.{told}
pub use Rattle.pb_txn.specs.Forms.{PlansStop}
pub use Rattle.pb_txn.specs.declared.place.Outcome.{Outcome}
pub use Rattle.pb_notify.specs.Conversations.{ComputesOn, Reaches}
pub use Rattle.pb_notify.specs.Forms.{JobsConverse, JobsEnd}
pub use Rattle.pb_notify.specs.Runs.{HasNext, HearsLook, RunOf, need_of, watch_of}
pub use Rattle.pb_notify.specs.declared.need.JobEnd.{JobEnd}
pub use Rattle.pb_notify.specs.declared.need.Need.{Need}
