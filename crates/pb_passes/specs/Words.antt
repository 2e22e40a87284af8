-- The words of the crates below, for this crate's definitions and proofs.
pub use Rattle.pb_base.specs.Cell.{column_of, row_of}
pub use Rattle.pb_base.specs.declared.cell.Cell.{Cell}
pub use Rattle.pb_accepted.specs.Observers.{ObserverOf}
pub use Rattle.pb_steps.specs.Answers.{CanAnswer}
pub use Rattle.pb_steps.specs.declared.step.Answer.{Answer}
pub use Rattle.pb_steps.specs.declared.step.Step.{Step}
pub use Rattle.pb_history.specs.declared.entry.Received.{Received}
pub use Rattle.pb_conversations.specs.Conversations.{HasAsked}
pub use Rattle.pb_conversations.specs.Parts.{IsOfParts, EndsIn, IsNextOf}
pub use Rattle.pb_txn.specs.Conversations.{told}
pub use Rattle.pb_notify.specs.Conversations.{run_job}
pub use Rattle.pb_notify.specs.Forms.{IsSomeRun, IsWholeRun}
pub use Rattle.pb_notify.specs.Runs.{RunOf, fresh, watch_of}
pub use Rattle.pb_notify.specs.declared.need.JobEnd.{JobEnd}
