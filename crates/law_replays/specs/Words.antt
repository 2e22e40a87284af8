-- The words of the crates below, for this crate's definitions and proofs.
pub use Rattle.pb_base.specs.Batch.{Writes}
pub use Rattle.pb_base.specs.Cell.{row_of}
pub use Rattle.pb_base.specs.declared.cell.Cell.{Cell}
pub use Rattle.pb_base.specs.declared.names.Ts.{Ts}
pub use Rattle.pb_isa.specs.declared.limits.TheConstants.{MAX_RECORD_BYTES}
pub use Rattle.pb_accepted.specs.Observers.{ObserverOf}
pub use Rattle.pb_sound.specs.OneMeaning.{EachHasOneMeaning}
pub use Rattle.pb_steps.specs.State.{StateOf}
pub use Rattle.pb_steps.specs.Steps.{TableStep}
pub use Rattle.pb_steps.specs.declared.step.Answer.{Answer}
pub use Rattle.pb_steps.specs.declared.step.Declared.{Declared}
pub use Rattle.pb_steps.specs.declared.step.Step.{Step}
pub use Rattle.pb_steps.specs.declared.step.Work.{Work}
pub use Rattle.pb_history.specs.Journals.{JournalLeads}
pub use Rattle.pb_history.specs.Laws.{OpeningIsSound, StepsHaveOneOutcome, StepsKeepSound}
pub use Rattle.pb_history.specs.Sound.{IsSoundTable}
pub use Rattle.pb_history.specs.declared.entry.Received.{Received}
pub use Rattle.pb_state.specs.MoreObservers.{HasMoreObservers}
pub use Rattle.pb_conversations.specs.Conversations.{took, went}
pub use Rattle.pb_conversations.specs.Parts.{no_part, one_part}
pub use Rattle.pb_txn.specs.Conversations.{told}
pub use Rattle.pb_txn.specs.Forms.{IsWhole, committed, prewrites, secondaries}
pub use Rattle.pb_txn.specs.declared.place.Outcome.{Outcome}
pub use Rattle.pb_notify.specs.Allowed.{entries_by}
pub use Rattle.pb_notify.specs.Conversations.{Reaches}
pub use Rattle.pb_notify.specs.Led.{MachinesAreLed}
pub use Rattle.pb_notify.specs.Runs.{RunOf, Watch, fresh, need_of, next_of, watch_of}
pub use Rattle.pb_notify.specs.declared.need.JobEnd.{JobEnd}
pub use Rattle.pb_notify.specs.declared.need.Need.{Need}
pub use Rattle.pb_notify.specs.declared.place.RunPlace.{RunPlace}
pub use Rattle.pb_passes.specs.Passes.{AreAllRuns, AreRuns, EndsDrain, HasColumn, IsDrain, IsMarkRun, IsMarkless, IsNextPass, IsNextTurn, IsOfOther, IsPass, IsRun, IsTurnOf}
pub use Rattle.pb_passes.specs.declared.passes.TheConstants.{MAX_PASSES}
pub use Rattle.pb_generations.specs.Chosen.{ChosenAreSound}
pub use Rattle.pb_generations.specs.Snapshots.{LeftAreSound}
