-- The words of the crates below, for this crate's definitions and proofs.
pub use Rattle.pb_base.specs.Batch.{Writes, is_batch}
pub use Rattle.pb_base.specs.Growths.{refused_growth}
pub use Rattle.pb_base.specs.Reasons.{memory_refusal, reason_code, refusal_by}
pub use Rattle.pb_base.specs.declared.names.Row.{Row}
pub use Rattle.pb_base.specs.declared.names.Ts.{Ts}
pub use Rattle.pb_base.specs.declared.refusal.NoMemory.{NoMemory}
pub use Rattle.pb_base.specs.declared.refusal.Reason.{Reason}
pub use Rattle.pb_base.specs.declared.refusal.Refusal.{Refusal}
pub use Rattle.pb_isa.specs.Machine.{IsPlacement, Placement, State, Stuck}
unfoldable pub use Rattle.pb_isa.specs.Machine.{act}
pub use Rattle.pb_isa.specs.Programs.{IsProgram, JudgedOf}
pub use Rattle.pb_isa.specs.Slots.{slots}
pub use Rattle.pb_isa.specs.declared.limits.TheConstants.{MAX_RECORD_BYTES}
pub use Rattle.pb_accepted.specs.Arriving.{Accepts}
pub use Rattle.pb_accepted.specs.Observers.{ObserverOf}
pub use Rattle.pb_sound.specs.NeverStuck.{AcceptedAreNeverStuck}
pub use Rattle.pb_vm.specs.Moves.{IsAtState, environment_at}
pub use Rattle.pb_vm.specs.Position.{Position}
pub use Rattle.pb_steps.specs.Answers.{CanAnswer}
pub use Rattle.pb_steps.specs.State.{opening}
pub use Rattle.pb_steps.specs.declared.step.Answer.{Answer}
pub use Rattle.pb_steps.specs.declared.step.Step.{Step}
pub use Rattle.pb_history.specs.History.{Has}
pub use Rattle.pb_history.specs.Journals.{IsLegal, JournalLeads}
pub use Rattle.pb_history.specs.Places.{entries_of}
pub use Rattle.pb_history.specs.RecordsTold.{TellsRecords}
pub use Rattle.pb_history.specs.declared.entry.Entry.{Entry}
pub use Rattle.pb_history.specs.declared.entry.Received.{Received}
pub use Rattle.pb_core.specs.Calls.{AreSeats, AreSeatsFrom, Calls, SeatOf, SharedOf, call_reason}
pub use Rattle.pb_core.specs.Codes.{shared_code}
pub use Rattle.pb_core.specs.Histories.{HandlesOnce, IsLegalTable, IsSnapshotHistory}
pub use Rattle.pb_parse.specs.declared.event.Event.{Event}
pub use Rattle.pb_parse.specs.declared.event.Job.{Job}
pub use Rattle.pb_conversations.specs.Conversations.{IsMove, JobOf, took, went}
pub use Rattle.pb_conversations.specs.Parts.{no_part, one_part}
pub use Rattle.pb_txn.specs.Changes.{BeginsChange, ChangeOf, ChangesConverse, Converses, new_change}
pub use Rattle.pb_notify.specs.Conversations.{Reaches, run_job}
pub use Rattle.pb_notify.specs.Forms.{BeginsRun, JobsConverse}
pub use Rattle.pb_notify.specs.Led.{AsksAreOpen, EndedRunsMean, HasEnded, IsAskingAt, IsMachineOf, MachineStandsAt, MachinesAreLed}
pub use Rattle.pb_notify.specs.Runs.{RunOf, Watch, fresh, need_of, watch_of}
pub use Rattle.pb_notify.specs.declared.need.Need.{Need}
