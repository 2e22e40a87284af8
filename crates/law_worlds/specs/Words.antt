-- The words of the crates below, for this crate's definitions and proofs.
pub use Rattle.pb_base.specs.Reasons.{reason_code}
pub use Rattle.pb_base.specs.declared.cell.Cell.{Cell}
pub use Rattle.pb_base.specs.declared.names.Ts.{Ts}
pub use Rattle.pb_base.specs.declared.refusal.Reason.{Reason}
pub use Rattle.pb_isa.specs.Machine.{IsPlacement, Placement}
pub use Rattle.pb_isa.specs.Meaning.{Means}
pub use Rattle.pb_isa.specs.declared.limits.TheConstants.{MAX_RECORD_BYTES}
pub use Rattle.pb_helpers.specs.declared.ask.Ask.{Ask}
pub use Rattle.pb_sound.specs.OneMeaning.{EachHasOneMeaning}
pub use Rattle.pb_finished.specs.Finished.{Meant}
pub use Rattle.pb_vm.specs.Moves.{AskedFor, SameGiven, Went}
pub use Rattle.pb_vm.specs.Position.{Position}
pub use Rattle.pb_steps.specs.declared.step.Declared.{Declared}
pub use Rattle.pb_steps.specs.declared.step.Step.{Step}
pub use Rattle.pb_history.specs.Laws.{JournalsAreSound, StepsHaveOneOutcome}
pub use Rattle.pb_history.specs.Sound.{IsSoundTable}
pub use Rattle.pb_history.specs.declared.entry.Received.{Received}
pub use Rattle.pb_core.specs.Calls.{SeatOf, call_reason}
pub use Rattle.pb_parse.specs.declared.event.Event.{Event}
pub use Rattle.pb_parse.specs.declared.event.Job.{Job}
pub use Rattle.pb_txn.specs.Plans.{fresh}
pub use Rattle.pb_notify.specs.Led.{MachineStandsAt, MachinesAreLed}
pub use Rattle.pb_notify.specs.Machines.{ExitLeaves}
pub use Rattle.pb_notify.specs.Places.{ComesTo, GoesOnFrom, declares, goes, waits}
pub use Rattle.pb_notify.specs.Runs.{RunOf}
pub use Rattle.pb_notify.specs.declared.look.Look.{Look}
pub use Rattle.pb_notify.specs.declared.place.RunPlace.{RunPlace}
pub use Rattle.pb_world.specs.Actors.{ActorSteps, AnswersJob, CallSteps, Instructs, IsIdle, RefusesJob, Stepped, StepsTo}
pub use Rattle.pb_world.specs.Events.{CrashesActor, EventDoes, Happens, Launches, OwnAnswers, OwnCalls, RunsTo, StepsActor, StopsAtEvent, WorldOf, fault_of}
pub use Rattle.pb_world.specs.Faults.{fault_code, memory_fault}
pub use Rattle.pb_world.specs.Headline.{IsOpened}
pub use Rattle.pb_world.specs.Jobs.{Computes, is_local, next_of}
pub use Rattle.pb_world.specs.Sound.{EventsKeepSound, IsSoundWorld, JobCame}
pub use Rattle.pb_world.specs.declared.fault.EventFault.{EventFault}
pub use Rattle.pb_world.specs.declared.job.ActorJob.{ActorJob}
pub use Rattle.pb_world.specs.declared.note.Note.{Note}
