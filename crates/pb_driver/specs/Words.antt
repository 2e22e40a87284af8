-- The words of the crates below, for this crate's definitions and proofs.
pub use Rattle.pb_base.specs.Batch.{Writes}
pub use Rattle.pb_base.specs.Growths.{refused_growth}
pub use Rattle.pb_base.specs.Reasons.{memory_refusal}
pub use Rattle.pb_base.specs.Taking.{Taking, TookNothing, taking}
pub use Rattle.pb_base.specs.declared.limits.TheConstants.{MAX_ENTRIES, MAX_SEATS}
pub use Rattle.pb_base.specs.declared.refusal.Refusal.{Refusal}
pub use Rattle.pb_reading.specs.Faults.{IsFaultOf, code_told, line_and_code, line_told}
pub use Rattle.pb_accepted.specs.Observers.{ObserverOf}
pub use Rattle.pb_store.specs.Contents.{Contents, is_nothing, nothing}
pub use Rattle.pb_steps.specs.State.{opening}
pub use Rattle.pb_history.specs.Journals.{IsLegal}
pub use Rattle.pb_core.specs.Calls.{AreSeats, SeatOf, SharedOf}
pub use Rattle.pb_core.specs.Histories.{IsLegalTable}
pub use Rattle.pb_parse.specs.Schedules.{schedule_of}
pub use Rattle.pb_parse.specs.ScriptLines.{script_of}
pub use Rattle.pb_parse.specs.declared.event.Event.{Event}
pub use Rattle.pb_script.specs.TableReports.{BeganTableReport, Reports, WroteTableReport}
pub use Rattle.pb_script.specs.declared.fault.ReportFault.{ReportFault}
pub use Rattle.pb_registry.specs.FaultTexts.{fault_text}
pub use Rattle.pb_registry.specs.Judging.{ReadsManifest}
pub use Rattle.pb_world.specs.Events.{RunsTo, StopsAtEvent, WorldOf, idle_actors}
pub use Rattle.pb_world.specs.Faults.{event_and_code, fault_code, memory_fault}
pub use Rattle.pb_world.specs.declared.fault.EventFault.{EventFault}
pub use Rattle.pb_world.specs.declared.fault.WorldFault.{WorldFault}
pub use Rattle.pb_world.specs.declared.note.Note.{Note}
pub use Rattle.pb_threads.specs.Gains.{OpeningOf, opening_of}
pub use Rattle.pb_threads.specs.Swaps.{Spare, spares_of}
pub use Rattle.pb_threads.specs.Work.{KeepsOpening, WorkedOn}
pub use Rattle.pb_ending.specs.Agrees.{Agree}
pub use Rattle.pb_worker.specs.Laws.{ChangesAreMade, MakesChanges}
