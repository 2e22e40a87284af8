-- The words of the crates below, for this crate's definitions and proofs.
pub use Rattle.pb_base.specs.Batch.{Writes, content_in, is_batch, is_data_write}
pub use Rattle.pb_base.specs.Cell.{both_equal, cell_cmp, cell_cmp-IsAntisymmetric, cell_cmp_total, column_of, row_of}
pub use Rattle.pb_base.specs.declared.cell.Cell.{Cell}
pub use Rattle.pb_base.specs.declared.content.Content.{Content}
pub use Rattle.pb_base.specs.declared.content.Revision.{Revision}
pub use Rattle.pb_base.specs.declared.names.Row.{Row}
pub use Rattle.pb_base.specs.declared.names.Ts.{Ts}
pub use Rattle.pb_accepted.specs.Observers.{ObserverOf, acknowledgment}
pub use Rattle.pb_store.specs.Contents.{Entries, entries_after, slot_at}
pub use Rattle.pb_store.specs.Slot.{slot_cmp}
pub use Rattle.pb_store.specs.declared.slot.Item.{Item}
pub use Rattle.pb_store.specs.declared.slot.Slot.{Slot}
pub use Rattle.pb_store.specs.declared.slot.Sort.{Sort}
pub use Rattle.pb_steps.specs.Marks.{AllUpToDate, SomeBehind}
pub use Rattle.pb_steps.specs.Readings.{IsVersion, data_at, last_timestamp, write_at}
pub use Rattle.pb_steps.specs.State.{StateOf, TransactionOf, Transactions, phase_in}
pub use Rattle.pb_steps.specs.Steps.{StepCase}
pub use Rattle.pb_steps.specs.declared.phase.Phase.{Phase}
pub use Rattle.pb_steps.specs.declared.step.Answer.{Answer}
pub use Rattle.pb_steps.specs.declared.step.Step.{Step}
pub use Rattle.pb_steps.specs.declared.step.Work.{Work}
pub use Rattle.pb_history.specs.History.{Has, Member}
pub use Rattle.pb_history.specs.Journals.{JournalLeads}
pub use Rattle.pb_history.specs.Laws.{OpeningIsSound, RunsAreTold, ScriptsWriteBatches, StepsKeepSound}
pub use Rattle.pb_history.specs.RunsTold.{IsObserverRun}
pub use Rattle.pb_history.specs.Sound.{IsCommittedAt, IsSoundTable}
pub use Rattle.pb_history.specs.TableView.{view_of}
pub use Rattle.pb_history.specs.declared.entry.Entry.{Entry}
pub use Rattle.pb_history.specs.declared.entry.Received.{Received}
pub use Rattle.pb_state.specs.CarriedOver.{AreInOrder, IsAmiss, IsCarriedOver, IsLeftOver, MayFollow, WhyNotCarried, comes_before, has_its_observer, is_content_of, is_of_column, is_stamp_of}
pub use Rattle.pb_state.specs.MarkedBehind.{IsMarkedBehind}
pub use Rattle.pb_state.specs.declared.carry_fault.CarryFault.{CarryFault}
pub use Rattle.pb_notify.specs.Allowed.{entries_by}
pub use Rattle.pb_generations.specs.Chosen.{AreChosen, ChosenAreSound, IsChosenSnapshot, chosen_cell, chosen_state}
pub use Rattle.pb_generations.specs.KeptTables.{KeptTablesAreWhole}
pub use Rattle.pb_generations.specs.LeftOut.{is_known_cell, known_entries}
pub use Rattle.pb_generations.specs.Mirrored.{SameVersionOn, carried, unmarked}
pub use Rattle.pb_generations.specs.Snapshots.{AreLeft, HasAcknowledged, IsLeftOf, IsSnapshotOf, IsViewedAt, LeftAreSound}
pub use Rattle.pb_keeper.specs.Keeps.{IsChosenOf, IsFirstTable, Keeps, KeepsFrom, KeptFollowOneAnother, KeptIsWhole, anew, changed, opened}
pub use Rattle.pb_keeper.specs.Leads.{SaidLeads}
pub use Rattle.pb_keeper.specs.Stats.{KeptTable, chosen_stats}
pub use Rattle.pb_keeper.specs.declared.stats.ObserverStats.{ObserverStats}
