-- The words of the crates below, for this crate's definitions and proofs.
pub use Rattle.pb_base.specs.Cell.{cell_cmp, cell_cmp-IsAntisymmetric, cell_cmp_total, is_data}
pub use Rattle.pb_base.specs.declared.cell.Cell.{Cell}
pub use Rattle.pb_base.specs.declared.content.Content.{Content}
pub use Rattle.pb_base.specs.declared.names.Ts.{Ts}
pub use Rattle.pb_base.specs.declared.refusal.NoMemory.{NoMemory}
pub use Rattle.pb_accepted.specs.Observers.{ObserverOf}
pub use Rattle.pb_store.specs.Contents.{Entries, IsNextMark, Marks, entries_after, slot_at}
pub use Rattle.pb_store.specs.Slot.{slot_cmp, slot_cmp-IsAntisymmetric}
pub use Rattle.pb_store.specs.declared.slot.Item.{Item}
pub use Rattle.pb_store.specs.declared.slot.Slot.{Slot}
pub use Rattle.pb_store.specs.declared.slot.Sort.{Sort}
pub use Rattle.pb_steps.specs.Readings.{NoLock, data_at, is_lock, lock_at, lock_count, start_of, write_at}
pub use Rattle.pb_steps.specs.State.{StateOf}
pub use Rattle.pb_script.specs.ReportLines.{Tallies, cell_line, trimmed}
pub use Rattle.pb_script.specs.Reports.{AreNewest, IsNewestPut, IsReport, IsReportOf, IsTold}
pub use Rattle.pb_script.specs.declared.reports.lines.Newest.{Newest}
pub use Rattle.pb_script.specs.declared.reports.newest.Put.{Put}
