-- The words of the crates below, for this crate's definitions and proofs.
pub use Rattle.pb_base.specs.Batch.{Writes, content_in, is_batch, primary_in}
pub use Rattle.pb_base.specs.Cell.{cell_cmp}
unfoldable pub use Rattle.pb_base.specs.Same.{same}
pub use Rattle.pb_base.specs.declared.cell.Cell.{Cell}
pub use Rattle.pb_base.specs.declared.content.Content.{Content}
pub use Rattle.pb_base.specs.declared.content.Revision.{Revision}
pub use Rattle.pb_base.specs.declared.names.Row.{Row}
pub use Rattle.pb_base.specs.declared.names.Ts.{Ts}
pub use Rattle.pb_base.specs.declared.refusal.Reason.{Reason}
pub use Rattle.pb_isa.specs.Machine.{Ask, Reply}
pub use Rattle.pb_isa.specs.Meaning.{Talk}
pub use Rattle.pb_isa.specs.Programs.{JudgedOf, judged_code}
pub use Rattle.pb_helpers.specs.OldRecord.{record_by, tells_old}
pub use Rattle.pb_accepted.specs.Observers.{ObserverOf, acknowledgment, observed_cell, observer_code}
pub use Rattle.pb_sound.specs.RunWrites.{AreRunWrites}
pub use Rattle.pb_finished.specs.Finished.{IsMeant, Meant}
pub use Rattle.pb_store.specs.Contents.{Entries, IsNextMark, Marks, slot_at}
pub use Rattle.pb_store.specs.declared.slot.Item.{Item}
pub use Rattle.pb_store.specs.declared.slot.Sort.{Sort}
