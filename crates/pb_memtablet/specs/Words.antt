-- The words of the crates below, for this crate's definitions and proofs.
pub use Rattle.pb_base.specs.Cell.{cell_cmp, cell_cmp-IsAntisymmetric, cell_cmp_total}
pub use Rattle.pb_base.specs.declared.cell.Cell.{Cell}
pub use Rattle.pb_base.specs.declared.names.Ts.{Ts}
pub use Rattle.pb_store.specs.Contents.{AllPutOfSort, ComesAfter, Contents, IsNewest, IsNextMark, IsOfSort, PutsOfSort, after_edit, after_edits, entries_after, is_nothing, nothing, slot_at}
pub use Rattle.pb_store.specs.Slot.{slot_cmp, slot_cmp-IsAntisymmetric, slot_cmp_total, sort_rank}
pub use Rattle.pb_store.specs.declared.slot.Edit.{Edit}
pub use Rattle.pb_store.specs.declared.slot.Item.{Item}
pub use Rattle.pb_store.specs.declared.slot.Slot.{Slot}
pub use Rattle.pb_store.specs.declared.slot.Sort.{Sort}
