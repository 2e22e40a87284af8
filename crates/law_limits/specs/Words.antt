-- The words of the crates below, for this crate's definitions and proofs.
pub use Rattle.pb_base.specs.Batch.{Writes, is_batch}
pub use Rattle.pb_base.specs.declared.cell.Cell.{Cell}
pub use Rattle.pb_base.specs.declared.content.Content.{Content}
pub use Rattle.pb_base.specs.declared.limits.TheConstants.{MAX_CELLS, MAX_CHANGES}
pub use Rattle.pb_base.specs.declared.names.Ts.{Ts}
pub use Rattle.pb_finished.specs.Finished.{Meant}
pub use Rattle.pb_accepted.specs.Observers.{ObserverOf}
pub use Rattle.pb_sound.specs.RunWrites.{AreRunWrites}
pub use Rattle.pb_store.specs.Contents.{Entries, slot_at}
pub use Rattle.pb_store.specs.Slot.{slot_cmp, slot_cmp_total}
pub use Rattle.pb_store.specs.declared.slot.Item.{Item}
pub use Rattle.pb_store.specs.declared.slot.Slot.{Slot}
pub use Rattle.pb_store.specs.declared.slot.Sort.{Sort}
pub use Rattle.pb_steps.specs.CommitSecondary.{if_locked}
pub use Rattle.pb_steps.specs.Commits.{commit_lock, erase_lock}
pub use Rattle.pb_steps.specs.Prewrite.{put_lock}
pub use Rattle.pb_steps.specs.Readings.{lock_at, primary_of}
pub use Rattle.pb_steps.specs.State.{StateOf}
pub use Rattle.pb_steps.specs.Steps.{StepCase}
pub use Rattle.pb_steps.specs.declared.step.Answer.{Answer}
pub use Rattle.pb_steps.specs.declared.step.Declared.{Declared}
pub use Rattle.pb_steps.specs.declared.step.Step.{Step}
pub use Rattle.pb_history.specs.Journals.{JournalLeads}
pub use Rattle.pb_history.specs.declared.entry.Received.{Received}
pub use Rattle.pb_steps.specs.declared.step.Work.{Work}
