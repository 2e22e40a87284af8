-- The words of the crates below, for this crate's definitions and proofs.
pub use Rattle.pb_base.specs.Batch.{Writes, are_distinct, content_in}
pub use Rattle.pb_base.specs.Cell.{cell_cmp, cell_cmp-IsAntisymmetric, cell_cmp_total, column_of, is_data, row_of}
pub use Rattle.pb_base.specs.Taking.{Taking, TookAll, TookNothing, TookPart}
pub use Rattle.pb_base.specs.declared.cell.Cell.{Cell}
pub use Rattle.pb_base.specs.declared.content.Content.{Content}
pub use Rattle.pb_base.specs.declared.names.Row.{Row}
pub use Rattle.pb_base.specs.declared.names.Ts.{Ts}
pub use Rattle.pb_base.specs.declared.refusal.NoMemory.{NoMemory}
pub use Rattle.pb_accepted.specs.Observers.{ObserverOf}
pub use Rattle.pb_steps.specs.Readings.{lock_count}
pub use Rattle.pb_steps.specs.State.{StateOf, TransactionOf, cells_of, phase_in}
pub use Rattle.pb_steps.specs.declared.phase.Phase.{Phase}
pub use Rattle.pb_steps.specs.declared.step.Answer.{Answer}
pub use Rattle.pb_steps.specs.declared.step.Declared.{Declared}
pub use Rattle.pb_steps.specs.declared.step.Step.{Step}
pub use Rattle.pb_steps.specs.declared.step.Work.{Work}
pub use Rattle.pb_history.specs.History.{Has, InHistory, IsSnapshot, Member, NoSnapshot, TellsHistory, WritesTo}
pub use Rattle.pb_history.specs.RunCounts.{IsRunCount, run_count}
pub use Rattle.pb_history.specs.declared.entry.Entry.{Entry}
pub use Rattle.pb_core.specs.Calls.{SharedOf}
