-- The words of the crates below, for this crate's definitions and proofs.
pub use Rattle.pb_base.specs.Cell.{both_equal, cell_cmp, cell_cmp-IsAntisymmetric, cell_cmp_total, column_of, rank_of, row_of}
pub use Rattle.pb_base.specs.Reasons.{memory_refusal, refusal_by}
pub use Rattle.pb_base.specs.declared.cell.Cell.{Cell}
pub use Rattle.pb_base.specs.declared.names.Row.{Row}
pub use Rattle.pb_base.specs.declared.names.Ts.{Ts}
pub use Rattle.pb_base.specs.declared.refusal.Reason.{Reason}
pub use Rattle.pb_base.specs.declared.refusal.Refusal.{Refusal}
