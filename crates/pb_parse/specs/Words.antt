-- The words of the crates below, for this crate's definitions and proofs.
pub use Rattle.pb_base.specs.Batch.{Writes, are_distinct, content_in, is_batch, is_data_write, is_unstamped, writes_of}
pub use Rattle.pb_base.specs.Cell.{cell_cmp, cell_cmp_total, is_data}
pub use Rattle.pb_base.specs.declared.cell.Cell.{Cell}
pub use Rattle.pb_base.specs.declared.content.Content.{Content}
pub use Rattle.pb_base.specs.declared.limits.TheConstants.{COLUMNS, MAX_CELLS, MAX_CHANGES, MAX_EVENTS, MAX_SEATS}
pub use Rattle.pb_base.specs.declared.names.Row.{Row}
pub use Rattle.pb_reading.specs.Faults.{Ends, in_lines}
pub use Rattle.pb_reading.specs.Reading.{in_turn, is_numeral, is_skipped, lines_left, lines_of, next_word, no_word, numeral_upto, shown_lines, words_of, ◌>>=◌}
pub use Rattle.pb_reading.specs.declared.fault.LineFault.{LineFault}
pub use Rattle.pb_accepted.specs.Observers.{ObserverOf, acknowledgment, observed_column}
