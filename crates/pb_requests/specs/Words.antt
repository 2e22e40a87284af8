-- The words of the crates below, for this crate's definitions and proofs.
pub use Rattle.pb_base.specs.Cell.{column_of, row_of}
pub use Rattle.pb_base.specs.declared.names.Ts.{Ts}
pub use Rattle.pb_reading.specs.Reading.{next_word, no_word, words_of, ◌>>=◌}
pub use Rattle.pb_parse.specs.ScriptLines.{cut}
pub use Rattle.pb_parse.specs.ScriptWords.{cell_at, number_upto}
pub use Rattle.pb_parse.specs.declared.script.code.ScriptCode.{ScriptCode}
