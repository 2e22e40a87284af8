-- The words of the crates below, for this crate's definitions and proofs.
pub use Rattle.pb_base.specs.Batch.{Writes, are_distinct, content_in, is_batch, is_data_write}
pub use Rattle.pb_base.specs.Cell.{cell_cmp}
pub use Rattle.pb_base.specs.declared.cell.Cell.{Cell}
pub use Rattle.pb_base.specs.declared.content.Content.{Content}
pub use Rattle.pb_base.specs.declared.limits.TheConstants.{COLUMNS, MAX_CELLS, MAX_CHANGES}
pub use Rattle.pb_base.specs.declared.names.Row.{Row}
pub use Rattle.pb_reading.specs.Reading.{lines_of, next_word, no_word, words_of, ◌>>=◌}
pub use Rattle.pb_isa.specs.declared.profile.Profile.{Profile}
pub use Rattle.pb_helpers.specs.Bytes.{size_of}
pub use Rattle.pb_helpers.specs.declared.change.Version.{Version}
pub use Rattle.pb_accepted.specs.Observers.{ObserverOf}
pub use Rattle.pb_steps.specs.Readings.{lock_count}
pub use Rattle.pb_history.specs.LastGiven.{IsLastGiven}
pub use Rattle.pb_history.specs.Laws.{ClockIsLastGiven}
pub use Rattle.pb_history.specs.Timestamps.{timestamps}
pub use Rattle.pb_core.specs.Calls.{SharedOf}
pub use Rattle.pb_core.specs.Histories.{IsLegalTable}
pub use Rattle.pb_texts.specs.CommandLines.{count_number, profile_named, version_of}
pub use Rattle.pb_parse.specs.Operations.{Say}
pub use Rattle.pb_parse.specs.ScriptLines.{Batches, batch_of, cut, script_of}
pub use Rattle.pb_parse.specs.ScriptWords.{operation, padded_value, value_of_word}
unfoldable pub use Rattle.pb_parse.specs.ScriptWords.{cell_at, del_of, put_of, write_of}
pub use Rattle.pb_parse.specs.declared.script.code.ScriptCode.{ScriptCode}
pub use Rattle.pb_script.specs.Committed.{IsSeenAt}
pub use Rattle.pb_script.specs.ReportLines.{Tallies}
pub use Rattle.pb_script.specs.Reports.{IsReportOf}
pub use Rattle.pb_script.specs.TableReports.{IsReportIn}
pub use Rattle.pb_script.specs.Tallies.{AreTallies}
pub use Rattle.pb_registry.specs.Codes.{number_of}
pub use Rattle.pb_registry.specs.Judging.{IsObserver}
pub use Rattle.pb_registry.specs.Manifests.{ManifestOf, WrittenOf, bytes_in, column_in, elements, elements_at, helpers_in, manifest_in, manifest_read, name_in, number_at, record_version, text_at}
unfoldable pub use Rattle.pb_registry.specs.Manifests.{members_of}
pub use Rattle.pb_registry.specs.declared.code.ManifestCode.{ManifestCode}
