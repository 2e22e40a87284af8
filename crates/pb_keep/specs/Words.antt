-- The words of the crates below, for this crate's definitions and proofs.
pub use Rattle.pb_base.specs.Batch.{Writes}
pub use Rattle.pb_base.specs.Sink.{AppendsPart}
pub use Rattle.pb_base.specs.declared.cell.Cell.{Cell}
pub use Rattle.pb_base.specs.declared.limits.TheConstants.{MAX_CHANGES}
pub use Rattle.pb_base.specs.declared.names.Ts.{Ts}
pub use Rattle.pb_store.specs.Contents.{IsNextMark}
pub use Rattle.pb_accepted.specs.Observers.{ObserverOf}
pub use Rattle.pb_state.specs.CarriedOver.{AreInOrder, IsCarriedOver}
pub use Rattle.pb_state.specs.MarkedBehind.{IsMarkedBehind}
pub use Rattle.pb_steps.specs.Readings.{last_timestamp, lock_count}
pub use Rattle.pb_steps.specs.State.{StateOf}
pub use Rattle.pb_reading.specs.Reading.{is_skipped, ◌>>=◌}
pub use Rattle.pb_parse.specs.Codes.{script_code}
pub use Rattle.pb_parse.specs.ScriptLines.{batch_of, cut, script_of}
pub use Rattle.pb_parse.specs.declared.script.code.ScriptCode.{ScriptCode}
pub use Rattle.pb_script.specs.ReportLines.{last_line}
pub use Rattle.pb_script.specs.declared.reports.lines.Newest.{Newest}
unfoldable pub use Rattle.pb_requests.specs.Requests.{asked_by}
pub use Rattle.pb_requests.specs.declared.request.Condition.{Condition}
pub use Rattle.pb_requests.specs.declared.request.Request.{Request}
pub use Rattle.pb_answers.specs.Lists.{IsListAnswer}
pub use Rattle.pb_answers.specs.Seen.{IsSeenIn}
pub use Rattle.pb_answers.specs.Stats.{stats_text}
pub use Rattle.pb_answers.specs.Values.{IsValueAnswer}
pub use Rattle.pb_answers.specs.Writes.{IsWritesAnswer}
pub use Rattle.pb_keeper.specs.Counts.{commit_count}
pub use Rattle.pb_keeper.specs.Keeps.{opened_table, IsFirstTable, Keeps, KeepsFrom}
pub use Rattle.pb_keeper.specs.Leads.{SaidLeads}
pub use Rattle.pb_keeper.specs.Made.{IsMade, comes_to_rest, runs_within}
pub use Rattle.pb_keeper.specs.Room.{has_room}
pub use Rattle.pb_keeper.specs.Stats.{Counted, KeptTable, kept_table}
pub use Rattle.pb_keeper.specs.declared.change.Stopped.{Stopped}
pub use Rattle.pb_keeper.specs.declared.passes.Made.{Made}
pub use Rattle.pb_log.specs.Causes.{IsOfTheFile, WhyNotOpened, WhyNotPut}
pub use Rattle.pb_log.specs.Records.{IsAtRest}
pub use Rattle.pb_log.specs.Header.{HasRecords, header}
pub use Rattle.pb_snapshots.specs.Snapshot.{FitsSnapshot, SnapshotOf, are_of_their_cells, snapshot_bytes}
pub use Rattle.pb_snapshots.specs.Taken.{IsSnapshotTaken}
