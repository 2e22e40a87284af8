use Rattle.std.proofs.Common.{IsTrue, Ok}
use Rattle.sqlite_std_file.specs.File.{file_is_usable}
use Rattle.pb_keep.specs.Waits.{IsWaiting}
use Rattle.pb_registry.specs.Judging.{ReadsManifest}
use Rattle.percobpf_keep.proofs.service.serve_input.Given as goal

-- the log that is open may be used, the next record has what waits, and the manifest is the one of the table's observers
abbrev pub invariant-loop-pause : goal.invariant-loop-pause
invariant-loop-pause g l = record {
  usable : IsTrue (file_is_usable _ l.keeper.log.disk);
  waiting : IsWaiting l.keeper.waiting;
  manifest : ReadsManifest l.fn.manifest (Ok l.keeper.state.observers);
}
