use Rattle.std.proofs.Common.{drop}
use Rattle.pb_snapshots.specs.Snapshot.{snapshot_bytes}
use Rattle.pb_snapshots.proofs.NoText.{no_text}
use Rattle.pb_snapshots.proofs.record_laws.snapshots_are_no_texts.Goals as goal

pub returns : goal.returns
returns c s text = no_text (drop 1 (snapshot_bytes s)) text
