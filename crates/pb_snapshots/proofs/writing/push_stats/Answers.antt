use Rattle.std.proofs.Common.{◌++◌}
use Rattle.pb_snapshots.specs.Snapshot.{number_bytes}
use Rattle.pb_snapshots.proofs.Appending.{added_both}
use Rattle.pb_snapshots.proofs.writing.push_stats.Goals as goal

pub returns-clause-added : goal.returns-clause-added
returns-clause-added c =
    let s = c.args.stats.now in
    let old = c.args.bytes.now.items in
    let two = added_both old c.push_number.new.bytes.items c.push_number-2.new.bytes.items (number_bytes s.runs) (number_bytes s.nonzero) c.in_ok-push_number.ensures.added c.in_ok-push_number-2.ensures.added in
    let three = added_both old c.push_number-2.new.bytes.items c.push_number-3.new.bytes.items (number_bytes s.runs ++ number_bytes s.nonzero) (number_bytes s.conflicts) two c.in_ok-push_number-3.ensures.added in
    let four = added_both old c.push_number-3.new.bytes.items c.push_number-4.new.bytes.items ((number_bytes s.runs ++ number_bytes s.nonzero) ++ number_bytes s.conflicts) (number_bytes s.asks) three c.in_ok-push_number-4.ensures.added in
    added_both old c.push_number-4.new.bytes.items c.push_number-5.new.bytes.items (((number_bytes s.runs ++ number_bytes s.nonzero) ++ number_bytes s.conflicts) ++ number_bytes s.asks) (number_bytes s.instructions) four c.in_ok-push_number-5.ensures.added
