use Rattle.pb_snapshots.proofs.VersionWalks.{not_noted, one_noted}
use Rattle.pb_snapshots.proofs.taking.note_version.Goals as goal

pub returns-in_default : goal.returns-in_default
returns-in_default g c = λ item rest so. not_noted c.args.state.now c.args.slot.now item rest c.args.versions.now so c.in_default.ensures

pub returns : goal.returns
returns g c = λ item rest so.
    one_noted c.args.state.now c.args.slot.now item rest c.args.versions.now so c.in-Some.version c.in-Some.ensures c.insert.new.self c.in_ok-insert.ensures.updates.0 c.in_ok-insert.ensures.ordered
