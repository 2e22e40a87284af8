use Rattle.std.proofs.Common.{sym}
use Rattle.pb_snapshots.proofs.ChosenWalks.{not_chosen, one_chosen}
use Rattle.pb_snapshots.proofs.choosing.note_chosen.Goals as goal

pub returns-in_default : goal.returns-in_default
returns-in_default c = λ cells rest apart has so. not_chosen c.args.places.now cells c.args.version.now rest c.args.versions.now so (sym c.in_default.ensures)

pub returns : goal.returns
returns c = λ cells rest apart has so.
    one_chosen c.args.places.now cells c.args.version.now rest c.args.versions.now so apart has c.in-Some.cell (sym c.in-Some.ensures) c.insert.new.self c.in_ok-insert.ensures.updates.0 c.in_ok-insert.ensures.ordered
