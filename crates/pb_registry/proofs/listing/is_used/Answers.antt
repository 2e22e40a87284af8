use Rattle.std.proofs.Common.{◌∙◌, ap}
use Rattle.pb_registry.specs.Observers.{observers_of}
use Rattle.pb_registry.specs.Judging.{is_among, names_of}
use Rattle.pb_registry.proofs.UsedNames.{found_name}
use Rattle.pb_registry.proofs.listing.is_used.Goals as goal

pub returns-in-Some : goal.returns-in-Some
returns-in-Some c = c.contains_key.ensures ∙ found_name c.in-Some.name.now c.args.observers.now.entries ∙ ap (is_among (names_of (observers_of c.args.observers.now.entries))) c.in-Some.ensures
