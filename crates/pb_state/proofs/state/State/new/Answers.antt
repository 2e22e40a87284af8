use Rattle.std.proofs.Common.{◌≡◌, sym, subst, rules}
use Rattle.pb_state.specs.Words.{opening, IsSoundTable}
use Rattle.pb_history.proofs.OpeningSound.{opening_sound}
use Rattle.pb_state.specs.Keeping.{parts_as_state}
use Rattle.pb_state.proofs.state.State.new.Goals as goal

pub invariant_of-result-2 : goal.invariant_of-result-2
invariant_of-result-2 g c =
    let opened : parts_as_state c.args.table c.args.observers.items c.args.last.0 c.args.seats c.new.result ≡ opening c.args.observers.items c.args.seats c.args.last.0 =
    λ i. record { entries = (c.requires.empty i).entries; marks = (c.requires.empty i).marks; observers = c.args.observers.items; clock = c.args.last.0; seats = c.args.seats; transactions = c.new.ensures i } in
    subst IsSoundTable (sym opened) (opening_sound c.args.observers.items c.args.seats c.args.last.0 (search rules))
