use Rattle.std.proofs.Common.{sym, subst}
use Rattle.pb_state.specs.Words.{last_timestamp, IsVersion, SomeBehind, AllUpToDate}
use Rattle.pb_state.proofs.Behind.{either_way, some_behind, all_up_to_date}
use Rattle.pb_state.proofs.sweep.is_behind.Goals as goal

pub returns : goal.returns
returns g c =
    let e = c.args.table.now.contents.entries in
    let here = c.in-Data.is in
    let newest = subst (λ x. IsVersion e x last_timestamp c.in-Some.version) here c.in-Some.ensures in
    either_way c.is_any_late.result
    (λ late. subst (SomeBehind c.args.observers.now e) (sym here) (some_behind c.args.observers.now e c.in-Data.row c.in-Data.column c.in-Some.version newest late))
    (λ times. subst (AllUpToDate c.args.observers.now e) (sym here) (all_up_to_date c.args.observers.now e c.in-Data.row c.in-Data.column c.in-Some.version newest times))
    c.is_any_late.ensures
