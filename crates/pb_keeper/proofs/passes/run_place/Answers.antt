use Rattle.std.proofs.Common.{refl, sym, ap, subst}
use Rattle.pb_keeper.specs.Words.{HasColumn}
use Rattle.pb_keeper.specs.Counts.{commits_of_end}
use Rattle.pb_keeper.proofs.PassAlong.{none_of_end, turn_counts}
use Rattle.pb_keeper.proofs.passes.run_place.Goals as goal

pub run_number-requires-clause-column : goal.run_number-requires-clause-column
run_number-requires-clause-column g c = subst (λ n. HasColumn c.args.state.now.observers n c.args.cell.now) (sym c.in-Some.ensures.some) c.requires.column

pub returns-in-Ran-clause-ok : goal.returns-in-Ran-clause-ok
returns-in-Ran-clause-ok g c =
    let ran = c.in_ok-ran.ensures.ok in
    turn_counts refl c.in-Some.ensures.some c.requires.column ran.1 ran.2 c.add_run.ensures.length c.add_run.ensures.counted 1 (ap commits_of_end (sym c.in-Ran.is))

pub returns-in_default-end-clause-ok : goal.returns-in_default-end-clause-ok
returns-in_default-end-clause-ok g c =
    let ran = c.in_ok-ran.ensures.ok in
    turn_counts refl c.in-Some.ensures.some c.requires.column ran.1 ran.2 c.add_run.ensures.length c.add_run.ensures.counted 0 (sym (none_of_end c.in_ok-ran.ran.end c.in_default-end.not-Ran))
