use Rattle.std.proofs.Common.{◌≡◌, ◌∙◌, sym, ap, subst, take}
use Rattle.std.proofs.lemmas.List.{take_all}
use Rattle.pb_script.specs.Words.{IsRunCount, run_count}
use Rattle.pb_script.proofs.tallies.run_count.Goals as goal

pub returns : goal.returns
returns g c =
    let s = c.args.shared.now in
    let it = c.journal-entry-items in
    let all : take c.loop-entry.entry-index it.result.now ≡ s.journal = take_all c.loop-entry.entry-index it.result.now c.loop-entry-test.false ∙ it.ensures.entries in
    subst (IsRunCount s.state.observers s.journal c.args.number) (sym (c.loop-entry.invariant.counted ∙ ap (run_count s.state c.args.number) all)) (it.ensures.counts c.args.number)
