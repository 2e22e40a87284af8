use Rattle.std.proofs.Common.{◌≡◌, ℕ, ◌+◌, ◌++◌, [], ◌∷◌, List, ◌∙◌, length, take, slice_index_or, sym, ap, arith}
use Rattle.std.proofs.lemmas.List.{take_more, take_all, length-take-le}
use Rattle.pb_keeper.specs.Stats.{no_runs}
use Rattle.pb_answers.specs.Words.{ObserverOf, Tallies}
use Rattle.pb_answers.specs.Lists.{tallies_by}
use Rattle.pb_answers.proofs.Tallying.{one_more_tally}
use Rattle.pb_answers.proofs.tallies.tallies_by.Goals as goal

pub loop-number-preserved : goal.loop-number-preserved
loop-number-preserved c =
    let observers = c.args.observers.now in
    let n = c.loop-number.number in
    let x = c.index-observers-number.result in
    let f : ℕ → ℕ = λ o. (slice_index_or c.args.stats.now o no_runs).runs in
    let whole : take (n + 1) observers ≡ take n observers ++ x ∷ [] = take_more observers n x c.loop-number-test.true ∙ ap (λ (e : ObserverOf). take n observers ++ e ∷ []) (sym c.index-observers-number.is) in
    let at : n ≡ 0 + length (take n observers) = let long = length-take-le n observers (let lt = c.loop-number-test.true in omega (arith, lt)) in omega (arith, long) in
    c.in_ok-push.ensures.items
    ∙ ap (λ (ts : Tallies). ts ++ c.in_ok-tally.tally ∷ []) c.loop-number.invariant
    ∙ ap (λ (t : List ℕ × ℕ). tallies_by f 0 (take n observers) ++ t ∷ []) (c.in_ok-tally.ensures ∙ ap (λ k. (x.name, k)) c.runs_of.ensures ∙ ap (λ k. (x.name, f k)) at)
    ∙ sym (one_more_tally f 0 (take n observers) x)
    ∙ ap (tallies_by f 0) (sym whole)

pub returns : goal.returns
returns c = c.loop-number.invariant ∙ ap (tallies_by (λ o. (slice_index_or c.args.stats.now o no_runs).runs) 0) (take_all c.loop-number.number c.args.observers.now c.loop-number-test.false)
