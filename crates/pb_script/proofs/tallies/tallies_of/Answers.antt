use Rattle.std.proofs.Common.{◌≡◌, ◌+◌, ◌++◌, [], ◌∷◌, ◌∙◌, length, take, sym, ap, subst, arith}
use Rattle.std.proofs.lemmas.List.{take_more, length-take-le}
use Rattle.pb_script.specs.Words.{ObserverOf}
use Rattle.pb_script.specs.Tallies.{AreTallies, IsTally}
use Rattle.pb_script.proofs.Told.{tallies_push}
use Rattle.pb_script.proofs.tallies.tallies_of.Goals as goal

pub loop-number-preserved : goal.loop-number-preserved
loop-number-preserved g c =
    let s = c.args.shared.now in
    let observers = c.observers-observers.result.now in
    let n = c.loop-number.number in
    let x = c.index-observers-number.result in
    let whole : take (n + 1) observers ≡ take n observers ++ x ∷ [] = take_more observers n x c.loop-number-test.true ∙ ap (λ (e : ObserverOf). take n observers ++ e ∷ []) (sym c.index-observers-number.is) in
    let all = s.state.observers in
    let at : n ≡ 0 + length (take n observers) = let long = length-take-le n observers (let lt = c.loop-number-test.true in omega (arith, lt)) in omega (arith, long) in
    let tally = subst (λ k. IsTally all s.journal k x c.in_ok-tally.tally) at c.in_ok-tally.ensures in
    let more = tallies_push all s.journal 0 (take n observers) c.loop-number.tallies.items x c.in_ok-tally.tally c.loop-number.invariant tally in
    subst (λ xs. AreTallies all s.journal 0 xs c.push.new.self.items) (sym whole) (subst (AreTallies all s.journal 0 (take n observers ++ x ∷ [])) (sym c.in_ok-push.ensures.items) more)
