-- The tallies of observers.
use Rattle.std.proofs.Common.{◌≡◌, ℕ, ◌+◌, List, [], ◌∷◌, ◌++◌, length, ap, ◌∙◌, arith}
use Rattle.pb_answers.specs.Words.{ObserverOf, Tallies}
use Rattle.pb_answers.specs.Lists.{tallies_by}

-- one observer more
pub one_more_tally : (f : ℕ → ℕ) (o : ℕ) (xs : List ObserverOf) (x : ObserverOf) → tallies_by f o (xs ++ x ∷ []) ≡ tallies_by f o xs ++ (x.name, f (o + length xs)) ∷ []
one_more_tally f o [] x = ap (λ n. (x.name, f n) ∷ []) (omega arith)
one_more_tally f o (y ∷ ys) x =
    ap (λ (ts : Tallies). (y.name, f o) ∷ ts)
    (one_more_tally f (o + 1) ys x ∙ ap (λ n. tallies_by f (o + 1) ys ++ (x.name, f n) ∷ []) (omega arith))
