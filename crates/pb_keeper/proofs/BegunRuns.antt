-- How many runs were begun in a conversation: one in each run, and none in what else is asked.
use Rattle.std.proofs.Common.{◌≡◌, ℕ, ◌+◌, false, cond, List, [], ◌∷◌, ◌++◌, refl, ap, ◌∙◌, zero-add}
use Rattle.std.proofs.lemmas.List.Sums.{sum_by-append, sum_by-cons}
use Rattle.pb_keeper.specs.Words.{Cell, ObserverOf, Step, Answer, Received, told, IsRun}
use Rattle.pb_keeper.specs.Drains.{begun_count}
use Rattle.pb_keeper.specs.Stats.{starts_run}
use Rattle.pb_keeper.proofs.EachStep.{IsWithin, each_as}
use Rattle.pb_keeper.proofs.Following.{IsOfOneRun, run_is_of_one}
use Rattle.pb_keeper.proofs.Statistics.{BeginNoRun, within_begins_none}

-- whether a step begins a run, as a number
abbrev runs_by : Received → ℕ
runs_by r = cond (starts_run r.step) 1 0

pub runs_append : (a b : List Received) → begun_count (a ++ b) ≡ begun_count a + begun_count b
runs_append a b = sum_by-append runs_by a b

runs_after : (r : Received) (a : List Received) → begun_count (r ∷ a) ≡ runs_by r + begun_count a
runs_after r a = sum_by-cons runs_by r a

-- a step that begins no run isn't counted
pub no_run_first : (r : Received) (a : List Received) → starts_run r.step ≡ false → begun_count (r ∷ a) ≡ begun_count a
no_run_first r a e = runs_after r a ∙ (ap (λ b. cond b 1 0 + begun_count a) e ∙ zero-add (begun_count a))

no_run_counted : (said : List Received) → BeginNoRun said → begun_count said ≡ 0
no_run_counted [] none = refl
no_run_counted (r ∷ said) none = no_run_first r said none.0 ∙ no_run_counted said none.1

one_counted : (said : List Received) → IsOfOneRun said → begun_count said ≡ 1
one_counted said o =
    let one = o.0 in
    let first = told (Step.Begin one.work) (Answer.At one.s) in
    let rest = no_run_counted one.rest (each_as (IsWithin one.s.0) (λ r. starts_run r.step ≡ false) (λ r w. within_begins_none one.s.0 r.step w) one.rest one.within) in
    ap begun_count one.said_is ∙ (runs_after first one.rest ∙ ((λ i. cond (o.1 i) 1 0 + rest i)))

-- a run is one
pub run_is_one : (observers : List ObserverOf) (n : ℕ) (x : Cell) (said : List Received) → IsRun observers n x said → begun_count said ≡ 1
run_is_one observers n x said run = one_counted said (run_is_of_one _ said run.end run.whole.run run.whole.talk)
