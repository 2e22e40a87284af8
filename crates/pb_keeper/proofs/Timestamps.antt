-- No more runs are committed than 64 bits can say, since each took a timestamp.
use Rattle.std.proofs.Common.{arith, ◌≡◌, ℕ, ◌+◌, ◌-◌, ◌^◌, ◌<◌, ◌≤◌, min, Bool, true, false, cond, List, [], ◌∷◌, ◌++◌, Option, refl, ap}
use Rattle.std.proofs.lemmas.List.Sums.{sum_by-append, sum_by-cons}
use Rattle.std.specs.List.{count_by}
use Rattle.pb_passes.proofs.Drains.{HoldsOfRuns}
use Rattle.pb_keeper.specs.Words.{Cell, Ts, Meant, StateOf, StepCase, Step, Answer, ObserverOf, JournalLeads, Received, told, entries_by, IsRunConversation, ran, Watch, JobEnd}
use Rattle.pb_keeper.specs.Counts.{commit_count}
use Rattle.pb_keeper.specs.Leads.{SaidLeads}
use Rattle.pb_keeper.specs.Drains.{IsDrainWithin}
use Rattle.pb_keeper.specs.Made.{IsDrainThat, comes_to_rest}
use Rattle.pb_keeper.proofs.BoundedDrains.{of_drain_within}
use Rattle.pb_keeper.specs.Stats.{Counted}
use Rattle.pb_keeper.specs.declared.stats.ObserverStats.{ObserverStats}
use Rattle.pb_keeper.proofs.Counting.{count_append, not_counted, run_count}
use Rattle.pb_keeper.proofs.PassAlong.{Led}
use Rattle.pb_keeper.proofs.Statistics.{counted_as}
use Rattle.pb_keeper.proofs.Wholes.{IsPlainFrom, asked_from}

-- ---- the clock goes on with each timestamp that is given out

abbrev is_given : Answer → Bool
is_given (Answer.At t) = true
is_given _ = false

-- how many timestamps were given out
abbrev given_count : List Received → ℕ
given_count said = count_by (λ r. is_given r.answer) said

abbrev gives : Received → ℕ
gives r = cond (is_given r.answer) 1 0

given_append : (a b : List Received) → given_count (a ++ b) ≡ given_count a + given_count b
given_append a b = sum_by-append gives a b

given_cons : (r : Received) (a : List Received) → given_count (r ∷ a) ≡ gives r + given_count a
given_cons r a = sum_by-cons gives r a

clock_step : (old new : StateOf) (step : Step) (answer : Answer) → StepCase old 0 step answer new → old.clock + cond (is_given answer) 1 0 ≤ new.clock
clock_step old new step answer c = grind arith

clock_on : (said : List Received) (old new : StateOf) → JournalLeads old (entries_by 0 said) new → old.clock + given_count said ≤ new.clock
clock_on [] old new r = let same : new.clock ≡ old.clock = ap (λ (z : StateOf). z.clock) r in omega (arith, same)
clock_on (x ∷ said) old new r =
    let one = clock_step old r.0 x.step x.answer r.1.taken in
    let rest = clock_on said r.0 new r.2 in
    let all = given_cons x said in
    omega (arith, one, rest, all)

-- ---- as many are given out as transactions are committed, or more

abbrev AreFew : List Received → Type 0
AreFew said = commit_count said ≤ given_count said

few_none : (said : List Received) → commit_count said ≡ 0 → AreFew said
few_none said e = omega (arith, e)

few_on : (a b : List Received) → AreFew a → AreFew b → AreFew (a ++ b)
few_on a b p q = let c = count_append a b in let g = given_append a b in omega (arith, p, q, c, g)

-- its begin is given one
given_from : (s : Ts) (said : List Received) → IsPlainFrom s said → 1 ≤ given_count said
given_from s said f =
    let e : given_count said ≡ given_count (told (Step.Begin f.work) (Answer.At s) ∷ f.rest) = ap given_count f.said_is in
    let all = given_cons (told (Step.Begin f.work) (Answer.At s)) f.rest in
    omega (arith, e, all)

few_run : (o : Watch) (said : List Received) (end : JobEnd) (run : Option Meant) → IsRunConversation o said end run → AreFew said
few_run o said end run (ran s seen talk k before plan f c w i few on whole can) =
    let one = run_count o said end run (ran s seen talk k before plan f c w i few on whole can) in
    let begun = given_from s before (asked_from s o seen talk k before i) in
    let first = given_append before plan in
    let all = given_append (before ++ plan) (told (Step.Sweep (Cell.Data o.row o.column)) w ∷ []) in
    omega (arith, one, begun, first, all)
few_run o said end run talk = few_none said (run_count o said end run talk)

module _ (observers : List ObserverOf) where
  few_parts : HoldsOfRuns observers AreFew
  few_parts = record {
    adds = record { nothing = few_none [] refl; both = few_on };
    mark = λ after answer. few_none (told (Step.NextMark after) answer ∷ []) (not_counted (told (Step.NextMark after) answer) [] refl);
    run = λ i x said is. few_run _ said is.end is.whole.run is.whole.talk;
  }

  -- so their number is known
  pub drain_counts : (bound : ℕ) (s t : List ObserverStats) (m : ℕ) (rests : Bool) (old new : StateOf) → new.clock < 2 ^ 64 → Led observers s t (IsDrainThat observers bound rests) m old new
      → (leads : SaidLeads (Counted observers s t (IsDrainWithin observers bound)) old new) × (m ≡ commit_count leads.said) × (rests ≡ comes_to_rest leads.form.form)
  unfolding counted_as
  drain_counts bound s t m rests old new fits g =
      let d = g.form.form.form in (
        record { said = g.said; form = counted_as (λ p. p.form.0) g.form; leads = g.leads },
        whole (commit_count g.said) (given_count g.said) (of_drain_within observers few_parts bound g.said d.0) (clock_on g.said old new g.leads) g.form.form.count,
        d.1,
      )
    where
      whole : (n t : ℕ) → n ≤ t → old.clock + t ≤ new.clock → m ≡ min n (2 ^ 64 - 1) → m ≡ n
      whole n t few later is = omega (arith, few, later, is, fits)
