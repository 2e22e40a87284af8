-- What runs did, added up along a conversation.
use Rattle.std.proofs.Common.{arith, ◌≡◌, ℕ, ◌+◌, ◌-◌, ◌^◌, ◌<◌, ◌==◌, min, Bool, true, false, cond, List, [], ◌∷◌, ◌++◌, length, slice_index_or, refl, sym, ap, subst, ◌∙◌}
use Rattle.std.proofs.lemmas.List.{append_assoc, append-nil}
use Rattle.std.proofs.Math.Nat.{add_assoc, add-zero, zero-add}
use Rattle.pb_keeper.specs.Words.{Writes, Cell, ObserverOf, Step, Received, Outcome, RunOf, JobEnd, IsJobOn}
use Rattle.pb_keeper.specs.Leads.{IsEndedChange}
use Rattle.pb_keeper.specs.Stats.{no_runs, sum_of, saturated, added, RanAndDid, starts_run, only_at, AreStatsOf, nothing_said, other_step, one_run, Counted}
use Rattle.pb_keeper.specs.declared.stats.ObserverStats.{ObserverStats}
use Rattle.pb_keeper.proofs.EachStep.{is_step_within, AreEach, IsWithin, each_as, whole_within}

-- ---- numbers

sum_up_to : (x y : ℕ) → min (min x (2 ^ 64 - 1) + min y (2 ^ 64 - 1)) (2 ^ 64 - 1) ≡ min (x + y) (2 ^ 64 - 1)
sum_up_to x y = omega (arith)

more_up_to : (x y : ℕ) → min (min x (2 ^ 64 - 1) + y) (2 ^ 64 - 1) ≡ min (x + y) (2 ^ 64 - 1)
more_up_to x y = omega (arith)

added_both : (a b : ObserverStats) → added (saturated a) (saturated b) ≡ saturated (sum_of a b)
added_both a b = λ i. record { runs = sum_up_to a.runs b.runs i; nonzero = sum_up_to a.nonzero b.nonzero i; conflicts = sum_up_to a.conflicts b.conflicts i; asks = sum_up_to a.asks b.asks i; instructions = sum_up_to a.instructions b.instructions i }

pub added_more : (a b : ObserverStats) → added (saturated a) b ≡ saturated (sum_of a b)
added_more a b = λ i. record { runs = more_up_to a.runs b.runs i; nonzero = more_up_to a.nonzero b.nonzero i; conflicts = more_up_to a.conflicts b.conflicts i; asks = more_up_to a.asks b.asks i; instructions = more_up_to a.instructions b.instructions i }

pub plus_assoc : (a b c : ObserverStats) → sum_of (sum_of a b) c ≡ sum_of a (sum_of b c)
plus_assoc a b c = λ i. record { runs = add_assoc a.runs b.runs c.runs i; nonzero = add_assoc a.nonzero b.nonzero c.nonzero i; conflicts = add_assoc a.conflicts b.conflicts c.conflicts i; asks = add_assoc a.asks b.asks c.asks i; instructions = add_assoc a.instructions b.instructions c.instructions i }

pub plus_none : (a : ObserverStats) → sum_of a no_runs ≡ a
plus_none a = λ i. record { runs = add-zero a.runs i; nonzero = add-zero a.nonzero i; conflicts = add-zero a.conflicts i; asks = add-zero a.asks i; instructions = add-zero a.instructions i }

pub none_plus : (a : ObserverStats) → sum_of no_runs a ≡ a
none_plus a = λ i. record { runs = zero-add a.runs i; nonzero = zero-add a.nonzero i; conflicts = zero-add a.conflicts i; asks = zero-add a.asks i; instructions = zero-add a.instructions i }

-- one more run, where it is the observer's
one_more_run : (is : Bool) (was before did stats : ObserverStats) → was ≡ saturated before → stats ≡ saturated did → cond is (added was stats) was ≡ saturated (sum_of before (cond is did no_runs))
one_more_run true was before did stats e f = (λ i. added (e i) (f i)) ∙ added_both before did
one_more_run false was before did stats e f = e ∙ ap saturated (sym (plus_none before))

-- ---- conversations

-- no step of these begins a run
abbrev pub BeginNoRun : List Received → Type 0
BeginNoRun said = AreEach (λ r. starts_run r.step ≡ false) said

pub within_begins_none : (s : ℕ) (step : Step) → is_step_within s step ≡ true → starts_run step ≡ false
within_begins_none s step w = grind arith

-- a change begins no run
pub change_begins_none : (batch : Writes) (o : Outcome) (said : List Received) → IsEndedChange batch o said → BeginNoRun said
change_begins_none batch o said g =
    let rest = whole_within g.0 _ _ g.1.rest o g.1.whole in
    subst BeginNoRun (sym g.1.said_is) (refl, each_as (IsWithin g.0.0) (λ r. starts_run r.step ≡ false) (λ r w. within_begins_none g.0.0 r.step w) g.1.rest rest)

module _ {observers : List ObserverOf} where
  pub stats_append : (a b : List Received) (m n : ℕ → ObserverStats) → AreStatsOf observers a m → AreStatsOf observers b n → AreStatsOf observers (a ++ b) (λ o. sum_of (m o) (n o))
  stats_append a b m n p nothing_said = subst (λ l. AreStatsOf observers l (λ o. sum_of (m o) no_runs)) (sym (append-nil a)) (subst (λ (t : ℕ → ObserverStats). AreStatsOf observers a t) (sym (λ i o. plus_none (m o) i)) p)
  stats_append a b m n p (other_step said total r q isnt) =
      subst (λ l. AreStatsOf observers l (λ o. sum_of (m o) (total o))) (append_assoc a said (r ∷ [])) (other_step (a ++ said) (λ o. sum_of (m o) (total o)) r (stats_append a said m total p q) isnt)
  stats_append a b m n p (one_run said more total k x first end did q job ran) =
      subst (λ (t : ℕ → ObserverStats). AreStatsOf observers (a ++ (said ++ more)) t) (λ i o. plus_assoc (m o) (total o) (only_at k did o) i)
      (subst (λ l. AreStatsOf observers l (λ o. sum_of (sum_of (m o) (total o)) (only_at k did o))) (append_assoc a said more)
      (one_run (a ++ said) more (λ o. sum_of (m o) (total o)) k x first end did (stats_append a said m total p q) job ran))

  others_after : (a : List Received) (total : ℕ → ObserverStats) (b : List Received) → AreStatsOf observers a total → BeginNoRun b → AreStatsOf observers (a ++ b) total
  others_after a total [] p h = subst (λ l. AreStatsOf observers l total) (sym (append-nil a)) p
  others_after a total (r ∷ b) p h = subst (λ l. AreStatsOf observers l total) (append_assoc a (r ∷ []) b) (others_after (a ++ r ∷ []) total b (other_step a total r p h.0) h.1)

  -- ---- what is kept

  -- it may be stated in other words
  unfoldable pub counted_as : {s t : List ObserverStats} {P Q : List Received → Type 0} {said : List Received} → (P said → Q said) → Counted observers s t P said → Counted observers s t Q said
  counted_as is g = record { form = is g.form; total = g.total; did = g.did; as_many = g.as_many; grows = g.grows }

  -- one part after another
  unfoldable pub counted_on : {s t u : List ObserverStats} {P Q R : List Received → Type 0} {a b : List Received} → Counted observers s t P a → Counted observers t u Q b → (P a → Q b → R (a ++ b)) → Counted observers s u R (a ++ b)
  counted_on {a = a} {b = b} g h join = record {
    form = join g.form h.form;
    total = λ o. sum_of (g.total o) (h.total o);
    did = stats_append a b g.total h.total g.did h.did;
    as_many = h.as_many ∙ g.as_many;
    grows = λ before k o lt. h.grows (λ o. sum_of (before o) (g.total o)) (g.grows before k) o lt ∙ ap saturated (plus_assoc (before o) (g.total o) (h.total o));
  }

  -- no run
  pub counted_none : {s : List ObserverStats} {P : List Received → Type 0} {said : List Received} → BeginNoRun said → P said → Counted observers s s P said
  counted_none {said = said} none is = record {
    form = is;
    total = λ o. no_runs;
    did = others_after [] (λ o. no_runs) said nothing_said none;
    as_many = refl;
    grows = λ before k o lt. k o lt ∙ ap saturated (sym (plus_none (before o)));
  }

  -- one run
  pub counted_one : {old new : List ObserverStats} {n : ℕ} {x : Cell} {first : RunOf} {end : JobEnd} {stats : ObserverStats} {P : List Received → Type 0} {said : List Received} → IsJobOn observers n x first → RanAndDid first end stats said → length new ≡ length old
      → ((o : ℕ) → o < length old → slice_index_or new o no_runs ≡ cond (n == o) (added (slice_index_or old o no_runs) stats) (slice_index_or old o no_runs)) → P said → Counted observers old new P said
  counted_one {old} {n = n} {x = x} {first = first} {end = end} {stats = stats} {said = said} job ran as_many counted is = record {
    form = is;
    total = only_at n ran.did;
    did = subst (λ (t : ℕ → ObserverStats). AreStatsOf observers said t) (λ i o. none_plus (only_at n ran.did o) i) (one_run [] said (λ o. no_runs) n x first end ran.did nothing_said job ran.run);
    as_many = as_many;
    grows = λ before k o lt.
        let was = subst (λ l. o < l) as_many lt in
        counted o was ∙ one_more_run (n == o) (slice_index_or old o no_runs) (before o) ran.did stats (k o was) ran.stats_are;
  }
