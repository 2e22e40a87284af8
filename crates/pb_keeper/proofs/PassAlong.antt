-- Passes over the marked cells on their way, with the number of runs that were committed, and a change with its drain.
use Rattle.std.specs.Io.Iter.{u64_saturate}
use Rattle.std.proofs.Common.{arith, ◌≡◌, ◌≢◌, ℕ, ◌+◌, ◌-◌, ◌^◌, ◌<◌, ◌≤◌, ◌==◌, min, inl, Bool, false, cond, List, [], ◌∷◌, ◌++◌, length, Option, Some, None, refl, sym, ap, subst, ◌∙◌, is_some, slice_get, slice_index_or}
use Rattle.pb_keeper.specs.Words.{Writes, Cell, Ts, Step, Answer, StateOf, TableStep, IsNextMark, ObserverOf, Received, Outcome, told, IsWholeRun, RunOf, JobEnd, HasColumn, IsJobOn, IsRun, IsOfParts, EndsIn, one_part}
use Rattle.pb_keeper.specs.Drains.{HasRuns, IsDrainWithin, IsTurnThat}
use Rattle.pb_base.proofs.Logic.{one_value}
use Rattle.pb_keeper.specs.Leads.{SaidLeads, IsEndedChange}
use Rattle.pb_keeper.specs.Counts.{commit_count, commits_of_end, CountsCommits}
use Rattle.pb_keeper.specs.Made.{IsMade, comes_to_rest}
use Rattle.pb_keeper.specs.Stats.{no_runs, added, Counted, RanAndDid}
use Rattle.pb_keeper.specs.declared.stats.ObserverStats.{ObserverStats}
use Rattle.pb_keeper.proofs.Counting.{count_append, not_counted, run_count}
use Rattle.pb_keeper.proofs.Leading.{leads_none, leads_on}
use Rattle.pb_keeper.proofs.BegunRuns.{no_run_first, run_is_one, runs_append}
use Rattle.pb_keeper.proofs.Statistics.{change_begins_none, counted_as, counted_none, counted_on, counted_one}

-- ---- numbers of runs, and what they did

-- a conversation of this form, whose committed runs are so many and whose runs are counted
abbrev pub Led : List ObserverOf → List ObserverStats → List ObserverStats → (List Received → Type 0) → ℕ → StateOf → StateOf → Type 0
Led observers s t P m a b = SaidLeads (Counted observers s t (CountsCommits P m)) a b

-- where no step was made
pub led_none : {observers : List ObserverOf} {s : List ObserverStats} {P : List Received → Type 0} {a : StateOf} → P [] → Led observers s s (HasRuns P 0) 0 a a
led_none {a = a} is = leads_none a (counted_none tt (record { form = (is, refl); count = refl }))

module _ {observers : List ObserverOf} {s t u : List ObserverStats} {m n k : ℕ} {a b c : StateOf} (sum : k ≡ min (m + n) (2 ^ 64 - 1)) where
  -- the numbers of two parts add up, as far as 64 bits can say
  pub counts_on : {P Q R : List Received → Type 0} → Led observers s t P m a b → Led observers t u Q n b c → ((said more : List Received) → P said → Q more → R (said ++ more)) → Led observers s u R k a c
  counts_on g h join =
      leads_on g h (λ said more x y. counted_on x y (λ p q. record { form = join said more p.form q.form; count = both (commit_count said) (commit_count more) (commit_count (said ++ more)) p.count q.count (count_append said more) }))
    where
      both : (x y z : ℕ) → m ≡ min x (2 ^ 64 - 1) → n ≡ min y (2 ^ 64 - 1) → z ≡ x + y → k ≡ min z (2 ^ 64 - 1)
      both x y z p q e = omega (arith, sum, p, q, e)

  -- and so do the numbers of runs that were begun
  pub runs_on : {i j l : ℕ} {P Q R : List Received → Type 0} → l ≡ i + j → Led observers s t (HasRuns P i) m a b → Led observers t u (HasRuns Q j) n b c → ((said more : List Received) → P said → Q more → R (said ++ more)) → Led observers s u (HasRuns R l) k a c
  runs_on runs g h join = counts_on g h (λ said more x y. (join said more x.0 y.0, runs_append said more ∙ (λ z. x.1 z + y.1 z) ∙ sym runs))

  -- parts, and then what comes next where the table has the same observers
  module _ {i j l : ℕ} (runs : l ≡ i + j) {seen : List ObserverOf} (same : seen ≡ observers) {S : Type 0} {Part : S → S → List Received → Type 0} {p q : S} (before : Led observers s t (HasRuns (IsOfParts Part p q) i) m a b) (Next : List ObserverOf → List Received → Type 0)
      (next : Led seen t u (HasRuns (Next seen) j) n b c) where
    next_here : Led observers t u (HasRuns (Next observers) j) n b c
    next_here = subst (λ (o : List ObserverOf). Led o t u (HasRuns (Next o) j) n b c) same next

    -- one part more
    pub part_on : {r : S} → ((said : List Received) → Next observers said → Part q r said) → Led observers s u (HasRuns (IsOfParts Part p r) l) k a c
    part_on {r} is = runs_on runs before next_here (λ said more x y. one_part q r said more x (is more y))

    -- what ends them
    pub end_on : {Last : S → List Received → Type 0} → ((said : List Received) → Next observers said → Last q said) → Led observers s u (HasRuns (EndsIn Part Last p) l) k a c
    end_on is = runs_on runs before next_here (λ said more x y. record { at = q; before = said; parts = x; last = more; ends = is more y; said_is = refl })

-- it may be stated in other words
pub led_as : {observers : List ObserverOf} {s t : List ObserverStats} {P Q : List Received → Type 0} {m : ℕ} {a b : StateOf} → ((said : List Received) → P said → Q said) → Led observers s t P m a b → Led observers s t Q m a b
led_as is g = record { said = g.said; form = counted_as (λ p. record { form = is g.said p.form; count = p.count }) g.form; leads = g.leads }

pub runs_as : {observers : List ObserverOf} {s t : List ObserverStats} {P Q : List Received → Type 0} {i m : ℕ} {a b : StateOf} → ((said : List Received) → P said → Q said) → Led observers s t (HasRuns P i) m a b → Led observers s t (HasRuns Q i) m a b
runs_as is g = led_as (λ said x. (is said x.0, x.1)) g

-- a look for a mark, and what comes next
pub mark_first : {P Q : List Received → Type 0} {observers : List ObserverOf} {t u : List ObserverStats} {last : Option Cell} {answer : Answer} {i n : ℕ} {b b1 c : StateOf} → TableStep b 0 (Step.NextMark last) answer b1 → Led observers t u (HasRuns P i) n b1 c
    → ((said : List Received) → P said → Q (told (Step.NextMark last) answer ∷ said)) → Led observers t u (HasRuns Q i) n b c
mark_first {last = last} {answer = answer} {b1 = b1} taken g is =
    let r = told (Step.NextMark last) answer in
    record {
      said = r ∷ g.said;
      form = counted_on {P = λ said. Unit {0}} {a = r ∷ []} (counted_none (refl, tt) tt) g.form (λ p q. record { form = (is g.said q.form.0, no_run_first r g.said refl ∙ q.form.1); count = q.count ∙ ap u64_saturate (sym (not_counted r g.said refl)) });
      leads = (b1, taken, g.leads);
    }

-- ---- the runs on a cell

few_of_end : (end : JobEnd) → commits_of_end end ≤ 1
few_of_end end = grind arith

pub none_of_end : (end : JobEnd) → ((result : ℕ) → end ≢ JobEnd.Ran result) → commits_of_end end ≡ 0
none_of_end end isnt = grind arith

-- a run of an observer of the cell's column counts by how it ended, and what it did is added to what is kept
module _ {observers seen : List ObserverOf} {n number : ℕ} {x : Cell} {job : RunOf} {end : JobEnd} {did : ObserverStats} {a b : StateOf} {s t : List ObserverStats} (same_list : seen ≡ observers) (same_number : number ≡ n) (column : HasColumn seen n x) (job_on : IsJobOn seen number x job)
    (run : SaidLeads (RanAndDid job end did) a b) (as_many : length t ≡ length s)
    (grown : (o : ℕ) → o < length s → slice_index_or t o no_runs ≡ cond (n == o) (added (slice_index_or s o no_runs) did) (slice_index_or s o no_runs)) where
  pub turn_counts : (k : ℕ) → k ≡ commits_of_end end → Led observers s t (HasRuns (IsTurnThat observers x n false) 1) k a b
  turn_counts k is =
      let w = run.form.run.whole in
      let known = subst (λ (l : List ObserverOf). HasColumn l n x) same_list column in
      let on = subst (λ (l : List ObserverOf). IsJobOn l n x job) same_list (subst (λ i. IsJobOn seen i x job) same_number job_on) in
      let same : known.0 ≡ on.o = one_value (slice_get observers n) known.0 on.o known.1.there on.there in
      let few = few_of_end end in
      let counted = run_count job.watch run.said end w.run w.talk in
      let count : k ≡ min (commit_count run.said) (2 ^ 64 - 1) = omega (arith, is, few, counted) in
      let its : IsRun observers n x run.said = record {
        o = on.o;
        observer = record { there = on.there; column = ap (λ (o : ObserverOf). o.column) (sym same) ∙ known.1.column };
        end = end;
        whole = subst (λ (j : RunOf). IsWholeRun j end run.said) on.job_is w;
      } in
      record { said = run.said; form = counted_one on run.form as_many grown (record { form = (inl its, run_is_one observers n x run.said its); count = count }); leads = run.leads }

-- ---- a change, and a drain

pub change_is_made : {observers seen : List ObserverOf} {s t : List ObserverStats} {bound : ℕ} {batch : Writes} {commit : Ts} {m : ℕ} {rests : Bool} {a b c : StateOf} → seen ≡ observers → SaidLeads (IsEndedChange batch (Outcome.Committed commit)) a b
    → (leads : SaidLeads (Counted seen s t (IsDrainWithin seen bound)) b c) × (m ≡ commit_count leads.said) × (rests ≡ comes_to_rest leads.form.form)
    → (leads : SaidLeads (Counted observers s t (IsMade observers bound batch commit)) a c) × (m ≡ commit_count leads.form.form.drain) × (rests ≡ comes_to_rest leads.form.form.drained)
unfolding leads_on counted_on
change_is_made {observers} {s = s} {t = t} {bound = bound} {batch = batch} {commit = commit} {m = m} {rests = rests} {b = b} {c = c} same g h =
    let here : (leads : SaidLeads (Counted observers s t (IsDrainWithin observers bound)) b c) × (m ≡ commit_count leads.said) × (rests ≡ comes_to_rest leads.form.form) =
    subst (λ (l : List ObserverOf). (leads : SaidLeads (Counted l s t (IsDrainWithin l bound)) b c) × (m ≡ commit_count leads.said) × (rests ≡ comes_to_rest leads.form.form)) same h in (
      leads_on g here.0 (λ said more p q. counted_on {P = IsEndedChange batch (Outcome.Committed commit)} (counted_none (change_begins_none batch (Outcome.Committed commit) said p) p) q (λ change drain. record { change = said; changed = change; drain = more; drained = drain; said_is = refl })),
      here.1,
      here.2,
    )

-- where a pass found no mark at all, no cell is marked
pub no_cell_is_marked : (last : Option Cell) (old new : StateOf) → is_some last ≡ false → TableStep old 0 (Step.NextMark last) Answer.NoMark new → IsNextMark new.marks None None
no_cell_is_marked None old new e t = subst (λ (s : StateOf). IsNextMark s.marks None None) (sym t.taken.new_is) t.taken.none
no_cell_is_marked (Some x) old new e t = cc
