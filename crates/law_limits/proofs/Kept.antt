-- How many entries a drain leaves, and a change with the drain after it.
use Rattle.std.proofs.Common.{arith, ◌≡◌, ℕ, ◌+◌, ◌*◌, ◌≤◌, max, true, List, ◌++◌, refl, ap, subst, ◌∙◌}
use Rattle.std.proofs.lemmas.List.{length-map}
use Rattle.std.specs.FinMap as map
use Rattle.pb_txn.specs.Conversations.{told}
use Rattle.pb_txn.specs.Forms.{IsWhole, committed, conflicted_first, conflicted_later, lost}
use Rattle.pb_txn.specs.declared.place.Outcome.{Outcome}
use Rattle.pb_notify.specs.Allowed.{entries_by}
use Rattle.pb_passes.proofs.Drains.{HoldsOfRuns}
use Rattle.pb_keeper.specs.Drains.{begun_count, IsDrainWithin, within, cut_off}
use Rattle.pb_keeper.specs.Leads.{IsEndedChange, SaidLeads}
use Rattle.pb_keeper.specs.Made.{IsMade, runs_within}
use Rattle.pb_keeper.specs.Stats.{Counted, KeptTable}
use Rattle.pb_keeper.proofs.BegunRuns.{run_is_one, runs_append}
use Rattle.pb_keeper.proofs.BoundedDrains.{of_drain_within}
use Rattle.pb_keeper.proofs.Wholes.{leads_parts}
use Rattle.law_limits.specs.Words.{Writes, is_batch, MAX_CELLS, Ts, Cell, ObserverOf, StateOf, Step, Work, Answer, Declared, JournalLeads, Received}
use Rattle.law_limits.specs.Limits.{entry_count, own_entries, ChangesStayWithin, CatchingUpStaysWithin}
use Rattle.law_limits.proofs.Entries.{prewrite_count, prewritten_append, not_prewritten, most_entries}
use Rattle.law_limits.proofs.Prewrites.{batch_few, run_few, whole_few}

-- ---- drains

-- each run prewrites an acknowledgment and the cells of its program at most
abbrev AreFew : List Received → Type 0
AreFew said = prewrite_count said ≤ (MAX_CELLS + 1) * begun_count said

module _ (observers : List ObserverOf) where
  both_few : (a b : List Received) → AreFew a → AreFew b → AreFew (a ++ b)
  both_few a b p q = let all = prewritten_append a b in let runs = runs_append a b in omega (arith, p, q, all, runs)

  each_few : HoldsOfRuns observers AreFew
  each_few = record {
    adds = record { nothing = omega arith; both = both_few };
    mark = λ after answer. omega arith;
    run = λ i x said is. let one = run_is_one observers i x said is in let few = run_few _ said is.end is.whole.run is.whole.talk is.whole.meant in omega (arith, one, few);
  }

  few_begun : (bound : ℕ) (said : List Received) → IsDrainWithin observers bound said → begun_count said ≤ bound
  few_begun bound said (within drain is) = is
  few_begun bound said (cut_off due is) = omega (arith, is)

  drain_few : (bound : ℕ) (said : List Received) → IsDrainWithin observers bound said → prewrite_count said ≤ (MAX_CELLS + 1) * bound
  drain_few bound said d =
      let few = of_drain_within observers each_few bound said d in
      let begun = few_begun bound said d in
      omega (arith, few, begun)

-- observers that catch up
pub caught_up_within : CatchingUpStaysWithin
caught_up_within more old new c =
    let few = drain_few c.marked.state.observers c.bound c.drained.said c.drained.form.form in
    let most = most_entries c.drained.said c.marked.state new.state c.drained.leads in
    let same : map.len c.marked.state.entries ≡ map.len old.state.entries = ap (λ (z : StateOf). map.len z.entries) c.observed.is in
    omega (arith, few, most, same)

-- ---- changes

-- what is declared as a change is a batch
whole_batch : (s t : StateOf) (start : Ts) (batch : Writes) (cells : List Cell) (said : List Received) (o : Outcome) → IsWhole start (Declared.Script batch) cells said o → JournalLeads s (entries_by 0 said) t → is_batch batch ≡ true
whole_batch s t start batch cells said o (committed x others c) r = r.1.taken.known
whole_batch s t start batch cells said o (conflicted_first x after) r = r.1.taken.known
whole_batch s t start batch cells said o (conflicted_later x y before after z cs can are) r = r.1.taken.known
whole_batch s t start batch cells said o (lost x others c cs are) r = r.1.taken.known

-- so that it has few cells, each of which is prewritten once
own_few : (s t : StateOf) (batch : Writes) (o : Outcome) (said : List Received) → IsEndedChange batch o said → JournalLeads s (entries_by 0 said) t → prewrite_count said ≤ MAX_CELLS
own_few s t batch o said is r =
    let first = told (Step.Begin Work.Script) (Answer.At is.0) in
    let leads = subst (λ l. JournalLeads s (entries_by 0 l) t) is.1.said_is r in
    let few = batch_few batch (whole_batch leads.0 t is.0 batch _ is.1.rest o is.1.whole leads.2) in
    let all = ap prewrite_count is.1.said_is ∙ not_prewritten first is.1.rest refl in
    let some = whole_few is.0 (Declared.Script batch) _ is.1.rest o is.1.whole in
    let many = length-map batch (λ w. w.0) in
    omega (arith, few, all, some, many)

made_few : (observers : List ObserverOf) (bound : ℕ) (batch : Writes) (commit : Ts) (said : List Received) (s t : StateOf) → IsMade observers bound batch commit said → JournalLeads s (entries_by 0 said) t → prewrite_count said ≤ MAX_CELLS + (MAX_CELLS + 1) * bound
made_few observers bound batch commit said s t is r =
    let parts = leads_parts s t is.change is.drain (subst (λ l. JournalLeads s (entries_by 0 l) t) is.said_is r) in
    let own = own_few s parts.0 batch (Outcome.Committed commit) is.change is.changed parts.1 in
    let runs = drain_few observers bound is.drain is.drained in
    let all = ap prewrite_count is.said_is ∙ prewritten_append is.change is.drain in
    omega (arith, own, runs, all)

-- as many runs as the limit has room for
room_is_enough : (limit n m puts : ℕ) → puts ≤ MAX_CELLS + (MAX_CELLS + 1) * runs_within limit n → m ≤ n + 2 * puts → m ≤ max limit n + own_entries
room_is_enough limit n m puts few most = omega (arith, few, most)

pub made_within : (limit : ℕ) (batch : Writes) (commit : Ts) (old new : KeptTable)
    → SaidLeads (Counted old.state.observers old.stats new.stats (IsMade old.state.observers (runs_within limit (map.len old.state.entries)) batch commit)) old.state new.state
    → entry_count new ≤ max limit (entry_count old) + own_entries
made_within limit batch commit old new leads =
    let few = made_few old.state.observers (runs_within limit (map.len old.state.entries)) batch commit leads.said old.state new.state leads.form.form leads.leads in
    room_is_enough limit (entry_count old) (entry_count new) (prewrite_count leads.said) few (most_entries leads.said old.state new.state leads.leads)

pub change_within : ChangesStayWithin
change_within limit batch old new is = made_within limit batch is.commit old new is.leads
