use Rattle.std.proofs.Common.{arith, ◌≡◌, ◌<◌, ◌≤◌, ◌+◌, ◌-◌, ℕ, inl, inr, true, false, nat_lt, List, [], None, refl, sym, subst, ◌∙◌}
use Rattle.std.proofs.lemmas.List.{append-nil}
use Rattle.std.proofs.lemmas.Result.{err_from_is_err_and}
use Rattle.pb_passes.proofs.Drains.{of_next_pass}
use Rattle.pb_state.proofs.Outcomes.{err_always}
use Rattle.pb_keeper.specs.Words.{ObserverOf, Received, EndsIn, ArePasses, IsNextPass, IsPass, MAX_PASSES, no_part}
use Rattle.pb_keeper.specs.BrokenOff.{IsOfRuns}
use Rattle.pb_keeper.specs.Drains.{within, cut_off, HasRuns, IsDrainDue, IsPassWithEnd}
use Rattle.pb_keeper.specs.Leads.{SaidLeads}
use Rattle.pb_keeper.specs.Made.{IsDrainThat}
use Rattle.pb_keeper.proofs.BrokenOff.{broken_on, parts_of_runs}
use Rattle.pb_keeper.proofs.KeptTables.{kept_while, parts_leave}
use Rattle.pb_keeper.proofs.Leading.{leads_observers}
use Rattle.pb_keeper.proofs.PassAlong.{led_none, led_as, part_on, end_on}
use Rattle.pb_keeper.proofs.passes.make_passes.Goals as goal

pub loop-count-init : goal.loop-count-init
loop-count-init g c = record { leads = led_none no_part; same = refl; few = omega arith }

pub returns-in_err-passed-clause-err : goal.returns-in_err-passed-clause-err
returns-in_err-passed-clause-err g c =
    let observers = c.args.state.now.observers in
    let few = c.loop-count.invariant.few in
    err_always c.from_residual.result (SaidLeads (IsOfRuns c.args.bound) c.args.state.now c.pass.new.state)
    (broken_on observers (c.args.bound - c.loop-count.made) c.args.bound (of_next_pass observers (parts_of_runs observers)) c.loop-count.invariant.leads c.in_err-passed.ensures.err (omega (arith, few)))

is_below : (m n : ℕ) → m < n → nat_lt m n ≡ true
is_below m n lt = grind arith

isnt_below : (m : ℕ) → nat_lt m m ≡ false
isnt_below m = grind arith

-- a pass that found no mark ends it
rested : (observers : List ObserverOf) (bound made : ℕ) → made ≤ bound → (said : List Received) → HasRuns (EndsIn (IsNextPass observers) (λ count last. (count < MAX_PASSES) × IsPass observers None last) 0) made said → IsDrainThat observers bound true said
rested observers bound made few said e =
    let is = e.1 in
    (within (record { at = e.0.at; before = e.0.before; parts = e.0.parts; last = e.0.last; ends = inl e.0.ends; said_is = e.0.said_is }) (omega (arith, is, few)), sym (is_below e.0.at MAX_PASSES e.0.ends.0))

-- no more passes may be made
passes_ran_out : (observers : List ObserverOf) (bound made : ℕ) → made ≤ bound → (said : List Received) → HasRuns (ArePasses observers MAX_PASSES) made said → IsDrainThat observers bound false said
passes_ran_out observers bound made few said p =
    let is = p.1 in
    (within (record { at = MAX_PASSES; before = said; parts = p.0; last = []; ends = inr (refl, refl); said_is = sym (append-nil said) }) (omega (arith, is, few)), sym (isnt_below MAX_PASSES))

-- nor more runs, where one is due
runs_ran_out : (observers : List ObserverOf) (bound made : ℕ) → made ≡ bound → (said : List Received) → HasRuns (IsDrainDue observers) made said → IsDrainThat observers bound false said
runs_ran_out observers bound made all said d = (cut_off d.0 (d.1 ∙ all), refl)

pub returns-in-Markless-clause-ok : goal.returns-in-Markless-clause-ok
returns-in-Markless-clause-ok g c =
    let few = c.in_ok-passed.ensures.few in
    let before = c.loop-count.invariant.few in
    led_as (rested c.args.state.now.observers c.args.bound (c.loop-count.made + c.in_ok-passed.passed.runs) (omega (arith, few, before)))
    (end_on c.saturating_add-runs.ensures refl c.loop-count.invariant.same c.loop-count.invariant.leads (λ l. IsPassWithEnd l c.in_ok-passed.passed.end) c.in_ok-passed.ensures.ok
    (λ said p. (c.loop-count-test.true, subst (λ e. IsPassWithEnd c.args.state.now.observers e said) c.in-Markless.is p)))

pub returns-in-Due-clause-ok : goal.returns-in-Due-clause-ok
returns-in-Due-clause-ok g c =
    let all = c.in_ok-passed.ensures.due c.in-Due.is in
    let before = c.loop-count.invariant.few in
    led_as (runs_ran_out c.args.state.now.observers c.args.bound (c.loop-count.made + c.in_ok-passed.passed.runs) (omega (arith, all, before)))
    (end_on c.saturating_add-runs.ensures refl c.loop-count.invariant.same c.loop-count.invariant.leads (λ l. IsPassWithEnd l c.in_ok-passed.passed.end) c.in_ok-passed.ensures.ok
    (λ said p. (c.loop-count-test.true, subst (λ e. IsPassWithEnd c.args.state.now.observers e said) c.in-Due.is p)))

pub loop-count-preserved : goal.loop-count-preserved
loop-count-preserved g c =
    let few = c.in_ok-passed.ensures.few in
    let before = c.loop-count.invariant.few in
    record {
      leads = part_on c.saturating_add-runs.ensures refl c.loop-count.invariant.same c.loop-count.invariant.leads (λ l. IsPassWithEnd l c.in_ok-passed.passed.end) c.in_ok-passed.ensures.ok
          (λ said p. (refl, subst (λ e. IsPassWithEnd c.args.state.now.observers e said) c.in-Marked.is p));
      same = leads_observers c.loop-count.state c.pass.new.state c.in_ok-passed.ensures.ok ∙ c.loop-count.invariant.same;
      few = omega (arith, few, before);
    }

pub returns-clause-ok : goal.returns-clause-ok
returns-clause-ok g c =
    let observers = c.args.state.now.observers in
    let all : c.loop-count._count ≡ MAX_PASSES = omega (arith, c.loop-count.auto._count-end, c.loop-count-test.false) in
    led_as (λ said p. passes_ran_out observers c.args.bound c.loop-count.made c.loop-count.invariant.few said (subst (λ n. ArePasses observers n said) all p.0, p.1)) c.loop-count.invariant.leads

pub returns-in_err-passed-clause-stops : goal.returns-in_err-passed-clause-stops
returns-in_err-passed-clause-stops g c kept =
    let p = err_from_is_err_and c.from_residual.result c.from_residual.ensures.1 in
    let observers = c.args.state.now.observers in
    rw (p.1, p.2) (c.in_err-passed.ensures.stops (kept_while kept (of_next_pass observers (parts_leave observers c.jobs_keep_tables.ensures.runs c.jobs_keep_tables.ensures.marks)) c.loop-count.invariant.leads))
