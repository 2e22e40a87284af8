use Rattle.std.proofs.Common.{arith, ◌≡◌, ◌+◌, ◌-◌, ◌^◌, min, List, [], ◌∷◌, ◌++◌, Option, Some, None, false, is_some, refl, sym, ap, subst, ◌∙◌}
use Rattle.std.proofs.lemmas.Result.{err_from_is_err_and}
use Rattle.pb_passes.proofs.Marks.{no_mark}
use Rattle.pb_passes.proofs.Drains.{of_mark}
use Rattle.pb_state.proofs.Outcomes.{err_always}
use Rattle.pb_keeper.specs.Words.{Cell, Step, Answer, StateOf, TableStep, ObserverOf, Received, told, IsMarkRun, IsMarkless, IsPass, no_part}
use Rattle.pb_keeper.specs.BrokenOff.{IsOfRuns}
use Rattle.pb_keeper.specs.Drains.{end_after, AreRunsThat, IsMarkDue, IsPassWithEnd}
use Rattle.pb_keeper.specs.Leads.{SaidLeads}
use Rattle.pb_keeper.specs.Counts.{commit_count}
use Rattle.pb_keeper.specs.declared.passes.PassEnd.{PassEnd}
use Rattle.pb_keeper.proofs.BrokenOff.{both_of_runs, broken_on, mark_of_none, more_runs, parts_alone, parts_of_runs}
use Rattle.pb_keeper.proofs.CellsAfter.{walk_goes}
use Rattle.pb_keeper.proofs.InTime.{mark_stops}
use Rattle.pb_keeper.proofs.KeptTables.{LeavesKept, kept_after, kept_while, mark_leaves, parts_leave}
use Rattle.pb_keeper.proofs.Leading.{leads_observers, leads_on, leads_one}
use Rattle.pb_keeper.proofs.PassAlong.{led_none, runs_as, part_on, end_on, mark_first, no_cell_is_marked}
use Rattle.pb_keeper.proofs.passes.pass.Goals as goal

pub loop-next-init : goal.loop-next-init
loop-next-init g c = record { leads = led_none no_part; same = refl; few = omega arith; fits = tt }

pass_that : (observers : List ObserverOf) (last : Option Cell) (said : List Received) → IsPass observers last said → IsPassWithEnd observers (end_after last) said
pass_that observers None said p = p
pass_that observers (Some x) said p = (x, p)

found_none : (last : Option Cell) → end_after last ≡ PassEnd.Markless → is_some last ≡ false
found_none None e = refl
found_none (Some x) e = absurd cc

not_due : (last : Option Cell) → end_after last ≡ PassEnd.Due → ⊥
not_due None e = absurd cc
not_due (Some x) e = absurd cc

pub returns-in_default : goal.returns-in_default
returns-in_default g c =
    let last = c.loop-next.last in
    let none : c.in_ok-next.next ≡ Answer.NoMark = no_mark last c.in_ok-next.next c.in_ok-next.ensures.can c.in_default.not-Marked in
    let taken = subst (λ (a : Answer). TableStep c.loop-next.state 0 (Step.NextMark last) a c.ask.new.state) none c.in_ok-next.ensures.taken in
    let walk = c.loop-next.invariant.leads in
    let few : c.loop-next.commits ≡ min (commit_count walk.said) (2 ^ 64 - 1) = walk.form.form.count in
    let sum : c.loop-next.commits ≡ min (c.loop-next.commits + 0) (2 ^ 64 - 1) = omega (arith, few) in
    let as_many : c.loop-next.runs ≡ c.loop-next.runs + 0 = omega arith in
    let ended = mark_first {Q = IsMarkless last last} taken (led_none {P = λ said. said ≡ []} refl) (λ said e. (refl, ap (λ l. told (Step.NextMark last) Answer.NoMark ∷ l) e)) in
    record {
      ok = rw c.end_after.ensures (runs_as (pass_that c.args.state.now.observers last) (end_on sum as_many refl walk (λ l. IsMarkless last last) ended (λ said e. e)));
      few = c.loop-next.invariant.few;
      due = λ e. absurd (not_due last (sym c.end_after.ensures ∙ e));
      quiet = λ e. no_cell_is_marked last c.loop-next.state c.ask.new.state (found_none last (sym c.end_after.ensures ∙ e)) taken;
      err = tt;
      stops = λ opened. tt;
    }

pub returns-in_err-ran-clause-err : goal.returns-in_err-ran-clause-err
returns-in_err-ran-clause-err g c =
    let observers = c.args.state.now.observers in
    let left = c.args.left - c.loop-next.runs in
    let few = c.loop-next.invariant.few in
    let mark = told (Step.NextMark c.loop-next.last) c.in_ok-next.next in
    let next = leads_one c.loop-next.state c.ask.new.state (Step.NextMark c.loop-next.last) c.in_ok-next.next c.in_ok-next.ensures.taken in
    let rest : SaidLeads (IsOfRuns left) c.loop-next.state c.run_all.new.state =
    leads_on next c.in_err-ran.ensures.err (λ said more is p. subst (λ l. IsOfRuns left (l ++ more)) (sym is) (more_runs (0 + left) left (mark ∷ more) (omega arith) (both_of_runs 0 left (mark ∷ []) more (mark_of_none c.loop-next.last c.in_ok-next.next) p))) in
    err_always c.from_residual-in_err-ran.result (SaidLeads (IsOfRuns c.args.left) c.args.state.now c.run_all.new.state)
    (broken_on observers left c.args.left (of_mark observers (parts_of_runs observers)) c.loop-next.invariant.leads rest (omega (arith, few)))

-- the look for a mark was refused
pub returns-in_err-next-clause-err : goal.returns-in_err-next-clause-err
returns-in_err-next-clause-err g c =
    let observers = c.args.state.now.observers in
    let few = c.loop-next.invariant.few in
    err_always c.from_residual.result (SaidLeads (IsOfRuns c.args.left) c.args.state.now c.ask.new.state)
    (subst (λ (s : StateOf). SaidLeads (IsOfRuns c.args.left) c.args.state.now s) (sym c.in_err-next.ensures.same) (parts_alone observers c.args.left (of_mark observers (parts_of_runs observers)) c.loop-next.invariant.leads few))

pub loop-next-preserved : goal.loop-next-preserved
loop-next-preserved g c =
    let last = c.loop-next.last in
    let x = c.in-Marked.cell in
    let none_due = c.if-ran.false in
    let few = c.in_ok-ran.ensures.few in
    let before = c.loop-next.invariant.few in
    let next = leads_one c.loop-next.state c.ask.new.state (Step.NextMark last) c.in_ok-next.next c.in_ok-next.ensures.taken in
    let same = leads_observers c.loop-next.state c.ask.new.state next ∙ c.loop-next.invariant.same in
    let taken = subst (λ (a : Answer). TableStep c.loop-next.state 0 (Step.NextMark last) a c.ask.new.state) c.in-Marked.is c.in_ok-next.ensures.taken in
    let marked = mark_first {Q = IsMarkRun c.ask.new.state.observers last (Some x)} taken c.in_ok-ran.ensures.ok
    (λ said r. record { x = x; found = refl; more = said; runs = subst (λ b. AreRunsThat c.ask.new.state.observers x b said) none_due r; said_is = refl }) in
    record {
      leads = part_on c.saturating_add-commits.ensures refl same c.loop-next.invariant.leads (λ l. IsMarkRun l last (Some x)) marked (λ said r. r);
      same = leads_observers c.ask.new.state c.run_all.new.state c.in_ok-ran.ensures.ok ∙ same;
      few = omega (arith, few, before);
      fits = record { row = c.fits.ensures.row; column = c.fits.ensures.column; rank = c.fits.ensures.rank };
    }

-- a run is due, and no more may be made
pub returns-then-ran-clause-ok : goal.returns-then-ran-clause-ok
returns-then-ran-clause-ok g c =
    let last = c.loop-next.last in
    let x = c.in-Marked.cell in
    let is_due = c.if-ran.true in
    let next = leads_one c.loop-next.state c.ask.new.state (Step.NextMark last) c.in_ok-next.next c.in_ok-next.ensures.taken in
    let same = leads_observers c.loop-next.state c.ask.new.state next ∙ c.loop-next.invariant.same in
    let taken = subst (λ (a : Answer). TableStep c.loop-next.state 0 (Step.NextMark last) a c.ask.new.state) c.in-Marked.is c.in_ok-next.ensures.taken in
    let marked = mark_first {Q = IsMarkDue c.ask.new.state.observers last} taken c.in_ok-ran.ensures.ok
    (λ said r. record { x = x; more = said; runs = subst (λ b. AreRunsThat c.ask.new.state.observers x b said) is_due r; said_is = refl }) in
    end_on c.saturating_add-commits.ensures refl same c.loop-next.invariant.leads (λ l. IsMarkDue l last) marked (λ said r. r)

pub loop-next-smaller : goal.loop-next-smaller
loop-next-smaller g c =
    let last = c.loop-next.last in
    let taken = subst (λ (a : Answer). TableStep c.loop-next.state 0 (Step.NextMark last) a c.ask.new.state) c.in-Marked.is c.in_ok-next.ensures.taken in
    walk_goes c.args.left c.loop-next.runs c.in_ok-ran.ran.runs last c.in-Marked.cell c.in_ok-ran.ensures.few c.loop-next.invariant.fits (record { row = c.fits.ensures.row; column = c.fits.ensures.column; rank = c.fits.ensures.rank }) taken.taken.first.1

pub returns-in_err-next-clause-stops : goal.returns-in_err-next-clause-stops
returns-in_err-next-clause-stops g c kept =
    let p = err_from_is_err_and c.from_residual.result c.from_residual.ensures.1 in
    let observers = c.args.state.now.observers in
    let here = kept_while kept (of_mark observers (parts_leave observers c.jobs_keep_tables.ensures.runs c.jobs_keep_tables.ensures.marks)) c.loop-next.invariant.leads in
    rw (p.1, p.2) (mark_stops c.jobs_are_in_time.ensures.marks c.loop-next.state c.ask.new.state c.loop-next.last c.in_err-next.field-0.0 here c.in_err-next.ensures.same c.in_err-next.ensures.why)

pub returns-in_err-ran-clause-stops : goal.returns-in_err-ran-clause-stops
returns-in_err-ran-clause-stops g c kept =
    let p = err_from_is_err_and c.from_residual-in_err-ran.result c.from_residual-in_err-ran.ensures.1 in
    let marks = c.jobs_keep_tables.ensures.marks in
    let observers = c.args.state.now.observers in
    let here = kept_while kept (of_mark observers (parts_leave observers c.jobs_keep_tables.ensures.runs marks)) c.loop-next.invariant.leads in
    let next = leads_one c.loop-next.state c.ask.new.state (Step.NextMark c.loop-next.last) c.in_ok-next.next c.in_ok-next.ensures.taken in
    let leaves = mark_leaves c.loop-next.state.observers marks c.loop-next.last c.in_ok-next.next in
    rw (p.1, p.2) (c.in_err-ran.ensures.stops (kept_after c.loop-next.state c.ask.new.state here (λ said is. subst (LeavesKept c.loop-next.state.observers) (sym is) leaves) next))
