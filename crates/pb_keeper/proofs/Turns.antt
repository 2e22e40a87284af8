-- Runs and changes end: each answer, and each instruction, leaves fewer that may come.
use Rattle.std.proofs.Common.{arith, ◌≡◌, ◌≢◌, ℕ, ◌+◌, ◌-◌, ◌*◌, ◌<◌, ◌≤◌, Bool, true, false, if◌then◌else◌, List, length, Option, Some, None, IfNone, refl, sym, ap, subst, ◌∙◌, nat_lt, slice_get, option_map}
use Rattle.std.proofs.lemmas.Option.{slice_get_within}
use Rattle.pb_base.proofs.Logic.{none_some, same_some}
use Rattle.pb_isa.specs.Slots.{slots}
use Rattle.pb_txn.specs.Places.{declared_cells, place_after, step_at}
use Rattle.pb_txn.specs.Plans as plans
use Rattle.pb_txn.specs.Changes as changes
use Rattle.pb_txn.specs.declared.place.PlanPlace.{PlanPlace}
use Rattle.pb_notify.specs.Words.{Ask, JudgedOf, Position, acknowledged_in, old_at, record_by, tells_old, version_in}
use Rattle.pb_notify.specs.Looks.{look_after, locked_after}
use Rattle.pb_notify.specs.Machines.{first_position}
use Rattle.pb_notify.specs.Places.{after_acknowledgment, after_ask, after_begin, after_cell, after_plan, after_recall, by_outcome, if_found, if_recalled, locked_at, seen_so_far, ComesTo, goes, waits, declares, GoesOnFrom, IsToldAt, IsToldBy}
use Rattle.pb_notify.specs.Places.{place_after as place_after_answer, step_at as step_at_place}
use Rattle.pb_notify.specs.Runs.{need_at}
use Rattle.pb_notify.specs.declared.look.Look.{Look}
use Rattle.pb_notify.specs.declared.look.Looked.{Looked}
use Rattle.pb_notify.specs.declared.look.TheConstants.{MAX_LOCKED}
use Rattle.pb_keeper.specs.Words.{Cell, Revision, Row, Ts, Seen, Step, Work, Answer, Declared, Received, CanAnswer, Writes, ChangeOf, PlanOf, Outcome, RunOf, RunPlace, Watch, JobEnd, Need, took, went, IsMove, IsPlanning, answered, next_of, run_job}
use Rattle.pb_keeper.specs.Runs.{MovesOnce, HasPlanned}

-- ---- a plan of so many cells

-- how many steps it may ask from a place on, or more
abbrev pub steps_left : ℕ → PlanPlace → ℕ
steps_left count PlanPlace.Declaring = 3 * count + 6
steps_left count (PlanPlace.Prewriting k) = (count - k) + (2 * count + 5)
steps_left count PlanPlace.Stamping = 2 * count + 4
steps_left count (PlanPlace.CommittingPrimary c) = 2 * count + 3
steps_left count (PlanPlace.CommittingSecondary c k) = (count - k) + 1
steps_left count (PlanPlace.Settling k) = k + 2
steps_left count (PlanPlace.Clearing k end o) = (end - k) + 1
steps_left count (PlanPlace.Over o) = 0

abbrev pub plan_left : PlanOf → ℕ
plan_left p = steps_left (length (declared_cells p.what)) p.place

-- a step that names a cell names one that there is
cell_within : (cells : List Cell) (k : ℕ) (f : Cell → Step) (step : Step) → option_map f (slice_get cells k) ≡ Some step → k < length cells
cell_within cells k f step e = at (slice_get cells k) refl e where
  at : (o : Option Cell) → slice_get cells k ≡ o → option_map f o ≡ Some step → k < length cells
  at None is e = absurd (none_some step e)
  at (Some x) is e = slice_get_within cells k x is

after_prewriting : (count k : ℕ) (a : Answer) → k < count → steps_left count (place_after count (PlanPlace.Prewriting k) a) < steps_left count (PlanPlace.Prewriting k)
after_prewriting count k a lt = grind arith

plan_goes_at : (s : ℕ) (what : Declared) (place : PlanPlace) (step : Step) (a : Answer) → step_at s what place ≡ Some step → CanAnswer step a
    → steps_left (length (declared_cells what)) (place_after (length (declared_cells what)) place a) < steps_left (length (declared_cells what)) place
plan_goes_at s what PlanPlace.Declaring step a next can = grind arith
plan_goes_at s what (PlanPlace.Prewriting k) step a next can = after_prewriting (length (declared_cells what)) k a (cell_within (declared_cells what) k (λ x. Step.Prewrite (record { 0 = s }) x) step next)
plan_goes_at s what PlanPlace.Stamping step a next can = grind arith
plan_goes_at s what (PlanPlace.CommittingPrimary c) step a next can = grind arith
plan_goes_at s what (PlanPlace.CommittingSecondary c k) step a next can =
    let lt = cell_within (declared_cells what) k (λ x. Step.CommitSecondary (record { 0 = s }) x) step next in
    grind arith
plan_goes_at s what (PlanPlace.Settling k) step a next can = grind arith
plan_goes_at s what (PlanPlace.Clearing k end o) step a next can = grind arith
plan_goes_at s what (PlanPlace.Over o) step a next can = absurd (none_some step next)

pub plan_goes : (p : PlanOf) (step : Step) (a : Answer) → plans.next_of p ≡ Some step → CanAnswer step a → plan_left (plans.answered p a) < plan_left p
plan_goes p step a next can = plan_goes_at p.start p.what p.place step a next can

-- ---- a change

-- before it begins, its begin too
abbrev left_by : Writes → Option PlanOf → ℕ
left_by batch None = steps_left (length (declared_cells (Declared.Script batch))) PlanPlace.Declaring + 1
left_by batch (Some p) = plan_left p

abbrev pub change_left : ChangeOf → ℕ
change_left j = left_by j.batch j.plan

change_goes_by : (batch : Writes) (plan : Option PlanOf) (step : Step) (a : Answer) → changes.next_in plan ≡ Some step → CanAnswer step a → left_by batch (changes.plan_after batch plan a) < left_by batch plan
change_goes_by batch None step a next can = begun a (subst (λ (z : Step). CanAnswer z a) (sym (same_some (Step.Begin Work.Script) step next)) can) where
  begun : (a : Answer) → CanAnswer (Step.Begin Work.Script) a → left_by batch (changes.begun_at batch a) < left_by batch None
  begun a can = grind arith
change_goes_by batch (Some p) step a next can = plan_goes p step a next can

-- each answer leaves fewer steps of a change
pub change_goes : (j : ChangeOf) (step : Step) (a : Answer) → changes.next_of j ≡ Some step → CanAnswer step a → change_left (changes.answered j a) < change_left j
change_goes j step a next can = change_goes_by j.batch j.plan step a next can

-- ---- looks

-- how many steps a look may ask after so many locks, or more
abbrev look_left : ℕ → Look → ℕ
look_left locked Look.Reading = 4 * (64 - locked)
look_left locked (Look.Clearing primary) = 4 * (64 - locked) + 3
look_left locked (Look.Settling primary) = 4 * (64 - locked) + 2
look_left locked Look.ClearingAgain = 4 * (64 - locked) + 1

-- an answer after which the look goes on
look_goes : (locked : ℕ) (look next : Look) (a : Answer) → look_after locked look a ≡ Looked.On next → look_left (locked_after locked look a) next < look_left locked look
look_goes locked Look.Reading next a is = grind (arith, MAX_LOCKED)
look_goes locked (Look.Clearing primary) next a is = grind arith
look_goes locked (Look.Settling primary) next a is = grind arith
look_goes locked Look.ClearingAgain next a is = grind arith

look_small : (locked : ℕ) (look : Look) → look_left locked look ≤ 259
look_small locked Look.Reading = omega arith
look_small locked (Look.Clearing primary) = omega arith
look_small locked (Look.Settling primary) = omega arith
look_small locked Look.ClearingAgain = omega arith

-- ---- a run up to its plan

-- a thousand for each instruction that its machine may still do
abbrev machine_left : Position → ℕ
machine_left v = 1000 * (slots v.judged.program.insns - v.taken)

abbrev early_at : ℕ → ℕ → RunPlace → ℕ
early_at all locked RunPlace.Beginning = 1000 * all + 6000
early_at all locked (RunPlace.Observing s look) = 1000 * all + 5000 + look_left locked look
early_at all locked (RunPlace.Acknowledging s found look) = 1000 * all + 4000 + look_left locked look
early_at all locked (RunPlace.Recalling s seen look) = 1000 * all + 3000 + look_left locked look
early_at all locked (RunPlace.Starting s seen) = 1000 * all + 2000
early_at all locked (RunPlace.Computing s v) = machine_left v + 500
early_at all locked (RunPlace.Asking s v q look) = machine_left v + look_left locked look + 2
early_at all locked (RunPlace.Planning r p) = 0
early_at all locked (RunPlace.Sweeping end) = 1
early_at all locked (RunPlace.Over end) = 0

-- how many moves a run may make up to its plan, or more
abbrev pub early_left : RunOf → ℕ
early_left j = early_at (slots j.watch.judged.program.insns) j.locked j.place

-- it comes to a place before its plan, from which fewer moves are left
record IsSooner (all were locked : ℕ) (place : RunPlace) : Type 0 where
  pub fewer : early_at all locked place < were
  pub early : IsPlanning place → ⊥

after_observing : (all locked : ℕ) (s : Ts) (look : Look) (a : Answer) (looked : Looked) → look_after locked look a ≡ looked → IsSooner all (1000 * all + 5000 + look_left locked look) (locked_after locked look a) (after_cell s looked)
after_observing all locked s look a (Looked.On next) is = record { fewer = (let lt = look_goes locked look next a is in omega (arith, lt)); early = λ p. p }
after_observing all locked s look a (Looked.Tells b) is = found (version_in b) where
  found : (o : Option Revision) → IsSooner all (1000 * all + 5000 + look_left locked look) (locked_after locked look a) (if_found s o)
  found None = record { fewer = omega arith; early = λ p. p }
  found (Some v) = record { fewer = (let few = look_small (locked_after locked look a) Look.Reading in omega (arith, few)); early = λ p. p }
after_observing all locked s look a Looked.Blocks is = record { fewer = omega arith; early = λ p. p }

after_acknowledging : (all locked : ℕ) (second : Bool) (s : Ts) (v : Revision) (look : Look) (a : Answer) (looked : Looked) → look_after locked look a ≡ looked
    → IsSooner all (1000 * all + 4000 + look_left locked look) (locked_after locked look a) (after_acknowledgment second s v looked)
after_acknowledging all locked second s v look a (Looked.On next) is = record { fewer = (let lt = look_goes locked look next a is in omega (arith, lt)); early = λ p. p }
after_acknowledging all locked second s v look a (Looked.Tells b) is = dirty (nat_lt (acknowledged_in b).0 v.commit.0) where
  recalled : (o : Option Ts) → IsSooner all (1000 * all + 4000 + look_left locked look) (locked_after locked look a) (if_recalled s (seen_so_far v (acknowledged_in b)) o)
  recalled None = record { fewer = omega arith; early = λ p. p }
  recalled (Some t) = record { fewer = (let few = look_small (locked_after locked look a) Look.Reading in omega (arith, few)); early = λ p. p }

  dirty : (is : Bool) → IsSooner all (1000 * all + 4000 + look_left locked look) (locked_after locked look a) (if is then if_recalled s (seen_so_far v (acknowledged_in b)) (old_at second (acknowledged_in b)) else RunPlace.Sweeping JobEnd.Clean)
  dirty true = recalled (old_at second (acknowledged_in b))
  dirty false = record { fewer = omega arith; early = λ p. p }
after_acknowledging all locked second s v look a Looked.Blocks is = record { fewer = omega arith; early = λ p. p }

after_recalling : (all locked : ℕ) (s : Ts) (seen : Seen) (look : Look) (a : Answer) (looked : Looked) → look_after locked look a ≡ looked → IsSooner all (1000 * all + 3000 + look_left locked look) (locked_after locked look a) (after_recall s seen looked)
after_recalling all locked s seen look a (Looked.On next) is = record { fewer = (let lt = look_goes locked look next a is in omega (arith, lt)); early = λ p. p }
after_recalling all locked s seen look a (Looked.Tells b) is = record { fewer = omega arith; early = λ p. p }
after_recalling all locked s seen look a Looked.Blocks is = record { fewer = omega arith; early = λ p. p }

after_asking : (all locked : ℕ) (s : Ts) (v : Position) (q : Ask) (look : Look) (a : Answer) (looked : Looked) → look_after locked look a ≡ looked → IsToldBy v q looked (after_ask s v q looked)
    → IsSooner all (machine_left v + look_left locked look + 2) (locked_after locked look a) (after_ask s v q looked)
after_asking all locked s v q look a (Looked.On next) is told = record { fewer = (let lt = look_goes locked look next a is in omega (arith, lt)); early = λ p. p }
after_asking all locked s v q look a (Looked.Tells b) is told = record { fewer = (let most = told.most in omega (arith, most)); early = λ p. p }
after_asking all locked s v q look a Looked.Blocks is told = record { fewer = omega arith; early = λ p. p }

-- an answer
early_answer : (all locked : ℕ) (second : Bool) (o : ℕ) (row : Row) (column : ℕ) (place : RunPlace) (step : Step) (a : Answer) → step_at_place o row column place ≡ Some step → CanAnswer step a → (IsPlanning place → ⊥) → IsToldAt locked place a (place_after_answer second locked place a)
    → IsSooner all (early_at all locked place) (locked_at locked place a) (place_after_answer second locked place a)
early_answer all locked second o row column RunPlace.Beginning step a next can early told = begun a (subst (λ (z : Step). CanAnswer z a) (sym (same_some (Step.Begin (Work.Run o row)) step next)) can) where
  begun : (a : Answer) → CanAnswer (Step.Begin (Work.Run o row)) a → IsSooner all (1000 * all + 6000) locked (after_begin a)
  begun (Answer.At s) can = record { fewer = (let few = look_small locked Look.Reading in omega (arith, few)); early = λ p. p }
  begun _ can = absurd can
early_answer all locked second o row column (RunPlace.Observing s look) step a next can early told = after_observing all locked s look a (look_after locked look a) refl
early_answer all locked second o row column (RunPlace.Acknowledging s v look) step a next can early told = after_acknowledging all locked second s v look a (look_after locked look a) refl
early_answer all locked second o row column (RunPlace.Recalling s seen look) step a next can early told = after_recalling all locked s seen look a (look_after locked look a) refl
early_answer all locked second o row column (RunPlace.Starting s seen) step a next can early told = absurd (none_some step next)
early_answer all locked second o row column (RunPlace.Computing s v) step a next can early told = absurd (none_some step next)
early_answer all locked second o row column (RunPlace.Asking s v q look) step a next can early told = after_asking all locked s v q look a (look_after locked look a) refl told
early_answer all locked second o row column (RunPlace.Planning r p) step a next can early told = absurd (early tt)
early_answer all locked second o row column (RunPlace.Sweeping end) step a next can early told = record { fewer = omega arith; early = λ p. p }
early_answer all locked second o row column (RunPlace.Over end) step a next can early told = absurd (none_some step next)

-- an instruction of a machine, where as many moves were left as it may do; one that leads to the plan comes with the plan's first step
early_comes : (all locked o were : ℕ) (row : Row) (column : ℕ) (s : Ts) (v : Position) (place : RunPlace) → machine_left v + 500 ≤ were → ComesTo o s v place → ((start : Ts) (what : Declared) → step_at_place o row column place ≡ Some (Step.Declare start what) → ⊥)
    → IsSooner all were locked place
early_comes all locked o were row column s v place few (goes w gone) declares_not =
    let same : slots w.judged.program.insns ≡ slots v.judged.program.insns = ap (λ (j : JudgedOf). slots j.program.insns) gone.went.given.judged in
    let taken = gone.went.taken in
    let most = gone.most in
    record { fewer = omega (arith, few, same, taken, most); early = λ p. p }
early_comes all locked o were row column s v place few (waits w q asked) declares_not =
    let same : slots w.judged.program.insns ≡ slots v.judged.program.insns = ap (λ (j : JudgedOf). slots j.program.insns) asked.given.judged in
    let taken = asked.taken in
    let small = look_small locked Look.Reading in
    record { fewer = omega (arith, few, same, taken, small); early = λ p. p }
early_comes all locked o were row column s v place few (declares r what exits) declares_not = absurd (declares_not s what refl)

early_computes : (o : ℕ) (judged : JudgedOf) (row : Row) (column locked : ℕ) (place next : RunPlace) → GoesOnFrom o judged (Cell.Data row column) place next → ((start : Ts) (what : Declared) → step_at_place o row column next ≡ Some (Step.Declare start what) → ⊥)
    → IsSooner (slots judged.program.insns) (early_at (slots judged.program.insns) locked place) locked next
early_computes o judged row column locked (RunPlace.Starting s seen) next starts declares_not =
    early_comes (slots judged.program.insns) locked o _ row column s (first_position judged (record_by (tells_old judged) (Cell.Data row column) seen.version seen.acknowledged.0 seen.old) s.0) next (omega arith) starts.comes declares_not
early_computes o judged row column locked (RunPlace.Computing s v) next comes declares_not = early_comes (slots judged.program.insns) locked o _ row column s v next (omega arith) comes declares_not
early_computes o judged row column locked RunPlace.Beginning next comes declares_not = absurd comes
early_computes o judged row column locked (RunPlace.Observing s look) next comes declares_not = absurd comes
early_computes o judged row column locked (RunPlace.Acknowledging s v look) next comes declares_not = absurd comes
early_computes o judged row column locked (RunPlace.Recalling s seen look) next comes declares_not = absurd comes
early_computes o judged row column locked (RunPlace.Asking s v q look) next comes declares_not = absurd comes
early_computes o judged row column locked (RunPlace.Planning r p) next comes declares_not = absurd comes
early_computes o judged row column locked (RunPlace.Sweeping end) next comes declares_not = absurd comes
early_computes o judged row column locked (RunPlace.Over end) next comes declares_not = absurd comes

-- it goes on before its plan, and fewer moves are left
pub record GoesEarly (j k : RunOf) : Type 0 where
  pub fewer : early_left k < early_left j
  pub early : IsPlanning k.place → ⊥

early_here : (j k l : RunOf) → k ≡ l → IsSooner (slots j.watch.judged.program.insns) (early_left j) l.locked l.place → l.watch ≡ j.watch → GoesEarly j k
early_here j k l is sooner same = subst (GoesEarly j) (sym is) (record {
  fewer = subst (λ (w : Watch). early_at (slots w.judged.program.insns) l.locked l.place < early_left j) (sym same) sooner.fewer;
  early = sooner.early;
})

pub early_goes : (j k : RunOf) → MovesOnce j k → (IsPlanning j.place → ⊥) → ((start : Ts) (what : Declared) → next_of k ≡ Some (Step.Declare start what) → ⊥) → GoesEarly j k
early_goes j k goes_on early declares_not = by goes_on.0 goes_on.1 where
  by : (said : List Received) → IsMove run_job j k said → GoesEarly j k
  by said (took r next can hears) =
      let told = subst (λ (z : RunPlace). IsToldAt j.locked j.place r.answer z) (ap (λ (z : RunOf). z.place) hears.0) hears.1 in
      early_here j k (answered j r.answer) hears.0
      (early_answer (slots j.watch.judged.program.insns) j.locked (tells_old j.watch.judged) j.watch.observer j.watch.row j.watch.column j.place r.step r.answer next can early told) refl
  by said (went computes) =
      let c = computes.1 in
      let not_there = λ (start : Ts) (what : Declared) (e : step_at_place j.watch.observer j.watch.row j.watch.column k.place ≡ Some (Step.Declare start what)). declares_not start what (ap next_of c.same ∙ e) in
      early_here j k (record j { place = k.place }) c.same (early_computes j.watch.observer j.watch.judged j.watch.row j.watch.column j.locked j.place k.place c.comes not_there) refl

-- ---- a run from its plan on

abbrev late_at : RunPlace → ℕ
late_at (RunPlace.Planning r p) = plan_left p + 2
late_at (RunPlace.Sweeping end) = 1
late_at place = 0

-- how many moves a run may make from its plan on
abbrev pub late_left : RunOf → ℕ
late_left j = late_at j.place

pub record GoesLate (j k : RunOf) : Type 0 where
  pub fewer : late_left k < late_left j
  pub late : HasPlanned k.place

record IsLater (were : ℕ) (place : RunPlace) : Type 0 where
  pub fewer : late_at place < were
  pub late : HasPlanned place

late_plan : (r : ℕ) (p : PlanOf) (were : ℕ) → plan_left p + 2 < were → IsLater were (after_plan r p)
late_plan r p were lt = by (plans.outcome_of p) where
  by : (o : Option Outcome) → IsLater were (by_outcome r p o)
  by None = record { fewer = lt; late = tt }
  by (Some (Outcome.Committed c)) = record { fewer = omega (arith, lt); late = tt }
  by (Some Outcome.Conflicted) = record { fewer = omega (arith, lt); late = tt }
  by (Some Outcome.Lost) = record { fewer = omega (arith, lt); late = tt }

late_answer : (second : Bool) (locked o : ℕ) (row : Row) (column : ℕ) (place : RunPlace) (step : Step) (a : Answer) → step_at_place o row column place ≡ Some step → CanAnswer step a → HasPlanned place → IsLater (late_at place) (place_after_answer second locked place a)
late_answer second locked o row column (RunPlace.Planning r p) step a next can late = late_plan r (plans.answered p a) _ (let lt = plan_goes p step a next can in omega (arith, lt))
late_answer second locked o row column (RunPlace.Sweeping end) step a next can late = record { fewer = omega arith; late = tt }
late_answer second locked o row column (RunPlace.Over end) step a next can late = absurd (none_some step next)
late_answer second locked o row column RunPlace.Beginning step a next can late = absurd late
late_answer second locked o row column (RunPlace.Observing s look) step a next can late = absurd late
late_answer second locked o row column (RunPlace.Acknowledging s v look) step a next can late = absurd late
late_answer second locked o row column (RunPlace.Recalling s seen look) step a next can late = absurd late
late_answer second locked o row column (RunPlace.Starting s seen) step a next can late = absurd late
late_answer second locked o row column (RunPlace.Computing s v) step a next can late = absurd late
late_answer second locked o row column (RunPlace.Asking s v q look) step a next can late = absurd late

late_computes_not : (place : RunPlace) → HasPlanned place → need_at place ≡ Need.Local → ⊥
late_computes_not (RunPlace.Planning r p) late e = absurd cc
late_computes_not (RunPlace.Sweeping end) late e = absurd cc
late_computes_not (RunPlace.Over end) late e = absurd cc
late_computes_not RunPlace.Beginning late e = absurd late
late_computes_not (RunPlace.Observing s look) late e = absurd late
late_computes_not (RunPlace.Acknowledging s v look) late e = absurd late
late_computes_not (RunPlace.Recalling s seen look) late e = absurd late
late_computes_not (RunPlace.Starting s seen) late e = absurd late
late_computes_not (RunPlace.Computing s v) late e = absurd late
late_computes_not (RunPlace.Asking s v q look) late e = absurd late

pub late_goes : (j k : RunOf) → MovesOnce j k → HasPlanned j.place → GoesLate j k
late_goes j k goes_on late = by goes_on.0 goes_on.1 where
  by : (said : List Received) → IsMove run_job j k said → GoesLate j k
  by said (took r next can hears) =
      let later = late_answer (tells_old j.watch.judged) j.locked j.watch.observer j.watch.row j.watch.column j.place r.step r.answer next can late in
      subst (GoesLate j) (sym hears.0) (record { fewer = later.fewer; late = later.late })
  by said (went computes) = absurd (late_computes_not j.place late computes.0)

-- what holds where a call returned no end
pub gone_on : {P : Type 0} (o : Option JobEnd) → ((end : JobEnd) → o ≢ Some end) → IfNone o P → P
gone_on None isnt p = p
gone_on (Some end) isnt p = absurd (isnt end refl)
