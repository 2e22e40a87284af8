-- How many timestamps are asked for, and how many changes are begun, in runs and changes, and in beginnings of them.
use Rattle.std.proofs.Common.{arith, ◌≡◌, ℕ, ◌+◌, ◌*◌, ◌<◌, ◌≤◌, true, false, cond, List, [], ◌∷◌, ◌++◌, Option, None, Result, Ok, Err, IfErr, refl, sym, ap, subst, ◌∙◌, zero-add}
use Rattle.std.proofs.lemmas.List.Sums.{sum_by-append, sum_by-cons}
use Rattle.pb_conversations.proofs.Joining.{of_parts}
use Rattle.pb_passes.proofs.Drains.{HoldsOfRuns}
use Rattle.pb_keeper.specs.Words.{Writes, Cell, Ts, Meant, last_timestamp, StateOf, StepCase, Step, Work, Answer, Declared, ObserverOf, JournalLeads, Received, told, entries_by, IsWhole, committed, conflicted_first, conflicted_later, lost, prewrites, secondaries, AreCleared, Outcome, BeginsChange, its_begin, BeginsRun, IsRunConversation, absent, clean, ran, conflicted, blocked, Watch, JobEnd, IsOfParts}
use Rattle.pb_notify.specs.Forms.{lost as lost_run}
use Rattle.pb_keeper.specs.BrokenOff.{asks_timestamp, timestamp_count, starts_change, change_count, IsOfRuns, IsOfChange}
use Rattle.pb_keeper.specs.Drains.{begun_count, HasRuns, IsDrainWithin, within, cut_off}
use Rattle.pb_keeper.specs.Leads.{SaidLeads, IsEndedChange}
use Rattle.pb_keeper.specs.Made.{IsMade}
use Rattle.pb_keeper.specs.Stats.{starts_run}
use Rattle.pb_keeper.specs.Stops.{IsStop, WantsMemory}
use Rattle.pb_keeper.specs.declared.change.Stopped.{Stopped}
use Rattle.pb_keeper.specs.declared.passes.TheConstants.{MAX_RUNS}
use Rattle.pb_keeper.specs.declared.stats.ObserverStats.{ObserverStats}
use Rattle.pb_keeper.proofs.BegunRuns.{run_is_one, runs_append}
use Rattle.pb_keeper.proofs.BoundedDrains.{of_drain_within}
use Rattle.pb_keeper.proofs.EachStep.{AreWithin, each_cleared, is_step_within, whole_within}
use Rattle.pb_keeper.proofs.Following.{IsOfOneRun, run_is_of_one}
use Rattle.pb_keeper.proofs.Leading.{leads_on}
use Rattle.pb_keeper.proofs.PassAlong.{Led}
use Rattle.pb_keeper.proofs.Wholes.{is_plain, IsPlain, ArePlain, IsPlainFrom, from_more, read_plain, rounds_from, looked_from, begin_from, acknowledged_from, asked_from, base_from}

-- ---- timestamps

abbrev asks_by : Received → ℕ
asks_by r = cond (asks_timestamp r.step) 1 0

asked_append : (a b : List Received) → timestamp_count (a ++ b) ≡ timestamp_count a + timestamp_count b
asked_append a b = sum_by-append asks_by a b

asked_after : (r : Received) (a : List Received) → timestamp_count (r ∷ a) ≡ asks_by r + timestamp_count a
asked_after r a = sum_by-cons asks_by r a

not_asked : (r : Received) (a : List Received) → asks_timestamp r.step ≡ false → timestamp_count (r ∷ a) ≡ timestamp_count a
not_asked r a e = asked_after r a ∙ (ap (λ b. cond b 1 0 + timestamp_count a) e ∙ zero-add (timestamp_count a))

clock_step : (old new : StateOf) (step : Step) (answer : Answer) → StepCase old 0 step answer new → new.clock ≤ old.clock + cond (asks_timestamp step) 1 0
clock_step old new step answer c = grind arith

-- the clock goes on by as many at most
pub clock_most : (said : List Received) (old new : StateOf) → JournalLeads old (entries_by 0 said) new → new.clock ≤ old.clock + timestamp_count said
clock_most [] old new r = let same : new.clock ≡ old.clock = ap (λ (z : StateOf). z.clock) r in omega (arith, same)
clock_most (x ∷ said) old new r =
    let one = clock_step old r.0 x.step x.answer r.1.taken in
    let rest = clock_most said r.0 new r.2 in
    let all = asked_after x said in
    omega (arith, one, rest, all)

plain_asks_not : (step : Step) → is_plain step ≡ true → asks_timestamp step ≡ false
plain_asks_not step p = grind arith

plain_none : (said : List Received) → ArePlain said → timestamp_count said ≡ 0
plain_none [] p = refl
plain_none (r ∷ said) p = not_asked r said (plain_asks_not r.step p.0) ∙ plain_none said p.1

-- its begin asks for one
from_one : (s : Ts) (said : List Received) → IsPlainFrom s said → timestamp_count said ≡ 1
from_one s said f =
    let e : timestamp_count said ≡ timestamp_count (told (Step.Begin f.work) (Answer.At s) ∷ f.rest) = ap timestamp_count f.said_is in
    let all = asked_after (told (Step.Begin f.work) (Answer.At s)) f.rest in
    let none = plain_none f.rest f.plain in
    omega (arith, e, all, none)

cleared_none : (xs : List Cell) (rs : List Received) → AreCleared xs rs → timestamp_count rs ≡ 0
cleared_none xs rs c = plain_none rs (each_cleared IsPlain (λ x r e. ap is_plain e) xs rs c)

module _ (s : Ts) where
  prewrites_none : (xs : List Cell) (rest : List Received) → timestamp_count (prewrites s xs ++ rest) ≡ timestamp_count rest
  prewrites_none [] rest = refl
  prewrites_none (x ∷ xs) rest = not_asked (told (Step.Prewrite s x) Answer.Done) (prewrites s xs ++ rest) refl ∙ prewrites_none xs rest

  secondaries_none : (xs : List Cell) → timestamp_count (secondaries s xs) ≡ 0
  secondaries_none [] = refl
  secondaries_none (x ∷ xs) = not_asked (told (Step.CommitSecondary s x) Answer.Done) (secondaries s xs) refl ∙ secondaries_none xs

  begun_none : (what : Declared) (xs : List Cell) (rest : List Received) → timestamp_count (told (Step.Declare s what) Answer.Done ∷ prewrites s xs ++ rest) ≡ timestamp_count rest
  begun_none what xs rest = not_asked (told (Step.Declare s what) Answer.Done) (prewrites s xs ++ rest) refl ∙ prewrites_none xs rest

-- its commit asks for one more
whole_few : (s : Ts) (what : Declared) (cells : List Cell) (said : List Received) (o : Outcome) → IsWhole s what cells said o → timestamp_count said ≤ 1
whole_few s what cells said o (committed x others c) =
    let rest = told (Step.CommitPrimary s) Answer.Committed ∷ secondaries s others in
    let all = begun_none s what (x ∷ others) (told (Step.Stamp s) (Answer.At c) ∷ rest) in
    let one = asked_after (told (Step.Stamp s) (Answer.At c)) rest in
    let none = not_asked (told (Step.CommitPrimary s) Answer.Committed) (secondaries s others) refl ∙ secondaries_none s others in
    omega (arith, all, one, none)
whole_few s what cells said o (conflicted_first x after) = omega arith
whole_few s what cells said o (conflicted_later x y before after z cs can are) =
    let all = begun_none s what (x ∷ before) (told (Step.Prewrite s y) Answer.Conflict ∷ told (Step.Settle x) z ∷ cs) in
    let none = not_asked (told (Step.Prewrite s y) Answer.Conflict) (told (Step.Settle x) z ∷ cs) refl ∙ (not_asked (told (Step.Settle x) z) cs refl ∙ cleared_none before cs are) in
    omega (arith, all, none)
whole_few s what cells said o (lost x others c cs are) =
    let rest = told (Step.CommitPrimary s) Answer.Lost ∷ cs in
    let all = begun_none s what (x ∷ others) (told (Step.Stamp s) (Answer.At c) ∷ rest) in
    let one = asked_after (told (Step.Stamp s) (Answer.At c)) rest in
    let none = not_asked (told (Step.CommitPrimary s) Answer.Lost) cs refl ∙ cleared_none others cs are in
    omega (arith, all, one, none)

planned_few : (s : Ts) (what : Declared) (cells : List Cell) (before plan : List Received) (o : Outcome) → IsPlainFrom s before → IsWhole s what cells plan o → timestamp_count (before ++ plan) ≤ 2
planned_few s what cells before plan o f w =
    let all = asked_append before plan in
    let one = from_one s before f in
    let more = whole_few s what cells plan o w in
    omega (arith, all, one, more)

few_from : (s : Ts) (said : List Received) → IsPlainFrom s said → timestamp_count said ≤ 2
few_from s said f = let one = from_one s said f in omega (arith, one)

run_few : (o : Watch) (said : List Received) (end : JobEnd) (run : Option Meant) → IsRunConversation o said end run → timestamp_count said ≤ 2
run_few o said end run (absent s k before w look none few can) = few_from s _ (from_more s before _ (looked_from s _ None 0 (its_begin o s) k before look (begin_from s o)) (refl, tt))
run_few o said end run (clean s seen k before w i late few can) = few_from s _ (from_more s before _ (acknowledged_from s o seen k before i) (refl, tt))
run_few o said end run (ran s seen talk k before plan f c w i few on whole can) =
    let all = asked_append (before ++ plan) (told (Step.Sweep (Cell.Data o.row o.column)) w ∷ []) in
    let two = planned_few s (Declared.Run o.observer f) _ before plan (Outcome.Committed c) (asked_from s o seen talk k before i) whole in
    let none : timestamp_count (told (Step.Sweep (Cell.Data o.row o.column)) w ∷ []) ≡ 0 = not_asked (told (Step.Sweep (Cell.Data o.row o.column)) w) [] refl in
    omega (arith, all, two, none)
run_few o said end run (conflicted s seen talk k before plan f i few on whole) = planned_few s (Declared.Run o.observer f) _ before plan Outcome.Conflicted (asked_from s o seen talk k before i) whole
run_few o said end run (lost_run s seen talk k before plan f i few on whole) = planned_few s (Declared.Run o.observer f) _ before plan Outcome.Lost (asked_from s o seen talk k before i) whole
run_few o said end run (blocked s x at j base k before t primary from rounds last) = few_from s _ (from_more s before _ (rounds_from s x at j base k before rounds (base_from s o x at j base from)) (read_plain s x at, tt))

-- ---- changes

abbrev begins_by : Received → ℕ
begins_by r = cond (starts_change r.step) 1 0

changes_append : (a b : List Received) → change_count (a ++ b) ≡ change_count a + change_count b
changes_append a b = sum_by-append begins_by a b

changes_after : (r : Received) (a : List Received) → change_count (r ∷ a) ≡ begins_by r + change_count a
changes_after r a = sum_by-cons begins_by r a

within_starts_none : (s : ℕ) (step : Step) → is_step_within s step ≡ true → starts_change step ≡ false
within_starts_none s step w = grind arith

none_within : (s : ℕ) (said : List Received) → AreWithin s said → change_count said ≡ 0
none_within s [] w = refl
none_within s (r ∷ said) w = changes_after r said ∙ (ap (λ b. cond b 1 0 + change_count said) (within_starts_none s r.step w.0) ∙ (zero-add (change_count said) ∙ none_within s said w.1))

run_starts_none : (work : Work) → starts_run (Step.Begin work) ≡ true → starts_change (Step.Begin work) ≡ false
run_starts_none work e = grind arith

run_no_change : (said : List Received) → IsOfOneRun said → change_count said ≡ 0
run_no_change said o =
    let first = told (Step.Begin o.0.work) (Answer.At o.0.s) in
    ap change_count o.0.said_is ∙ (changes_after first o.0.rest ∙ (λ i. cond (run_starts_none o.0.work o.1 i) 1 0 + none_within o.0.s.0 o.0.rest o.0.within i))

-- ---- of runs

nothing_of_runs : (n : ℕ) → IsOfRuns n []
nothing_of_runs n = record { timestamps = omega arith; no_change = refl }

pub more_runs : (m n : ℕ) (said : List Received) → m ≤ n → IsOfRuns m said → IsOfRuns n said
more_runs m n said few o = let t = o.timestamps in record { timestamps = omega (arith, few, t); no_change = o.no_change }

pub both_of_runs : (m n : ℕ) (a b : List Received) → IsOfRuns m a → IsOfRuns n b → IsOfRuns (m + n) (a ++ b)
both_of_runs m n a b p q =
    let t = asked_append a b in
    let c = changes_append a b in
    let p1 = p.timestamps in
    let q1 = q.timestamps in
    let p2 = p.no_change in
    let q2 = q.no_change in
    record { timestamps = omega (arith, t, p1, q1); no_change = omega (arith, c, p2, q2) }

pub mark_of_none : (after : Option Cell) (answer : Answer) → IsOfRuns 0 (told (Step.NextMark after) answer ∷ [])
mark_of_none after answer = record { timestamps = omega arith; no_change = refl }

whole_of_runs : (o : Watch) (said : List Received) (end : JobEnd) (run : Option Meant) → IsRunConversation o said end run → IsOfRuns 1 said
whole_of_runs o said end run talk = let few = run_few o said end run talk in record { timestamps = omega (arith, few); no_change = run_no_change said (run_is_of_one o said end run talk) }

-- also the beginning of one
pub begun_of_runs : (o : Watch) (said : List Received) → BeginsRun o said → IsOfRuns 1 said
begun_of_runs o said b =
    let whole = whole_of_runs o (said ++ b.0) b.1.0 b.1.1 b.1.2 in
    let t = asked_append said b.0 in
    let c = changes_append said b.0 in
    let w1 = whole.timestamps in
    let w2 = whole.no_change in
    record { timestamps = omega (arith, t, w1); no_change = omega (arith, c, w2) }

abbrev pub AreItsRuns : List Received → Type 0
AreItsRuns said = IsOfRuns (begun_count said) said

module _ (observers : List ObserverOf) where
  pub parts_of_runs : HoldsOfRuns observers AreItsRuns
  parts_of_runs = record {
    adds = record { nothing = nothing_of_runs 0; both = λ a b p q. subst (λ n. IsOfRuns n (a ++ b)) (sym (runs_append a b)) (both_of_runs (begun_count a) (begun_count b) a b p q) };
    mark = λ after answer. mark_of_none after answer;
    run = λ i x said is. subst (λ n. IsOfRuns n said) (sym (run_is_one observers i x said is)) (whole_of_runs _ said is.end is.whole.run is.whole.talk);
  }

  pub drain_of_runs : (bound : ℕ) (said : List Received) → IsDrainWithin observers bound said → IsOfRuns bound said
  drain_of_runs bound said d = more_runs (begun_count said) bound said (few d) (of_drain_within observers parts_of_runs bound said d)
    where
      few : IsDrainWithin observers bound said → begun_count said ≤ bound
      few (within drain is) = is
      few (cut_off due is) = omega (arith, is)

  -- parts that were whole, and then one that was broken off
  pub broken_on : {S : Type 0} {Part : S → S → List Received → Type 0} {p q : S} {s t : List ObserverStats} {i m : ℕ} {a b c : StateOf} (j n : ℕ) → ((x y : S) (said : List Received) → Part x y said → AreItsRuns said)
      → Led observers s t (HasRuns (IsOfParts Part p q) i) m a b → SaidLeads (IsOfRuns j) b c → i + j ≤ n → SaidLeads (IsOfRuns n) a c
  broken_on {p = p} {q = q} {i = i} j n each g h few =
      leads_on g h (λ said more x y.
      let whole = subst (λ k. IsOfRuns k said) x.form.form.1 (of_parts parts_of_runs.adds each p q said x.form.form.0) in
      more_runs (i + j) n (said ++ more) few (both_of_runs i j said more whole y))

  pub parts_alone : {S : Type 0} {Part : S → S → List Received → Type 0} {p q : S} {s t : List ObserverStats} {i m : ℕ} {a b : StateOf} (n : ℕ) → ((x y : S) (said : List Received) → Part x y said → AreItsRuns said)
      → Led observers s t (HasRuns (IsOfParts Part p q) i) m a b → i ≤ n → SaidLeads (IsOfRuns n) a b
  parts_alone {p = p} {q = q} {i = i} n each g few = record {
    said = g.said;
    form = more_runs i n g.said few (subst (λ k. IsOfRuns k g.said) g.form.form.form.1 (of_parts parts_of_runs.adds each p q g.said g.form.form.form.0));
    leads = g.leads;
  }

-- ---- of a change

change_few : (batch : Writes) (o : Outcome) (said : List Received) → IsEndedChange batch o said → (timestamp_count said ≤ 2) × (change_count said ≡ 1)
change_few batch o said is =
    let start = is.0 in
    let first = told (Step.Begin Work.Script) (Answer.At start) in
    let t = ap timestamp_count is.1.said_is ∙ asked_after first is.1.rest in
    let few = whole_few start _ _ is.1.rest o is.1.whole in
    let c = ap change_count is.1.said_is ∙ changes_after first is.1.rest in
    let none = none_within start.0 is.1.rest (whole_within start _ _ is.1.rest o is.1.whole) in
    (omega (arith, t, few), omega (arith, c, none))

-- the change itself was broken off
pub begun_of_change : (n : ℕ) (batch : Writes) (said : List Received) → BeginsChange batch said → IsOfChange n said
begun_of_change n batch said b =
    let whole = change_few batch b.1.1 (said ++ b.0) (b.1.0, b.1.2) in
    let t = asked_append said b.0 in
    let c = changes_append said b.0 in
    let w1 = whole.0 in
    let w2 = whole.1 in
    record { timestamps = omega (arith, t, w1); one_change = omega (arith, c, w2) }

-- or what came after
pub drain_of_change : (n bound : ℕ) (batch : Writes) (o : Outcome) (said more : List Received) → bound ≤ n → IsEndedChange batch o said → IsOfRuns bound more → IsOfChange n (said ++ more)
drain_of_change n bound batch o said more few is d =
    let whole = change_few batch o said is in
    let t = asked_append said more in
    let c = changes_append said more in
    let w1 = whole.0 in
    let w2 = whole.1 in
    let d1 = d.timestamps in
    let d2 = d.no_change in
    record { timestamps = omega (arith, t, w1, d1, few); one_change = omega (arith, c, w2, d2) }

pub ended_of_change : (n : ℕ) (batch : Writes) (o : Outcome) (said : List Received) → IsEndedChange batch o said → IsOfChange n said
ended_of_change n batch o said is =
    let whole = change_few batch o said is in
    let w1 = whole.0 in
    let w2 = whole.1 in
    record { timestamps = omega (arith, w1); one_change = omega (arith, w2) }

-- a whole one
pub made_of_change : (observers : List ObserverOf) (n bound : ℕ) (batch : Writes) (commit : Ts) (said : List Received) → bound ≤ n → IsMade observers bound batch commit said → IsOfChange n said
made_of_change observers n bound batch commit said few is =
    subst (IsOfChange n) (sym is.said_is) (drain_of_change n bound batch (Outcome.Committed commit) is.change is.drain few is.changed (drain_of_runs observers bound is.drain is.drained))

-- the clock goes on by no more than all of these timestamps
pub clock_of : (old new : StateOf) → SaidLeads (IsOfChange MAX_RUNS) old new → new.clock ≤ old.clock + (2 + 2 * MAX_RUNS)
clock_of old new g =
    let most = clock_most g.said old new g.leads in
    let few = g.form.timestamps in
    omega (arith, most, few)

-- so with enough of them it is left for memory alone
pub in_time : {T : Type 0} (old new : StateOf) (r : Result T Stopped) → old.clock + (2 + 2 * MAX_RUNS) < last_timestamp → new.clock ≤ old.clock + (2 + 2 * MAX_RUNS) → IfErr r (λ e. IsStop e new) → IfErr r WantsMemory
in_time old new (Ok x) room most stops = tt
in_time old new (Err (Stopped.NoMemory e)) room most stops = tt
in_time old new (Err (Stopped.Refused why)) room most stops = let last = stops.1 in absurd (omega (arith, room, most, last))
in_time old new (Err Stopped.Conflict) room most stops = stops

-- nothing was begun
pub nothing_begun : (state : StateOf) → SaidLeads (IsOfChange MAX_RUNS) state state
nothing_begun state = record { said = []; form = record { timestamps = omega arith; one_change = omega arith }; leads = refl }
