-- Whatever events happen, a world stays sound.
use Rattle.std.proofs.Common.{◌≡◌, ◌≢◌, ℕ, ◌<◌, Bool, true, false, eqb, List, [], ◌∷◌, ◌++◌, if◌then◌else◌, length, get_or, slice_set, refl, sym, ◌∙◌, ap, subst, arith, append_assoc, append-nil, Option, Some, None, slice_get, MatchBool, MatchOption, get_or-set_same, get_or-set_other, length-set, option_map}
use Rattle.std.proofs.lemmas.Bool.{eqb-false, eqb-true}
use Rattle.std.proofs.lemmas.List.{set-get_or, set-set}
use Rattle.std.proofs.lemmas.Option.{slice_get_within, slice_get-get_or, get_or_from_slice_get}
use Rattle.pb_world.specs.Words.{Reason, reason_code, Writes, Row, Step, Answer, opening, ObserverOf, Entry, Received, JournalLeads, IsLegal, SharedOf, SeatOf, Calls, call_reason, AreSeats, IsLegalTable, JobOf, IsMove, took, went, no_part, one_part, new_change, Need, Watch, RunOf, watch_of, fresh, need_of, Reaches, run_job, Event, Job}
use Rattle.pb_txn.specs.Changes as changes
use Rattle.pb_world.specs.declared.actor.Actor.{Actor}
use Rattle.pb_world.specs.declared.job.ActorJob.{ActorJob}
use Rattle.pb_world.specs.declared.note.Note.{Note}
use Rattle.pb_world.specs.Jobs.{next_of, is_local, is_local_need, is_over, Takes, Computes, RulesAccept, IsReady}
use Rattle.pb_world.specs.Actors.{Stepped, ChangesJobAlone, AnswersJob, RefusesJob, CallSteps, Instructs, IsIdle, StepsTo, launched, crashed}
use Rattle.pb_world.specs.Events.{WorldOf, change_of, job_for, with_actor, actor_of, no_actor, no_launch, fault_of, Launches, StepsActor, CrashesActor, OwnAnswers, OwnCalls, EventDoes}
use Rattle.pb_world.specs.Sound.{IsJobOf, HasConversed, JobCame, CameSinceLaunch, IsSoundWorld, EventsKeepSound}
use Rattle.pb_world.proofs.SeatLists.{seats_after_call}
use Rattle.pb_base.proofs.Logic.{same_some as some_same, none_some as some_none}
use Rattle.pb_history.proofs.JournalParts.{one_more as leads_more}

-- ---- lists

-- what stands at a place of a list with one item changed
pub data IsAfterSet {A : Type 0} (xs : List A) (k : ℕ) (y : A) (i : ℕ) (x : A) : Type 0 where
  changed : i ≡ k → x ≡ y → IsAfterSet xs k y i x
  unchanged : i ≢ k → slice_get xs i ≡ Some x → IsAfterSet xs k y i x

pub after_set : {A : Type 0} (xs : List A) (k : ℕ) (y : A) (i : ℕ) (x : A) → slice_get (slice_set xs k y) i ≡ Some x → IsAfterSet xs k y i x
after_set xs k y i x is = by (eqb i k) refl
  where
    lt : i < length xs
    lt = rw length-set at (slice_get_within (slice_set xs k y) i x is)

    read : get_or (slice_set xs k y) i x ≡ x
    read = get_or_from_slice_get (slice_set xs k y) i x x is

    by : (d : Bool) → eqb i k ≡ d → IsAfterSet xs k y i x
    by true e =
        let here : i ≡ k = eqb-true i k e in
        let lt' : k < length xs = subst (λ n. n < length xs) here lt in
        changed here (sym (sym (get_or-set_same xs k y x lt') ∙ (ap (λ n. get_or (slice_set xs k y) n x) (sym here) ∙ read)))
    by false e =
        let apart : i ≢ k = eqb-false i k e in
        let at : get_or xs i x ≡ x = sym (get_or-set_other xs k i y x apart) ∙ read in
        unchanged apart (slice_get-get_or xs i x lt ∙ ap (λ z. Some z) at)

-- ---- the table

-- a call leads from a legal table to a legal one
call_legal : (s : SharedOf) (seat told : SeatOf) (st : Step) (a : Answer) (t : SharedOf) → IsLegalTable s → Calls s seat st a t told → IsLegalTable t
call_legal s seat told st a t l c =
    let e : Entry = record { seat = seat.number; step = st; answer = a } in
    let more : JournalLeads (opening s.state.observers s.state.seats s.opened) (s.journal ++ e ∷ []) t.state = leads_more (opening s.state.observers s.state.seats s.opened) s.journal s.state e t.state l.run c.machine in
    let l' : IsLegal s.state.observers s.state.seats s.opened t.journal t.state = record { fits = l.fits; run = subst (λ j. JournalLeads (opening s.state.observers s.state.seats s.opened) j t.state) (sym c.journal) more } in
    grind (arith, s.state.observers, s.opened, t.state, t.journal, t.state.observers, t.state.seats, c.opened, c.observers, c.seats)

-- ---- jobs

-- what an actor follows asks as a change or a run does, and goes on as a run does
abbrev pub actor_job : JobOf ActorJob
actor_job = record { next = next_of; hears = Takes; goes = λ j k. (is_local j ≡ true) × Computes j k }

-- it stays what it was launched for
pub of_move : (w : WorldOf) (job : Job) (j k : ActorJob) (more : List Received) → IsMove actor_job j k more → IsJobOf w job j → IsJobOf w job k
of_move w job j k more m its = grind arith

-- that depends on the observers and the changes alone
pub of_in : (w v : WorldOf) (job : Job) (j : ActorJob) → v.shared.state.observers ≡ w.shared.state.observers → v.batches ≡ w.batches → IsJobOf w job j → IsJobOf v job j
of_in w v (Job.Change n) (ActorJob.Change c) os bs is = subst (λ x. change_of x n ≡ Some c.batch) (sym bs) is
of_in w v (Job.Run o row) (ActorJob.Run r) os bs is =
    (is.0, is.1, record { observer = is.2.observer; there = subst (λ x. slice_get x r.watch.observer ≡ Some is.2.observer) (sym os) is.2.there; program = is.2.program; column = is.2.column })
of_in w v (Job.Change n) (ActorJob.Run r) os bs is = absurd is
of_in w v (Job.Run o row) (ActorJob.Change c) os bs is = absurd is

-- a run that did an instruction isn't over
computed_goes : (j k : ActorJob) → Computes j k → is_over k ≡ false
computed_goes j k did = grind arith

local_by : (n : Need) → is_local_need n ≡ true → n ≡ Need.Local
local_by n e = grind arith

-- the same run, further on
ran_on : (w : WorldOf) (r l : RunOf) (said more : List Received) → l.watch ≡ r.watch → JobCame w (ActorJob.Run r) said → IsMove run_job r l more → IsReady (ActorJob.Run l) × HasConversed (ActorJob.Run l) (said ++ more)
ran_on w r l said more same came m = (subst (λ (o : Watch). RulesAccept o.judged) (sym same) came.ready, subst (λ o. Reaches (fresh o) (said ++ more) l) (sym same) (one_part r l said more came.converses m))

-- a job that has moved on has come there
goes_with : (w : WorldOf) (j k : ActorJob) (said more : List Received) → JobCame w j said → IsMove actor_job j k more → IsReady k × HasConversed k (said ++ more)
goes_with w (ActorJob.Change c) k said more came (took r next can takes) =
    subst (λ x. IsReady x × HasConversed x (said ++ r ∷ [])) (sym takes) (came.ready, one_part c (changes.answered c r.answer) said (r ∷ []) came.converses (took r next can refl))
goes_with w (ActorJob.Change c) k said more came (went g) = absurd g.1
goes_with w (ActorJob.Run r) k said more came (took e next can takes) =
    subst (λ x. IsReady x × HasConversed x (said ++ e ∷ [])) (sym takes.1) (ran_on w r takes.0 said (e ∷ []) (ap (λ (x : RunOf). x.watch) takes.2) came (took e next can (takes.2, takes.3)))
goes_with w (ActorJob.Run r) k said more came (went g) =
    subst (λ x. IsReady x × HasConversed x (said ++ [])) (sym g.1.1) (ran_on w r g.1.0 said [] (ap (λ (x : RunOf). x.watch) g.1.2.same) came (went (local_by (need_of r) g.0, g.1.2)))

came_on : (w : WorldOf) (j k : ActorJob) (said more : List Received) → JobCame w j said → IsMove actor_job j k more → JobCame w k (said ++ more)
came_on w j k said more came m = let on = goes_with w j k said more came m in record { job = came.job; its = of_move w came.job j k more m came.its; ready = on.0; converses = on.1 }

-- a job stays tied while the observers and the changes stay
tied_in : (w v : WorldOf) (seat : SeatOf) (n : ℕ) (j : ActorJob) → v.shared.state.observers ≡ w.shared.state.observers → v.batches ≡ w.batches → CameSinceLaunch w seat n j → CameSinceLaunch v seat n j
tied_in w v seat n j os bs t = record {
  before = t.before;
  said = t.said;
  counted = t.counted;
  received = t.received;
  came = record { job = t.came.job; its = of_in w v t.came.job j os bs t.came.its; ready = t.came.ready; converses = t.came.converses };
}

-- and goes on with what its seat received since
tied_on : (w : WorldOf) (seat told : SeatOf) (n : ℕ) (j k : ActorJob) (more : List Received) → CameSinceLaunch w seat n j → told.received ≡ seat.received ++ more → IsMove actor_job j k more → CameSinceLaunch w told n k
tied_on w seat told n j k more t is m =
    record { before = t.before; said = t.said ++ more; counted = t.counted; received = is ∙ (ap (λ l. l ++ more) t.received ∙ append_assoc t.before t.said more); came = came_on w j k t.said more t.came m }

-- ---- launches

-- a job as it is launched: it is what was asked for, has said nothing, and isn't at its end
pub record IsMade (w : WorldOf) (job : Job) (j : ActorJob) : Type 0 where
  pub its : IsJobOf w job j
  pub converses : HasConversed j []
  pub goes_on : is_over j ≡ false

module _ (w : WorldOf) where
  change_made : (k : ℕ) (found : Option Writes) (made : ActorJob) → change_of w.batches k ≡ found → option_map (λ batch. ActorJob.Change (new_change batch)) found ≡ Some made → IsMade w (Job.Change k) made
  change_made k None made is e = absurd (some_none made e)
  change_made k (Some x) made is e =
      subst (IsMade w (Job.Change k)) (some_same (ActorJob.Change (new_change x)) made e) (record { its = is; converses = no_part; goes_on = refl })

  run_made : (o : ℕ) (row : Row) (found : Option ObserverOf) (made : ActorJob) → slice_get w.shared.state.observers o ≡ found → option_map (λ (x : ObserverOf). ActorJob.Run (fresh (watch_of o x row))) found ≡ Some made → IsMade w (Job.Run o row) made
  run_made o row None made is e = absurd (some_none made e)
  run_made o row (Some x) made is e =
      subst (IsMade w (Job.Run o row)) (some_same (ActorJob.Run (fresh (watch_of o x row))) made e)
      (record { its = (refl, refl, record { observer = x; there = is; program = refl; column = refl }); converses = no_part; goes_on = refl })

  pub made_is : (job : Job) (made : ActorJob) → job_for w job ≡ Some made → IsMade w job made
  made_is (Job.Change k) made is = change_made k (change_of w.batches k) made refl is
  made_is (Job.Run o row) made is = run_made o row (slice_get w.shared.state.observers o) made refl is

-- ---- what a step does to the table and to its seat

-- a step of an actor asks nothing of the table, or is one call by its seat
pub data Moves (s : SharedOf) (seat : SeatOf) (t : SharedOf) (told : SeatOf) : Type 0 where
  stays : t ≡ s → told ≡ seat → Moves s seat t told
  calls : (st : Step) (a : Answer) → Calls s seat st a t told → Moves s seat t told

-- the table stays legal either way
moves_legal : (s : SharedOf) (seat : SeatOf) (t : SharedOf) (told : SeatOf) → Moves s seat t told → IsLegalTable s → IsLegalTable t
moves_legal s seat t told (stays t-is told-is) l = subst (λ x. IsLegalTable x) (sym t-is) l
moves_legal s seat t told (calls st a c) l = call_legal s seat told st a t l c

pub moves_observers : (s : SharedOf) (seat : SeatOf) (t : SharedOf) (told : SeatOf) → Moves s seat t told → t.state.observers ≡ s.state.observers
moves_observers s seat t told x = grind arith

set_same : {A : Type 0} (xs : List A) (k : ℕ) (x y : A) → slice_get xs k ≡ Some x → y ≡ x → slice_set xs k y ≡ xs
set_same xs k x y is same =
    let read : get_or xs k x ≡ x = get_or_from_slice_get xs k x x is in
    ap (λ z. slice_set xs k z) (same ∙ sym read) ∙ set-get_or xs k x

-- and its seats have their entries
moves_seats : (s : SharedOf) (seats : List SeatOf) (k : ℕ) (seat : SeatOf) (t : SharedOf) (told : SeatOf) → Moves s seat t told → slice_get seats k ≡ Some seat → AreSeats s seats → AreSeats t (slice_set seats k told)
moves_seats s seats k seat t told (stays t-is told-is) is are = subst (λ xs. AreSeats t xs) (sym (set_same seats k seat told is told-is)) (subst (λ x. AreSeats x seats) (sym t-is) are)
moves_seats s seats k seat t told (calls st a c) is are = seats_after_call s seats k seat told st a t are is c

-- ---- what a step leaves of a job

-- the job that there was has moved, by what its seat received by then, and isn't at its end
pub record HasMoved (seat : SeatOf) (was : Option ActorJob) (k : ActorJob) (told : SeatOf) : Type 0 where
  pub from : ActorJob
  pub was_is : was ≡ Some from
  pub more : List Received
  pub received : told.received ≡ seat.received ++ more
  pub move : IsMove actor_job from k more
  pub goes_on : is_over k ≡ false

-- what is left, if anything, has moved
pub record IsSteppedTo (s : SharedOf) (seat : SeatOf) (was : Option ActorJob) (to : Stepped) : Type 0 where
  pub moves : Moves s seat to.table to.seat
  pub left : (k : ActorJob) → to.job ≡ Some k → HasMoved seat was k to.seat

module _ (s : SharedOf) (seat : SeatOf) (to : Stepped) where
  -- of what is gone nothing is to be shown
  left_none : (was : Option ActorJob) → ChangesJobAlone s seat to.table to.seat → to.job ≡ None → IsSteppedTo s seat was to
  left_none was same none = record { moves = stays same.table same.list; left = λ k is. absurd (some_none k (sym none ∙ is)) }

  instructed : (j : ActorJob) → is_local j ≡ true → Instructs s seat j to → IsSteppedTo s seat (Some j) to
  instructed j local d = record {
    moves = stays d.same.table d.same.list;
    left = λ k is.
        let same : d.after ≡ k = some_same d.after k (sym d.left ∙ is) in
        record { from = j; was_is = refl; more = []; received = ap (λ (x : SeatOf). x.received) d.same.list ∙ sym (append-nil seat.received); move = subst (λ x. IsMove actor_job j x []) same (went (local, d.computes)); goes_on = subst (λ x. is_over x ≡ false) same (computed_goes j d.after d.computes) };
  }

  -- what is left of a job that took an answer isn't at its end
  unless_over_left : (j k : ActorJob) (b : Bool) → is_over j ≡ b → (if b then None else Some j) ≡ Some k → (j ≡ k) × (is_over k ≡ false)
  unless_over_left j k b is e = grind arith

  answered : (j : ActorJob) (st : Step) → next_of j ≡ Some st → AnswersJob s seat j st to → IsSteppedTo s seat (Some j) to
  answered j st next d = record {
    moves = calls st d.answer d.calls;
    left = λ k is.
        let on = unless_over_left d.after k (is_over d.after) refl (sym d.left ∙ is) in
        record { from = j; was_is = refl; more = record { step = st; answer = d.answer } ∷ []; received = d.calls.received; move = subst (λ x. IsMove actor_job j x (record { step = st; answer = d.answer } ∷ [])) on.0 (took (record { step = st; answer = d.answer }) next d.can d.takes); goes_on = on.1 };
  }

  called_by : (j : ActorJob) (st : Step) (why : Option Reason) → next_of j ≡ Some st → MatchOption why (AnswersJob s seat j st to) (λ y. RefusesJob s seat y to) → IsSteppedTo s seat (Some j) to
  called_by j st None next d = answered j st next d
  called_by j st (Some y) next d = left_none (Some j) d.same d.left

  asked : (j : ActorJob) (o : Option Step) → next_of j ≡ o → MatchOption o (IsIdle s seat to) (λ st. CallSteps s seat j st to) → IsSteppedTo s seat (Some j) to
  asked j None is d = left_none (Some j) d.same d.left
  asked j (Some st) is d = called_by j st (call_reason s seat.number st) is d

  job_steps : (j : ActorJob) (b : Bool) → is_local j ≡ b → MatchBool b (Instructs s seat j to) (MatchOption (next_of j) (IsIdle s seat to) (λ st. CallSteps s seat j st to)) → IsSteppedTo s seat (Some j) to
  job_steps j true local d = instructed j local d
  job_steps j false local d = asked j (next_of j) refl d

  -- whatever a step of an actor came to
  pub actor_steps : (o : Option ActorJob) → StepsTo s seat o to → IsSteppedTo s seat o to
  actor_steps None d = left_none None d.same d.left
  actor_steps (Some j) d = job_steps j (is_local j) refl d

-- ---- events

-- one actor changed alone
with_sound : (w : WorldOf) (k : ℕ) (b : Actor) → 0 < k → IsSoundWorld w → ((seat : SeatOf) (j : ActorJob) → slice_get w.seats k ≡ Some seat → b.job ≡ Some j → CameSinceLaunch w seat b.launched j) → IsSoundWorld (with_actor w k b)
with_sound w k b some s tie = record {
  legal = s.legal;
  seats = s.seats;
  own = λ a is. none a (after_set w.actors k b 0 a is);
  tied = λ i a seat j is is' job. at i a seat j (after_set w.actors k b i a is) is' job;
}
  where
    none : (a : Actor) → IsAfterSet w.actors k b 0 a → a.job ≡ None
    none a (changed e a-is) = absurd (omega (arith, some, e))
    none a (unchanged apart is) = s.own a is

    at : (i : ℕ) (a : Actor) (seat : SeatOf) (j : ActorJob) → IsAfterSet w.actors k b i a → slice_get w.seats i ≡ Some seat → a.job ≡ Some j → CameSinceLaunch (with_actor w k b) seat a.launched j
    at i a seat j (changed e a-is) is' job =
        let here : CameSinceLaunch w seat b.launched j = tie seat j (subst (λ n. slice_get w.seats n ≡ Some seat) e is') (subst (λ (x : Actor). x.job ≡ Some j) a-is job) in
        tied_in w (with_actor w k b) seat a.launched j refl refl (subst (λ (x : Actor). CameSinceLaunch w seat x.launched j) (sym a-is) here)
    at i a seat j (unchanged apart is) is' job = tied_in w (with_actor w k b) seat a.launched j refl refl (s.tied i a seat j is is' job)

-- an actor without job isn't tied
idle_sound : (w : WorldOf) (k : ℕ) (a : Actor) → 0 < k → IsSoundWorld w → IsSoundWorld (with_actor w k (crashed a))
idle_sound w k a some s = with_sound w k (crashed a) some s (λ seat j is job. absurd (some_none j job))

crashed_sound : (w v : WorldOf) (k : ℕ) (n : Note) → 0 < k → IsSoundWorld w → CrashesActor w k n v → IsSoundWorld v
crashed_sound w v k n some s d = subst (λ x. IsSoundWorld x) (sym d.after) (idle_sound w k d.actor some s)

-- its conversation begins at the end of its seat's list
launched_sound : (w v : WorldOf) (k : ℕ) (job : Job) (n : Note) → 0 < k → IsSoundWorld w → Launches w k job n v → IsSoundWorld v
launched_sound w v k job n some s d = subst (λ x. IsSoundWorld x) (sym d.after) (with_sound w k (launched (length d.seat.received) d.made) some s at)
  where
    at : (seat : SeatOf) (j : ActorJob) → slice_get w.seats k ≡ Some seat → Some d.made ≡ Some j → CameSinceLaunch w seat (length d.seat.received) j
    at seat j is e =
        let same : d.seat ≡ seat = some_same d.seat seat (sym d.its_seat ∙ is) in
        let made = made_is w job d.made d.made_is in
        let here : CameSinceLaunch w seat (length d.seat.received) d.made = record {
          before = seat.received;
          said = [];
          counted = ap (λ (x : SeatOf). length x.received) (sym same);
          received = sym (append-nil seat.received);
          came = record { job = job; its = made.its; ready = d.ready; converses = made.converses };
        } in
        subst (λ x. CameSinceLaunch w seat (length d.seat.received) x) (some_same d.made j e) here

-- one seat changed by a call, whose actor has no job
seat_moved : (w : WorldOf) (t : SharedOf) (k : ℕ) (seat told : SeatOf) → IsSoundWorld w → slice_get w.seats k ≡ Some seat → ((a : Actor) → slice_get w.actors k ≡ Some a → a.job ≡ None) → Moves w.shared seat t told → IsSoundWorld (record w { shared = t; seats = slice_set w.seats k told })
seat_moved w t k seat told s its idle m = record {
  legal = moves_legal w.shared seat t told m s.legal;
  seats = moves_seats w.shared w.seats k seat t told m its s.seats;
  own = s.own;
  tied = λ i a p j is is' job. at i a p j is (after_set w.seats k told i p is') job;
}
  where
    at : (i : ℕ) (a : Actor) (p : SeatOf) (j : ActorJob) → slice_get w.actors i ≡ Some a → IsAfterSet w.seats k told i p → a.job ≡ Some j → CameSinceLaunch (record w { shared = t; seats = slice_set w.seats k told }) p a.launched j
    at i a p j is (changed e p-is) job = absurd (some_none j (sym (idle a (subst (λ n. slice_get w.actors n ≡ Some a) e is)) ∙ job))
    at i a p j is (unchanged apart is') job = tied_in w (record w { shared = t; seats = slice_set w.seats k told }) p a.launched j (moves_observers w.shared seat t told m) refl (s.tied i a p j is is' job)

-- a step of an actor: without its job first, then its seat, and then with what is left of the job
pub step_keeps_world : (w v : WorldOf) (k : ℕ) (n : Note) → 0 < k → IsSoundWorld w → StepsActor w k n v → IsSoundWorld v
step_keeps_world w v k n some s d = subst (λ x. IsSoundWorld x) (sym after) (with_sound mid k d.stepped some sound tie)
  where
    mid : WorldOf
    mid = record w { shared = v.shared; seats = slice_set w.seats k d.told; actors = slice_set w.actors k (crashed d.actor) }

    after : v ≡ with_actor mid k d.stepped
    after = d.after ∙ ap (λ xs. record mid { actors = xs }) (sym (set-set w.actors k (crashed d.actor) d.stepped))

    to : IsSteppedTo w.shared d.seat d.actor.job (record { note = n; table = v.shared; seat = d.told; job = d.stepped.job })
    to = actor_steps w.shared d.seat _ d.actor.job d.steps.steps

    none : (a : Actor) → IsAfterSet w.actors k (crashed d.actor) k a → a.job ≡ None
    none a x = grind arith

    sound : IsSoundWorld mid
    sound = seat_moved (with_actor w k (crashed d.actor)) v.shared k d.seat d.told (idle_sound w k d.actor some s) d.its_seat (λ a is. none a (after_set w.actors k (crashed d.actor) k a is)) to.moves

    left : (seat : SeatOf) (j : ActorJob) → IsAfterSet w.seats k d.told k seat → d.stepped.job ≡ Some j → CameSinceLaunch w seat d.stepped.launched j
    left seat j (unchanged apart is) job = absurd (apart refl)
    left seat j (changed e seat-is) job =
        let m = to.left j job in
        let tied = tied_on w d.seat d.told d.actor.launched m.from j m.more (s.tied k d.actor d.seat m.from d.its_actor d.its_seat m.was_is) m.received m.move in
        subst (λ x. CameSinceLaunch w x d.stepped.launched j) (sym seat-is) (subst (λ x. CameSinceLaunch w d.told x j) (sym d.steps.launched) tied)

    tie : (seat : SeatOf) (j : ActorJob) → slice_get (slice_set w.seats k d.told) k ≡ Some seat → d.stepped.job ≡ Some j → CameSinceLaunch mid seat d.stepped.launched j
    tie seat j is job = tied_in w mid seat d.stepped.launched j (moves_observers w.shared d.seat v.shared d.told to.moves) refl (left seat j (after_set w.seats k d.told k seat is) job)

-- the world's own step
own_sound : (w v : WorldOf) (st : Step) (n : Note) → IsSoundWorld w → OwnCalls w st n v → IsSoundWorld v
own_sound w v st n s d = by (call_reason w.shared d.seat.number st) d.calls
  where
    by : (r : Option Reason) → MatchOption r (OwnAnswers w d.seat st n v) (λ why. (n ≡ Note.Refused (reason_code why)) × (v ≡ w)) → IsSoundWorld v
    by None c = subst (λ x. IsSoundWorld x) (sym c.after) (seat_moved w v.shared 0 d.seat c.told s d.its_seat s.own (calls st c.answer c.calls))
    by (Some y) c = subst (λ x. IsSoundWorld x) (sym c.1) s

-- where an event isn't at fault its actor isn't the world's own
not_own : (w : WorldOf) (k : ℕ) (o : Option Actor) → actor_of w k ≡ o → no_actor o ≡ None → 0 < k
not_own w k o is h = grind arith

not_own_launch : (w : WorldOf) (k : ℕ) (made : Option ActorJob) (o : Option Actor) → actor_of w k ≡ o → no_launch o made ≡ None → 0 < k
not_own_launch w k made o is h = grind arith

-- so any event keeps a world sound
does_sound : (w : WorldOf) (e : Event) (n : Note) (v : WorldOf) → IsSoundWorld w → fault_of w e ≡ None → EventDoes w e n v → IsSoundWorld v
does_sound w e n v s can d = grind (arith, launched_sound, not_own_launch, step_keeps_world, not_own, crashed_sound, own_sound)

-- and any list of events
pub events_keep_sound : EventsKeepSound
events_keep_sound w [] [] v s r = subst (λ y. IsSoundWorld y) (sym r) s
events_keep_sound w (e ∷ es) (n ∷ ns) v s r = events_keep_sound r.0 es ns v (does_sound w e n r.0 s r.1.can r.1.does) r.2
events_keep_sound w [] (n ∷ ns) v s r = absurd r
events_keep_sound w (e ∷ es) [] v s r = absurd r
