-- What a job has asked at each place, and that it is a beginning of a whole conversation.
use Rattle.std.proofs.Common.{◌≡◌, ℕ, ◌<◌, ◌≤◌, Bool, true, false, cond, List, [], ◌∷◌, ◌++◌, Option, Some, None, refl, sym, ap, subst, ◌∙◌, arith, append_assoc, append-nil, nat_lt, not, ◌&&◌, ◌==◌}
use Rattle.pb_notify.specs.Words.{Cell, Ts, Revision, Talk, tells_old, record_by, Ask, ask_of, Position, Meant, IsMeant, Seen, Work, Declared, Step, Answer, CanAnswer, old_at, version_in, acknowledged_in, value_in, Received, Outcome, declared_cells, PlanOf, outcome_of, told, IsWhole, PlansConverse, PlansEnd, no_part, one_part, took, went}
use Rattle.pb_txn.specs.Plans as plans
use Rattle.pb_txn.specs.Conversations as conversations
use Rattle.pb_notify.specs.declared.look.TheConstants.{MAX_LOCKED}
use Rattle.pb_notify.specs.declared.look.Look.{Look}
use Rattle.pb_notify.specs.declared.look.Looked.{Looked}
use Rattle.pb_notify.specs.declared.need.JobEnd.{JobEnd}
use Rattle.pb_notify.specs.declared.need.Need.{Need}
use Rattle.pb_notify.specs.declared.place.RunPlace.{RunPlace}
use Rattle.pb_notify.specs.Looks.{look_after, locked_after}
use Rattle.pb_notify.specs.Places.{place_after, locked_at, after_begin, if_found, after_cell, if_recalled, seen_so_far, after_acknowledgment, after_recall, after_ask, by_outcome, ComesTo, goes, waits, declares, GoesOnFrom, AtPlace, step_at}
use Rattle.pb_notify.specs.Runs.{Watch, RunOf, fresh, answered, need_at}
use Rattle.pb_notify.specs.Conversations.{Reaches}
use Rattle.pb_notify.specs.Forms.{AreRounds, one_more, at_first, its_begin, IsObserved, IsAcknowledged, IsRecalled, AreAsked, dirty, asked as asked_more, IsRunOn, LooksFrom, at_cell, at_acknowledgment, at_old, at_ask, IsRunConversation, absent, clean, ran, conflicted, lost, blocked, WasMeant, JobsConverse, JobsEnd}
use Rattle.pb_notify.specs.Led.{IsBeforeSweep}
use Rattle.pb_notify.proofs.Kept.{at_after, at_computed}
use Rattle.pb_notify.proofs.LookConversation.{IsIn, InLook, LooksAs, AfterLook, IsBlocked, look_more}
use Rattle.pb_notify.proofs.LookConversation as looks
use Rattle.pb_base.proofs.Logic.{same_some as same_step, none_some}

-- where a look returns what the cell holds, the count is as before
tells_few : (n : ℕ) (look : Look) (b a : Answer) → n < MAX_LOCKED → look_after n look b ≡ Looked.Tells a → locked_after n look b < MAX_LOCKED
tells_few n look b a few e = grind arith

rounds_go_on : (s : Ts) (x : Cell) (at : Option Ts) (m : ℕ) (base : List Received) (n : ℕ) (said : List Received) → AreRounds s x at m base n said → (rest : List Received) × (said ≡ base ++ rest)
rounds_go_on s x at m base n said at_first = ([], sym (append-nil base))
rounds_go_on s x at m base n said (one_more k before round r is) =
    let from = rounds_go_on s x at m base k before r in
    (from.0 ++ round, ap (λ l. l ++ round) from.1 ∙ append_assoc base from.0 round)

in_goes_on : (s : Ts) (x : Cell) (at : Option Ts) (m : ℕ) (base : List Received) (n : ℕ) (said part : List Received) → IsIn s x at m base n said part → (rest : List Received) × (said ≡ base ++ rest)
in_goes_on s x at m base n said part i = grind (arith, rounds_go_on, append_assoc, i.met, i.before, i.rounds, i.said_is)

-- a look goes on from the conversation before it
pub look_goes_on : (s : Ts) (x : Cell) (at : Option Ts) (m : ℕ) (base : List Received) (look : Look) (n : ℕ) (said : List Received) → InLook s x at m base look n said → (rest : List Received) × (said ≡ base ++ rest)
look_goes_on s x at m base Look.Reading n said i = rounds_go_on s x at m base n said i
look_goes_on s x at m base (Look.Clearing primary) n said i = in_goes_on s x at m base n said _ i.1
look_goes_on s x at m base (Look.Settling primary) n said i = in_goes_on s x at m base n said _ i.1
look_goes_on s x at m base Look.ClearingAgain n said i = in_goes_on s x at m base n said _ i.4

module _ (o : Watch) where
  abbrev cell : Cell
  cell = Cell.Data o.row o.column

  abbrev ack : Cell
  ack = Cell.Ack o.observer o.row o.column

  abbrev second : Bool
  second = tells_old o.judged

  abbrev bytes_of : Seen → List ℕ
  bytes_of seen = record_by second cell seen.version seen.acknowledged.0 seen.old

  -- what a machine was given
  pub record IsGiven (s : Ts) (seen : Seen) (v : Position) : Type 0 where
    pub program : v.judged ≡ o.judged
    pub bytes : v.bytes ≡ bytes_of seen
    pub start : v.start ≡ s.0

  -- the conversation up to the plan, and what the plan asked
  pub record IsPlanned (n r : ℕ) (p : PlanOf) (said : List Received) : Type 0 where
    pub s : Ts
    pub seen : Seen
    pub talk : Talk
    pub base : List Received
    pub asked : AreAsked o s seen talk n base
    pub run : Meant
    pub run_on : IsRunOn o s seen talk run
    pub meant : IsMeant run
    pub result : r ≡ run.result
    pub plan : List Received
    pub converses_are : conversations.Converses (plans.fresh s.0 (Declared.Run o.observer run)) plan p
    pub said_is : said ≡ base ++ plan
    pub few : n < MAX_LOCKED

  pub record IsEnded (end : JobEnd) (said : List Received) : Type 0 where
    pub run : Option Meant
    pub meant : WasMeant run
    pub whole : IsRunConversation o said end run

  -- what has been said at a place, with so many locks met
  abbrev pub SoFar : ℕ → RunPlace → List Received → Type 0
  SoFar n RunPlace.Beginning said = (n ≡ 0) × (said ≡ [])
  SoFar n (RunPlace.Observing s look) said = InLook s cell None 0 (its_begin o s) look n said
  SoFar n (RunPlace.Acknowledging s found look) said = (m : ℕ) × (base : List Received) × IsObserved o s found m base × InLook s ack None m base look n said
  SoFar n (RunPlace.Recalling s seen look) said =
      (m : ℕ) × (base : List Received) × IsAcknowledged o s seen m base × (seen.acknowledged.0 < seen.version.commit.0) × (old_at second seen.acknowledged ≡ Some seen.acknowledged)
      × InLook s cell (Some seen.acknowledged) m base look n said
  SoFar n (RunPlace.Starting s seen) said = AreAsked o s seen [] n said
  SoFar n (RunPlace.Computing s v) said = (seen : Seen) × IsGiven s seen v × AreAsked o s seen v.talk n said
  SoFar n (RunPlace.Asking s v q look) said =
      (seen : Seen) × (m : ℕ) × (base : List Received) × IsGiven s seen v × AreAsked o s seen v.talk m base × InLook s (Cell.Data q.row q.column) None m base look n said
  SoFar n (RunPlace.Planning r p) said = IsPlanned n r p said
  SoFar n (RunPlace.Sweeping end) said = IsBeforeSweep o end said
  SoFar n (RunPlace.Over end) said = IsEnded end said

  -- ---- one more answer

  at_begin : (a : Answer) → CanAnswer (Step.Begin (Work.Run o.observer o.row)) a → SoFar 0 (after_begin a) (told (Step.Begin (Work.Run o.observer o.row)) a ∷ [])
  at_begin (Answer.At s) can = at_first
  at_begin _ can = absurd can

  blocks : (s : Ts) (x : Cell) (at : Option Ts) (m : ℕ) (base : List Received) (n : ℕ) (said : List Received) → LooksFrom o s x at m base → IsBlocked s x at m base n said → IsEnded JobEnd.Blocked said
  blocks s x at m base n said from b =
      record { run = None; meant = tt; whole = subst (λ l. IsRunConversation o l JobEnd.Blocked None) (sym b.said_is) (blocked s x at m base b.met b.before b.t b.primary from b.rounds b.last) }

  found_more : (s : Ts) (n : ℕ) (said : List Received) (a : Answer) (found : Option Revision) → version_in a ≡ found → LooksAs s cell None 0 (its_begin o s) n said a → n < MAX_LOCKED
      → SoFar n (if_found s found) said
  found_more s n said a None is look few = record { run = None; meant = tt; ends = λ w can. absent s n said w look.0 (ap version_in look.1 ∙ is) few can }
  found_more s n said a (Some found) is look few = (n, said, record { look = look.0; found_is = ap version_in look.1 ∙ is }, at_first)

  observed_more : (s : Ts) (n : ℕ) (said : List Received) (looked : Looked) → AfterLook s cell None 0 (its_begin o s) looked n said → ((a : Answer) → looked ≡ Looked.Tells a → n < MAX_LOCKED)
      → SoFar n (after_cell s looked) said
  observed_more s n said (Looked.On look) i few = i
  observed_more s n said (Looked.Tells a) i few = found_more s n said a (version_in a) refl i (few a refl)
  observed_more s n said Looked.Blocks i few = blocks s cell None 0 (its_begin o s) n said at_cell i

  -- a look at the cell as of the acknowledged timestamp begins, or the machine does
  if_some : (b : Bool) (a t : Ts) → cond b (Some a) None ≡ Some t → t ≡ a
  if_some b a t e = grind arith

  recalled_more : (s : Ts) (seen : Seen) (n : ℕ) (said : List Received) (at : Option Ts) → old_at second seen.acknowledged ≡ at → seen.old ≡ None → IsAcknowledged o s seen n said
      → seen.acknowledged.0 < seen.version.commit.0 → SoFar n (if_recalled s seen at) said
  recalled_more s seen n said None is none i newer = dirty n said (subst (λ z. IsRecalled o s seen z n said) (sym is) (none, i)) newer
  recalled_more s seen n said (Some t) is none i newer =
      let same : t ≡ seen.acknowledged = if_some (second && not (seen.acknowledged.0 == 0)) seen.acknowledged t is in
      (n, said, i, newer, is ∙ ap Some same, at_first)

  dirty_more : (s : Ts) (found : Revision) (n : ℕ) (said : List Received) (t : Ts) (b : Bool) → nat_lt t.0 found.commit.0 ≡ b → IsAcknowledged o s (seen_so_far found t) n said → n < MAX_LOCKED
      → SoFar n (cond b (if_recalled s (seen_so_far found t) (old_at second t)) (RunPlace.Sweeping JobEnd.Clean)) said
  dirty_more s found n said t true e i few = grind (arith, recalled_more)
  dirty_more s found n said t false e i few =
      record { run = None; meant = tt; ends = λ w can. clean s (seen_so_far found t) n said w i (older t.0 found.commit.0 e) few can }
    where
      older : (a b : ℕ) → nat_lt a b ≡ false → b ≤ a
      older a b h = grind (arith, h)

  acknowledged_more : (s : Ts) (found : Revision) (m : ℕ) (base : List Received) (n : ℕ) (said : List Received) (looked : Looked) → IsObserved o s found m base
      → AfterLook s ack None m base looked n said → ((a : Answer) → looked ≡ Looked.Tells a → n < MAX_LOCKED) → SoFar n (after_acknowledgment second s found looked) said
  acknowledged_more s found m base n said (Looked.On look) was i few = (m, base, was, i)
  acknowledged_more s found m base n said (Looked.Tells a) was i few =
      dirty_more s found n said (acknowledged_in a) (nat_lt (acknowledged_in a).0 found.commit.0) refl
      (record { met = m; base = base; observed = was; look = i.0; acknowledged = ap acknowledged_in (sym i.1) }) (few a refl)
  acknowledged_more s found m base n said Looked.Blocks was i few = blocks s ack None m base n said (at_acknowledgment found m base was) i

  recalled_one : (s : Ts) (seen : Seen) (m : ℕ) (base : List Received) (n : ℕ) (said : List Received) (looked : Looked) → IsAcknowledged o s seen m base
      → seen.acknowledged.0 < seen.version.commit.0 → old_at second seen.acknowledged ≡ Some seen.acknowledged → AfterLook s cell (Some seen.acknowledged) m base looked n said
      → SoFar n (after_recall s seen looked) said
  recalled_one s seen m base n said (Looked.On look) i newer is l = (m, base, i, newer, is, l)
  recalled_one s seen m base n said (Looked.Tells a) i newer is l =
      dirty n said
      (subst (λ z. IsRecalled o s (record seen { old = value_in a }) z n said) (sym is)
      (m, base, record { met = i.met; base = i.base; observed = i.observed; look = i.look; acknowledged = i.acknowledged }, l.0, ap value_in (sym l.1)))
      newer
  recalled_one s seen m base n said Looked.Blocks i newer is l = blocks s cell (Some seen.acknowledged) m base n said (at_old seen seen.acknowledged m base i newer is) l

  asked_so : (s : Ts) (q : Ask) (seen : Seen) (talk : Talk) (m : ℕ) (base : List Received) (a : Answer) (n : ℕ) (said : List Received) → AreAsked o s seen talk m base
      → LooksAs s (Cell.Data q.row q.column) None m base n said a → AreAsked o s seen (talk ++ (ask_of q, value_in a) ∷ []) n said
  asked_so s q seen talk m base a n said was l = subst (λ b. AreAsked o s seen (talk ++ (ask_of q, value_in b) ∷ []) n said) l.1 (asked_more talk m base (ask_of q) n said was l.0)

  asked_one : (s : Ts) (v : Position) (q : Ask) (seen : Seen) (m : ℕ) (base : List Received) (n : ℕ) (said : List Received) (looked : Looked) → IsGiven s seen v
      → AreAsked o s seen v.talk m base → AfterLook s (Cell.Data q.row q.column) None m base looked n said → SoFar n (after_ask s v q looked) said
  asked_one s v q seen m base n said (Looked.On look) given was i = (seen, m, base, given, was, i)
  asked_one s v q seen m base n said (Looked.Tells a) given was i =
      (seen, record { program = given.program; bytes = given.bytes; start = given.start }, asked_so s q seen v.talk m base a n said was i)
  asked_one s v q seen m base n said Looked.Blocks given was i = blocks s (Cell.Data q.row q.column) None m base n said (at_ask seen v.talk m base (ask_of q) was) i

  module _ (plans_converse : PlansConverse) (plans_end : PlansEnd) where
    planned_more : (n r : ℕ) (p : PlanOf) (said : List Received) (out : Option Outcome) → outcome_of p ≡ out → IsPlanned n r p said → SoFar n (by_outcome r p out) said
    planned_more n r p said None is i = i
    planned_more n r p said (Some (Outcome.Committed c)) is i = record {
      run = Some i.run;
      meant = i.meant;
      ends = λ w can. subst (λ z. IsRunConversation o (said ++ told (Step.Sweep cell) w ∷ []) (JobEnd.Ran z) (Some i.run)) (sym i.result)
          (subst (λ l. IsRunConversation o (l ++ told (Step.Sweep cell) w ∷ []) (JobEnd.Ran i.run.result) (Some i.run)) (sym i.said_is)
          (ran i.s i.seen i.talk n i.base i.plan i.run c w i.asked i.few i.run_on (plans_end i.s.0 (Declared.Run o.observer i.run) _ _ i.plan p (Outcome.Committed c) refl i.converses_are is) can));
    }
    planned_more n r p said (Some Outcome.Conflicted) is i = record {
      run = Some i.run;
      meant = i.meant;
      whole = subst (λ l. IsRunConversation o l JobEnd.Conflicted (Some i.run)) (sym i.said_is)
          (conflicted i.s i.seen i.talk n i.base i.plan i.run i.asked i.few i.run_on (plans_end i.s.0 (Declared.Run o.observer i.run) _ _ i.plan p Outcome.Conflicted refl i.converses_are is));
    }
    planned_more n r p said (Some Outcome.Lost) is i = record {
      run = Some i.run;
      meant = i.meant;
      whole = subst (λ l. IsRunConversation o l JobEnd.Lost (Some i.run)) (sym i.said_is)
          (lost i.s i.seen i.talk n i.base i.plan i.run i.asked i.few i.run_on (plans_end i.s.0 (Declared.Run o.observer i.run) _ _ i.plan p Outcome.Lost refl i.converses_are is));
    }

    plan_step : (n r : ℕ) (p : PlanOf) (said : List Received) (t : Step) (a : Answer) → IsPlanned n r p said → plans.next_of p ≡ Some t → CanAnswer t a
        → IsPlanned n r (plans.answered p a) (said ++ told t a ∷ [])
    plan_step n r p said t a i next can = record {
      s = i.s;
      seen = i.seen;
      talk = i.talk;
      base = i.base;
      asked = i.asked;
      run = i.run;
      run_on = i.run_on;
      meant = i.meant;
      result = i.result;
      plan = i.plan ++ told t a ∷ [];
      converses_are = one_part p (plans.answered p a) i.plan (told t a ∷ []) i.converses_are (took (told t a) next can refl);
      said_is = ap (λ l. l ++ told t a ∷ []) i.said_is ∙ append_assoc i.base i.plan (told t a ∷ []);
      few = i.few;
    }

    said_more : (n : ℕ) (place : RunPlace) (said : List Received) (t : Step) (a : Answer) → AtPlace n place → SoFar n place said → step_at o.observer o.row o.column place ≡ Some t → CanAnswer t a
        → SoFar (locked_at n place a) (place_after second n place a) (said ++ told t a ∷ [])
    said_more n RunPlace.Beginning said t a at i e can = grind (arith, same_step, at_begin, o.observer, o.row)
    said_more n (RunPlace.Observing s look) said t a at i e can = grind (arith, observed_more, look_more, same_step, tells_few)
    said_more n (RunPlace.Acknowledging s found look) said t a at i e can =
        acknowledged_more s found i.0 i.1 _ _ (look_after n look a) i.2 (look_more s ack None i.0 i.1 look n said t a i.3 (same_step _ t e) can at) (λ b is. tells_few n look a b at is)
    said_more n (RunPlace.Recalling s seen look) said t a at i e can =
        recalled_one s seen i.0 i.1 _ _ (look_after n look a) i.2 i.3 i.4 (look_more s cell (Some seen.acknowledged) i.0 i.1 look n said t a i.5 (same_step _ t e) can at)
    said_more n (RunPlace.Starting s seen) said t a at i e can = absurd (none_some t e)
    said_more n (RunPlace.Computing s v) said t a at i e can = absurd (none_some t e)
    said_more n (RunPlace.Asking s v q look) said t a at i e can = grind (arith, asked_one, look_more, same_step, q.row, q.column)
    said_more n (RunPlace.Planning r p) said t a at i e can = planned_more n r (plans.answered p a) _ (outcome_of (plans.answered p a)) refl (plan_step n r p said t a i e can)
    said_more n (RunPlace.Sweeping end) said t a at i e can = grind arith
    said_more n (RunPlace.Over end) said t a at i e can = absurd (none_some t e)

    -- ---- one instruction

    comes_more : (n : ℕ) (s : Ts) (v : Position) (seen : Seen) (place : RunPlace) (said : List Received) → n < MAX_LOCKED → IsGiven s seen v → AreAsked o s seen v.talk n said
        → ComesTo o.observer s v place → SoFar n place said
    comes_more n s v seen place said few given was (goes w st) = grind arith
    comes_more n s v seen place said few given was (waits w q st) = (
      seen,
      n,
      said,
      record { program = st.given.judged ∙ given.program; bytes = st.given.bytes ∙ given.bytes; start = st.given.start ∙ given.start },
      subst (λ talk. AreAsked o s seen talk n said) (sym st.talk) was,
      at_first,
    )
    comes_more n s v seen place said few given was (declares r what st) = record {
      s = s;
      seen = seen;
      talk = v.talk;
      base = said;
      asked = was;
      run = st.left;
      run_on = record { program = st.leaves.judged ∙ given.program; bytes = st.leaves.bytes ∙ given.bytes; start = st.leaves.start ∙ given.start; talk_is = st.leaves.talk };
      meant = st.leaves.meant;
      result = st.result;
      plan = [];
      converses_are = subst (λ w. conversations.Converses (plans.fresh s.0 (Declared.Run o.observer st.left)) [] (plans.fresh s.0 w)) (sym st.declares) no_part;
      said_is = sym (append-nil said);
      few = few;
    }

    computed_more : (n : ℕ) (place next : RunPlace) (said : List Received) → AtPlace n place → SoFar n place said → GoesOnFrom o.observer o.judged cell place next → SoFar n next said
    computed_more n place next said at i c = grind (arith, comes_more)

    -- ---- what has been said can be ended

    record CanEnd (said : List Received) : Type 0 where
      pub rest : List Received
      pub end : JobEnd
      pub run : Option Meant
      pub whole : IsRunConversation o (said ++ rest) end run

    after : (said more : List Received) → CanEnd (said ++ more) → CanEnd said
    after said more c = record { rest = more ++ c.rest; end = c.end; run = c.run; whole = subst (λ l. IsRunConversation o l c.end c.run) (append_assoc said more c.rest) c.whole }

    by_plan : (n : ℕ) (s : Ts) (seen : Seen) (talk : Talk) (base plan rest : List Received) (f : Meant) (out : Outcome) → n < MAX_LOCKED → AreAsked o s seen talk n base
        → IsRunOn o s seen talk f → IsWhole s (Declared.Run o.observer f) (declared_cells (Declared.Run o.observer f)) (plan ++ rest) out → CanEnd (base ++ plan)
    by_plan n s seen talk base plan rest f (Outcome.Committed c) few was on w = record {
      rest = rest ++ told (Step.Sweep cell) Answer.Done ∷ [];
      end = JobEnd.Ran f.result;
      run = Some f;
      whole = subst (λ l. IsRunConversation o l (JobEnd.Ran f.result) (Some f))
          (ap (λ l. l ++ told (Step.Sweep cell) Answer.Done ∷ []) (sym (append_assoc base plan rest)) ∙ append_assoc (base ++ plan) rest (told (Step.Sweep cell) Answer.Done ∷ []))
          (ran s seen talk n base (plan ++ rest) f c Answer.Done was few on w tt);
    }
    by_plan n s seen talk base plan rest f Outcome.Conflicted few was on w = record {
      rest = rest;
      end = JobEnd.Conflicted;
      run = Some f;
      whole = subst (λ l. IsRunConversation o l JobEnd.Conflicted (Some f)) (sym (append_assoc base plan rest)) (conflicted s seen talk n base (plan ++ rest) f was few on w);
    }
    by_plan n s seen talk base plan rest f Outcome.Lost few was on w = record {
      rest = rest;
      end = JobEnd.Lost;
      run = Some f;
      whole = subst (λ l. IsRunConversation o l JobEnd.Lost (Some f)) (sym (append_assoc base plan rest)) (lost s seen talk n base (plan ++ rest) f was few on w);
    }

    from_plan : (n : ℕ) (s : Ts) (seen : Seen) (talk : Talk) (base plan : List Received) (f : Meant) (p : PlanOf) → n < MAX_LOCKED → AreAsked o s seen talk n base
        → IsRunOn o s seen talk f → conversations.Converses (plans.fresh s.0 (Declared.Run o.observer f)) plan p → CanEnd (base ++ plan)
    from_plan n s seen talk base plan f p few was on t =
        let w = plans_converse s.0 (Declared.Run o.observer f) _ _ plan p refl t in
        by_plan n s seen talk base plan w.0 f w.1.0 few was on w.1.1

    -- some run, whatever it means
    from_asked : (n : ℕ) (s : Ts) (seen : Seen) (talk : Talk) (said : List Received) → n < MAX_LOCKED → AreAsked o s seen talk n said → CanEnd said
    from_asked n s seen talk said few was =
        let f : Meant = record { judged = o.judged; bytes = bytes_of seen; start = s.0; talk = talk; result = 0; writes = [] } in
        after said [] (from_plan n s seen talk said [] f _ few was (record { program = refl; bytes = refl; start = refl; talk_is = refl }) no_part)

    from_recalling : (n : ℕ) (s : Ts) (seen : Seen) (look : Look) (said : List Received) → n < MAX_LOCKED → SoFar n (RunPlace.Recalling s seen look) said → CanEnd said
    from_recalling n s seen look said few i =
        let l = looks.look_can_end s cell (Some seen.acknowledged) i.0 i.1 look n said i.5 in
        after said (l.next ∷ l.rest) (from_asked n s (record seen { old = None }) [] (said ++ l.next ∷ l.rest) few (recalled_one s seen i.0 i.1 n (said ++ l.next ∷ l.rest) (Looked.Tells Answer.Absent) i.2 i.3 i.4 l.look))

    from_dirty : (n : ℕ) (s : Ts) (seen : Seen) (at : Option Ts) (said : List Received) → n < MAX_LOCKED → SoFar n (if_recalled s seen at) said → CanEnd said
    from_dirty n s seen None said few i = from_asked n s seen [] said few i
    from_dirty n s seen (Some t) said few i = from_recalling n s seen Look.Reading said few i

    from_acknowledged : (n : ℕ) (s : Ts) (seen : Seen) (said : List Received) (b : Bool) → nat_lt seen.acknowledged.0 seen.version.commit.0 ≡ b → n < MAX_LOCKED → seen.old ≡ None
        → IsAcknowledged o s seen n said → CanEnd said
    from_acknowledged n s seen said true e few none was =
        from_dirty n s seen (old_at second seen.acknowledged) said few (recalled_more s seen n said (old_at second seen.acknowledged) refl none was (newer _ _ e))
      where
        newer : (a b : ℕ) → nat_lt a b ≡ true → a < b
        newer a b h = grind (arith, h)
    from_acknowledged n s seen said false e few none was =
        record { rest = told (Step.Sweep cell) Answer.Done ∷ []; end = JobEnd.Clean; run = None; whole = clean s seen n said Answer.Done was (older _ _ e) few tt }
      where
        older : (a b : ℕ) → nat_lt a b ≡ false → b ≤ a
        older a b h = grind (arith, h)

    from_cell : (n : ℕ) (s : Ts) (said : List Received) → n < MAX_LOCKED → LooksAs s cell None 0 (its_begin o s) n said Answer.Absent → CanEnd said
    from_cell n s said few look = record { rest = told (Step.Sweep cell) Answer.Done ∷ []; end = JobEnd.Clean; run = None; whole = absent s n said Answer.Done look.0 (ap version_in look.1) few tt }

    can_end : (n : ℕ) (place : RunPlace) (said : List Received) → AtPlace n place → SoFar n place said → CanEnd said
    can_end n RunPlace.Beginning said at i =
        let s : Ts = record { 0 = 0 } in
        let l = looks.look_can_end s cell None 0 (its_begin o s) Look.Reading 0 (its_begin o s) at_first in
        subst CanEnd (sym i.1) (after [] (its_begin o s ++ l.next ∷ l.rest) (from_cell 0 s (its_begin o s ++ l.next ∷ l.rest) (omega arith) l.look))
    can_end n (RunPlace.Observing s look) said at i =
        let l = looks.look_can_end s cell None 0 (its_begin o s) look n said i in
        after said (l.next ∷ l.rest) (from_cell n s (said ++ l.next ∷ l.rest) at l.look)
    can_end n (RunPlace.Acknowledging s found look) said at i =
        let l = looks.look_can_end s ack None i.0 i.1 look n said i.3 in
        let seen : Seen = seen_so_far found (acknowledged_in Answer.Absent) in
        after said (l.next ∷ l.rest) (from_acknowledged n s seen (said ++ l.next ∷ l.rest) (nat_lt seen.acknowledged.0 found.commit.0) refl at refl (record { met = i.0; base = i.1; observed = i.2; look = l.look.0; acknowledged = ap acknowledged_in (sym l.look.1) }))
    can_end n (RunPlace.Recalling s seen look) said at i = from_recalling n s seen look said at i
    can_end n (RunPlace.Starting s seen) said at i = from_asked n s seen [] said at i
    can_end n (RunPlace.Computing s v) said at i = from_asked n s i.0 v.talk said at.0 i.2
    can_end n (RunPlace.Asking s v q look) said at i =
        let l = looks.look_can_end s (Cell.Data q.row q.column) None i.1 i.2 look n said i.5 in
        after said (l.next ∷ l.rest) (from_asked n s i.0 _ (said ++ l.next ∷ l.rest) at.0 (asked_so s q i.0 v.talk i.1 i.2 Answer.Absent n (said ++ l.next ∷ l.rest) i.4 l.look))
    can_end n (RunPlace.Planning r p) said at i = subst CanEnd (sym i.said_is) (from_plan n i.s i.seen i.talk i.base i.plan i.run p i.few i.asked i.run_on i.converses_are)
    can_end n (RunPlace.Sweeping end) said at i = record { rest = told (Step.Sweep cell) Answer.Done ∷ []; end = end; run = i.run; whole = i.ends Answer.Done tt }
    can_end n (RunPlace.Over end) said at i = record { rest = []; end = end; run = i.run; whole = subst (λ l. IsRunConversation o l end i.run) (sym (append-nil said)) i.whole }

    -- ---- all of it

    pub record Holds (said : List Received) (k : RunOf) : Type 0 where
      pub watch : k.watch ≡ o
      pub at : AtPlace k.locked k.place
      pub so : SoFar k.locked k.place said

    holds_answered : (said : List Received) (k : RunOf) (r : Received) → Holds said k → step_at k.watch.observer k.watch.row k.watch.column k.place ≡ Some r.step → CanAnswer r.step r.answer → Holds (said ++ r ∷ []) (answered k r.answer)
    holds_answered said k r h next can = record {
      watch = h.watch;
      at = at_after (tells_old k.watch.judged) k.locked k.place r.answer h.at;
      so = subst (λ (j : Watch). SoFar (locked_at k.locked k.place r.answer) (place_after (tells_old j.judged) k.locked k.place r.answer) (said ++ r ∷ [])) (sym h.watch)
          (said_more k.locked k.place said r.step r.answer h.at h.so (ap (λ (j : Watch). step_at j.observer j.row j.column k.place) (sym h.watch) ∙ next) can);
    }

    holds_computed : (said : List Received) (k : RunOf) (place : RunPlace) → Holds said k → GoesOnFrom k.watch.observer k.watch.judged (Cell.Data k.watch.row k.watch.column) k.place place → Holds said (record k { place = place })
    holds_computed said k place h comes = grind (arith, at_computed, computed_more, o.observer, o.judged, k.place, h.watch, k.locked, h.at, h.so)

    pub reached_holds : (said : List Received) (k : RunOf) → Reaches (fresh o) said k → Holds said k
    reached_holds said k no_part = record { watch = refl; at = omega arith; so = (refl, refl) }
    reached_holds said k (one_part from to before more reaches (took r next can is)) = subst (Holds (before ++ r ∷ [])) (sym is.0) (holds_answered before from r (reached_holds before from reaches) next can)
    reached_holds said k (one_part from to before more reaches (went c)) =
        subst (λ l. Holds l to) (sym (append-nil before)) (subst (Holds before) (sym c.1.same) (holds_computed before from to.place (reached_holds before from reaches) c.1.comes))

    ended : (said : List Received) (place : RunPlace) (end : JobEnd) (n : ℕ) → SoFar n place said → need_at place ≡ Need.Over end → IsEnded end said
    ended said place end n i e = grind arith

-- the conversation at any place can be ended: a look by a read without a lock, a plan as plans can
pub jobs_converse : PlansConverse → PlansEnd → JobsConverse
jobs_converse pt pe o said k reaches =
    let h = reached_holds o pt pe said k reaches in
    let c = can_end o pt pe k.locked k.place said h.at h.so in
    (c.rest, (c.end, c.run, c.whole))

-- at the end the conversation is whole
pub jobs_end : PlansConverse → PlansEnd → JobsEnd
jobs_end pt pe o said k end reaches over =
    let h = reached_holds o pt pe said k reaches in
    let e = ended o pt pe said k.place end k.locked h.so over in
    (e.run, e.whole, e.meant)
