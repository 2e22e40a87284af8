-- Committed transactions of a table with one seat follow one another: none began before an earlier one was committed.
use Rattle.std.proofs.Common.{arith, ◌≡◌, ℕ, ◌<◌, ◌≤◌, ◌==◌, ◌⊎◌, inl, inr, Bool, true, false, cond, suc, List, [], ◌∷◌, ◌++◌, Option, Some, None, is_some, option_map, refl, sym, ap, subst, ◌∙◌}
use Rattle.std.specs.FinMap as finite
use Rattle.std.specs.Ordering.{nat_cmp}
use Rattle.std.specs.Cmp.{unsigned_tied, nat_cmp_total}
use Rattle.std.proofs.lemmas.Bool.{eqb-true, eq-eqb}
use Rattle.pb_passes.proofs.Drains.{HoldsOfRuns}
use Rattle.pb_keeper.specs.Words.{Writes, Ts, Meant, ObserverOf, Begins, read_step, StateOf, TransactionOf, phase_in, new_transaction, StepCase, Phase, Step, Answer, Work, JournalLeads, StepsKeepSound, OpeningIsSound, IsSoundTable, IsCommittedAt, view_of, Received, names_start, committed_phase, transaction_after, told, Outcome, entries_by, its_begin, IsRunConversation, absent, clean, ran, conflicted, blocked, Watch, JobEnd, ChosenAreSound, LeftAreSound}
use Rattle.pb_notify.specs.Forms.{lost as lost_run}
use Rattle.pb_history.proofs.Agreement.{got}
use Rattle.pb_history.proofs.StepsKeepSound.{some_is}
use Rattle.pb_history.proofs.TransactionAfter.{told_after, case_tells}
use Rattle.pb_keeper.specs.Leads.{IsEndedChange}
use Rattle.pb_keeper.specs.Keeps.{IsFirstTable, IsAnew, IsChosenOf, opened, anew, changed, KeepsFrom, KeptFollowOneAnother}
use Rattle.pb_keeper.specs.Stats.{KeptTable, starts_run}
use Rattle.pb_keeper.proofs.EachStep.{is_step_within, AreWithin, IsWithin, each_as, each_on, whole_within}
use Rattle.pb_keeper.proofs.BoundedDrains.{of_drain_within}
use Rattle.pb_keeper.proofs.EachPart.{of_all}
use Rattle.pb_keeper.proofs.LedTables.{led_by}
use Rattle.pb_keeper.proofs.Resting.{first_sound, from_sound, marked_sound}
use Rattle.pb_keeper.proofs.Wholes.{is_plain, IsPlain, ArePlain, IsPlainFrom, looked_from, rounds_from, base_from, begin_from, acknowledged_from, asked_from, read_plain, Preserves, preserves_adds}

-- ---- steps

-- how far a transaction has come that is committed, or stamped, at c
abbrev is_phase_at : ℕ → Option Phase → Bool
is_phase_at c (Some (Phase.Stamped d)) = d.0 == c
is_phase_at c (Some (Phase.Committed d)) = d.0 == c
is_phase_at c _ = false

-- it begins and stamps none
abbrev stamps_none : Step → Bool
stamps_none (Step.Begin work) = false
stamps_none (Step.Stamp u) = false
stamps_none _ = true

within_any : (s : ℕ) (step : Step) → stamps_none step ≡ true → is_step_within s step ≡ true
within_any s step p = grind arith

-- ---- one step

-- the transaction is there
abbrev has_transaction : Option TransactionOf → Bool
has_transaction o = is_some (option_map (λ (t : TransactionOf). t.phase) o)

-- it has this commit
abbrev has_this_commit : ℕ → Option TransactionOf → Bool
has_this_commit c o = is_phase_at c (option_map (λ (t : TransactionOf). t.phase) o)

there_is : (c : ℕ) (o : Option TransactionOf) → has_this_commit c o ≡ true → has_transaction o ≡ true
there_is c None e = absurd cc
there_is c (Some t) e = refl

module _ (observers : List ObserverOf) (s u : ℕ) where
  -- a step within a transaction begins none
  none_begun : (step : Step) (answer : Answer) (o : Option TransactionOf) → is_step_within s step ≡ true → has_transaction (told_after observers u 0 step answer o) ≡ true → has_transaction o ≡ true
  none_begun step answer None w e = grind arith
  none_begun step answer (Some t) w e = refl

  -- and gives a commit to that alone
  after_commit : (c : ℕ) (step : Step) (answer : Answer) (t : TransactionOf) → names_start u step answer ≡ true → is_step_within s step ≡ true → has_this_commit c (transaction_after observers 0 step answer (Some t)) ≡ true
      → (has_this_commit c (Some t) ≡ true) ⊎ (u ≡ s)
  after_commit c (Step.Begin work) answer t n w e = absurd cc
  after_commit c (Step.Read a x) (Answer.Found start commit content) t n w e = inl e
  after_commit c (Step.Read a x) Answer.Absent t n w e = inl e
  after_commit c (Step.ReadAt a x at) (Answer.Found start commit content) t n w e = inl e
  after_commit c (Step.ReadAt a x at) Answer.Absent t n w e = inl e
  after_commit c (Step.Declare a what) Answer.Done t n w e = absurd cc
  after_commit c (Step.Prewrite a x) Answer.Done t n w e = inl e
  after_commit c (Step.Prewrite a x) Answer.Conflict t n w e = absurd cc
  after_commit c (Step.Stamp a) (Answer.At d) t n w e = inr (eqb-true u a.0 n ∙ eqb-true a.0 s w)
  after_commit c (Step.CommitPrimary a) Answer.Committed t n w e = inl (as_was t.phase e)
    where
      as_was : (h : Phase) → is_phase_at c (Some (committed_phase h)) ≡ true → is_phase_at c (Some h) ≡ true
      as_was h e = grind arith
  after_commit c (Step.CommitPrimary a) Answer.Lost t n w e = absurd cc
  after_commit c _ _ t n w e = inl e

  none_stamped : (c : ℕ) (step : Step) (answer : Answer) (o : Option TransactionOf) → is_step_within s step ≡ true → has_this_commit c (told_after observers u 0 step answer o) ≡ true → (has_this_commit c o ≡ true) ⊎ (u ≡ s)
  none_stamped c step answer None w e = absurd (let no : false ≡ true = none_begun step answer None w (there_is c (told_after observers u 0 step answer None) e) in cc)
  none_stamped c step answer (Some t) w e = elim (names_start u step answer) as (λ b. names_start u step answer ≡ b → has_this_commit c (cond b (transaction_after observers 0 step answer (Some t)) (Some t)) ≡ true → (has_this_commit c (Some t) ≡ true) ⊎ (u ≡ s)) [
    | true ↦ λ n k. after_commit c step answer t n w k
    | false ↦ λ n k. inl k
  ] refl e

-- what begins after a transaction that has a commit begins after that
abbrev pub Follow : StateOf → Type 0
Follow m = (s c u : ℕ) → has_this_commit c (got m s) ≡ true → has_transaction (got m u) ≡ true → s < u → c < u

-- no transaction began after this one
abbrev IsLast : ℕ → StateOf → Type 0
IsLast s m = (u : ℕ) → has_transaction (got m u) ≡ true → u ≤ s

-- a step within the last transaction
within_step : (s : ℕ) (old new : StateOf) (step : Step) (answer : Answer) → is_step_within s step ≡ true → StepCase old 0 step answer new → Follow old → IsLast s old → Follow new × IsLast s new
within_step s old new step answer w m follow last = (
  λ a c u stamped there low.
      let begun = none_begun old.observers s u step answer (got old u) w (ap has_transaction (sym (case_tells old 0 new u step answer m)) ∙ there) in
      elim (none_stamped old.observers s a c step answer (got old a) w (ap (has_this_commit c) (sym (case_tells old 0 new a step answer m)) ∙ stamped)) [
        | inl k ↦ follow a c u k begun low
        | inr is ↦ (let most = last u begun in absurd (omega (arith, most, is, low)))
      ],
  λ u there. last u (none_begun old.observers s u step answer (got old u) w (ap has_transaction (sym (case_tells old 0 new u step answer m)) ∙ there)),
)

-- a step that begins and stamps none
plain_follow : (old new : StateOf) (step : Step) (answer : Answer) → stamps_none step ≡ true → StepCase old 0 step answer new → Follow old → Follow new
plain_follow old new step answer p m follow = λ a c u stamped there low.
    let begun = none_begun old.observers (suc a) u step answer (got old u) (within_any (suc a) step p) (ap has_transaction (sym (case_tells old 0 new u step answer m)) ∙ there) in
    elim (none_stamped old.observers (suc a) a c step answer (got old a) (within_any (suc a) step p) (ap (has_this_commit c) (sym (case_tells old 0 new a step answer m)) ∙ stamped)) [
      | inl k ↦ follow a c u k begun low
      | inr is ↦ absurd (omega (arith, is))
    ]

has_stamp : (o : Option Phase) (c : ℕ) → is_phase_at c o ≡ true → (o ≡ Some (Phase.Stamped (record { 0 = c }))) ⊎ (o ≡ Some (Phase.Committed (record { 0 = c })))
has_stamp o c e = grind arith

some_transaction : (o : Option TransactionOf) → has_transaction o ≡ true → (t : TransactionOf) × (o ≡ Some t)
some_transaction None e = absurd cc
some_transaction (Some t) e = (t, refl)

-- a transaction as it begins, after all commits
begin_step : (old new : StateOf) (work : Work) (s : ℕ) → IsSoundTable old → Begins old 0 work s new → Follow old → Follow new × IsLast s new
begin_step old new work s sound b follow = (
  λ a c u stamped there low. elim (begun a) [
    | inl e ↦ absurd (let no : is_phase_at c (Some Phase.Reading) ≡ true = ap (has_this_commit c) (sym e.1) ∙ stamped in cc)
    | inr e ↦ elim (begun u) [
      | inl k ↦ (let high = commit_low a c (ap (has_this_commit c) (sym e) ∙ stamped) in let fresh = b.fresh in let is = k.0 in omega (arith, high, fresh, is))
      | inr k ↦ follow a c u (ap (has_this_commit c) (sym e) ∙ stamped) (ap has_transaction (sym k) ∙ there) low
    ]
  ],
  λ u there. elim (begun u) [
    | inl k ↦ (let is = k.0 in omega (arith, is))
    | inr k ↦ (let low = start_low u (ap has_transaction (sym k) ∙ there) in let fresh = b.fresh in omega (arith, low, fresh))
  ],
)
  where
    begun : (u : ℕ) → ((u ≡ s) × (got new u ≡ Some (new_transaction 0 work))) ⊎ (got new u ≡ got old u)
    begun u = elim (u == s) as (λ z. (u == s) ≡ z → ((u ≡ s) × (got new u ≡ Some (new_transaction 0 work))) ⊎ (got new u ≡ got old u)) [
      | true ↦ λ e. inl (eqb-true u s e, got_new u ∙ ap (λ z. cond z (Some (new_transaction 0 work)) (got old u)) e)
      | false ↦ λ e. inr (got_new u ∙ ap (λ z. cond z (Some (new_transaction 0 work)) (got old u)) e)
    ] refl
      where
        got_new : (u : ℕ) → got new u ≡ cond (u == s) (Some (new_transaction 0 work)) (got old u)
        got_new u = ap (λ (z : StateOf). got z u) b.new_is ∙ finite.get-insert nat_cmp_total old.transactions s (new_transaction 0 work) u ∙ ap (λ z. cond z (Some (new_transaction 0 work)) (got old u)) (unsigned_tied u s)

    commit_low : (a c : ℕ) → has_this_commit c (got old a) ≡ true → c ≤ old.clock
    commit_low a c e = (sound.stamped a c (has_stamp (phase_in old a) c e)).1

    start_low : (u : ℕ) → has_transaction (got old u) ≡ true → u ≤ old.clock
    start_low u e = let h = some_is (phase_in old u) e in sound.begun u h.0 h.1

-- ---- conversations

-- it is that of one transaction
pub record IsOfOne (said : List Received) : Type 0 where
  pub s : Ts
  pub work : Work
  pub rest : List Received
  pub said_is : said ≡ told (Step.Begin work) (Answer.At s) ∷ rest
  pub within : AreWithin s.0 rest

one_more : (said more : List Received) (o : IsOfOne said) → AreWithin o.s.0 more → IsOfOne (said ++ more)
one_more said more o w = record { s = o.s; work = o.work; rest = o.rest ++ more; said_is = ap (λ l. l ++ more) o.said_is; within = each_on (IsWithin o.s.0) o.rest more o.within w }

plain_is : (s : ℕ) (step : Step) → is_plain step ≡ true → is_step_within s step ≡ true
plain_is s step p = grind arith

plain_within : (s : ℕ) (said : List Received) → ArePlain said → AreWithin s said
plain_within s said p = each_as IsPlain (IsWithin s) (λ r is. plain_is s r.step is) said p

-- it is that of a run
abbrev pub IsOfOneRun : List Received → Type 0
IsOfOneRun said = (one : IsOfOne said) × (starts_run (Step.Begin one.work) ≡ true)

more_of_run : (said more : List Received) (o : IsOfOneRun said) → AreWithin o.0.s.0 more → IsOfOneRun (said ++ more)
unfolding one_more
more_of_run said more o w = (one_more said more o.0 w, o.1)

module _ (s : Ts) where
  planned : (before plan : List Received) → IsPlainFrom s before → AreWithin s.0 plan → IsOfOneRun (before ++ plan)
  unfolding one_more
  planned before plan f w = (one_more before plan (record { s = s; work = f.work; rest = f.rest; said_is = f.said_is; within = plain_within s.0 f.rest f.plain }) w, f.is_run)

pub run_is_of_one : (o : Watch) (said : List Received) (end : JobEnd) (run : Option Meant) → IsRunConversation o said end run → IsOfOneRun said
run_is_of_one o said end run (absent s k before w look none few can) = planned s before _ (looked_from s _ None 0 (its_begin o s) k before look (begin_from s o)) (refl, tt)
run_is_of_one o said end run (clean s seen k before w i late few can) = planned s before _ (acknowledged_from s o seen k before i) (refl, tt)
run_is_of_one o said end run (ran s seen talk k before plan f c w i few on whole can) =
    more_of_run (before ++ plan) _ (planned s before plan (asked_from s o seen talk k before i) (whole_within s _ _ plan (Outcome.Committed c) whole)) (refl, tt)
run_is_of_one o said end run (conflicted s seen talk k before plan f i few on whole) = planned s before plan (asked_from s o seen talk k before i) (whole_within s _ _ plan Outcome.Conflicted whole)
run_is_of_one o said end run (lost_run s seen talk k before plan f i few on whole) = planned s before plan (asked_from s o seen talk k before i) (whole_within s _ _ plan Outcome.Lost whole)
run_is_of_one o said end run (blocked s x at j base k before t primary from rounds last) =
    planned s before _ (rounds_from s x at j base k before rounds (base_from s o x at j base from)) (plain_within s.0 (told (read_step s x at) (Answer.Locked t primary) ∷ []) (read_plain s x at, tt))

change_is_of_one : (batch : Writes) (o : Outcome) (said : List Received) → IsEndedChange batch o said → IsOfOne said
change_is_of_one batch o said is = record { s = is.0; work = Work.Script; rest = is.1.rest; said_is = is.1.said_is; within = whole_within is.0 _ _ is.1.rest o is.1.whole }

-- after which transactions follow one another where they did before
abbrev KeepsFollowing : List Received → Type 0
KeepsFollowing said = Preserves Follow said

within_walk : (s : ℕ) (said : List Received) (m n : StateOf) → AreWithin s said → Follow m → IsLast s m → JournalLeads m (entries_by 0 said) n → Follow n
within_walk s [] m n w follow last r = subst Follow (sym r) follow
within_walk s (x ∷ said) m n w follow last r =
    let one = within_step s m r.0 x.step x.answer w.0 r.1.taken follow last in
    within_walk s said r.0 n w.1 one.0 one.1 r.2

one_keeps : (said : List Received) → IsOfOne said → KeepsFollowing said
one_keeps said o m n sound follow g =
    let r = subst (λ l. JournalLeads m (entries_by 0 l) n) o.said_is g in
    let begun = begin_step m r.0 o.work o.s.0 sound r.1.taken follow in
    within_walk o.s.0 o.rest r.0 n o.within begun.0 begun.1 r.2

module _ (keeps : StepsKeepSound) (observers : List ObserverOf) where
  parts_follow : HoldsOfRuns observers KeepsFollowing
  parts_follow = record {
    adds = preserves_adds keeps Follow;
    mark = λ after a m n sound follow r. subst Follow (sym r.2) (plain_follow m r.0 (Step.NextMark after) a refl r.1.taken follow);
    run = λ i x said is. one_keeps said (run_is_of_one _ said is.end is.whole.run is.whole.talk).0;
  }

-- ---- generations

-- each transaction is committed, as it was before
abbrev ComeFrom : StateOf → StateOf → Type 0
ComeFrom old new = (s : ℕ) (t : TransactionOf) → got new s ≡ Some t → (c : Ts) × (t.phase ≡ Phase.Committed c) × IsCommittedAt (view_of old) s c.0

-- so what is left of the transactions follows one another too
left_follow : (old new : StateOf) → ComeFrom old new → Follow old → Follow new
left_follow old new from follow s c u stamped there low = follow s c u (stays s c stamped) (stays_there u there) low
  where
    stays : (s c : ℕ) → has_this_commit c (got new s) ≡ true → has_this_commit c (got old s) ≡ true
    stays s c e =
        let t = some_transaction (got new s) (there_is c (got new s) e) in
        let k = from s t.0 t.1 in
        ap (is_phase_at c) (k.2 ∙ ap Some (sym k.1)) ∙ ap (has_this_commit c) (sym t.1) ∙ e

    stays_there : (s : ℕ) → has_transaction (got new s) ≡ true → has_transaction (got old s) ≡ true
    stays_there s e = let t = some_transaction (got new s) e in ap is_some (from s t.0 t.1).2

module _ (keeps : StepsKeepSound) (opens : OpeningIsSound) (left : LeftAreSound) (chosen : ChosenAreSound) where
  from_follow : (limit : ℕ) (past changes : List Writes) (first table : KeptTable) → IsFirstTable past first → Follow first.state → KeepsFrom limit first changes table → Follow table.state
  from_follow limit past changes first table began follow k =
      let leads = led_by limit first changes table k in
      of_all first.state.observers (parts_follow keeps first.state.observers) (λ batch o said is. one_keeps said (change_is_of_one batch o said is)) changes leads.said leads.form.form first.state table.state (first_sound keeps opens left chosen past first began) follow leads.leads

  first_follow : (past : List Writes) (first : KeptTable) → IsFirstTable past first → Follow first.state
  first_follow past first (opened observers) = λ s c u stamped there low. absurd (let no : false ≡ true = ap has_transaction (sym (finite.get-empty nat_cmp u)) ∙ there in cc)
  first_follow past first (anew limit before changes start old new began k room is stats) =
      let sound = from_sound keeps opens left chosen limit before changes start old began k in
      let was = from_follow limit before changes start old began (first_follow before start began) k in
      left_follow old.state first.state (at_snapshot old.state first.state sound is) was
    where
      at_snapshot : (old new : StateOf) → IsSoundTable old → IsAnew old new → ComeFrom old new
      at_snapshot old new sound is s t e =
          let l = is.left.each s t e in
          (l.commit, l.phase, sound.record_committed l.some.0 l.commit.0 s (is.snapshot.within.records l.some.0 l.commit.0 s l.some.1))
  first_follow past first (changed limit before changes start old between new places front more began k room is up) =
      let sound = from_sound keeps opens left chosen limit before changes start old began k in
      let was = from_follow limit before changes start old began (first_follow before start began) k in
      of_drain_within up.marked.state.observers (parts_follow keeps up.marked.state.observers) up.bound up.drained.said up.drained.form.form up.marked.state first.state
      (marked_sound keeps opens left chosen limit before changes start old between new places front more began k is up)
      (subst Follow (sym up.observed.is) (left_follow old.state between.state (at_choice old between sound is) was)) up.drained.leads
    where
      at_choice : (old new : KeptTable) → IsSoundTable old.state → IsChosenOf places front old new → ComeFrom old.state new.state
      at_choice old new sound is s t e =
          let l = is.left.each s t e in
          let v = is.snapshot.only l.some.0 l.commit.0 s l.some.1 in
          (l.commit, l.phase, sound.record_committed v.0 l.commit.0 s v.2)

  pub kept_follow : KeptFollowOneAnother
  kept_follow limit first changes table k s c u d earlier later low =
      from_follow limit k.past changes first table k.began (first_follow k.past first k.began) k.leads s c u (at_commit (phase_in table.state s) c earlier) (ap is_some later) low
    where
      at_commit : (o : Option Phase) (c : ℕ) → o ≡ Some (Phase.Committed (record { 0 = c })) → is_phase_at c o ≡ true
      at_commit o c e = ap (is_phase_at c) e ∙ eq-eqb c c refl
