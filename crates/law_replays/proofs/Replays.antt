-- Runs, changes with their drains, and a drain by which added observers catch up, have one outcome on one table.
use Rattle.std.specs.FinMap as map
use Rattle.std.proofs.Common.{arith, ◌≡◌, ◌≢◌, ℕ, ◌<◌, ◌≤◌, inl, inr, true, is_some, List, [], ◌∷◌, ◌++◌, length, Option, Some, None, refl, sym, ap, subst, ◌∙◌, slice_get}
use Rattle.std.proofs.lemmas.List.{same_from_push, length_push}
use Rattle.std.proofs.lemmas.Option.{slice_get_within}
use Rattle.pb_base.specs.Cell.{cell_cmp_total, cell_cmp-IsAntisymmetric}
use Rattle.pb_base.proofs.Logic.{none_some, one_value, some_none}
use Rattle.pb_steps.specs.Marks.{is_marked}
use Rattle.pb_conversations.specs.Conversations.{AsksNoMore}
use Rattle.pb_conversations.specs.Laws.{IsDetermined}
use Rattle.pb_conversations.proofs.Deciding.{wholes_once}
use Rattle.pb_conversations.proofs.Joining.{end_there}
use Rattle.pb_conversations.proofs.OneOutcome.{EndsOn, last_part, part_first, end_goes_on, AreOne, with_result, HaveOneOutcome, joined_once, ends_once}
use Rattle.pb_txn.specs.Places.{declared_cells}
use Rattle.pb_notify.specs.Conversations.{run_job}
use Rattle.pb_passes.specs.Passes.{job_on}
use Rattle.law_replays.specs.Words.{Writes, Cell, row_of, Ts, ObserverOf, Step, Answer, Work, Declared, StateOf, TableStep, HasMoreObservers, IsSoundTable, OpeningIsSound, StepsKeepSound, Received, told, took, went, no_part, one_part, IsWhole, committed, prewrites, secondaries, Outcome, Reaches, RunOf, Watch, fresh, need_of, next_of, watch_of, JobEnd, Need, IsRun, IsOfOther, IsTurnOf, AreRuns, AreAllRuns, IsMarkRun, IsMarkless, IsPass, IsNextPass, IsNextTurn, EndsDrain, HasColumn, IsDrain, MAX_PASSES, ChosenAreSound, LeftAreSound, MAX_RECORD_BYTES, EachHasOneMeaning, StepsHaveOneOutcome, MachinesAreLed, RunPlace}
use Rattle.pb_keeper.specs.Drains.{within, cut_off, AreRunsDue, IsDrainDue, IsDrainWithin, IsMarkDue, IsPassDue, IsRunDue}
use Rattle.pb_keeper.specs.Keeps.{IsKeptAfter, KeepsFrom, none_made, one_made}
use Rattle.pb_keeper.specs.Leads.{IsEndedChange}
use Rattle.pb_keeper.specs.Made.{IsMade, runs_within}
use Rattle.pb_keeper.specs.Stats.{KeptTable}
use Rattle.pb_keeper.proofs.Leading.{leads_observers}
use Rattle.pb_keeper.proofs.LedTables.{led_by}
use Rattle.pb_keeper.proofs.Resting.{first_sound, marked_sound}
use Rattle.pb_keeper.proofs.BegunRuns.{run_is_one}
use Rattle.pb_keeper.proofs.Wholes.{leads_parts, stays_sound}
use Rattle.law_worlds.proofs.Jobs.{run_computes_once}
use Rattle.law_replays.proofs.CutOffs.{same, compared_after, dues_compare, fewer_than, longer_after, same_by_count, wholes_go_on, AreCompared, AreComparedOn, GoesOnAfter, IsLonger, SeatLeads}
use Rattle.law_replays.specs.Replays.{AreJudged, CatchingUpHasOneOutcome, ReplayHasOneOutcome}

-- such parts of it have one outcome, with a result
abbrev HaveOneResult : {A : Type 0} → A → A → (List Received → Type 0) → (List Received → Type 0) → Type 0
HaveOneResult f g P Q = HaveOneOutcome IsSoundTable SeatLeads f g P Q

-- or without one
abbrev HappenOnce : (List Received → Type 0) → (List Received → Type 0) → Type 0
HappenOnce P Q = HaveOneResult (tt {0}) tt P Q

module _ (once : StepsHaveOneOutcome) (keeps : StepsKeepSound) where
  -- the same words lead to one table
  words_once : (m a b : StateOf) (said : List Received) → IsSoundTable m → SeatLeads m said a → SeatLeads m said b → a ≡ b
  words_once m a b [] sound p q = p ∙ sym q
  words_once m a b (x ∷ said) sound p q =
      let one = once m 0 x.step x.answer p.0 x.answer q.0 sound p.1 q.1 in
      words_once p.0 a b said (keeps m 0 x.step x.answer p.0 sound p.1) p.2 (subst (λ (s : StateOf). SeatLeads s said b) (sym one.state) q.2)

  same_words : {A : Type 0} (f g : A) (said more : List Received) (m a b : StateOf) → said ≡ more → f ≡ g → IsSoundTable m → SeatLeads m said a → SeatLeads m more b → AreOne said more f g a b
  same_words f g said more m a b is result sound p q = record { said_is = is; result_is = result; table_is = words_once m a b said sound p (subst (λ (l : List Received). SeatLeads m l b) (sym is) q) }

  -- and the same step has one answer
  answered_once : (r s : Received) (m a b : StateOf) → r.step ≡ s.step → IsSoundTable m → SeatLeads m (r ∷ []) a → SeatLeads m (s ∷ []) b → AreOne (r ∷ []) (s ∷ []) r.answer s.answer a b
  answered_once r s m a b is sound p q =
      let one = once m 0 r.step r.answer p.0 s.answer q.0 sound p.1 (subst (λ (z : Step). TableStep m 0 z s.answer q.0) (sym is) q.1) in
      record { said_is = λ i. record { step = is i; answer = one.answer i } ∷ []; result_is = one.answer; table_is = p.2 ∙ one.state ∙ sym q.2 }

  -- ---- a run

  asks_none : (j : RunOf) → need_of j ≢ Need.Call → next_of j ≡ None
  asks_none j calls = by j.place calls where
    by : (place : RunPlace) → need_of (record j { place = place }) ≢ Need.Call → next_of (record j { place = place }) ≡ None
    by place calls = grind arith

  module _ (meaning : EachHasOneMeaning) (led : MachinesAreLed) (o : Watch) (judged : o.judged.record_size ≤ MAX_RECORD_BYTES) where
    -- where a run has come to, the watch is its own
    watch_stays : (j : RunOf) (said : List Received) → Reaches (fresh o) said j → j.watch ≡ o
    watch_stays j said no_part = refl
    watch_stays j said (one_part k l before more is (took r next can hears)) = ap (λ (z : RunOf). z.watch) hears.0 ∙ watch_stays k before is
    watch_stays j said (one_part k l before more is (went computes)) = ap (λ (z : RunOf). z.watch) computes.1.same ∙ watch_stays k before is

    determined : (j : RunOf) (had : List Received) → Reaches (fresh o) had j → IsDetermined run_job j
    determined j had is =
        let own = sym (watch_stays j had is) in
        let fits = subst (λ (w : Watch). w.judged.record_size ≤ MAX_RECORD_BYTES) own judged in
        let from = subst (λ (w : Watch). Reaches (fresh w) had j) own is in
        record {
          hears_one = λ a k l x y. x.0 ∙ sym y.0;
          goes_one = λ k l x y. run_computes_once meaning led j had fits from k l x.1 y.1;
          asks_or_goes = λ step k next goes. none_some step (sym (asks_none j (λ call. let both = sym goes.0 ∙ call in cc)) ∙ next);
        }

    ended : (k : RunOf) (end : JobEnd) → need_of k ≡ Need.Over end → AsksNoMore run_job k []
    ended k end over = (refl, asks_none k (λ call. let both = sym over ∙ call in cc), λ t goes. let both = sym over ∙ goes.0 in cc)

    -- a run to its end
    run_once : (k l : RunOf) (end finish : JobEnd) → need_of k ≡ Need.Over end → need_of l ≡ Need.Over finish → HappenOnce (λ s. Reaches (fresh o) s k) (λ s. Reaches (fresh o) s l)
    run_once k l end finish over also said more m a b x y sound p q =
        with_result tt tt refl (wholes_once IsSoundTable SeatLeads leads_parts (stays_sound keeps) (λ m n p. p) answered_once run_job (fresh o) determined said more m a b
        (end_there (fresh o) k said x (ended k end over)) (end_there (fresh o) l more y (ended l finish also)) sound p q)

  -- ---- a change

  whole_once : (s c d : Ts) (what : Declared) (cells : List Cell) → HaveOneResult c d (λ l. IsWhole s what cells l (Outcome.Committed c)) (λ l. IsWhole s what cells l (Outcome.Committed d))
  whole_once s c d what cells said more m a b (committed x others v) (committed y rest w) sound =
      let first = told (Step.Declare s what) Answer.Done ∷ prewrites s (x ∷ others) in
      let last = told (Step.CommitPrimary s) Answer.Committed ∷ secondaries s others in
      let stamped = λ (t : Ts). told (Step.Stamp s) (Answer.At t) in
      joined_once IsSoundTable SeatLeads leads_parts (stays_sound keeps) s s c d said more first (stamped c ∷ last) first (stamped d ∷ last) m a b refl refl (λ i j. same_words s s first first m i j refl refl sound)
      (λ i _ after. joined_once IsSoundTable SeatLeads leads_parts (stays_sound keeps) (Answer.At c) (Answer.At d) c d (stamped c ∷ last) (stamped d ∷ last) (stamped c ∷ []) last (stamped d ∷ []) last i a b refl refl
      (λ j k. answered_once (stamped c) (stamped d) i j k refl after) (λ j same. same_words c d last last j a b refl cc) after) sound

  change_once : (batch : Writes) (c d : Ts) → HaveOneResult c d (IsEndedChange batch (Outcome.Committed c)) (IsEndedChange batch (Outcome.Committed d))
  change_once batch c d said more m a b f g sound =
      let what = Declared.Script batch in
      let begun = λ (s : Ts). told (Step.Begin Work.Script) (Answer.At s) in
      joined_once IsSoundTable SeatLeads leads_parts (stays_sound keeps) (Answer.At f.0) (Answer.At g.0) c d said more (begun f.0 ∷ []) f.1.rest (begun g.0 ∷ []) g.1.rest m a b f.1.said_is g.1.said_is
      (λ i j. answered_once (begun f.0) (begun g.0) m i j refl sound)
      (λ i same.
      let start : g.0 ≡ f.0 = cc in
      whole_once f.0 c d what (declared_cells what) f.1.rest g.1.rest i a b f.1.whole (subst (λ (s : Ts). IsWhole s what (declared_cells what) g.1.rest (Outcome.Committed d)) start g.1.whole)) sound

  module _ (meaning : EachHasOneMeaning) (led : MachinesAreLed) (observers : List ObserverOf) (judged : AreJudged observers) where
    -- ---- runs

    run_is_once : (n : ℕ) (x : Cell) → HappenOnce (IsRun observers n x) (IsRun observers n x)
    run_is_once n x said more m a b f g =
        let same : g.o ≡ f.o = one_value (slice_get observers n) g.o f.o g.observer.there f.observer.there in
        run_once meaning led (watch_of n f.o (row_of x)) (judged n f.o f.observer.there) f.whole.job g.whole.job f.end g.end f.whole.over g.whole.over said more m a b f.whole.reaches (subst (λ (o : ObserverOf). Reaches (job_on n o x) more g.whole.job) same g.whole.reaches)

    ran_or_other : (n : ℕ) (x : Cell) (said : List Received) → IsRun observers n x said → IsOfOther observers n x → ⊥
    ran_or_other n x said f g = g.column (ap (λ (o : ObserverOf). o.column) (one_value (slice_get observers n) g.o f.o g.there f.observer.there) ∙ f.observer.column)

    turn_once : (n : ℕ) (x : Cell) → HappenOnce (IsTurnOf observers n x) (IsTurnOf observers n x)
    turn_once n x said more m a b (inl f) (inl g) = run_is_once n x said more m a b f g
    turn_once n x said more m a b (inl f) (inr g) = absurd (ran_or_other n x said f g.0)
    turn_once n x said more m a b (inr f) (inl g) = absurd (ran_or_other n x more g f.0)
    turn_once n x said more m a b (inr f) (inr g) = same_words tt tt said more m a b (f.1 ∙ sym g.1) refl

    runs_once : (x : Cell) (i j : ℕ) → i ≡ j → HappenOnce (AreRuns observers x i) (AreRuns observers x j)
    runs_once x i j e said more m a b no_part no_part = same_words tt tt said more m a b refl refl
    runs_once x i j e said more m a b no_part (one_part k n s t r turn) = absurd (omega (arith, e, turn.0))
    runs_once x i j e said more m a b (one_part k n s t r turn) no_part = absurd (omega (arith, e, turn.0))
    runs_once x i j e said more m a b (one_part k n s t r turn) (one_part l h u v r2 turn2) = λ sound.
        let same : k ≡ l = omega (arith, e, turn.0, turn2.0) in
        joined_once IsSoundTable SeatLeads leads_parts (stays_sound keeps) tt tt tt tt said more s t u v m a b refl refl (λ c d. runs_once x k l same s u m c d r r2 sound)
        (λ c _. turn_once k x t v c a b turn.1 (subst (λ n. IsTurnOf observers n x v) (sym same) turn2.1)) sound

    -- ---- passes

    mark_once : (at now then : Option Cell) → HaveOneResult now then (IsMarkRun observers at now) (IsMarkRun observers at then)
    mark_once at now then said more m a b f g sound =
        let marked = λ (x : Cell). told (Step.NextMark at) (Answer.Marked x) in
        joined_once IsSoundTable SeatLeads leads_parts (stays_sound keeps) (Answer.Marked f.x) (Answer.Marked g.x) now then said more (marked f.x ∷ []) f.more (marked g.x ∷ []) g.more m a b f.said_is g.said_is
        (λ c d. answered_once (marked f.x) (marked g.x) m c d refl sound)
        (λ c same after p q.
        let cell : g.x ≡ f.x = cc in
        with_result now then (f.found ∙ ap (λ x. Some x) (sym cell) ∙ sym g.found) (runs_once f.x (length observers) (length observers) refl f.more g.more c a b f.runs (subst (λ x. AreAllRuns observers x g.more) cell g.runs) after p q)) sound

    not_markless : (at now : Option Cell) (said : List Received) (m a b : StateOf) → IsMarkRun observers at now said → IsSoundTable m → SeatLeads m said a → SeatLeads m (told (Step.NextMark at) Answer.NoMark ∷ []) b → ⊥
    not_markless at now said m a b f sound p q =
        let marked = subst (λ l. SeatLeads m l a) f.said_is p in
        let both = (once m 0 (Step.NextMark at) (Answer.Marked f.x) marked.0 Answer.NoMark q.0 sound marked.1 q.1).answer in
        cc

    pass_once : (i j : Option Cell) → HaveOneResult i j (IsPass observers i) (IsPass observers j)
    pass_once i j said more m a b f g =
        ends_once IsSoundTable SeatLeads leads_parts (stays_sound keeps) (IsMarkRun observers) IsMarkless None (λ at k l s t n c d e h. same_words k l s t n c d (e.1 ∙ sym h.1) (sym e.0 ∙ h.0))
        (λ at now then had from. mark_once at now then) (λ at now k l s after t n c d e on h sound p q. not_markless at now s n c d e sound p (subst (λ z. SeatLeads n z d) h.1 q))
        i j None [] no_part said more m a b (end_goes_on None said f) (end_goes_on None more g)

    -- ---- drains

    at_most : (n : ℕ) (said : List Received) → EndsOn (IsNextPass observers) (EndsDrain observers) n said → n ≤ MAX_PASSES
    at_most n said (last_part k l (inl e)) = omega (arith, e.0)
    at_most n said (last_part k l (inr e)) = omega (arith, e.0)
    at_most n said (part_first k i s t e on) = let more = at_most i t on in omega (arith, more, e.0)

    ends_drain_once : (n : ℕ) → HappenOnce (EndsDrain observers n) (EndsDrain observers n)
    ends_drain_once n said more m a b (inl e) (inl h) = λ sound p q. with_result tt tt refl (pass_once None None said more m a b e.1 h.1 sound p q)
    ends_drain_once n said more m a b (inl e) (inr h) = absurd (omega (arith, e.0, h.0))
    ends_drain_once n said more m a b (inr e) (inl h) = absurd (omega (arith, e.0, h.0))
    ends_drain_once n said more m a b (inr e) (inr h) = same_words tt tt said more m a b (e.1 ∙ sym h.1) refl

    -- where a pass finds a mark no drain ends: either it finds none, or no more may be made
    not_drained : (n i : ℕ) (said after last : List Received) (m a b : StateOf) → IsNextPass observers n i said → EndsOn (IsNextPass observers) (EndsDrain observers) i after → EndsDrain observers n last
        → IsSoundTable m → SeatLeads m said a → SeatLeads m last b → ⊥
    not_drained n i said after last m a b e on (inl h) sound p q = some_none e.1.0 (pass_once (Some e.1.0) None said last m a b e.1.1 h.1 sound p q).result_is
    not_drained n i said after last m a b e on (inr h) sound p q = let most = at_most i after on in omega (arith, most, e.0, h.0)

    drain_once : HappenOnce (IsDrain observers) (IsDrain observers)
    drain_once said more m a b f g =
        ends_once IsSoundTable SeatLeads leads_parts (stays_sound keeps) (IsNextPass observers) (λ (_ : Unit {0}). EndsDrain observers) 0 (λ n k l. ends_drain_once n)
        (λ n i j had from s t l c d e h sound p q. with_result i j (e.0 ∙ sym h.0) (pass_once (Some e.1.0) (Some h.1.0) s t l c d e.1.1 h.1.1 sound p q)) (λ n i k l. not_drained n i)
        tt tt 0 [] no_part said more m a b (end_goes_on 0 said f) (end_goes_on 0 more g)

    -- ---- drains that are cut off

    -- after one mark, of one table
    after_mark : (at : Option Cell) (x y : Cell) (s t : List Received) (m a b : StateOf) → IsSoundTable m → SeatLeads m (told (Step.NextMark at) (Answer.Marked x) ∷ s) a → SeatLeads m (told (Step.NextMark at) (Answer.Marked y) ∷ t) b
        → (c : StateOf) × (y ≡ x) × IsSoundTable c × SeatLeads c s a × SeatLeads c t b
    after_mark at x y s t m a b sound p q =
        let one = once m 0 (Step.NextMark at) (Answer.Marked x) p.0 (Answer.Marked y) q.0 sound p.1 q.1 in
        let answer = one.answer in
        (p.0, cc, keeps m 0 (Step.NextMark at) (Answer.Marked x) p.0 sound p.1, p.2, subst (λ (z : StateOf). SeatLeads z t b) (sym one.state) q.2)

    within_list : (i : ℕ) (x : Cell) → HasColumn observers i x → i < length observers
    within_list i x has = slice_get_within observers i has.0 has.1.there

    turn_within : (i : ℕ) (x : Cell) (said : List Received) → IsTurnOf observers i x said → i < length observers
    turn_within i x said (inl run) = slice_get_within observers i run.o run.observer.there
    turn_within i x said (inr other) = slice_get_within observers i other.0.o other.0.there

    module _ (x : Cell) where
      next_turn_once : (i j k : ℕ) → HaveOneResult j k (IsNextTurn observers x i j) (IsNextTurn observers x i k)
      next_turn_once i j k said more m a b f g sound p q = with_result j k (f.0 ∙ sym g.0) (turn_once i x said more m a b f.1 g.1 sound p q)

      -- the run that is due is made
      turn_goes_on : (i j : ℕ) → GoesOnAfter (IsNextTurn observers x i j) (IsRunDue observers x i)
      turn_goes_on i j said more m a b f due sound p q = by f.1 where
        by : IsTurnOf observers i x said → IsLonger said more
        by (inl run) = let one = run_is_one observers i x said run in record { rest = said; said_is = ap (λ l. l ++ said) (sym due.1); some = omega (arith, one) }
        by (inr other) = absurd (other.0.column (ap (λ (o : ObserverOf). o.column) (one_value (slice_get observers i) other.0.o due.0.0 other.0.there due.0.1.there) ∙ due.0.1.column))

      runs_compare : AreComparedOn (AreRunsDue observers x) (AreRunsDue observers x)
      runs_compare = dues_compare keeps (IsNextTurn observers x) (IsRunDue observers x) next_turn_once turn_goes_on (λ i said more m a b d e sound p q. same (d.1 ∙ sym e.1)) 0

      runs_go_on : GoesOnAfter (AreAllRuns observers x) (AreRunsDue observers x)
      runs_go_on said more m a b runs due =
          wholes_go_on keeps (IsNextTurn observers x) (IsRunDue observers x) next_turn_once turn_goes_on (λ i part. (i ≡ length observers) × (part ≡ []))
          (λ i s t n c d e h sound p q. let few = within_list i x h.0 in let all = e.0 in absurd (omega (arith, few, all))) (λ i j s after t n c d e on h sound p q. let few = turn_within i x s e.1 in let all = h.0 in omega (arith, few, all))
          0 said more m a b (end_there 0 (length observers) said runs (refl, refl)) due

    -- the same of what comes after a mark
    mark_goes_on : (at now : Option Cell) → GoesOnAfter (IsMarkRun observers at now) (IsMarkDue observers at)
    mark_goes_on at now said more m a b f g sound p q =
        let h = after_mark at f.x g.x f.more g.more m a b sound (subst (λ l. SeatLeads m l a) f.said_is p) (subst (λ l. SeatLeads m l b) g.said_is q) in
        let l = runs_go_on f.x f.more g.more h.0 a b f.runs (subst (λ x. AreRunsDue observers x g.more) h.1 g.runs) h.2 h.3 h.4 in
        subst (λ z. IsLonger z more) (sym f.said_is) (subst (λ z. IsLonger (told (Step.NextMark at) (Answer.Marked f.x) ∷ f.more) z) (sym (g.said_is ∙ ap (λ x. told (Step.NextMark at) (Answer.Marked x) ∷ g.more) h.1))
        (longer_after (told (Step.NextMark at) (Answer.Marked f.x) ∷ []) f.more g.more l))

    mark_dues_compare : (at : Option Cell) → AreComparedOn (IsMarkDue observers at) (IsMarkDue observers at)
    mark_dues_compare at said more m a b f g sound p q =
        let h = after_mark at f.x g.x f.more g.more m a b sound (subst (λ l. SeatLeads m l a) f.said_is p) (subst (λ l. SeatLeads m l b) g.said_is q) in
        let l = runs_compare f.x f.more g.more h.0 a b f.runs (subst (λ x. AreRunsDue observers x g.more) h.1 g.runs) h.2 h.3 h.4 in
        subst (λ z. AreCompared z more) (sym f.said_is) (subst (λ z. AreCompared (told (Step.NextMark at) (Answer.Marked f.x) ∷ f.more) z) (sym (g.said_is ∙ ap (λ x. told (Step.NextMark at) (Answer.Marked x) ∷ g.more) h.1))
        (compared_after (told (Step.NextMark at) (Answer.Marked f.x) ∷ []) f.more g.more l))

    -- no mark, or one on whose cell a run is due
    markless_or_due : (last at : Option Cell) → GoesOnAfter (IsMarkless last at) (IsMarkDue observers at)
    markless_or_due last at said more m a b e g sound p q =
        let none = subst (λ l. SeatLeads m l a) e.1 p in
        let some = subst (λ l. SeatLeads m l b) g.said_is q in
        let both = (once m 0 (Step.NextMark at) Answer.NoMark none.0 (Answer.Marked g.x) some.0 sound none.1 some.1).answer in
        absurd cc

    pass_dues_compare : AreComparedOn (IsPassDue observers) (IsPassDue observers)
    pass_dues_compare = dues_compare keeps (IsMarkRun observers) (IsMarkDue observers) mark_once mark_goes_on mark_dues_compare None

    pass_goes_on : (last : Option Cell) → GoesOnAfter (IsPass observers last) (IsPassDue observers)
    pass_goes_on last =
        wholes_go_on keeps (IsMarkRun observers) (IsMarkDue observers) mark_once mark_goes_on (IsMarkless last) (markless_or_due last)
        (λ at now s after t n c d e on h sound p q. not_markless at now s n c d e sound p (subst (λ z. SeatLeads n z d) h.1 q)) None

    -- a pass of a drain, or one in which a run is due
    abbrev IsDueIn : ℕ → List Received → Type 0
    IsDueIn count part = (count < MAX_PASSES) × IsPassDue observers part

    next_pass_once : (n i j : ℕ) → HaveOneResult i j (IsNextPass observers n i) (IsNextPass observers n j)
    next_pass_once n i j s t m a b e h sound p q = with_result i j (e.0 ∙ sym h.0) (pass_once (Some e.1.0) (Some h.1.0) s t m a b e.1.1 h.1.1 sound p q)

    next_pass_goes_on : (n i : ℕ) → GoesOnAfter (IsNextPass observers n i) (IsDueIn n)
    next_pass_goes_on n i said more m a b e d = pass_goes_on (Some e.1.0) said more m a b e.1.1 d.1

    drain_dues_compare : AreComparedOn (IsDrainDue observers) (IsDrainDue observers)
    drain_dues_compare = dues_compare keeps (IsNextPass observers) IsDueIn next_pass_once next_pass_goes_on (λ n said more m a b d e. pass_dues_compare said more m a b d.1 e.1) 0

    due_below : (n : ℕ) (said : List Received) → EndsOn (IsNextPass observers) IsDueIn n said → n < MAX_PASSES
    due_below n said (last_part k l d) = d.0
    due_below n said (part_first k i s t e on) = let more = due_below i t on in omega (arith, more, e.0)

    end_goes_on_so : (n : ℕ) → GoesOnAfter (EndsDrain observers n) (IsDueIn n)
    end_goes_on_so n said more m a b (inl e) d = pass_goes_on None said more m a b e.1 d.1
    end_goes_on_so n said more m a b (inr e) d = absurd (omega (arith, e.0, d.0))

    not_ended : (n i : ℕ) (said after last : List Received) (m a b : StateOf) → IsNextPass observers n i said → EndsOn (IsNextPass observers) IsDueIn i after → EndsDrain observers n last → IsSoundTable m → SeatLeads m said a → SeatLeads m last b → ⊥
    not_ended n i said after last m a b e on (inl h) sound p q = some_none e.1.0 (pass_once (Some e.1.0) None said last m a b e.1.1 h.1 sound p q).result_is
    not_ended n i said after last m a b e on (inr h) sound p q = let below = due_below i after on in omega (arith, below, e.0, h.0)

    drain_goes_on : GoesOnAfter (IsDrain observers) (IsDrainDue observers)
    drain_goes_on = wholes_go_on keeps (IsNextPass observers) IsDueIn next_pass_once next_pass_goes_on (EndsDrain observers) end_goes_on_so not_ended 0

    -- a drain that makes so many runs at most
    drain_within_once : (bound : ℕ) → HappenOnce (IsDrainWithin observers bound) (IsDrainWithin observers bound)
    drain_within_once bound said more m a b (within f few) (within g also) sound p q = drain_once said more m a b f g sound p q
    drain_within_once bound said more m a b (within f few) (cut_off g is) sound p q = absurd (fewer_than said more bound (drain_goes_on said more m a b f g sound p q) few is)
    drain_within_once bound said more m a b (cut_off f is) (within g few) sound p q = absurd (fewer_than more said bound (drain_goes_on more said m b a g f sound q p) few is)
    drain_within_once bound said more m a b (cut_off f is) (cut_off g also) sound p q =
        same_words tt tt said more m a b (same_by_count said more (drain_dues_compare said more m a b f g sound p q) (is ∙ sym also)) refl sound p q

    -- ---- changes

    made_once : (bound : ℕ) (batch : Writes) (c d : Ts) → HappenOnce (IsMade observers bound batch c) (IsMade observers bound batch d)
    made_once bound batch c d said more m a b f g sound =
        joined_once IsSoundTable SeatLeads leads_parts (stays_sound keeps) c d tt tt said more f.change f.drain g.change g.drain m a b f.said_is g.said_is
        (λ i j. change_once batch c d f.change g.change m i j f.changed g.changed sound) (λ i _. drain_within_once bound f.drain g.drain i a b f.drained g.drained) sound

    -- after the same table, with the same limit, a change leads to one
    kept_once : (limit : ℕ) (batch other : Writes) (m n a b : KeptTable) → m.state.observers ≡ observers → m.state ≡ n.state → batch ≡ other → IsKeptAfter limit batch m a → IsKeptAfter limit other n b → IsSoundTable m.state → a.state ≡ b.state
    kept_once limit batch other m n a b own alike one f g sound =
        let bound = λ (s : StateOf). runs_within limit (map.len s.entries) in
        let made : IsMade n.state.observers (bound n.state) batch g.commit g.leads.said = subst (λ w. IsMade n.state.observers (bound n.state) w g.commit g.leads.said) (sym one) g.leads.form.form in
        let here : IsMade m.state.observers (bound m.state) batch g.commit g.leads.said = subst (λ (s : StateOf). IsMade s.observers (bound s) batch g.commit g.leads.said) (sym alike) made in
        (made_once (bound m.state) batch f.commit g.commit f.leads.said g.leads.said m.state a.state b.state
        (subst (λ l. IsMade l (bound m.state) batch f.commit f.leads.said) own f.leads.form.form) (subst (λ l. IsMade l (bound m.state) batch g.commit g.leads.said) own here) sound
        f.leads.leads (subst (λ (s : StateOf). SeatLeads s g.leads.said b.state) (sym alike) g.leads.leads)).table_is

    all_once : (limit : ℕ) (first a b : KeptTable) (cs ds : List Writes) → first.state.observers ≡ observers → IsSoundTable first.state → cs ≡ ds → KeepsFrom limit first cs a → KeepsFrom limit first ds b → a.state ≡ b.state
    all_once limit first a b cs ds own sound e none_made none_made = refl
    all_once limit first a b cs ds own sound e none_made (one_made ks batch m n k is) = let none = ap length e in absurd (omega (arith, none, length_push ks batch))
    all_once limit first a b cs ds own sound e (one_made ks batch m n k is) none_made = let none = ap length (sym e) in absurd (omega (arith, none, length_push ks batch))
    all_once limit first a b cs ds own sound e (one_made ks batch m x f is) (one_made ls other n y g at) =
        let parts = same_from_push ks ls batch other e in
        let led = led_by limit first ks m f in
        kept_once limit batch other m n a b (leads_observers first.state m.state led ∙ own) (all_once limit first m n ks ls own sound parts.0 f g) parts.1 is at (stays_sound keeps first.state m.state led.said sound led.leads)

pub replay_once : StepsHaveOneOutcome → StepsKeepSound → OpeningIsSound → LeftAreSound → ChosenAreSound → EachHasOneMeaning → MachinesAreLed → ReplayHasOneOutcome
replay_once once keeps opens left chosen meaning led limit first changes a b judged f g =
    all_once once keeps meaning led first.state.observers judged limit first a b changes changes refl (first_sound keeps opens left chosen f.past first f.began) refl f.leads g.leads

-- ---- observers that are added

same_units : (o p : Option (Unit {0})) → (is_some o ≡ true → is_some p ≡ true) → (is_some p ≡ true → is_some o ≡ true) → o ≡ p
same_units o p f g = grind arith

marked_too : (more : List ObserverOf) (old m n : StateOf) → HasMoreObservers more old m → HasMoreObservers more old n → (x : Cell) → is_marked m.marks x ≡ true → is_marked n.marks x ≡ true
marked_too more old m n f g x e = elim (f.only x e) [ inl was ↦ g.kept x was | inr is ↦ g.marked x is.1.0 is.1.1 is.0 is.1.2 ]

-- the marks follow from the table that they come to
marked_once : (more : List ObserverOf) (old m n : StateOf) → HasMoreObservers more old m → HasMoreObservers more old n → m ≡ n
marked_once more old m n f g =
    let marks : m.marks ≡ n.marks = map.same_map cell_cmp_total cell_cmp-IsAntisymmetric m.marks n.marks
    (λ x. same_units (map.get m.marks x) (map.get n.marks x) (marked_too more old m n f g x) (marked_too more old n m g f x)) in
    f.is ∙ (λ i. record old { observers = old.observers ++ more; marks = marks i }) ∙ sym g.is

pub caught_up_once : StepsHaveOneOutcome → StepsKeepSound → OpeningIsSound → LeftAreSound → ChosenAreSound → EachHasOneMeaning → MachinesAreLed → CatchingUpHasOneOutcome
caught_up_once once keeps opens left chosen meaning led limit first changes old between a b places front more judged k is f g bound =
    let observers = front ++ more in
    let same = marked_once more between.state f.marked.state g.marked.state f.observed g.observed in
    let sound = marked_sound keeps opens left chosen limit k.past changes first old between a places front more k.began k.leads is f in
    let drained = λ (said : List Received) (m : StateOf) (has : HasMoreObservers more between.state m) (d : IsDrainWithin m.observers f.bound said). subst (λ (l : List ObserverOf). IsDrainWithin l f.bound said) (observers_after m has) d in
    let other = subst (λ n. IsDrainWithin g.marked.state.observers n g.drained.said) (sym bound) g.drained.form.form in
    (drain_within_once once keeps meaning led observers judged f.bound f.drained.said g.drained.said f.marked.state a.state b.state (drained f.drained.said f.marked.state f.observed f.drained.form.form) (drained g.drained.said g.marked.state g.observed other)
    sound f.drained.leads (subst (λ (z : StateOf). SeatLeads z g.drained.said b.state) (sym same) g.drained.leads)).table_is
  where
    observers_after : (m : StateOf) → HasMoreObservers more between.state m → m.observers ≡ front ++ more
    observers_after m has = ap (λ (z : StateOf). z.observers) has.is ∙ ap (λ (z : StateOf). z.observers ++ more) is.marked.is
