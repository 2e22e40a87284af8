-- The committed runs of an observer are counted by the entries that begin them.
use Rattle.std.proofs.Common.{◌≡◌, ℕ, ◌+◌, ◌≤◌, ◌==◌, inl, inr, true, false, cond, List, [], ◌∷◌, length, Option, Some, refl, sym, ap, subst, ◌∙◌, arith, option_map}
use Rattle.std.proofs.lemmas.Bool.{eqb-true}
use Rattle.std.proofs.lemmas.List.Sums.{sum_by-cons}
use Rattle.pb_history.specs.Words.{Ts, Work, Step, Answer, Phase, StateOf, TransactionOf, phase_in, ObserverOf}
use Rattle.pb_history.specs.declared.entry.Entry.{Entry}
use Rattle.pb_history.specs.Journals.{IsLegal}
use Rattle.pb_history.specs.History.{Has, Member, InHistory, TellsHistory}
use Rattle.pb_history.specs.Timestamps.{with_timestamp, timestamps, AreRising}
use Rattle.pb_history.specs.RunCounts.{IsRunOf, RiseByStart, phase_is_committed, begins_committed_run, run_count, TellsRunCounts}
use Rattle.pb_history.proofs.Agreement.{ts, got, Agrees}
use Rattle.pb_history.proofs.StepsAgree.{legal_agrees}
use Rattle.pb_history.proofs.HistoryTold.{legal_tells_history}
use Rattle.pb_history.proofs.TimestampsRise.{rising_after_entry, tells_timestamps}
use Rattle.pb_base.proofs.Logic.{and_true as both}

-- a phase that tests as committed has its commit
committed_at : (h : Option Phase) → phase_is_committed h ≡ true → (c : Ts) × (h ≡ Some (Phase.Committed c))
committed_at h e = grind arith

phase_there : (o : Option TransactionOf) (t : TransactionOf) (c : Ts) → o ≡ Some t → option_map (λ (u : TransactionOf). u.phase) o ≡ Some (Phase.Committed c) → t.phase ≡ Phase.Committed c
phase_there o t c there p = let q : Some t.phase ≡ Some (Phase.Committed c) = ap (option_map (λ (u : TransactionOf). u.phase)) (sym there) ∙ p in cc

same_answer : (c d : ℕ) (a : Answer) → a ≡ Answer.At (ts c) → a ≡ Answer.At (ts d) → c ≡ d
same_answer c d a p q = let k : ts c ≡ ts d = cc in ap (λ (t : Ts). t.0) k

-- starts that rise from one number rise from a lower one
lower_starts : (low to : ℕ) (ms : List Member) → low ≤ to → RiseByStart to ms → RiseByStart low ms
lower_starts low to [] le r = tt
lower_starts low to (m ∷ ms) le r = let lt = r.0 in (omega (arith, le, lt), r.1)

module _ (journal : List Entry) (state : StateOf) (a : Agrees journal state) (history : TellsHistory journal state) (o : ℕ) where
  -- a committed run, with the step and answer that began it
  record Begun (step : Step) (answer : Answer) : Type 0 where
    m : Member
    in_history : InHistory state.observers journal m
    run : IsRunOf m o
    step_is : step ≡ Step.Begin m.work
    answer_is : answer ≡ Answer.At (ts m.start)

  begun : (seat : ℕ) (step : Step) (answer : Answer) → Has journal (record { seat = seat; step = step; answer = answer }) → begins_committed_run state o step answer ≡ true → Begun step answer
  begun seat (Step.Begin (Work.Run p row)) (Answer.At s) has e =
      let b = both (p == o) (phase_is_committed (phase_in state s.0)) e in
      let t = a.told _ has in
      let c = committed_at (phase_in state s.0) b.1 in
      let m : Member = record { start = s.0; commit = c.0.0; seat = t.0.seat; work = t.0.work; writes = t.0.declared } in
      record {
        m = m;
        in_history = history.member m (record { t = t.0; there = t.1; phase = phase_there (got state s.0) t.0 c.0 t.1 c.1; seat = refl; work = refl; writes = refl });
        run = (row, t.3 ∙ ap (λ n. Work.Run n row) (eqb-true p o b.0));
        step_is = ap Step.Begin (sym t.3);
        answer_is = refl;
      }
  begun seat _ _ has e = cc

  -- a start is one transaction's
  same_member : (m n : Member) → InHistory state.observers journal m → InHistory state.observers journal n → m.start ≡ n.start → m ≡ n
  same_member m n h k start = grind arith

  -- the committed runs that these entries begin, whose starts are above a timestamp
  record Counted (low : ℕ) (es : List Entry) : Type 0 where
    ms : List Member
    count : length ms ≡ run_count state o es
    each : (m : Member) → Has ms m → InHistory state.observers journal m × IsRunOf m o
    whole : (m : Member) → InHistory state.observers journal m → IsRunOf m o → Has es (record { seat = m.seat; step = Step.Begin m.work; answer = Answer.At (ts m.start) }) → Has ms m
    rising : RiseByStart low ms

  by_first : (e : Entry) (es : List Entry) → run_count state o (e ∷ es) ≡ cond (begins_committed_run state o e.step e.answer) 1 0 + run_count state o es
  by_first e es = sum_by-cons (λ d. cond (begins_committed_run state o d.step d.answer) 1 0) e es

  one_more : (low high : ℕ) (e : Entry) (es : List Entry) → begins_committed_run state o e.step e.answer ≡ true → Begun e.step e.answer → AreRising low high (timestamps (e ∷ es))
      → ((to : ℕ) → AreRising to high (timestamps es) → Counted to es) → Counted low (e ∷ es)
  one_more low high e es is b rise on =
      let rises : AreRising low high (b.m.start ∷ timestamps es) = subst (λ w. AreRising low high (with_timestamp w (Answer.At (ts b.m.start)) (timestamps es))) b.step_is (subst (λ w. AreRising low high (with_timestamp e.step w (timestamps es))) b.answer_is rise) in
      let rest = on b.m.start rises.1 in
      record {
        ms = b.m ∷ rest.ms;
        count = let q : run_count state o (e ∷ es) ≡ 1 + run_count state o es = by_first e es ∙ ap (λ t. cond t 1 0 + run_count state o es) is in let n = rest.count in omega (arith, q, n);
        each = λ m h. elim h [ inl q ↦ subst (λ n. InHistory state.observers journal n × IsRunOf n o) q (b.in_history, b.run) | inr k ↦ rest.each m k ];
        whole = λ m h run has. grind (arith, same_member, same_answer, b.m.start, b.answer_is, b.m, b.in_history, e.answer);
        rising = (rises.0, rest.rising);
      }

  no_more : (low : ℕ) (e : Entry) (es : List Entry) → begins_committed_run state o e.step e.answer ≡ false → Counted low es → Counted low (e ∷ es)
  no_more low e es is rest = grind arith

  counted : (low high : ℕ) (es : List Entry) → ((e : Entry) → Has es e → Has journal e) → AreRising low high (timestamps es) → Counted low es
  counted low high [] within rise = record { ms = []; count = refl; each = λ m h. absurd h; whole = λ m h run has. absurd has; rising = tt }
  counted low high (e ∷ es) within rise =
      let on : (to : ℕ) → AreRising to high (timestamps es) → Counted to es = λ to r. counted to high es (λ d h. within d (inr h)) r in
      elim (begins_committed_run state o e.step e.answer) as (λ b. begins_committed_run state o e.step e.answer ≡ b → Counted low (e ∷ es)) [
        | true ↦ λ is. one_more low high e es is (begun e.seat e.step e.answer (within e (inl refl)) is) rise on
        | false ↦ λ is. no_more low e es is (on low (rising_after_entry low high e.step e.answer (timestamps es) rise))
      ] refl

pub tells_counts : (observers : List ObserverOf) (seats clock : ℕ) (journal : List Entry) (state : StateOf) → IsLegal observers seats clock journal state → TellsRunCounts journal state
tells_counts observers seats clock journal state l = λ o.
    let a = legal_agrees observers seats clock journal state l in
    let c = counted journal state a (legal_tells_history observers seats clock journal state l) o clock state.clock journal (λ e h. h) (tells_timestamps observers seats clock journal state l).rising in
    record { ms = c.ms; count = c.count; each = c.each; whole = λ m h run. c.whole m h run h.begun; rising = lower_starts 0 clock c.ms (omega arith) c.rising }
