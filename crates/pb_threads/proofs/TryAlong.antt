-- A try of a change on its way to its end.
use Rattle.std.proofs.Common.{◌≡◌, ◌≢◌, Bool, false, ◌||◌, List, [], ◌∷◌, ◌++◌, Option, Some, None, refl, sym, ap, ◌∙◌}
use Rattle.std.proofs.Math.Bool.{or_assoc}
use Rattle.pb_base.proofs.Logic.{or_false, some_none}
use Rattle.pb_conversations.proofs.Asking.{conversation_unfolds}
use Rattle.pb_threads.specs.Words.{Refusal, Writes, Step, Work, Answer, Declared, CanAnswer, Received, SeatOf, told, PlansStop, ChangeOf, new_change, outcome_of, Converses, took, no_part, one_part, ChangesConverse, ChangesEnd}
use Rattle.pb_txn.specs.Plans as plans
use Rattle.pb_txn.specs.Changes.{next_of, answered}
use Rattle.pb_txn.proofs.ChangeConversation.{HasBegun, answered_has_begun}
use Rattle.pb_threads.specs.Gains.{OpeningOf, Gains, Told, IsSeatStop}
use Rattle.pb_threads.specs.Tries.{HasTriedTo, IsTry, committed_in, is_commit, has_commit}
use Rattle.pb_threads.specs.Stops.{Stops, IsTryBegun}
use Rattle.pb_threads.proofs.Gaining.{gains_none, gains_as, gains_more, gains_left}

-- before its first step the conversation is empty, and nothing is committed
pub try_at_first : (batch : Writes) (a : SeatOf) → HasTriedTo batch a a (new_change batch) false
try_at_first batch a = gains_none (no_part, refl)

-- one answer more reports a commit or doesn't
commit_on : (said : List Received) (r : Received) → has_commit (said ++ r ∷ []) ≡ (has_commit said || is_commit r.answer)
commit_on [] r = or_false (is_commit r.answer)
commit_on (s ∷ ss) r = ap (λ b. is_commit s.answer || b) (commit_on ss r) ∙ sym (or_assoc (is_commit s.answer) (has_commit ss) (is_commit r.answer))

module _ {batch : Writes} {a b : SeatOf} {job : ChangeOf} {committed : Bool} (along : HasTriedTo batch a b job committed) where
  pub try_after_step : {step : Step} {answer : Answer} {c : SeatOf} {k : ChangeOf} {now : Bool} → next_of job ≡ Some step → CanAnswer step answer → Told b step answer c → k ≡ answered job answer → now ≡ (committed || is_commit answer) → HasTriedTo batch a c k now
  try_after_step {step} {answer} {k = k} e can t is now-is =
      gains_more along t (λ said h. (one_part job k said _ h.0 (took (told step answer) e can is), now-is ∙ (ap (λ b. b || is_commit answer) h.1 ∙ sym (commit_on said (told step answer)))))

  -- it was cut off
  pub try_left : {opens : Option OpeningOf} {r : Refusal} → ChangesConverse → batch ≢ [] → IsSeatStop opens b.number (next_of job) r → Gains (Stops opens a.number (IsTryBegun batch committed) r) a b
  try_left law some stop = gains_left (next_of job) along (λ said h. record { committed_is = h.1; change = record { at = job; talk = h.0; begins = law batch said job some h.0; next_is = refl } }) stop

-- ---- at its end

ended_by : (batch : Writes) (r : Received) (rest : List Received) (q : ChangeOf) → batch ≢ [] → PlansStop → ChangesEnd → Converses (new_change batch) (r ∷ rest) q → next_of q ≡ None → HasBegun batch r rest q
    → IsTry batch (committed_in (outcome_of q)) (r ∷ rest)
ended_by [] r rest q some stop end t e b = absurd (some refl)
ended_by (w ∷ ws) r rest q some stop end t e b =
    let batch : Writes = w ∷ ws in
    let plan : q.plan ≡ Some b.plan = ap (λ (z : ChangeOf). z.plan) b.q_is in
    let none : plans.next_of b.plan ≡ None = ap next_of (sym b.q_is) ∙ e in
    let over = stop b.s (Declared.Script batch) w.0 _ rest b.plan refl b.said none in
    record {
      start = record { 0 = b.plan.start };
      outcome = over.0;
      whole = end batch (r ∷ rest) q b.plan over.0 some t plan over.1;
      ended = sym (ap committed_in (ap outcome_of b.q_is ∙ over.1));
    }

-- at its end a change is a whole try, which committed where its outcome says so
whole_try : (batch : Writes) (said : List Received) (q : ChangeOf) → batch ≢ [] → PlansStop → ChangesEnd → Converses (new_change batch) said q → next_of q ≡ None → IsTry batch (committed_in (outcome_of q)) said
whole_try batch [] q some stop end t e = absurd (some_none (Step.Begin Work.Script) (ap next_of (sym (conversation_unfolds next_of answered (new_change batch) q [] t)) ∙ e))
whole_try batch (r ∷ rest) q some stop end t e = ended_by batch r rest q some stop end t e (answered_has_begun batch r rest q t)

pub try_ends : {batch : Writes} {a b : SeatOf} {job : ChangeOf} {committed : Bool} → HasTriedTo batch a b job committed → batch ≢ [] → PlansStop → ChangesEnd → next_of job ≡ None → Gains (IsTry batch (committed_in (outcome_of job))) a b
try_ends {batch} {job = job} along some stop end e = gains_as (λ said h. whole_try batch said job some stop end h.0 e) along
