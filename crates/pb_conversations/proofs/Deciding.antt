-- What is asked follows from the answers: on a table where each step has one answer, whole conversations of a job have one outcome.
use Rattle.std.proofs.Common.{◌≡◌, List, [], ◌∷◌, ◌++◌, refl, sym, ap, subst, ◌∙◌, append_assoc, append-nil}
use Rattle.pb_base.proofs.Logic.{none_some, same_some}
use Rattle.pb_conversations.specs.Words.{Answer, Step, Received}
use Rattle.pb_conversations.specs.Parts.{EndsIn, no_part}
use Rattle.pb_conversations.specs.Conversations.{JobOf, IsMove, took, went, IsConversation, AsksNoMore}
use Rattle.pb_conversations.specs.Laws.{IsDetermined, AreAnsweredBy, AnswersDecide}
use Rattle.pb_conversations.proofs.OneOutcome.{EndsOn, end_goes_on, AreOne, with_result, HaveOneOutcome, ends_once}

module _ {M : Type 0} (Sound : M → Type 0) (Leads : M → List Received → M → Type 0)
    (split : (m n : M) (said more : List Received) → Leads m (said ++ more) n → (mid : M) × Leads m said mid × Leads mid more n) (stays : (m n : M) (said : List Received) → Sound m → Leads m said n → Sound n)
    (still : (m n : M) → Leads m [] n → n ≡ m)
    (answered_once : (r x : Received) (m a b : M) → r.step ≡ x.step → Sound m → Leads m (r ∷ []) a → Leads m (x ∷ []) b → AreOne (r ∷ []) (x ∷ []) r.answer x.answer a b)
    {S : Type 0} (job : JobOf S) (first : S) (determined : (t : S) (had : List Received) → IsConversation job first had t → IsDetermined job t) where
  abbrev IsEnd : S → S → List Received → Type 0
  IsEnd at s said = (at ≡ s) × AsksNoMore job s said

  same_move : (s t u : S) → IsDetermined job s → HaveOneOutcome Sound Leads t u (IsMove job s t) (IsMove job s u)
  same_move s t u d said more m a b (took r next can hears) (took x then may hears2) sound p q =
      let one = answered_once r x m a b (same_some r.step x.step (sym next ∙ then)) sound p q in
      with_result t u (d.hears_one r.answer t u hears (subst (λ y. job.hears s y u) (sym one.result_is) hears2)) one
  same_move s t u d said more m a b (took r next can hears) (went goes) sound p q = absurd (d.asks_or_goes r.step u next goes)
  same_move s t u d said more m a b (went goes) (took r next can hears) sound p q = absurd (d.asks_or_goes r.step t next goes)
  same_move s t u d said more m a b (went goes) (went goes2) sound p q = record { said_is = refl; result_is = d.goes_one t u goes goes2; table_is = still m a p ∙ sym (still m b q) }

  same_end : (s f g : S) → HaveOneOutcome Sound Leads f g (IsEnd f s) (IsEnd g s)
  same_end s f g said more m a b h k sound p q =
      let left = still m a (subst (λ l. Leads m l a) h.1.0 p) in
      let right = still m b (subst (λ l. Leads m l b) k.1.0 q) in
      record { said_is = h.1.0 ∙ sym k.1.0; result_is = h.0 ∙ sym k.0; table_is = left ∙ sym right }

  no_end : (s t f g : S) (said after last : List Received) (m a b : M) → IsMove job s t said → EndsOn (IsMove job) (IsEnd f) t after → IsEnd g s last → Sound m → Leads m said a → Leads m last b → ⊥
  no_end s t f g said after last m a b (took r next can hears) on h sound p q = none_some r.step (sym h.1.1 ∙ next)
  no_end s t f g said after last m a b (went goes) on h sound p q = h.1.2 t goes

  at_end : (said : List Received) (e : EndsIn (IsMove job) (AsksNoMore job) first said) → EndsIn (IsMove job) (IsEnd e.at) first said
  at_end said e = record { at = e.at; before = e.before; parts = e.parts; last = e.last; ends = (refl, e.ends); said_is = e.said_is }

  pub wholes_once : (said more : List Received) (m a b : M) (e : EndsIn (IsMove job) (AsksNoMore job) first said) (f : EndsIn (IsMove job) (AsksNoMore job) first more) → Sound m → Leads m said a → Leads m more b → AreOne said more e.at f.at a b
  wholes_once said more m a b e f =
      ends_once Sound Leads split stays (IsMove job) IsEnd first same_end (λ s t u had from. same_move s t u (determined s had from)) no_end e.at f.at first [] no_part said more m a b
      (end_goes_on first said (at_end said e)) (end_goes_on first more (at_end more f))

-- ---- answers by a rule

-- the table is the conversation so far, which a rule answers
module _ (rule : List Received → Step → Answer) where
  -- after this conversation these were answered by the rule
  abbrev IsAnswered : List Received → List Received → List Received → Type 0
  IsAnswered had said now = (now ≡ had ++ said) × AreAnsweredBy (λ front. rule (had ++ front)) said

  parted : (m n : List Received) (said more : List Received) → IsAnswered m (said ++ more) n → (mid : List Received) × IsAnswered m said mid × IsAnswered mid more n
  parted m n said more h = (
    m ++ said,
    (refl, λ front rest r e. h.1 front (rest ++ more) r (ap (λ l. l ++ more) e ∙ append_assoc front (r ∷ rest) more)),
    (
      h.0 ∙ sym (append_assoc m said more),
      λ front rest r e. subst (λ l. r.answer ≡ rule l r.step) (sym (append_assoc m said front)) (h.1 (said ++ front) rest r (ap (λ l. said ++ l) e ∙ sym (append_assoc said front (r ∷ rest)))),
    ),
  )

  one_answer : (r x : Received) (m a b : List Received) → r.step ≡ x.step → IsAnswered m (r ∷ []) a → IsAnswered m (x ∷ []) b → AreOne (r ∷ []) (x ∷ []) r.answer x.answer a b
  one_answer r x m a b step p q =
      let answer : r.answer ≡ x.answer = p.1 [] [] r refl ∙ ap (rule (m ++ [])) step ∙ sym (q.1 [] [] x refl) in
      let same : r ∷ [] ≡ x ∷ [] = λ i. record { step = step i; answer = answer i } ∷ [] in
      record { said_is = same; result_is = answer; table_is = p.0 ∙ ap (λ l. m ++ l) same ∙ sym q.0 }

pub answers_decide : {S : Type 0} (job : JobOf S) → AnswersDecide job
answers_decide job s determined rule said more e f h k =
    let one = wholes_once (λ m. Unit {0}) (IsAnswered rule) (parted rule) (λ m n l sound a. tt) (λ m n p. p.0 ∙ append-nil m) (λ r x m a b step sound. one_answer rule r x m a b step) job s determined said more [] said more e f tt (refl, h) (refl, k) in
    (one.said_is, one.result_is)
