-- Jobs that do nothing but ask: a conversation from its first step on.
use Rattle.std.proofs.Common.{◌≡◌, inl, inr, List, [], ◌∷◌, Option, Some, ap, subst, ◌∙◌, sym}
use Rattle.pb_conversations.specs.Words.{CanAnswer, Answer, Step, Received}
use Rattle.pb_conversations.specs.Conversations.{JobOf, asking_job, IsConversation}
use Rattle.pb_conversations.proofs.Unfolding.{talk_unfolds}

module _ {S : Type 0} (next : S → Option Step) (answered : S → Answer → S) where
  abbrev job : JobOf S
  job = asking_job next answered

  -- it said nothing, or asked its first step and went on by the answer
  abbrev pub AsksOn : S → List Received → S → Type 0
  AsksOn s [] t = t ≡ s
  AsksOn s (r ∷ rs) t = (next s ≡ Some r.step) × CanAnswer r.step r.answer × IsConversation job (answered s r.answer) rs t

  stays : (s t : S) → IsConversation job s [] t → t ≡ s
  stays s t talk = elim (talk_unfolds job s t [] talk) [ inl e ↦ e | inr w ↦ absurd w.1 ]

  pub conversation_unfolds : (s t : S) (said : List Received) → IsConversation job s said t → AsksOn s said t
  conversation_unfolds s t [] talk = stays s t talk
  conversation_unfolds s t (r ∷ rs) talk =
      let f = talk_unfolds job s t (r ∷ rs) talk in
      let here : f.at ≡ s = stays s f.at f.went_there in
      (ap next (sym here) ∙ f.asked, f.can, subst (λ z. IsConversation job z rs t) (f.heard ∙ ap (λ z. answered z r.answer) here) f.goes_on)
