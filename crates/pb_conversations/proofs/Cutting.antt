-- Parts that were cut off.
use Rattle.std.proofs.Common.{◌≡◌, ◌≢◌, ◌⊎◌, inl, inr, List, [], ◌∷◌, ◌++◌, Some, refl, sym, ap, subst, ◌∙◌, append_assoc, append-nil}
use Rattle.pb_conversations.specs.Words.{Received}
use Rattle.pb_conversations.specs.Parts.{IsOfParts, no_part, one_part, EndsIn, IsBeginningOf}
use Rattle.pb_conversations.specs.Conversations.{JobOf, IsMove, took, went, IsConversation, HasAsked, IsWholeFrom}
use Rattle.pb_conversations.proofs.Joining.{end_there, parts_join}
use Rattle.pb_conversations.proofs.Unfolding.{conversations_unfold}
use Rattle.pb_conversations.specs.Laws.{IsCutOff, PartsAreCut, ConversationsAreCut, BeginningsAreCut}

-- ---- lists

-- the second list of one part begins in the first of the other, or after it
which_part : {A : Type 0} (a b c d : List A) → a ++ b ≡ c ++ d → ((x : List A) × (a ≡ c ++ x) × (d ≡ x ++ b)) ⊎ ((y : List A) × (c ≡ a ++ y) × (b ≡ y ++ d))
which_part [] b c d e = inr (c, refl, e)
which_part (x ∷ a) b [] d e = inl (x ∷ a, refl, sym e)
which_part (x ∷ a) b (y ∷ c) d e =
    let head : x ≡ y = cc in
    let tail : a ++ b ≡ c ++ d = cc in
    elim (which_part a b c d tail) [
      | inl p ↦ inl (p.0, (λ i. head i ∷ p.1 i), p.2)
      | inr p ↦ inr (p.0, (λ i. sym head i ∷ p.1 i), p.2)
    ]

-- ---- parts

module _ {S : Type 0} (Part : S → S → List Received → Type 0) (IsBegun : S → List Received → Type 0) (each : (t u : S) (said more : List Received) → Part t u (said ++ more) → more ≢ [] → IsCutOff IsBegun t said) where
  whole : (s u : S) (said : List Received) → IsOfParts Part s u said → EndsIn Part (IsCutOff IsBegun) s said
  whole s u said p = end_there s u said p (inl refl)

  in_next : (s t u : S) (had part left more : List Received) → IsOfParts Part s t had → Part t u part → part ≡ left ++ more → EndsIn Part (IsCutOff IsBegun) s (had ++ left)
  in_next s t u had part left [] p next e = subst (λ l. EndsIn Part (IsCutOff IsBegun) s (had ++ l)) (e ∙ append-nil left) (whole s u (had ++ part) (one_part t u had part p next))
  in_next s t u had part left (r ∷ rs) p next e = record { at = t; before = had; parts = p; last = left; ends = each t u left (r ∷ rs) (subst (Part t u) e next) (λ n. cc); said_is = refl }

  cut : (s u : S) (all said more : List Received) → IsOfParts Part s u all → all ≡ said ++ more → EndsIn Part (IsCutOff IsBegun) s said
  cut s u all [] more p e = whole s s [] no_part
  cut s u all (r ∷ said) more no_part e = absurd cc
  cut s u all (r ∷ said) more (one_part t v had part p next) e = elim (which_part had part (r ∷ said) more e) [
    | inl w ↦ cut s t had (r ∷ said) w.0 p w.1
    | inr w ↦ subst (EndsIn Part (IsCutOff IsBegun) s) (sym w.1) (in_next s t v had part w.0 more p next w.2)
  ]

pub parts_are_cut : {S : Type 0} (Part : S → S → List Received → Type 0) (IsBegun : S → List Received → Type 0) → PartsAreCut Part IsBegun
parts_are_cut Part IsBegun each s u said more p = cut Part IsBegun each s u (said ++ more) said more p refl

-- ---- conversations

-- a step with its answer isn't cut
one_entry : (r : Received) (said more : List Received) → r ∷ [] ≡ said ++ more → more ≢ [] → said ≡ []
one_entry r [] more e some = refl
one_entry r (x ∷ []) more e some = let none : more ≡ [] = cc in absurd (some none)
one_entry r (x ∷ y ∷ said) more e some = absurd cc

no_entry : (said more : List Received) → ◌≡◌ {A = List Received} [] (said ++ more) → said ≡ []
no_entry [] more e = refl
no_entry (x ∷ said) more e = absurd cc

uncut : {S : Type 0} (job : JobOf S) (t u : S) (all said more : List Received) → IsMove job t u all → all ≡ said ++ more → more ≢ [] → said ≡ []
uncut job t u all said more (took r next can hears) e some = one_entry r said more e some
uncut job t u all said more (went goes) e some = no_entry said more e

module _ {S : Type 0} (job : JobOf S) where
  -- the first steps are a conversation on to a place, and what is left one from there
  abbrev IsCutAt : S → S → List Received → List Received → Type 0
  IsCutAt s u said more = (t : S) × IsConversation job s said t × IsConversation job t more u

  in_move : (s t u : S) (had last left more : List Received) → IsConversation job s had t → IsMove job t u last → last ≡ left ++ more → IsCutAt s u (had ++ left) more
  in_move s t u had last left [] p move e = (u, subst (λ l. IsConversation job s (had ++ l) u) (e ∙ append-nil left) (one_part t u had last p move), no_part)
  in_move s t u had last left (r ∷ more) p move e =
      let none : left ≡ [] = uncut job t u last left (r ∷ more) move e (λ n. cc) in
      let at_start : had ++ left ≡ had = ap (λ l. had ++ l) none ∙ append-nil had in
      let rest : last ≡ r ∷ more = e ∙ ap (λ l. l ++ r ∷ more) none in
      (t, subst (λ l. IsConversation job s l t) (sym at_start) p, subst (λ l. IsConversation job t l u) rest (one_part t u [] last no_part move))

  cut_there : (s u : S) (all said more : List Received) → IsConversation job s all u → all ≡ said ++ more → IsCutAt s u said more
  cut_there s u all [] more no_part e = (s, no_part, subst (λ l. IsConversation job s l s) e no_part)
  cut_there s u all (r ∷ said) more no_part e = absurd cc
  cut_there s u all said more (one_part t v had last p move) e = elim (which_part had last said more e) [
    | inl w ↦ let c = cut_there s t had said w.0 p w.1 in (c.0, c.1, subst (λ l. IsConversation job c.0 l v) (sym w.2) (one_part t v w.0 last c.2 move))
    | inr w ↦ subst (λ l. IsCutAt s v l more) (sym w.1) (in_move s t v had last w.0 more p move w.2)
  ]

  pub conversations_are_cut : ConversationsAreCut job
  conversations_are_cut s u said more talk = cut_there s u (said ++ more) said more talk refl

-- ---- beginnings of whole ones

module _ {S : Type 0} (job : JobOf S) where
  -- its first steps, and what is left
  whole_cut : (s : S) (said more : List Received) (w : IsWholeFrom job s (said ++ more)) → (t : S) × IsConversation job s said t × IsConversation job t more w.at
  whole_cut s said more w =
      let all : said ++ more ≡ w.before = w.said_is ∙ ap (λ l. w.before ++ l) w.ends.0 ∙ append-nil w.before in
      conversations_are_cut job s w.at said more (subst (λ l. IsConversation job s l w.at) (sym all) w.parts)

  begins_talk : (s : S) (said : List Received) → IsBeginningOf (IsWholeFrom job s) said → (t : S) × IsConversation job s said t
  begins_talk s said b = let c = whole_cut s said b.0 b.1 in (c.0, c.1)

  -- cut off before a step, it stands where that is next
  asked_before : (s : S) (said more : List Received) (r : Received) → IsWholeFrom job s (said ++ r ∷ more) → HasAsked job (IsWholeFrom job s) s (Some r.step) said
  asked_before s said more r w =
      let c = whole_cut s said (r ∷ more) w in
      let first = (conversations_unfold job c.0 w.at (r ∷ more)).0 c.2 in
      record {
        at = first.at;
        talk = subst (λ l. IsConversation job s l first.at) (append-nil said) (parts_join s c.0 first.at said [] c.1 first.went_there);
        begins = (r ∷ more, w);
        next_is = sym first.asked;
      }

  pub beginnings_are_cut : BeginningsAreCut job
  beginnings_are_cut = record {
    wholes = λ s said w. ([], subst (IsWholeFrom job s) (sym (append-nil said)) w);
    cut = λ s said more b. (more ++ b.0, subst (IsWholeFrom job s) (append_assoc said more b.0) b.1);
    talk = begins_talk;
    asked = asked_before;
  }
