-- What holds of all conversations, whatever the job, and of all that comes part after part.
use Rattle.std.specs.Prelude.{◌≡◌, ◌≢◌, ◌⊎◌, List, [], ◌∷◌, ◌++◌, Some}
use Rattle.pb_conversations.specs.Words.{CanAnswer, Answer, Step, Received}
use Rattle.pb_conversations.specs.Parts.{IsOfParts, EndsIn, IsBeginningOf}
use Rattle.pb_conversations.specs.Conversations.{JobOf, HasAsked, IsConversation, IsWholeFrom}

-- ---- parts

-- some parts, and then others from where they led, are parts
abbrev pub PartsFollow : {S : Type 0} → (S → S → List Received → Type 0) → Type 0
PartsFollow {S} Part = (s t u : S) (said more : List Received) → IsOfParts Part s t said → IsOfParts Part t u more → IsOfParts Part s u (said ++ more)

-- what is left of a part that was cut off: nothing, or a beginning of it
abbrev pub IsCutOff : {S : Type 0} → (S → List Received → Type 0) → S → List Received → Type 0
IsCutOff IsBegun t said = (said ≡ []) ⊎ IsBegun t said

-- where each part may be cut off before its end, parts may be anywhere: whole ones are left, and what is left of the next
abbrev pub PartsAreCut : {S : Type 0} → (S → S → List Received → Type 0) → (S → List Received → Type 0) → Type 0
PartsAreCut {S} Part IsBegun = ((t u : S) (said more : List Received) → Part t u (said ++ more) → more ≢ [] → IsCutOff IsBegun t said)
    → (s u : S) (said more : List Received) → IsOfParts Part s u (said ++ more) → EndsIn Part (IsCutOff IsBegun) s said

-- ---- conversations

-- its first step was asked at a place to which it went by itself, and the rest follows from where the answer led it
pub record AsksFirst {S : Type 0} (job : JobOf S) (s : S) (r : Received) (more : List Received) (u : S) : Type 0 where
  pub at : S
  pub went_there : IsConversation job s [] at
  pub asked : job.next at ≡ Some r.step
  pub can : CanAnswer r.step r.answer
  pub to : S
  pub heard : job.hears at r.answer to
  pub goes_on : IsConversation job to more u

-- With no step it is where it was, or went on by itself. Else its first step comes first.
abbrev pub Unfolds : {S : Type 0} → JobOf S → S → List Received → S → Type 0
Unfolds {S} job s [] u = (u ≡ s) ⊎ ((t : S) × job.goes s t × IsConversation job t [] u)
Unfolds job s (r ∷ more) u = AsksFirst job s r more u

-- a conversation is that, and nothing else is one
abbrev pub ConversationsUnfold : {S : Type 0} → JobOf S → Type 0
ConversationsUnfold {S} job = (s u : S) (said : List Received) → (IsConversation job s said u → Unfolds job s said u) × (Unfolds job s said u → IsConversation job s said u)

-- it may be cut anywhere, since it is cut between a step with its answer and the next: the steps before are a conversation, and so is
-- what is left, from the place to which they led
abbrev pub ConversationsAreCut : {S : Type 0} → JobOf S → Type 0
ConversationsAreCut {S} job = (s u : S) (said more : List Received) → IsConversation job s (said ++ more) u → (t : S) × IsConversation job s said t × IsConversation job t more u

-- A whole conversation is a beginning of one. What is left of a beginning that is cut off is one, and each is a conversation. Where a whole
-- one is cut off before a step, the job has asked what came before, and asks that step next.
pub record BeginningsAreCut {S : Type 0} (job : JobOf S) : Type 0 where
  pub wholes : (s : S) (said : List Received) → IsWholeFrom job s said → IsBeginningOf (IsWholeFrom job s) said
  pub cut : (s : S) (said more : List Received) → IsBeginningOf (IsWholeFrom job s) (said ++ more) → IsBeginningOf (IsWholeFrom job s) said
  pub talk : (s : S) (said : List Received) → IsBeginningOf (IsWholeFrom job s) said → (t : S) × IsConversation job s said t
  pub asked : (s : S) (said more : List Received) (r : Received) → IsWholeFrom job s (said ++ r ∷ more) → HasAsked job (IsWholeFrom job s) s (Some r.step) said

-- each answer leads to one place, and so does what it does by itself, which is nothing where it asks
pub record IsDetermined {S : Type 0} (job : JobOf S) (s : S) : Type 0 where
  pub hears_one : (a : Answer) (t u : S) → job.hears s a t → job.hears s a u → t ≡ u
  pub goes_one : (t u : S) → job.goes s t → job.goes s u → t ≡ u
  pub asks_or_goes : (step : Step) (t : S) → job.next s ≡ Some step → job.goes s t → ⊥

-- each step of these was answered as this rule says, which may look at the conversation before
abbrev pub AreAnsweredBy : (List Received → Step → Answer) → List Received → Type 0
AreAnsweredBy rule said = (front rest : List Received) (r : Received) → said ≡ front ++ r ∷ rest → r.answer ≡ rule front r.step

-- two whole conversations of such a job that were answered by one rule are the same, and end at one place
abbrev pub AnswersDecide : {S : Type 0} → JobOf S → Type 0
AnswersDecide {S} job = (s : S) → ((t : S) (had : List Received) → IsConversation job s had t → IsDetermined job t) → (rule : List Received → Step → Answer) (said more : List Received)
    → (e : IsWholeFrom job s said) → (f : IsWholeFrom job s more) → AreAnsweredBy rule said → AreAnsweredBy rule more → (said ≡ more) × (e.at ≡ f.at)
