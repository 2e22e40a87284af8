-- The conversations of a transaction (OSDI 2010, section 2.2): four forms, in words of steps and answers alone, so that those who
-- read a journal need to know nothing of plans. The law `plans_converse` says that plans keep to them.
use Rattle.std.specs.Prelude.{◌≡◌, ℕ, List, [], ◌∷◌, ◌++◌, map, Some, None}
use Rattle.pb_txn.specs.Words.{Cell, Ts, Declared, Step, Answer, CanAnswer, Received, IsBeginningOf}
use Rattle.pb_txn.specs.declared.place.Outcome.{Outcome}
use Rattle.pb_txn.specs.Places.{declared_cells}
use Rattle.pb_txn.specs.Plans.{PlanOf, fresh, next_of, outcome_of}
use Rattle.pb_txn.specs.Conversations.{told, Converses}

-- each cell prewritten, without a conflict
abbrev pub prewrites : Ts → List Cell → List Received
prewrites s xs = map (λ x. told (Step.Prewrite s x) Answer.Done) xs

-- each cell committed; the answer is the same where another has cleared it already
abbrev pub secondaries : Ts → List Cell → List Received
secondaries s xs = map (λ x. told (Step.CommitSecondary s x) Answer.Done) xs

-- each cell cleared, whatever the answers
abbrev pub AreCleared : List Cell → List Received → Type 0
AreCleared [] rs = rs ≡ []
AreCleared (x ∷ xs) [] = ⊥
AreCleared (x ∷ xs) (r ∷ rs) = (r.step ≡ Step.Clear x) × CanAnswer r.step r.answer × AreCleared xs rs

-- the conversation of a transaction of these cells, and how it ended
pub data IsWhole (s : Ts) (what : Declared) : List Cell → List Received → Outcome → Type 0 where
  -- all were prewritten, and the primary and then the others committed
  committed : (x : Cell) (others : List Cell) (c : Ts)
      → IsWhole s what (x ∷ others) (told (Step.Declare s what) Answer.Done ∷ prewrites s (x ∷ others) ++ told (Step.Stamp s) (Answer.At c) ∷ told (Step.CommitPrimary s) Answer.Committed ∷ secondaries s others) (Outcome.Committed c)
  -- a conflict on the primary
  conflicted_first : (x : Cell) (after : List Cell)
      → IsWhole s what (x ∷ after) (told (Step.Declare s what) Answer.Done ∷ told (Step.Prewrite s x) Answer.Conflict ∷ []) Outcome.Conflicted
  -- a conflict on a later cell: the primary is settled, and what else was prewritten is cleared
  conflicted_later : (x y : Cell) (before after : List Cell) (a : Answer) (cs : List Received) → CanAnswer (Step.Settle x) a → AreCleared before cs
      → IsWhole s what (x ∷ before ++ y ∷ after) (told (Step.Declare s what) Answer.Done ∷ prewrites s (x ∷ before) ++ told (Step.Prewrite s y) Answer.Conflict ∷ told (Step.Settle x) a ∷ cs) Outcome.Conflicted
  -- the primary's lock was gone: the others are cleared
  lost : (x : Cell) (others : List Cell) (c : Ts) (cs : List Received) → AreCleared others cs
      → IsWhole s what (x ∷ others) (told (Step.Declare s what) Answer.Done ∷ prewrites s (x ∷ others) ++ told (Step.Stamp s) (Answer.At c) ∷ told (Step.CommitPrimary s) Answer.Lost ∷ cs) Outcome.Lost

-- such a conversation of all that is declared, whatever its outcome
abbrev pub IsSomeWhole : Ts → Declared → List Received → Type 0
IsSomeWhole s what said = (o : Outcome) × IsWhole s what (declared_cells what) said o

-- a beginning of one
abbrev pub BeginsPlan : Ts → Declared → List Received → Type 0
BeginsPlan s what said = IsBeginningOf (IsSomeWhole s what) said

-- what a plan of some cells has asked so far is a beginning of such a conversation
abbrev pub PlansConverse : Type 0
PlansConverse = (s : ℕ) (what : Declared) (x : Cell) (others : List Cell) (said : List Received) (q : PlanOf) → declared_cells what ≡ x ∷ others → Converses (fresh s what) said q
    → BeginsPlan (record { 0 = s }) what said

-- and where it is over, a whole one with its outcome
abbrev pub PlansEnd : Type 0
PlansEnd = (s : ℕ) (what : Declared) (x : Cell) (others : List Cell) (said : List Received) (q : PlanOf) (o : Outcome) → declared_cells what ≡ x ∷ others → Converses (fresh s what) said q
    → outcome_of q ≡ Some o → IsWhole (record { 0 = s }) what (declared_cells what) said o

-- a plan without a next step is over
abbrev pub PlansStop : Type 0
PlansStop = (s : ℕ) (what : Declared) (x : Cell) (others : List Cell) (said : List Received) (q : PlanOf) → declared_cells what ≡ x ∷ others → Converses (fresh s what) said q
    → next_of q ≡ None → (o : Outcome) × (outcome_of q ≡ Some o)
