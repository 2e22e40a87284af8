-- A try that was left after its commit has committed.
use Rattle.std.proofs.Common.{arith, ◌≡◌, ◌≢◌, ◌⊎◌, Bool, true, false, ◌||◌, List, [], ◌∷◌, ◌++◌, inl, inr, refl, sym, ap, subst, ◌∙◌}
use Rattle.pb_worker.specs.Words.{Ts, Cell, Writes, Step, Answer, Work, Declared, CanAnswer, Received, Has, Outcome, PlanPlace, told, IsWhole, AreCleared, committed, conflicted_first, conflicted_later, lost, prewrites, secondaries, ChangeOf, new_change, Converses, is_commit_outcome, is_commit, has_commit}
use Rattle.pb_txn.proofs.ChangeConversation.{HasBegun, answered_has_begun as has_begun}
use Rattle.pb_txn.proofs.Conversation.{SoFar, declaring, prewriting, stamping, committing, finishing, settling, clearing, over, said_all, clears, are_cleared}
use Rattle.std.proofs.Math.Bool.{or_assoc}
use Rattle.pb_worker.proofs.Committing.{HasCommitted}
use Rattle.std.proofs.lemmas.Bool.{or_from as both_false, or_right as true_right}
use Rattle.pb_base.proofs.Logic.{not_both}
use Rattle.pb_history.proofs.Updates.{has_right}

-- ---- truths

pub left_false : (a b : Bool) → (a || b) ≡ false → a ≡ false
left_false true b e = e
left_false false b e = refl

-- ---- answers and steps in a list

-- a commit stands in one part of a list or in the other
pub commit_in : (xs ys : List Received) → has_commit (xs ++ ys) ≡ (has_commit xs || has_commit ys)
commit_in [] ys = refl
commit_in (x ∷ xs) ys = ap (λ b. is_commit x.answer || b) (commit_in xs ys) ∙ sym (or_assoc (is_commit x.answer) (has_commit xs) (has_commit ys))

-- it clears a cell, as a transaction does only where it failed
abbrev is_clear : Step → Bool
is_clear (Step.Clear x) = true
is_clear _ = false

-- something was cleared
abbrev has_clear : List Received → Bool
has_clear [] = false
has_clear (r ∷ rs) = is_clear r.step || has_clear rs

clear_in : (xs ys : List Received) → has_clear (xs ++ ys) ≡ (has_clear xs || has_clear ys)
clear_in [] ys = refl
clear_in (x ∷ xs) ys = ap (λ b. is_clear x.step || b) (clear_in xs ys) ∙ sym (or_assoc (is_clear x.step) (has_clear xs) (has_clear ys))

-- prewrites commit nothing
no_prewrite : (s : Ts) (xs : List Cell) → has_commit (prewrites s xs) ≡ false
no_prewrite s [] = refl
no_prewrite s (x ∷ xs) = no_prewrite s xs

-- nor do they clear
prewrites_clear : (s : Ts) (xs : List Cell) → has_clear (prewrites s xs) ≡ false
prewrites_clear s [] = refl
prewrites_clear s (x ∷ xs) = prewrites_clear s xs

secondaries_clear : (s : Ts) (xs : List Cell) → has_clear (secondaries s xs) ≡ false
secondaries_clear s [] = refl
secondaries_clear s (x ∷ xs) = secondaries_clear s xs

none_after : (s : Ts) (xs : List Cell) (ys : List Received) → has_commit ys ≡ false → has_commit (prewrites s xs ++ ys) ≡ false
none_after s xs ys none = commit_in (prewrites s xs) ys ∙ both_false (has_commit (prewrites s xs)) (has_commit ys) (no_prewrite s xs) none

-- to clear a lock forward is no commit of one's own
clear_answer : (x : Cell) (a : Answer) → CanAnswer (Step.Clear x) a → is_commit a ≡ false
clear_answer x Answer.Absent can = refl
clear_answer x Answer.Waits can = refl
clear_answer x (Answer.CommittedAt c) can = refl
clear_answer x Answer.RolledBack can = refl
clear_answer x _ can = absurd can

settle_answer : (x : Cell) (a : Answer) → CanAnswer (Step.Settle x) a → is_commit a ≡ false
settle_answer x Answer.Absent can = refl
settle_answer x (Answer.Locked start primary) can = refl
settle_answer x Answer.RolledBack can = refl
settle_answer x _ can = absurd can

-- what is cleared commits nothing
cleared : (xs : List Cell) (rs : List Received) → AreCleared xs rs → has_commit rs ≡ false
cleared [] rs c = rw c refl
cleared (x ∷ xs) [] c = absurd c
cleared (x ∷ xs) (r ∷ rs) c = both_false (is_commit r.answer) (has_commit rs) (clear_answer x r.answer (subst (λ s. CanAnswer s r.answer) c.0 c.1)) (cleared xs rs c.2)

-- a whole conversation that ended otherwise has no commit
pub ended_uncommitted : (s : Ts) (what : Declared) (cells : List Cell) (said : List Received) (o : Outcome) → is_commit_outcome o ≡ false → IsWhole s what cells said o → has_commit said ≡ false
ended_uncommitted s what cells said o otherwise (committed x others c) = cc
ended_uncommitted s what cells said o otherwise (conflicted_first x after) = refl
ended_uncommitted s what cells said o otherwise (conflicted_later x y before after a cs can c) = grind (arith, none_after, both_false, settle_answer, cleared)
ended_uncommitted s what cells said o otherwise (lost x others c cs k) = none_after s (x ∷ others) (told (Step.Stamp s) (Answer.At c) ∷ told (Step.CommitPrimary s) Answer.Lost ∷ cs) (cleared others cs k)

-- a whole conversation has no commit, or clears nothing
by_form : (s : Ts) (what : Declared) (cells : List Cell) (said : List Received) (o : Outcome) → IsWhole s what cells said o → (has_commit said ≡ false) ⊎ (has_clear said ≡ false)
by_form s what cells said o (committed x others c) = grind (arith, clear_in, both_false, prewrites_clear, secondaries_clear)
by_form s what cells said o (conflicted_first x after) = inl refl
by_form s what cells said o (conflicted_later x y before after a cs can c) = inl (ended_uncommitted s what _ _ _ refl (conflicted_later x y before after a cs can c))
by_form s what cells said o (lost x others c cs k) = inl (ended_uncommitted s what _ _ _ refl (lost x others c cs k))

-- ---- at a place

-- it was declared, stamped and committed
abbrev Commits : Ts → Declared → List Received → Type 0
Commits s what rest = (c : Ts) × Has rest (told (Step.Declare s what) Answer.Done) × Has rest (told (Step.Stamp s) (Answer.At c)) × Has rest (told (Step.CommitPrimary s) Answer.Committed)

paid : (s : Ts) (what : Declared) (xs : List Cell) (c : Ts) (more : List Received) → Commits s what (told (Step.Declare s what) Answer.Done ∷ prewrites s xs ++ told (Step.Stamp s) (Answer.At c) ∷ told (Step.CommitPrimary s) Answer.Committed ∷ more)
paid s what xs c more =
    let rest = told (Step.Stamp s) (Answer.At c) ∷ told (Step.CommitPrimary s) Answer.Committed ∷ more in
    (c, inl refl, inr (has_right (prewrites s xs) rest (told (Step.Stamp s) (Answer.At c)) (inl refl)), inr (has_right (prewrites s xs) rest (told (Step.CommitPrimary s) Answer.Committed) (inr (inl refl))))

-- a whole conversation with a commit in it is that of a committed transaction
whole_commits : (s : Ts) (what : Declared) (cells : List Cell) (said : List Received) (o : Outcome) → IsWhole s what cells said o → has_commit said ≡ true → Commits s what said
whole_commits s what cells said o (committed x others c) e = paid s what (x ∷ others) c (secondaries s others)
whole_commits s what cells said o (conflicted_first x after) e = cc
whole_commits s what cells said o (conflicted_later x y before after a cs can c) e = absurd (not_both _ e (ended_uncommitted s what _ _ _ refl (conflicted_later x y before after a cs can c)))
whole_commits s what cells said o (lost x others c cs k) e = absurd (not_both _ e (ended_uncommitted s what _ _ _ refl (lost x others c cs k)))

clears_some : (y : Cell) (left : List Cell) → has_clear (clears (y ∷ left)) ≡ true
unfolding clears
clears_some y left = refl

module _ (s : Ts) (what : Declared) (x : Cell) (others : List Cell) where
  -- where it clears, nothing was committed
  clearing_none : (o : Outcome) (done : List Cell) (y : Cell) (left : List Cell) (said cs : List Received) → AreCleared done cs → ((all : List Received) → AreCleared (done ++ y ∷ left) all → IsWhole s what (x ∷ others) (said ++ all) o)
      → has_commit (said ++ cs) ≡ true → ⊥
  clearing_none o done y left said cs c ends e =
      let rest = clears (y ∷ left) in
      let w = ends (cs ++ rest) (are_cleared done (y ∷ left) cs c) in
      grind (arith, by_form, commit_in, or_assoc, not_both, left_false, clear_in, true_right, clears_some)

  at_place : (p : PlanPlace) (said : List Received) → SoFar s what x others p said → has_commit said ≡ true → Commits s what said
  at_place p said declaring e = cc
  at_place p said (prewriting before y after at) e = absurd (not_both _ e (no_prewrite s before))
  at_place p said stamping e = absurd (not_both _ e (no_prewrite s (x ∷ others)))
  at_place p said (committing c) e = absurd (not_both _ e (none_after s (x ∷ others) (told (Step.Stamp s) (Answer.At c) ∷ []) refl))
  at_place p said (finishing c done y left at) e = paid s what (x ∷ others) c (secondaries s done)
  at_place p said (settling before y after at) e = absurd (not_both _ e (none_after s (x ∷ before) (told (Step.Prewrite s y) Answer.Conflict ∷ []) refl))
  at_place p all (clearing o done y left more said cs at c ends) e = absurd (clearing_none o done y left said cs c ends e)
  at_place p said (over o said' w) e = whole_commits s what (x ∷ others) said o w e

-- a change with a commit in its conversation is committed, wherever it stands
of_begun : (batch : Writes) (r : Received) (rest : List Received) (q : ChangeOf) → batch ≢ [] → HasBegun batch r rest q → has_commit (r ∷ rest) ≡ true → (start : Ts) × HasCommitted batch start (r ∷ rest)
of_begun [] r rest q some b e = absurd (some refl)
of_begun (w ∷ ws) r rest q some b e =
    let batch : Writes = w ∷ ws in
    let s : Ts = record { 0 = b.s } in
    let first : has_commit (told (Step.Begin Work.Script) (Answer.At s) ∷ rest) ≡ true = ap (λ (z : Received). has_commit (z ∷ rest)) (sym b.first) ∙ e in
    let so = said_all s (Declared.Script batch) w.0 _ refl b.plan rest b.said in
    let k = at_place s (Declared.Script batch) w.0 _ b.plan.place rest so first in
    (s, record { commit = k.0; begun = inl b.first; declared = inr k.1; stamped = inr k.2; committed = inr k.3 })

-- so a try that was cut off after its commit has committed its change
pub cut_commits : (batch : Writes) (part : List Received) (q : ChangeOf) → batch ≢ [] → Converses (new_change batch) part q → has_commit part ≡ true → (start : Ts) × HasCommitted batch start part
cut_commits batch [] q some t e = cc
cut_commits batch (r ∷ rest) q some t e = of_begun batch r rest q some (has_begun batch r rest q t) e
