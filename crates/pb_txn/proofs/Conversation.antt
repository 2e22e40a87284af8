-- What a plan has asked at each place, and that it is a beginning of a whole conversation.
use Rattle.std.proofs.Common.{◌≡◌, suc, ◌+◌, true, false, List, [], ◌∷◌, ◌++◌, length, refl, sym, ◌∙◌, ap, subst, arith, append_assoc, append-nil, length-append, Some, None, ltb, eqb, ne_eqb, slice_get, option_map}
use Rattle.std.proofs.lemmas.Bool.{lt-ltb, le-ltb}
use Rattle.pb_txn.specs.Words.{Cell, Ts, Declared, Step, Answer, CanAnswer, Received, took, went, no_part, one_part}
use Rattle.pb_txn.specs.declared.place.Outcome.{Outcome}
use Rattle.pb_txn.specs.declared.place.PlanPlace.{PlanPlace}
use Rattle.pb_txn.specs.Places.{declared_cells, place_after, after_prewrite, after_stamp, after_primary, prewrite_from, commit_from, clear_from, step_at}
use Rattle.pb_txn.specs.Plans.{PlanOf, fresh, outcome_at}
use Rattle.pb_txn.specs.Conversations.{told, Converses}
use Rattle.pb_txn.specs.Forms.{prewrites, secondaries, AreCleared, IsWhole, committed, conflicted_first, conflicted_later, lost, PlansConverse, PlansEnd, PlansStop}
use Rattle.pb_txn.proofs.PlanTransactions.{keeps_start_and_what}
use Rattle.pb_base.proofs.Logic.{same_some as some_some, none_some, some_none}

prewrites_append : (s : Ts) (xs ys : List Cell) → prewrites s (xs ++ ys) ≡ prewrites s xs ++ prewrites s ys
prewrites_append s [] ys = refl
prewrites_append s (x ∷ xs) ys = ap (λ rs. told (Step.Prewrite s x) Answer.Done ∷ rs) (prewrites_append s xs ys)

secondaries_append : (s : Ts) (xs ys : List Cell) → secondaries s (xs ++ ys) ≡ secondaries s xs ++ secondaries s ys
secondaries_append s [] ys = refl
secondaries_append s (x ∷ xs) ys = ap (λ rs. told (Step.CommitSecondary s x) Answer.Done ∷ rs) (secondaries_append s xs ys)

-- one more cell is cleared
cleared_more : (xs : List Cell) (rs : List Received) (y : Cell) (a : Answer) → AreCleared xs rs → CanAnswer (Step.Clear y) a → AreCleared (xs ++ y ∷ []) (rs ++ told (Step.Clear y) a ∷ [])
cleared_more [] rs y a c can = rw c (refl, can, refl)
cleared_more (x ∷ xs) [] y a c can = absurd c
cleared_more (x ∷ xs) (r ∷ rs) y a c can = (c.0, c.1, cleared_more xs rs y a c.2 can)

-- some way to clear them
unfoldable pub clears : List Cell → List Received
clears [] = []
clears (x ∷ xs) = told (Step.Clear x) Answer.Absent ∷ clears xs

-- and what was cleared, with them
pub are_cleared : (xs ys : List Cell) (rs : List Received) → AreCleared xs rs → AreCleared (xs ++ ys) (rs ++ clears ys)
unfolding clears
are_cleared [] [] rs c = rw c refl
are_cleared [] (y ∷ ys) rs c = rw c (refl, tt, are_cleared [] ys [] refl)
are_cleared (x ∷ xs) ys [] c = absurd c
are_cleared (x ∷ xs) ys (r ∷ rs) c = (c.0, c.1, are_cleared xs ys rs c.2)

-- what stands after the first part of a list
seam : {A : Type 0} (xs : List A) (y : A) (ys : List A) → slice_get (xs ++ y ∷ ys) (length xs) ≡ Some y
seam [] y ys = refl
seam (x ∷ xs) y ys = seam xs y ys

module _ (s : Ts) (what : Declared) (x : Cell) (others : List Cell) where
  abbrev cells : List Cell
  cells = x ∷ others

  abbrev Whole : List Received → Outcome → Type 0
  Whole said o = IsWhole s what cells said o

  abbrev declares : Received
  declares = told (Step.Declare s what) Answer.Done

  -- all prewritten, and more
  abbrev ready : List Received → List Received
  ready more = declares ∷ prewrites s cells ++ more

  -- the primary committed, and more
  abbrev paid : Ts → List Received → List Received
  paid c more = ready (told (Step.Stamp s) (Answer.At c) ∷ told (Step.CommitPrimary s) Answer.Committed ∷ more)

  ready_more : (xs ys : List Received) → ready xs ++ ys ≡ ready (xs ++ ys)
  ready_more xs ys = ap (λ rs. declares ∷ rs) (append_assoc (prewrites s cells) xs ys)

  pub data SoFar : PlanPlace → List Received → Type 0 where
    declaring : SoFar PlanPlace.Declaring []
    prewriting : (before : List Cell) (y : Cell) (after : List Cell) → cells ≡ before ++ y ∷ after → SoFar (PlanPlace.Prewriting (length before)) (declares ∷ prewrites s before)
    stamping : SoFar PlanPlace.Stamping (declares ∷ prewrites s cells)
    committing : (c : Ts) → SoFar (PlanPlace.CommittingPrimary c) (ready (told (Step.Stamp s) (Answer.At c) ∷ []))
    finishing : (c : Ts) (done : List Cell) (y : Cell) (left : List Cell) → others ≡ done ++ y ∷ left → SoFar (PlanPlace.CommittingSecondary c (suc (length done))) (paid c (secondaries s done))
    settling : (before : List Cell) (y : Cell) (after : List Cell) → cells ≡ x ∷ before ++ y ∷ after
        → SoFar (PlanPlace.Settling (suc (length before))) (declares ∷ prewrites s (x ∷ before) ++ told (Step.Prewrite s y) Answer.Conflict ∷ [])
    clearing : (o : Outcome) (done : List Cell) (y : Cell) (left more : List Cell) (said cs : List Received) → cells ≡ x ∷ done ++ y ∷ (left ++ more)
        → AreCleared done cs → ((all : List Received) → AreCleared (done ++ y ∷ left) all → Whole (said ++ all) o)
        → SoFar (PlanPlace.Clearing (suc (length done)) (suc (length (done ++ y ∷ left))) o) (said ++ cs)
    over : (o : Outcome) (said : List Received) → Whole said o → SoFar (PlanPlace.Over o) said

  -- ---- the next place

  -- the next prewrite, or the stamp
  prewriting_next : (before after : List Cell) → cells ≡ before ++ after → SoFar (prewrite_from (length cells) (length before)) (declares ∷ prewrites s before)
  prewriting_next before [] is =
      let all : cells ≡ before = is ∙ append-nil before in
      let no : ltb (length cells) (length cells) ≡ false = le-ltb (length cells) (length cells) (omega arith) in
      subst (λ b. SoFar (prewrite_from (length cells) (length b)) (declares ∷ prewrites s b)) all (rw no stamping)
  prewriting_next before (y ∷ after) is =
      let yes : ltb (length before) (length cells) ≡ true = lt-ltb _ _ (omega (arith, ap length is, length-append before (y ∷ after))) in
      rw yes (prewriting before y after is)

  -- the next secondary to commit, or the end
  finishing_next : (c : Ts) (done left : List Cell) → others ≡ done ++ left → SoFar (commit_from (length cells) c (suc (length done))) (paid c (secondaries s done))
  finishing_next c done [] is =
      let all : others ≡ done = is ∙ append-nil done in
      let no : ltb (suc (length others)) (length cells) ≡ false = le-ltb _ _ (omega arith) in
      subst (λ d. SoFar (commit_from (length cells) c (suc (length d))) (paid c (secondaries s d))) all (rw no (over (Outcome.Committed c) _ (committed x others c)))
  finishing_next c done (y ∷ left) is =
      let yes : ltb (suc (length done)) (length cells) ≡ true = lt-ltb _ _ (omega (arith, ap length is, length-append done (y ∷ left))) in
      rw yes (finishing c done y left is)

  -- the next to clear, or the end
  clearing_next : (o : Outcome) (done left more : List Cell) (said cs : List Received) → cells ≡ x ∷ done ++ (left ++ more)
      → AreCleared done cs → ((all : List Received) → AreCleared (done ++ left) all → Whole (said ++ all) o)
      → SoFar (clear_from (suc (length done)) (suc (length (done ++ left))) o) (said ++ cs)
  clearing_next o done [] more said cs is c ends =
      let no : ltb (suc (length done)) (suc (length (done ++ []))) ≡ false = le-ltb _ _ (omega (arith, length-append done [])) in
      rw no (over o (said ++ cs) (ends cs (rw append-nil c)))
  clearing_next o done (y ∷ left) more said cs is c ends =
      let yes : ltb (suc (length done)) (suc (length (done ++ y ∷ left))) ≡ true = lt-ltb _ _ (omega (arith, length-append done (y ∷ left))) in
      rw yes (clearing o done y left more said cs is c ends)

  -- ---- one more answer

  first_more : (a : Answer) → CanAnswer (Step.Declare s what) a → SoFar (prewrite_from (length cells) 0) (told (Step.Declare s what) a ∷ [])
  first_more Answer.Done can = prewriting_next [] cells refl
  first_more _ can = absurd can

  prewrite_more : (before : List Cell) (y : Cell) (after : List Cell) → cells ≡ before ++ y ∷ after → (a : Answer) → CanAnswer (Step.Prewrite s y) a
      → SoFar (after_prewrite (length cells) (length before) a) ((declares ∷ prewrites s before) ++ told (Step.Prewrite s y) a ∷ [])
  prewrite_more before y after is Answer.Done can =
      let said : declares ∷ prewrites s (before ++ y ∷ []) ≡ (declares ∷ prewrites s before) ++ told (Step.Prewrite s y) Answer.Done ∷ [] = ap (λ rs. declares ∷ rs) (prewrites_append s before (y ∷ [])) in
      let count : length (before ++ y ∷ []) ≡ length before + 1 = omega (arith, length-append before (y ∷ [])) in
      let next = prewriting_next (before ++ y ∷ []) after (is ∙ sym (append_assoc before (y ∷ []) after)) in
      subst (λ rs. SoFar (prewrite_from (length cells) (length before + 1)) rs) said (subst (λ n. SoFar (prewrite_from (length cells) n) (declares ∷ prewrites s (before ++ y ∷ []))) count next)
  prewrite_more [] y after is Answer.Conflict can =
      let same : x ≡ y = cc in
      subst (λ z. SoFar (PlanPlace.Over Outcome.Conflicted) (declares ∷ told (Step.Prewrite s z) Answer.Conflict ∷ [])) same (over _ _ (conflicted_first x others))
  prewrite_more (b ∷ before) y after is Answer.Conflict can =
      let same : b ≡ x = cc in
      let no : eqb (suc (length before)) 0 ≡ false = ne_eqb (suc (length before)) 0 (λ e. cc) in
      rw no (subst (λ z. SoFar (PlanPlace.Settling (suc (length before))) (declares ∷ prewrites s (z ∷ before) ++ told (Step.Prewrite s y) Answer.Conflict ∷ [])) (sym same)
      (settling before y after (is ∙ ap (λ z. z ∷ before ++ y ∷ after) same)))
  prewrite_more before y after is _ can = absurd can

  stamp_more : (a : Answer) → CanAnswer (Step.Stamp s) a → SoFar (after_stamp a) ((declares ∷ prewrites s cells) ++ told (Step.Stamp s) a ∷ [])
  stamp_more (Answer.At c) can = committing c
  stamp_more _ can = absurd can

  primary_more : (c : Ts) (a : Answer) → CanAnswer (Step.CommitPrimary s) a → SoFar (after_primary (length cells) c a) (ready (told (Step.Stamp s) (Answer.At c) ∷ []) ++ told (Step.CommitPrimary s) a ∷ [])
  primary_more c Answer.Committed can =
      subst (λ rs. SoFar (commit_from (length cells) c 1) rs) (sym (ready_more (told (Step.Stamp s) (Answer.At c) ∷ []) (told (Step.CommitPrimary s) Answer.Committed ∷ []))) (finishing_next c [] others refl)
  primary_more c Answer.Lost can =
      let said = ready (told (Step.Stamp s) (Answer.At c) ∷ []) ++ told (Step.CommitPrimary s) Answer.Lost ∷ [] in
      let is : (all : List Received) → said ++ all ≡ ready (told (Step.Stamp s) (Answer.At c) ∷ told (Step.CommitPrimary s) Answer.Lost ∷ all) =
      λ all. ap (λ rs. rs ++ all) (ready_more (told (Step.Stamp s) (Answer.At c) ∷ []) (told (Step.CommitPrimary s) Answer.Lost ∷ [])) ∙ ready_more (told (Step.Stamp s) (Answer.At c) ∷ told (Step.CommitPrimary s) Answer.Lost ∷ []) all in
      let ends : (all : List Received) → AreCleared others all → Whole (said ++ all) Outcome.Lost = λ all k. subst (λ rs. Whole rs Outcome.Lost) (sym (is all)) (lost x others c all k) in
      subst (λ rs. SoFar (clear_from 1 (length cells) Outcome.Lost) rs) (append-nil said) (clearing_next Outcome.Lost [] others [] said [] (rw append-nil refl) refl ends)
  primary_more c _ can = absurd can

  secondary_more : (c : Ts) (done : List Cell) (y : Cell) (left : List Cell) → others ≡ done ++ y ∷ left → (a : Answer) → CanAnswer (Step.CommitSecondary s y) a
      → SoFar (commit_from (length cells) c (suc (length done) + 1)) (paid c (secondaries s done) ++ told (Step.CommitSecondary s y) a ∷ [])
  secondary_more c done y left is Answer.Done can =
      let said : paid c (secondaries s (done ++ y ∷ [])) ≡ paid c (secondaries s done) ++ told (Step.CommitSecondary s y) Answer.Done ∷ [] =
      ap (paid c) (secondaries_append s done (y ∷ [])) ∙ sym (ready_more (told (Step.Stamp s) (Answer.At c) ∷ told (Step.CommitPrimary s) Answer.Committed ∷ secondaries s done) (told (Step.CommitSecondary s y) Answer.Done ∷ [])) in
      let count : suc (length (done ++ y ∷ [])) ≡ suc (length done) + 1 = omega (arith, length-append done (y ∷ [])) in
      let next = finishing_next c (done ++ y ∷ []) left (is ∙ sym (append_assoc done (y ∷ []) left)) in
      subst (λ rs. SoFar (commit_from (length cells) c (suc (length done) + 1)) rs) said (subst (λ n. SoFar (commit_from (length cells) c n) (paid c (secondaries s (done ++ y ∷ [])))) count next)
  secondary_more c done y left is _ can = absurd can

  settle_more : (before : List Cell) (y : Cell) (after : List Cell) → cells ≡ x ∷ before ++ y ∷ after → (a : Answer) → CanAnswer (Step.Settle x) a
      → SoFar (clear_from 1 (suc (length before)) Outcome.Conflicted) ((declares ∷ prewrites s (x ∷ before) ++ told (Step.Prewrite s y) Answer.Conflict ∷ []) ++ told (Step.Settle x) a ∷ [])
  settle_more before y after is a can =
      let put = declares ∷ prewrites s (x ∷ before) in
      let said = (put ++ told (Step.Prewrite s y) Answer.Conflict ∷ []) ++ told (Step.Settle x) a ∷ [] in
      let whole : (all : List Received) → said ++ all ≡ put ++ told (Step.Prewrite s y) Answer.Conflict ∷ told (Step.Settle x) a ∷ all =
      λ all. append_assoc (put ++ told (Step.Prewrite s y) Answer.Conflict ∷ []) (told (Step.Settle x) a ∷ []) all ∙ append_assoc put (told (Step.Prewrite s y) Answer.Conflict ∷ []) (told (Step.Settle x) a ∷ all) in
      let P : List Cell → List Received → Type 0 = λ cs all. IsWhole s what cs (declares ∷ prewrites s (x ∷ before) ++ told (Step.Prewrite s y) Answer.Conflict ∷ told (Step.Settle x) a ∷ all) Outcome.Conflicted in
      let ends : (all : List Received) → AreCleared before all → Whole (said ++ all) Outcome.Conflicted =
      λ all c. subst (λ rs. Whole rs Outcome.Conflicted) (sym (whole all)) (subst (λ cs. P cs all) (sym is) (conflicted_later x y before after a all can c)) in
      subst (λ rs. SoFar (clear_from 1 (suc (length before)) Outcome.Conflicted) rs) (append-nil said) (clearing_next Outcome.Conflicted [] before (y ∷ after) said [] is refl ends)

  clear_more : (o : Outcome) (done : List Cell) (y : Cell) (left more : List Cell) (said cs : List Received) → cells ≡ x ∷ done ++ y ∷ (left ++ more)
      → AreCleared done cs → ((all : List Received) → AreCleared (done ++ y ∷ left) all → Whole (said ++ all) o)
      → (a : Answer) → CanAnswer (Step.Clear y) a
      → SoFar (clear_from (suc (length done) + 1) (suc (length (done ++ y ∷ left))) o) ((said ++ cs) ++ told (Step.Clear y) a ∷ [])
  clear_more o done y left more said cs is c ends a can =
      let split : (ys : List Cell) → (done ++ y ∷ []) ++ ys ≡ done ++ y ∷ ys = λ ys. append_assoc done (y ∷ []) ys in
      let count : suc (length (done ++ y ∷ [])) ≡ suc (length done) + 1 = omega (arith, length-append done (y ∷ [])) in
      let next = clearing_next o (done ++ y ∷ []) left more said (cs ++ told (Step.Clear y) a ∷ []) (is ∙ ap (λ ys. x ∷ ys) (sym (split (left ++ more)))) (cleared_more done cs y a c can)
      (λ all k. ends all (subst (λ ys. AreCleared ys all) (split left) k)) in
      grind (arith, append_assoc)

  of_step : (t u : Step) → Some t ≡ Some u → t ≡ u
  of_step t u e = cc

  module _ (cells_are : declared_cells what ≡ cells) where
    -- the cell of the declaration at the end of the first part of the cells
    at_seam : (before : List Cell) (y : Cell) (after : List Cell) → cells ≡ before ++ y ∷ after → slice_get (declared_cells what) (length before) ≡ Some y
    at_seam before y after at = ap (λ xs. slice_get xs (length before)) (cells_are ∙ at) ∙ seam before y after

    pub said_more : (p : PlanPlace) (l : List Received) (t : Step) (a : Answer) → SoFar p l → step_at s.0 what p ≡ Some t → CanAnswer t a
        → SoFar (place_after (length cells) p a) (l ++ told t a ∷ [])
    said_more p l t a declaring e can =
        subst (λ u. CanAnswer u a → SoFar (prewrite_from (length cells) 0) (told u a ∷ [])) (of_step (Step.Declare s what) t e) (first_more a) can
    said_more p l t a (prewriting before y after at) e can =
        let is : Step.Prewrite s y ≡ t = of_step _ t (ap (option_map (λ z. Step.Prewrite s z)) (sym (at_seam before y after at)) ∙ e) in
        subst (λ u. CanAnswer u a → SoFar (after_prewrite (length cells) (length before) a) ((declares ∷ prewrites s before) ++ told u a ∷ [])) is (prewrite_more before y after at a) can
    said_more p l t a stamping e can =
        subst (λ u. CanAnswer u a → SoFar (after_stamp a) ((declares ∷ prewrites s cells) ++ told u a ∷ [])) (of_step _ t e) (stamp_more a) can
    said_more p l t a (committing c) e can = grind (arith, of_step, primary_more)
    said_more p l t a (finishing c done y left at) e can =
        let is : Step.CommitSecondary s y ≡ t = of_step _ t (ap (option_map (λ z. Step.CommitSecondary s z)) (sym (at_seam (x ∷ done) y left (ap (λ xs. x ∷ xs) at))) ∙ e) in
        subst (λ u. CanAnswer u a → SoFar (commit_from (length cells) c (suc (length done) + 1)) (paid c (secondaries s done) ++ told u a ∷ [])) is (secondary_more c done y left at a) can
    said_more p l t a (settling before y after at) e can = grind (arith, of_step, at_seam, settle_more)
    said_more p l t a (clearing o done y left more said cs at c ends) e can =
        let is : Step.Clear y ≡ t = of_step _ t (ap (option_map (λ z. Step.Clear z)) (sym (at_seam (x ∷ done) y (left ++ more) at)) ∙ e) in
        subst (λ u. CanAnswer u a → SoFar (clear_from (suc (length done) + 1) (suc (length (done ++ y ∷ left))) o) ((said ++ cs) ++ told u a ∷ [])) is (clear_more o done y left more said cs at c ends a) can
    said_more p l t a (over o said whole) e can = absurd (none_some t e)

    no_step : {A : Type 0} (f : Cell → A) (before : List Cell) (y : Cell) (after : List Cell) → cells ≡ before ++ y ∷ after → option_map f (slice_get (declared_cells what) (length before)) ≡ None → ⊥
    no_step f before y after at e = some_none _ (ap (option_map f) (sym (at_seam before y after at)) ∙ e)

    -- where there is no step, it is over
    pub no_step_is_over : (p : PlanPlace) (l : List Received) → SoFar p l → step_at s.0 what p ≡ None → (o : Outcome) × (outcome_at p ≡ Some o)
    no_step_is_over p l declaring e = absurd (some_none _ e)
    no_step_is_over p l (prewriting before y after at) e = absurd (no_step (λ z. Step.Prewrite s z) before y after at e)
    no_step_is_over p l stamping e = absurd (some_none _ e)
    no_step_is_over p l (committing c) e = absurd (some_none _ e)
    no_step_is_over p l (finishing c done y left at) e = absurd (no_step (λ z. Step.CommitSecondary s z) (x ∷ done) y left (ap (λ xs. x ∷ xs) at) e)
    no_step_is_over p l (settling before y after at) e = absurd (no_step (λ z. Step.Settle z) [] x others refl e)
    no_step_is_over p l (clearing o done y left more said cs at c ends) e = absurd (no_step (λ z. Step.Clear z) (x ∷ done) y (left ++ more) at e)
    no_step_is_over p l (over o said whole) e = (o, refl)

    -- so has all that a plan has asked
    pub said_all : (q : PlanOf) (said : List Received) → Converses (fresh s.0 what) said q → SoFar q.place said
    said_all q said no_part = declaring
    said_all q said (one_part p u had more talk (took r next can to)) =
        let same = keeps_start_and_what (fresh s.0 what) p had talk in
        let step : step_at s.0 what p.place ≡ Some r.step = (λ i. step_at (sym same.0 i) (sym same.1 i) p.place) ∙ next in
        let count : length (declared_cells p.what) ≡ length cells = ap (λ w. length (declared_cells w)) same.1 ∙ ap length cells_are in
        subst (λ (z : PlanOf). SoFar z.place (had ++ r ∷ [])) (sym to) (subst (λ n. SoFar (place_after n p.place r.answer) (had ++ r ∷ [])) (sym count) (said_more p.place had r.step r.answer (said_all p had talk) step can))
    said_all q said (one_part p u had more talk (went none)) = absurd none

  -- ---- what has been said can be ended

  pub can_end : (p : PlanPlace) (l : List Received) → SoFar p l → (rest : List Received) × (o : Outcome) × Whole (l ++ rest) o
  can_end p l declaring = (paid (record { 0 = 0 }) (secondaries s others), Outcome.Committed (record { 0 = 0 }), committed x others _)
  can_end p l (prewriting before y after at) =
      let c : Ts = record { 0 = 0 } in
      let ends = told (Step.Stamp s) (Answer.At c) ∷ told (Step.CommitPrimary s) Answer.Committed ∷ secondaries s others in
      let rest = prewrites s (y ∷ after) ++ ends in
      let all : (declares ∷ prewrites s before) ++ rest ≡ paid c (secondaries s others) =
      ap (λ rs. declares ∷ rs) (sym (append_assoc (prewrites s before) (prewrites s (y ∷ after)) ends) ∙ ap (λ rs. rs ++ ends) (sym (prewrites_append s before (y ∷ after)) ∙ ap (λ xs. prewrites s xs) (sym at))) in
      (rest, Outcome.Committed c, subst (λ rs. Whole rs (Outcome.Committed c)) (sym all) (committed x others c))
  can_end p l stamping = let c : Ts = record { 0 = 0 } in (told (Step.Stamp s) (Answer.At c) ∷ told (Step.CommitPrimary s) Answer.Committed ∷ secondaries s others, Outcome.Committed c, committed x others c)
  can_end p l (committing c) =
      let rest = told (Step.CommitPrimary s) Answer.Committed ∷ secondaries s others in
      (rest, Outcome.Committed c, subst (λ rs. Whole rs (Outcome.Committed c)) (sym (ready_more (told (Step.Stamp s) (Answer.At c) ∷ []) rest)) (committed x others c))
  can_end p l (finishing c done y left at) =
      let rest = secondaries s (y ∷ left) in
      let all : paid c (secondaries s done) ++ rest ≡ paid c (secondaries s others) =
      ready_more (told (Step.Stamp s) (Answer.At c) ∷ told (Step.CommitPrimary s) Answer.Committed ∷ secondaries s done) rest ∙ ap (paid c) (sym (secondaries_append s done (y ∷ left)) ∙ ap (secondaries s) (sym at)) in
      (rest, Outcome.Committed c, subst (λ rs. Whole rs (Outcome.Committed c)) (sym all) (committed x others c))
  can_end p l (settling before y after at) =
      let put = declares ∷ prewrites s (x ∷ before) in
      let rest = told (Step.Settle x) Answer.Absent ∷ clears before in
      let P : List Cell → Type 0 = λ cs. IsWhole s what cs (declares ∷ prewrites s (x ∷ before) ++ told (Step.Prewrite s y) Answer.Conflict ∷ rest) Outcome.Conflicted in
      (rest, Outcome.Conflicted, subst (λ rs. Whole rs Outcome.Conflicted) (sym (append_assoc put (told (Step.Prewrite s y) Answer.Conflict ∷ []) rest)) (subst P (sym at) (conflicted_later x y before after Answer.Absent (clears before) tt (are_cleared [] before [] refl))))
  can_end p l (clearing o done y left more said cs at c ends) =
      let rest = clears (y ∷ left) in
      (rest, o, subst (λ rs. Whole rs o) (sym (append_assoc said cs rest)) (ends (cs ++ rest) (are_cleared done (y ∷ left) cs c)))
  can_end p l (over o said whole) = ([], o, rw append-nil whole)

  pub over_is_whole : (p : PlanPlace) (l : List Received) (o : Outcome) → SoFar p l → outcome_at p ≡ Some o → Whole l o
  over_is_whole p l o declaring e = absurd (none_some o e)
  over_is_whole p l o (prewriting before y after at) e = absurd (none_some o e)
  over_is_whole p l o stamping e = absurd (none_some o e)
  over_is_whole p l o (committing c) e = absurd (none_some o e)
  over_is_whole p l o (finishing c done y left at) e = absurd (none_some o e)
  over_is_whole p l o (settling before y after at) e = absurd (none_some o e)
  over_is_whole p l o (clearing w done y left more said cs at c ends) e = absurd (none_some o e)
  over_is_whole p l o (over w said whole) e = subst (λ z. Whole said z) (some_some w o e) whole

-- the conversation at any place can be ended, by commits while none was refused, and else by clearing what is left
pub plans_converse : PlansConverse
plans_converse s what x others said q is t =
    let so = said_all (record { 0 = s }) what x others is q said t in
    let r = can_end (record { 0 = s }) what x others q.place said so in
    (r.0, (r.1, subst (λ cs. IsWhole (record { 0 = s }) what cs (said ++ r.0) r.1) (sym is) r.2))

pub plans_end : PlansEnd
plans_end s what x others said q o is t e =
    subst (λ cs. IsWhole (record { 0 = s }) what cs said o) (sym is)
    (over_is_whole (record { 0 = s }) what x others q.place said o (said_all (record { 0 = s }) what x others is q said t) e)

-- at every place but the end there is a step, since the cells that a place names are declared
pub plans_stop : PlansStop
plans_stop s what x others said q is t e =
    let same = keeps_start_and_what (fresh s what) q said t in
    no_step_is_over (record { 0 = s }) what x others is q.place said (said_all (record { 0 = s }) what x others is q said t) ((λ i. step_at (sym same.0 i) (sym same.1 i) q.place) ∙ e)
