-- What a transaction has come to at each place of its plan.
use Rattle.std.proofs.Common.{◌≡◌, ℕ, ◌+◌, Bool, true, cond, List, [], ◌∷◌, ◌++◌, length, map, take, Option, Some, refl, sym, ap, subst, ◌∙◌, arith, add-one, slice_get, option_map, ◌==◌, nat_lt, filter}
use Rattle.pb_txn.specs.Words.{Cell, Ts, Phase, Declared, Step, Answer, CanAnswer, is_stamped, is_committed, ObserverOf, TransactionOf, cells_of, Entry, Received, committed_phase, transaction_from}
use Rattle.pb_steps.specs.declared.phase.Phase.TheVariants as phases
use Rattle.pb_txn.specs.declared.place.Outcome.{Outcome}
use Rattle.pb_txn.specs.declared.place.PlanPlace.{PlanPlace}
use Rattle.pb_txn.specs.Places.{declared_cells, place_after, after_prewrite, after_stamp, after_primary, prewrite_from, commit_from, clear_from, step_at}
use Rattle.pb_txn.specs.Plans.{PlanOf, next_of, answered}
use Rattle.pb_txn.specs.Conversations.{Converses}
use Rattle.pb_txn.specs.Allowed.{names}
use Rattle.pb_conversations.proofs.Asking.{conversation_unfolds}
use Rattle.pb_txn.proofs.DistinctCells.{take_one, take_all}
use Rattle.pb_base.proofs.Logic.{same_some as same_step, same_some as same_transaction, same_number as itself}

-- the cell that a step is about
pub cell_of : (f : Cell → Step) (o : Option Cell) (t : Step) → option_map f o ≡ Some t → (x : Cell) × (o ≡ Some x) × (f x ≡ t)
cell_of f o t e = grind arith

-- the cells have this phase, and these are prewritten
abbrev pub IsAt : List Cell → PlanPlace → TransactionOf → Type 0
IsAt cells PlanPlace.Declaring u = (u.phase ≡ Phase.Reading) × (u.prewritten ≡ [])
IsAt cells (PlanPlace.Prewriting k) u = (u.phase ≡ Phase.Declared) × (u.prewritten ≡ take k cells)
IsAt cells PlanPlace.Stamping u = (u.phase ≡ Phase.Declared) × (u.prewritten ≡ cells)
IsAt cells (PlanPlace.CommittingPrimary c) u = is_stamped u.phase ≡ true
IsAt cells (PlanPlace.CommittingSecondary c k) u = is_committed u.phase ≡ true
IsAt cells _ u = Unit {0}

-- what a seat received, as the journal's entry of it
abbrev pub entry_of : ℕ → Received → Entry
entry_of seat r = record { seat = seat; step = r.step; answer = r.answer }

pub map_cond : {A B : Type 0} (f : A → B) (b : Bool) (x : A) (xs : List A) → map f (cond b (x ∷ xs) xs) ≡ cond b (f x ∷ map f xs) (map f xs)
map_cond f b x xs = grind arith

module _ (observers : List ObserverOf) (seat s : ℕ) (what : Declared) where
  abbrev cells : List Cell
  cells = declared_cells what

  abbrev start : Ts
  start = record { 0 = s }

  -- ---- where an answer leads

  prewriting_next : (k : ℕ) (u : TransactionOf) → u.phase ≡ Phase.Declared → u.prewritten ≡ take k cells → IsAt cells (prewrite_from (length cells) k) u
  prewriting_next k u phase put = grind (arith, take_all)

  by_lt : (b : Bool) (p q : PlanPlace) (u : TransactionOf) → IsAt cells p u → IsAt cells q u → IsAt cells (cond b p q) u
  by_lt b p q u i j = grind arith

  -- ---- one answered step

  -- the transaction that it makes
  pub record Makes (place : PlanPlace) (step : Step) (answer : Answer) (u : TransactionOf) : Type 0 where
    pub v : TransactionOf
    pub at : IsAt cells place v
    pub told : (es : List Entry)
        → transaction_from observers (Some u) (cond (names s step) (record { seat = seat; step = step; answer = answer } ∷ es) es) ≡ transaction_from observers (Some v) es

  after_declare : (u : TransactionOf) (a : Answer) → IsAt cells PlanPlace.Declaring u → CanAnswer (Step.Declare start what) a → Makes (prewrite_from (length cells) 0) (Step.Declare start what) a u
  after_declare u Answer.Done i can =
      let v : TransactionOf = record u { phase = Phase.Declared; declared = cells_of observers u.work s what } in
      record { v = v; at = prewriting_next 0 v refl i.1; told = λ es. rw (itself s) refl }
  after_declare u _ i can = absurd can

  prewrites : (k : ℕ) (x : Cell) (u : TransactionOf) (a : Answer) → slice_get cells k ≡ Some x → IsAt cells (PlanPlace.Prewriting k) u → CanAnswer (Step.Prewrite start x) a
      → Makes (after_prewrite (length cells) k a) (Step.Prewrite start x) a u
  prewrites k x u Answer.Done here i can =
      let v : TransactionOf = record u { prewritten = u.prewritten ++ x ∷ [] } in
      let put : u.prewritten ++ x ∷ [] ≡ take (k + 1) cells = ap (λ ys. ys ++ x ∷ []) i.1 ∙ take_one cells k x here ∙ ap (λ n. take n cells) (sym (add-one k)) in
      record { v = v; at = prewriting_next (k + 1) v i.0 put; told = λ es. rw (itself s) refl }
  prewrites k x u Answer.Conflict here i can =
      let v : TransactionOf = record u { phase = Phase.Failed } in
      record { v = v; at = by_lt (k == 0) (PlanPlace.Over Outcome.Conflicted) (PlanPlace.Settling k) v tt tt; told = λ es. rw (itself s) refl }
  prewrites k x u _ here i can = absurd can

  after_stamped : (u : TransactionOf) (a : Answer) → IsAt cells PlanPlace.Stamping u → CanAnswer (Step.Stamp start) a → Makes (after_stamp a) (Step.Stamp start) a u
  after_stamped u (Answer.At c) i can = record { v = record u { phase = Phase.Stamped c }; at = refl; told = λ es. rw (itself s) refl }
  after_stamped u _ i can = absurd can

  then_committed : (h : phases.the_data) → is_stamped h ≡ true → is_committed (committed_phase h) ≡ true
  then_committed h e = grind arith

  commits : (c : Ts) (u : TransactionOf) (a : Answer) → IsAt cells (PlanPlace.CommittingPrimary c) u → CanAnswer (Step.CommitPrimary start) a
      → Makes (after_primary (length cells) c a) (Step.CommitPrimary start) a u
  commits c u Answer.Committed i can =
      let v : TransactionOf = record u { phase = committed_phase u.phase } in
      record { v = v; at = by_lt (nat_lt 1 (length cells)) (PlanPlace.CommittingSecondary c 1) (PlanPlace.Over (Outcome.Committed c)) v (then_committed u.phase i) tt; told = λ es. rw (itself s) refl }
  commits c u Answer.Lost i can =
      let v : TransactionOf = record u { phase = Phase.Failed } in
      record { v = v; at = by_lt (nat_lt 1 (length cells)) (PlanPlace.Clearing 1 (length cells) Outcome.Lost) (PlanPlace.Over Outcome.Lost) v tt tt; told = λ es. rw (itself s) refl }
  commits c u _ i can = absurd can

  finishes : (c : Ts) (k : ℕ) (x : Cell) (u : TransactionOf) (a : Answer) → IsAt cells (PlanPlace.CommittingSecondary c k) u → CanAnswer (Step.CommitSecondary start x) a
      → Makes (commit_from (length cells) c (k + 1)) (Step.CommitSecondary start x) a u
  finishes c k x u Answer.Done i can =
      record { v = u; at = by_lt (nat_lt (k + 1) (length cells)) (PlanPlace.CommittingSecondary c (k + 1)) (PlanPlace.Over (Outcome.Committed c)) u i tt; told = λ es. rw (itself s) refl }
  finishes c k x u _ i can = absurd can

  clears : (k end : ℕ) (o : Outcome) (u : TransactionOf) → IsAt cells (clear_from k end o) u
  clears k end o u = by_lt (nat_lt k end) (PlanPlace.Clearing k end o) (PlanPlace.Over o) u tt tt

  one : (p : PlanPlace) (u : TransactionOf) (t : Step) (a : Answer) → IsAt cells p u → step_at s what p ≡ Some t → CanAnswer t a → Makes (place_after (length cells) p a) t a u
  one PlanPlace.Declaring u t a i e can = grind (arith, same_step, after_declare)
  one (PlanPlace.Prewriting k) u t a i e can = grind (arith, cell_of, prewrites)
  one PlanPlace.Stamping u t a i e can = subst (λ z. CanAnswer z a → Makes (after_stamp a) z a u) (same_step (Step.Stamp start) t e) (after_stamped u a i) can
  one (PlanPlace.CommittingPrimary c) u t a i e can = grind (arith, same_step, commits)
  one (PlanPlace.CommittingSecondary c k) u t a i e can = grind (arith, cell_of, finishes)
  one (PlanPlace.Settling k) u t a i e can =
      let is = cell_of (λ x. Step.Settle x) (slice_get cells 0) t e in
      subst (λ z. Makes (clear_from 1 k Outcome.Conflicted) z a u) is.2 (record { v = u; at = clears 1 k Outcome.Conflicted u; told = λ es. refl })
  one (PlanPlace.Clearing k end o) u t a i e can =
      let is = cell_of (λ x. Step.Clear x) (slice_get cells k) t e in
      subst (λ z. Makes (clear_from (k + 1) end o) z a u) is.2 (record { v = u; at = clears (k + 1) end o u; told = λ es. refl })
  one (PlanPlace.Over o) u t a i e can = absurd cc

  -- ---- all of them

  pub stays_at_place : (p q : PlanOf) (said : List Received) (u t : TransactionOf) → p.start ≡ s → p.what ≡ what → IsAt cells p.place u → Converses p said q
      → transaction_from observers (Some u) (map (entry_of seat) (filter (λ r. names s r.step) said)) ≡ Some t → IsAt cells q.place t
  stays_at_place p q [] u t s-is w-is i talk told = subst (λ (z : PlanOf). IsAt cells z.place t) (sym (conversation_unfolds next_of answered p q [] talk)) (subst (IsAt cells p.place) (same_transaction u t told) i)
  stays_at_place p q (r ∷ rs) u t s-is w-is i talk told =
      let first = conversation_unfolds next_of answered p q (r ∷ rs) talk in
      let next : step_at s what p.place ≡ Some r.step = (λ j. step_at (sym s-is j) (sym w-is j) p.place) ∙ first.0 in
      let m = one p.place u r.step r.answer i next first.1 in
      let on = map (entry_of seat) (filter (λ x. names s x.step) rs) in
      let at : IsAt cells (answered p r.answer).place m.v = subst (λ w. IsAt cells (place_after (length (declared_cells w)) p.place r.answer) m.v) (sym w-is) m.at in
      let rest : transaction_from observers (Some m.v) on ≡ Some t =
      sym (m.told on) ∙ ap (transaction_from observers (Some u)) (sym (map_cond (entry_of seat) (names s r.step) r (filter (λ x. names s x.step) rs))) ∙ told in
      stays_at_place (answered p r.answer) q rs m.v t s-is w-is at first.2 rest
