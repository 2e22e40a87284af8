-- The transaction of a plan, whose entries are the plan's conversation, has come to where the plan stands.
use Rattle.std.proofs.Common.{arith, ◌≡◌, ℕ, inl, inr, true, false, cond, List, [], ◌∷◌, map, Some, refl, sym, ap, subst, ◌∙◌, ◌==◌, filter}
use Rattle.std.specs.FinMap as finite
use Rattle.pb_txn.specs.Words.{are_distinct, Declared, Step, Answer, CanAnswer, StateOf, TransactionOf, new_transaction, Entry, Received, Has, IsEntry, TellsHistory, TellsTransactions, transaction_from, took, went, no_part, one_part}
use Rattle.pb_conversations.proofs.Asking.{conversation_unfolds}
use Rattle.pb_txn.specs.declared.place.PlanPlace.{PlanPlace}
use Rattle.pb_txn.specs.Places.{declared_cells}
use Rattle.pb_txn.specs.Plans.{PlanOf, fresh, next_of, answered}
use Rattle.pb_txn.specs.Conversations.{Converses}
use Rattle.pb_txn.specs.Allowed.{names, HasSaid, IsWorkInRange}
use Rattle.pb_txn.proofs.DeclaredCells.{cells_are}
use Rattle.pb_txn.proofs.WithoutReads.{bare, named_in, follows_from_entries}
use Rattle.pb_txn.proofs.PlanPlaces.{IsAt, entry_of, stays_at_place}
use Rattle.pb_base.proofs.Logic.{one_value as same_transaction, same_some as same_step}

-- a plan keeps its start and its declaration
pub keeps_start_and_what : (p q : PlanOf) (said : List Received) → Converses p said q → (q.start ≡ p.start) × (q.what ≡ p.what)
keeps_start_and_what p q said no_part = (refl, refl)
keeps_start_and_what p q said (one_part t u had more talk (took r next can to)) =
    let same = keeps_start_and_what p t had talk in
    (ap (λ (z : PlanOf). z.start) to ∙ same.0, ap (λ (z : PlanOf). z.what) to ∙ same.1)
keeps_start_and_what p q said (one_part t u had more talk (went none)) = absurd none

-- ---- what was declared

-- distinct cells, those of the plan
pub record HasCells (what : Declared) (t : TransactionOf) : Type 0 where
  pub are : map (λ w. w.0) t.declared ≡ declared_cells what
  pub apart : are_distinct t.declared ≡ true

-- needed once the declaration was answered
abbrev pub HasCellsAt : PlanPlace → Declared → TransactionOf → Type 0
HasCellsAt PlanPlace.Declaring what t = Unit {0}
HasCellsAt _ what t = HasCells what t

has_cells : (p : PlanPlace) (what : Declared) (t : TransactionOf) → HasCells what t → HasCellsAt p what t
has_cells p what t h = grind arith

-- an entry that names the start is one of the journal
in_filter : (s : ℕ) (journal : List Entry) (e : Entry) → Has (named_in s journal) e → Has journal e
in_filter s [] e h = absurd h
in_filter s (d ∷ ds) e h = elim (names s d.step) as (λ b. Has (cond b (d ∷ named_in s ds) (named_in s ds)) e → Has (d ∷ ds) e) [
  | true ↦ λ k. elim k [ inl is ↦ inl is | inr on ↦ inr (in_filter s ds e on) ]
  | false ↦ λ k. inr (in_filter s ds e k)
] h

module _ (seat s : ℕ) (what : Declared) where
  abbrev declaration : Entry
  declaration = record { seat = seat; step = Step.Declare (record { 0 = s }) what; answer = Answer.Done }

  -- a conversation begins with its declaration
  first_said : (a : Answer) (rest : List Received) → CanAnswer (Step.Declare (record { 0 = s }) what) a
      → Has (map (entry_of seat) (cond (s == s) (record { step = Step.Declare (record { 0 = s }) what; answer = a } ∷ rest) rest)) declaration
  first_said a rest can = grind arith

  is_declared : (journal : List Entry) (r : Received) (rs : List Received) → Some (Step.Declare (record { 0 = s }) what) ≡ Some r.step → CanAnswer r.step r.answer → HasSaid journal seat s (r ∷ rs)
      → IsEntry journal seat (Step.Declare (record { 0 = s }) what) Answer.Done
  is_declared journal r rs next can has =
      let rest = filter (λ x. names s x.step) rs in
      let first = subst (λ z. CanAnswer z r.answer → Has (map (entry_of seat) (cond (names s z) (record { step = z; answer = r.answer } ∷ rest) rest)) declaration) (same_step _ r.step next) (λ c. first_said r.answer rest c) can in
      in_filter s journal declaration (subst (λ l. Has l declaration) (sym has) first)

  cells_at : (journal : List Entry) (state : StateOf) (t : TransactionOf) → TellsHistory journal state → finite.get state.transactions s ≡ Some t → IsWorkInRange state.observers t.work
      → IsEntry journal seat (Step.Declare (record { 0 = s }) what) Answer.Done → HasCells what t
  cells_at journal state t tells there range said = grind (arith, same_transaction, cells_are, tells.declared, state.transactions, t.work, t.declared, state.observers)

  pub cells_by_now : (journal : List Entry) (state : StateOf) (said : List Received) (q : PlanOf) (t : TransactionOf) → TellsHistory journal state → finite.get state.transactions s ≡ Some t
      → IsWorkInRange state.observers t.work → Converses (fresh s what) said q → HasSaid journal seat s said → HasCellsAt q.place what t
  cells_by_now journal state [] q t tells there range talk has = subst (λ (z : PlanOf). HasCellsAt z.place what t) (sym (conversation_unfolds next_of answered (fresh s what) q [] talk)) tt
  cells_by_now journal state (r ∷ rs) q t tells there range talk has =
      let first = conversation_unfolds next_of answered (fresh s what) q (r ∷ rs) talk in
      has_cells q.place what t (cells_at journal state t tells there range (is_declared journal r rs first.0 first.1 has))

-- ---- where it stands

-- the table's transaction of this start has come to where the plan stands, its reads aside
pub table_at_place : (journal : List Entry) (state : StateOf) (seat s : ℕ) (what : Declared) (said : List Received) (q : PlanOf) (t : TransactionOf) → TellsTransactions journal state
    → finite.get state.transactions s ≡ Some t → Converses (fresh s what) said q → HasSaid journal seat s said → IsAt (declared_cells what) q.place (bare t)
table_at_place journal state seat s what said q t tells there talk has =
    let f = follows_from_entries state.observers s journal t (tells.begins s) (sym (tells.each s) ∙ there) in
    let told = ap (transaction_from state.observers (Some (new_transaction f.seat f.work))) (sym has) ∙ f.is in
    stays_at_place state.observers seat s what (fresh s what) q said (new_transaction f.seat f.work) (bare t) refl refl (refl, refl) talk told
