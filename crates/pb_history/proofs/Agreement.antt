-- A legal journal and the state that it leads to agree.
use Rattle.std.proofs.Common.{◌≡◌, ◌≢◌, ℕ, ◌≤◌, ◌⊎◌, inl, inr, false, cond, List, [], ◌∷◌, ◌++◌, Option, Some, None, refl, sym, ap, subst, ◌∙◌, arith}
use Rattle.std.specs.Cmp.{unsigned_tied, nat_cmp_total}
use Rattle.std.specs.FinMap as map
use Rattle.std.proofs.lemmas.Bool.{eqb-true, eq-eqb, false_from_ne_true as not_true}
use Rattle.pb_history.specs.Words.{Cell, Ts, Declared, Step, Answer, Phase, RecordedRead, StateOf, TransactionOf, Transactions, cells_of, ObserverOf, IsKnown, MayDeclare, is_reading}
use Rattle.pb_history.specs.declared.entry.Entry.{Entry}
use Rattle.pb_history.specs.History.{Has, IsEntry, IsForWork}
use Rattle.pb_history.proofs.OnlyEntries.{OnlyEntries}
use Rattle.pb_history.proofs.Updates.{same_number, has_front, has_more}

-- a number as a timestamp
abbrev pub ts : ℕ → Ts
ts n = record { 0 = n }

-- a read as it is recorded
abbrev pub read_of : Cell → Option Ts → Answer → RecordedRead
read_of x at answer = record { cell = x; at = at; answer = answer }

-- the step by which a transaction of start s made it
abbrev pub step_by : ℕ → Cell → Option Ts → Step
step_by s x None = Step.Read (ts s) x
step_by s x (Some t) = Step.ReadAt (ts s) x t

-- the transaction of a start, if there is one
abbrev pub got : StateOf → ℕ → Option TransactionOf
got state s = map.get state.transactions s

-- ---- what entries record of transactions, and transactions of entries

-- stamped with c, or past that
abbrev pub PastStamp : Phase → ℕ → Type 0
PastStamp h c = (h ≡ Phase.Stamped (ts c)) ⊎ ((h ≡ Phase.Committed (ts c)) ⊎ (h ≡ Phase.Failed))

-- what an answered step promises of its transaction from then on
abbrev pub Told : StateOf → ℕ → Step → Answer → Type 0
Told state seat (Step.Begin work) (Answer.At s) = (t : TransactionOf) × (got state s.0 ≡ Some t) × (t.seat ≡ seat) × (t.work ≡ work)
Told state seat (Step.Read s x) (Answer.Found start commit content) = (t : TransactionOf) × (got state s.0 ≡ Some t) × Has t.reads (read_of x None (Answer.Found start commit content))
Told state seat (Step.Read s x) Answer.Absent = (t : TransactionOf) × (got state s.0 ≡ Some t) × Has t.reads (read_of x None Answer.Absent)
Told state seat (Step.ReadAt s x at) (Answer.Found start commit content) = (t : TransactionOf) × (got state s.0 ≡ Some t) × Has t.reads (read_of x (Some at) (Answer.Found start commit content))
Told state seat (Step.ReadAt s x at) Answer.Absent = (t : TransactionOf) × (got state s.0 ≡ Some t) × Has t.reads (read_of x (Some at) Answer.Absent)
Told state seat (Step.Declare s what) Answer.Done = (t : TransactionOf) × (got state s.0 ≡ Some t) × (is_reading t.phase ≡ false) × (t.declared ≡ cells_of state.observers t.work s.0 what) × IsKnown what × IsForWork state.observers t.work what
Told state seat (Step.Stamp s) (Answer.At c) = (t : TransactionOf) × (got state s.0 ≡ Some t) × PastStamp t.phase c.0
Told state seat (Step.CommitPrimary s) Answer.Committed = (t : TransactionOf) × (got state s.0 ≡ Some t) × (c : ℕ) × (t.phase ≡ Phase.Committed (ts c))
Told state seat _ _ = Unit {0}

-- the entries that the journal has of a transaction
pub record Logged (observers : List ObserverOf) (journal : List Entry) (s : ℕ) (t : TransactionOf) : Type 0 where
  pub begun : IsEntry journal t.seat (Step.Begin t.work) (Answer.At (ts s))
  pub reads : (r : RecordedRead) → Has t.reads r → IsEntry journal t.seat (step_by s r.cell r.at) r.answer
  pub declared : is_reading t.phase ≡ false → (what : Declared) × IsEntry journal t.seat (Step.Declare (ts s) what) Answer.Done × (t.declared ≡ cells_of observers t.work s what) × IsKnown what × MayDeclare observers t.work s t.reads what
  pub stamped : (c : ℕ) → (t.phase ≡ Phase.Stamped (ts c)) ⊎ (t.phase ≡ Phase.Committed (ts c)) → IsEntry journal t.seat (Step.Stamp (ts s)) (Answer.At (ts c))
  pub committed : (c : ℕ) → t.phase ≡ Phase.Committed (ts c) → IsEntry journal t.seat (Step.CommitPrimary (ts s)) Answer.Committed

-- what each entry said still holds of its transaction, and what a transaction has done stands in the journal
pub record Agrees (journal : List Entry) (state : StateOf) : Type 0 where
  pub early : (s : ℕ) (t : TransactionOf) → got state s ≡ Some t → s ≤ state.clock
  pub told : (e : Entry) → Has journal e → Told state e.seat e.step e.answer
  pub logged : (s : ℕ) (t : TransactionOf) → got state s ≡ Some t → Logged state.observers journal s t

-- how a transaction may go on
pub record Later (t u : TransactionOf) : Type 0 where
  pub seat : u.seat ≡ t.seat
  pub work : u.work ≡ t.work
  pub past : is_reading t.phase ≡ false → (is_reading u.phase ≡ false) × (u.declared ≡ t.declared)
  pub reads : (r : RecordedRead) → Has t.reads r → Has u.reads r
  pub stamped : (c : ℕ) → PastStamp t.phase c → PastStamp u.phase c
  pub committed : (c : ℕ) → t.phase ≡ Phase.Committed (ts c) → u.phase ≡ Phase.Committed (ts c)

-- a transaction that isn't touched goes on as it is
later_same : (t : TransactionOf) → Later t t
later_same t = record { seat = refl; work = refl; past = λ h. (h, refl); reads = λ r h. h; stamped = λ c h. h; committed = λ c h. h }

-- no transaction is forgotten, and each goes on only as one may
abbrev Grows : StateOf → StateOf → Type 0
Grows old new = (s : ℕ) (t : TransactionOf) → got old s ≡ Some t → (u : TransactionOf) × (got new s ≡ Some u) × Later t u

-- what an entry said holds on, since transactions only go on
told_on : (old new : StateOf) → new.observers ≡ old.observers → Grows old new → (seat : ℕ) (step : Step) (answer : Answer) → Told old seat step answer → Told new seat step answer
told_on old new obs g seat (Step.Begin work) (Answer.At s) t = let u = g s.0 t.0 t.1 in (u.0, u.1, u.2.seat ∙ t.2, u.2.work ∙ t.3)
told_on old new obs g seat (Step.Read s x) (Answer.Found start commit content) t = let u = g s.0 t.0 t.1 in (u.0, u.1, u.2.reads _ t.2)
told_on old new obs g seat (Step.Read s x) Answer.Absent t = let u = g s.0 t.0 t.1 in (u.0, u.1, u.2.reads _ t.2)
told_on old new obs g seat (Step.ReadAt s x at) (Answer.Found start commit content) t = let u = g s.0 t.0 t.1 in (u.0, u.1, u.2.reads _ t.2)
told_on old new obs g seat (Step.ReadAt s x at) Answer.Absent t = let u = g s.0 t.0 t.1 in (u.0, u.1, u.2.reads _ t.2)
told_on old new obs g seat (Step.Declare s what) Answer.Done t = let u = g s.0 t.0 t.1 in let p = u.2.past t.2 in (u.0, u.1, p.0, p.1 ∙ t.3 ∙ sym (λ i. cells_of (obs i) (u.2.work i) s.0 what), t.4, subst (λ o. IsForWork o u.0.work what) (sym obs) (subst (λ w. IsForWork old.observers w what) (sym u.2.work) t.5))
told_on old new obs g seat (Step.Stamp s) (Answer.At c) t = let u = g s.0 t.0 t.1 in (u.0, u.1, u.2.stamped c.0 t.2)
told_on old new obs g seat (Step.CommitPrimary s) Answer.Committed t = let u = g s.0 t.0 t.1 in (u.0, u.1, t.2, u.2.committed t.2 t.3)
told_on old new obs g seat _ _ t = tt

-- one entry more leaves the others where they were
logged_front : (observers : List ObserverOf) (journal : List Entry) (e : Entry) (s : ℕ) (t : TransactionOf) → Logged observers journal s t → Logged observers (journal ++ e ∷ []) s t
logged_front observers journal e s t l = grind (arith, has_front, l.begun, l.reads, l.declared, l.stamped, l.committed)

-- ---- one transaction more, or changed

got_here : (m : Transactions) (s : ℕ) (u : TransactionOf) → map.get (map.insert m s u) s ≡ Some u
got_here m s u = map.get-insert nat_cmp_total m s u s ∙ ap (λ b. cond b (Some u) (map.get m s)) (unsigned_tied s s ∙ eq-eqb s s refl)

got_there : (m : Transactions) (s : ℕ) (u : TransactionOf) (w : ℕ) → w ≢ s → map.get (map.insert m s u) w ≡ map.get m w
got_there m s u w n =
    map.get-insert nat_cmp_total m s u w
    ∙ ap (λ b. cond b (Some u) (map.get m w)) (not_true _ (λ e. n (eqb-true w s (sym (unsigned_tied w s) ∙ e))))

module _ (journal : List Entry) (e : Entry) (old new : StateOf) (a : Agrees journal old) (s : ℕ) (u : TransactionOf)
    (is : new.transactions ≡ map.insert old.transactions s u) (clock : old.clock ≤ new.clock) (low : s ≤ new.clock) (obs : new.observers ≡ old.observers) where
  here : got new s ≡ Some u
  here = ap (λ m. map.get m s) is ∙ got_here old.transactions s u

  there : (w : ℕ) → w ≢ s → got new w ≡ got old w
  there w n = ap (λ m. map.get m w) is ∙ got_there old.transactions s u w n

  early_put : (w : ℕ) (v : TransactionOf) → got new w ≡ Some v → w ≤ new.clock
  early_put w v h = grind (arith, same_number, there, a.early)

  logged_put : Logged old.observers (journal ++ e ∷ []) s u → (w : ℕ) (v : TransactionOf) → got new w ≡ Some v → Logged old.observers (journal ++ e ∷ []) w v
  logged_put l w v h = elim (same_number w s) [
    | inl q ↦
        grind (arith, here, old.observers)
    | inr n ↦ logged_front old.observers journal e w v (a.logged w v (sym (there w n) ∙ h))
  ]

  agrees_put : Grows old new → Told new e.seat e.step e.answer → Logged old.observers (journal ++ e ∷ []) s u → Agrees (journal ++ e ∷ []) new
  agrees_put g told l = record {
    early = early_put;
    told = λ d h. grind (arith, has_more, told_on, a.told);
    logged = λ w v h. subst (λ o. Logged o (journal ++ e ∷ []) w v) (sym obs) (logged_put l w v h);
  }

  -- a transaction that was there goes on
  pub agrees_change : (t : TransactionOf) → got old s ≡ Some t → Later t u → (got new s ≡ Some u → Told new e.seat e.step e.answer) → Logged old.observers (journal ++ e ∷ []) s u → Agrees (journal ++ e ∷ []) new
  agrees_change t was later told = agrees_put (λ w v h. elim (same_number w s) [
    | inl q ↦
        grind (arith, here)
    | inr n ↦ (v, there w n ∙ h, later_same v)
  ]) (told here)

  -- a new one
  pub agrees_new : got old s ≡ None → (got new s ≡ Some u → Told new e.seat e.step e.answer) → Logged old.observers (journal ++ e ∷ []) s u → Agrees (journal ++ e ∷ []) new
  agrees_new was told = agrees_put (λ w v h. (v, there w (λ q. let now : got old s ≡ Some v = subst (λ k. got old k ≡ Some v) q h in cc) ∙ h, later_same v)) (told here)

-- a step that changes entries alone
pub agrees_same : (journal : List Entry) (e : Entry) (old new : StateOf) → Agrees journal old → OnlyEntries old new → Told new e.seat e.step e.answer → Agrees (journal ++ e ∷ []) new
agrees_same journal e old new a kept told =
    record {
      early = λ s t h. let b = a.early s t (sym (ap (λ m. map.get m s) kept.transactions) ∙ h) in let c = kept.clock in omega (arith, b, c);
      told = λ d h. grind (arith, has_more, told_on, kept.observers, a.told);
      logged = λ w v h. subst (λ o. Logged o (journal ++ e ∷ []) w v) (sym kept.observers) (logged_front old.observers journal e w v (a.logged w v (sym (ap (λ m. map.get m w) kept.transactions) ∙ h)));
    }
