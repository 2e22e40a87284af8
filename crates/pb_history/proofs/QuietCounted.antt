-- After a legal journal, neither mark nor lock is counted exactly where neither stands.
use Rattle.std.proofs.Common.{◌≡◌, ℕ, ◌+◌, ◌<◌, ◌^◌, Bool, true, false, cond, inl, inr, List, [], ◌∷◌, Option, Some, None, length, refl, sym, ap, subst, ◌∙◌, arith, count_by, is_some}
use Rattle.std.specs.Ordering.{is_eq, eq_by_cmp}
use Rattle.std.specs.Cmp.{Equal-is, tied_itself}
use Rattle.std.specs.FinMap as map
use Rattle.std.proofs.lemmas.List.Sums.{sum_by-cons}
use Rattle.pb_history.specs.Words.{Cell, cell_cmp, cell_cmp_total, Slot, Item, Sort, slot_cmp, slot_cmp_total, slot_cmp-IsAntisymmetric, Entries, Marks, slot_at, IsOfSort, Step, Answer, ObserverOf, StateOf, is_marked, lock_at, primary_of, is_lock, lock_count, commit_lock, erase_lock, if_locked, StepCase}
use Rattle.pb_history.specs.declared.entry.Entry.{Entry}
use Rattle.pb_history.specs.Handled.{IsQuiet, TellsQuiet}
use Rattle.pb_history.specs.History.{Has}
use Rattle.pb_history.specs.Journals.{JournalLeads, IsLegal}
use Rattle.pb_history.specs.Sound.{IsSoundTable}
use Rattle.pb_history.proofs.JournalsAreSound.{legal_sound}
use Rattle.pb_history.proofs.Updates.{none_if}

-- ---- each item stands under its sort

-- no slot holds an item of another sort, so that what is counted as a lock is one
abbrev AreOfSort : Entries → Type 0
AreOfSort e = (k : Slot) (item : Item) → map.get e k ≡ Some item → IsOfSort k.sort item

-- what a change of entries has to keep of that
abbrev Keeps : Entries → Entries → Type 0
Keeps e d = AreOfSort e → AreOfSort d

inserted : (e : Entries) (k : Slot) (item : Item) → IsOfSort k.sort item → Keeps e (map.insert e k item)
inserted e k item fits h q found there = by (eq_by_cmp slot_cmp q k) refl (sym (map.get-insert slot_cmp_total e k item q) ∙ there)
  where
    by : (b : Bool) → eq_by_cmp slot_cmp q k ≡ b → cond b (Some item) (map.get e q) ≡ Some found → IsOfSort q.sort found
    by true same is =
        let at : k ≡ q = sym (slot_cmp-IsAntisymmetric q k ((Equal-is (slot_cmp q k)).0 same)) in
        let put : item ≡ found = cc in
        subst (λ i. IsOfSort q.sort i) put (subst (λ (z : Slot). IsOfSort z.sort item) at fits)
    by false same is = h q found is

removed : (e : Entries) (k : Slot) → Keeps e (map.remove e k)
removed e k h q found there = by (eq_by_cmp slot_cmp q k) (sym (map.get-remove slot_cmp_total e k q) ∙ there)
  where
    by : (b : Bool) → cond b None (map.get e q) ≡ Some found → IsOfSort q.sort found
    by true is = absurd cc
    by false is = h q found is

committed : (e : Entries) (x : Cell) (s c : ℕ) → Keeps e (commit_lock e x s c)
committed e x s c h = inserted (map.remove e (slot_at x Sort.Lock s)) (slot_at x Sort.Write c) (Item.Write (record { 0 = s })) tt (removed e (slot_at x Sort.Lock s) h)

erased : (e : Entries) (x : Cell) (s : ℕ) → Keeps e (erase_lock e x s)
erased e x s h = removed (map.remove e (slot_at x Sort.Lock s)) (slot_at x Sort.Data s) (removed e (slot_at x Sort.Lock s) h)

committed_if : (old : StateOf) (locked : Bool) (x : Cell) (s c : ℕ) → Keeps old.entries (if_locked old locked x s c).entries
committed_if old locked x s c = grind (arith, committed)

module _ (old : StateOf) (seat : ℕ) (new : StateOf) (h : AreOfSort old.entries) where
  becomes : (to : StateOf) → new ≡ to → Keeps old.entries to.entries → AreOfSort new.entries
  becomes to is keeps = subst (λ (z : StateOf). AreOfSort z.entries) (sym is) (keeps h)

  stays : new.entries ≡ old.entries → AreOfSort new.entries
  stays is = subst AreOfSort (sym is) h

  case_sorts : (step : Step) (answer : Answer) → StepCase old seat step answer new → AreOfSort new.entries
  case_sorts (Step.Begin work) (Answer.At s) m = stays (ap (λ (z : StateOf). z.entries) m.new_is)
  case_sorts (Step.Read s x) (Answer.Locked start primary) m = stays (ap (λ (z : StateOf). z.entries) m.new_is)
  case_sorts (Step.Read s x) (Answer.Found start commit content) m = stays (ap (λ (z : StateOf). z.entries) m.new_is)
  case_sorts (Step.Read s x) Answer.Absent m = stays (ap (λ (z : StateOf). z.entries) m.new_is)
  case_sorts (Step.ReadAt s x t) (Answer.Locked start primary) m = stays (ap (λ (z : StateOf). z.entries) m.new_is)
  case_sorts (Step.ReadAt s x t) (Answer.Found start commit content) m = stays (ap (λ (z : StateOf). z.entries) m.new_is)
  case_sorts (Step.ReadAt s x t) Answer.Absent m = stays (ap (λ (z : StateOf). z.entries) m.new_is)
  case_sorts (Step.Declare s what) Answer.Done m = stays (ap (λ (z : StateOf). z.entries) m.new_is)
  case_sorts (Step.Prewrite s x) Answer.Done m =
      let first = inserted old.entries (slot_at x Sort.Data s.0) (Item.Data m.content) tt h in
      subst AreOfSort (sym (ap (λ (z : StateOf). z.entries) m.new_is))
      (inserted (map.insert old.entries (slot_at x Sort.Data s.0) (Item.Data m.content)) (slot_at x Sort.Lock s.0) (Item.Lock m.primary) tt first)
  case_sorts (Step.Prewrite s x) Answer.Conflict m = stays (ap (λ (z : StateOf). z.entries) m.new_is)
  case_sorts (Step.Stamp s) (Answer.At c) m = stays (ap (λ (z : StateOf). z.entries) m.new_is)
  case_sorts (Step.CommitPrimary s) Answer.Committed m = subst AreOfSort (sym (ap (λ (z : StateOf). z.entries) m.new_is)) (committed old.entries m.primary s.0 m.c h)
  case_sorts (Step.CommitPrimary s) Answer.Lost m = stays (ap (λ (z : StateOf). z.entries) m.new_is)
  case_sorts (Step.CommitSecondary s x) Answer.Done m = becomes (if_locked old (is_some (lock_at old.entries x s.0)) x s.0 m.c) m.new_is (committed_if old (is_some (lock_at old.entries x s.0)) x s.0 m.c)
  case_sorts (Step.Settle x) Answer.Absent m = stays (ap (λ (z : StateOf). z.entries) m.new_is)
  case_sorts (Step.Settle x) (Answer.Locked start primary) m = stays (ap (λ (z : StateOf). z.entries) m.new_is)
  case_sorts (Step.Settle x) Answer.RolledBack m = subst AreOfSort (sym (ap (λ (z : StateOf). z.entries) m.new_is)) (erased old.entries x m.start h)
  case_sorts (Step.Clear x) Answer.Absent m = stays (ap (λ (z : StateOf). z.entries) m.new_is)
  case_sorts (Step.Clear x) Answer.Waits m = stays (ap (λ (z : StateOf). z.entries) m.new_is)
  case_sorts (Step.Clear x) (Answer.CommittedAt c) m = subst AreOfSort (sym (ap (λ (z : StateOf). z.entries) m.new_is)) (committed old.entries x m.start c.0 h)
  case_sorts (Step.Clear x) Answer.RolledBack m = subst AreOfSort (sym (ap (λ (z : StateOf). z.entries) m.new_is)) (erased old.entries x m.start h)
  case_sorts (Step.NextMark after) (Answer.Marked x) m = stays (ap (λ (z : StateOf). z.entries) m.new_is)
  case_sorts (Step.NextMark after) Answer.NoMark m = stays (ap (λ (z : StateOf). z.entries) m.new_is)
  case_sorts (Step.Sweep x) Answer.NoMark m = stays (ap (λ (z : StateOf). z.entries) m.new_is)
  case_sorts (Step.Sweep x) Answer.StillBehind m = stays (ap (λ (z : StateOf). z.entries) m.new_is)
  case_sorts (Step.Sweep x) Answer.Done m = stays (ap (λ (z : StateOf). z.entries) m.new_is)
  case_sorts _ _ m = absurd m

-- a run of steps keeps it, since each puts items under their sorts
run_sorts : (old : StateOf) (es : List Entry) (new : StateOf) → AreOfSort old.entries → JournalLeads old es new → AreOfSort new.entries
run_sorts old [] new h r = subst (λ (z : StateOf). AreOfSort z.entries) (sym r) h
run_sorts old (e ∷ es) new h r = run_sorts r.0 es new (case_sorts old e.seat r.0 h e.step e.answer r.1.taken) r.2

nothing_stands : AreOfSort map.empty
nothing_stands k item there = let none = map.get-empty {X = Item} slot_cmp k in absurd cc

-- ---- what is counted

counted_one_more : (p : Slot × Item) (es : List (Slot × Item)) → count_by (λ q. is_lock q.0.sort) (p ∷ es) ≡ cond (is_lock p.0.sort) 1 0 + count_by (λ q. is_lock q.0.sort) es
counted_one_more p es = sum_by-cons (λ q. cond (is_lock q.0.sort) 1 0) p es

-- a lock that stands is counted
pub counted_none : (es : List (Slot × Item)) (k : Slot) (item : Item) → is_lock k.sort ≡ true → map.find slot_cmp k es ≡ Some item → count_by (λ p. is_lock p.0.sort) es ≡ 0 → ⊥
counted_none [] k item lock found none = cc
counted_none (p ∷ es) k item lock found none = by (counted_none es k item lock) (eq_by_cmp slot_cmp k p.0) refl found
  where
    by : (map.find slot_cmp k es ≡ Some item → count_by (λ q. is_lock q.0.sort) es ≡ 0 → ⊥) → (b : Bool) → eq_by_cmp slot_cmp k p.0 ≡ b → cond b (Some p.1) (map.find slot_cmp k es) ≡ Some item → ⊥
    by rest true same is =
        let at : k ≡ p.0 = slot_cmp-IsAntisymmetric k p.0 ((Equal-is (slot_cmp k p.0)).0 same) in
        let here : is_lock p.0.sort ≡ true = sym (ap (λ (z : Slot). is_lock z.sort) at) ∙ lock in
        let one : cond true 1 0 + count_by (λ q. is_lock q.0.sort) es ≡ 0 = sym (ap (λ b. cond b 1 0 + count_by (λ q. is_lock q.0.sort) es) here) ∙ sym (counted_one_more p es) ∙ none in
        omega (arith, one)
    by rest false same is = let more = counted_one_more p es in rest is (omega (arith, more, none))

-- where no entry is a lock, none is counted
none_counted : (es : List (Slot × Item)) → ((p : Slot × Item) → Has es p → is_lock p.0.sort ≡ false) → count_by (λ p. is_lock p.0.sort) es ≡ 0
none_counted [] h = refl
none_counted (p ∷ es) h = counted_one_more p es ∙ ap (λ b. cond b 1 0 + count_by (λ q. is_lock q.0.sort) es) (h p (inl refl)) ∙ (let rest = none_counted es (λ q has. h q (inr has)) in let none : 0 + count_by (λ q. is_lock q.0.sort) es ≡ 0 = omega (arith, rest) in none)

-- an entry of a list is found there by its slot
found_again : (es : List (Slot × Item)) (p : Slot × Item) → Has es p → (item : Item) × (map.find slot_cmp p.0 es ≡ Some item)
found_again [] p has = absurd has
found_again (q ∷ es) p has = by (found_again es p) (eq_by_cmp slot_cmp p.0 q.0) refl has
  where
    itself : (k : Slot) → eq_by_cmp slot_cmp k k ≡ true
    itself k = ap is_eq (tied_itself slot_cmp_total k)

    by : (Has es p → (item : Item) × (map.find slot_cmp p.0 es ≡ Some item)) → (b : Bool) → eq_by_cmp slot_cmp p.0 q.0 ≡ b → Has (q ∷ es) p → (item : Item) × (map.find slot_cmp p.0 (q ∷ es) ≡ Some item)
    by more true same has = (q.1, ap (λ b. cond b (Some q.1) (map.find slot_cmp p.0 es)) same)
    by more false same (inl is) = (let here : eq_by_cmp slot_cmp p.0 q.0 ≡ true = ap (λ (z : Slot × Item). eq_by_cmp slot_cmp p.0 z.0) is ∙ itself p.0 in absurd cc)
    by more false same (inr rest) = (let r = more rest in (r.0, ap (λ b. cond b (Some q.1) (map.find slot_cmp p.0 es)) same ∙ r.1))

pub lock_item : (o : Option Item) (p : Cell) → primary_of o ≡ Some p → o ≡ Some (Item.Lock p)
lock_item o p e = grind arith

-- a map without a marked cell has no length
no_marks : (marks : Marks) → ((x : Cell) → is_marked marks x ≡ false) → map.len marks ≡ 0
no_marks marks h = by (map.entries marks) refl
  where
    by : (es : List (Cell × Unit {0})) → map.entries marks ≡ es → map.len marks ≡ 0
    by [] is = map.len-entries marks ∙ ap length is
    by (p ∷ es) is =
        let there : is_marked marks p.0 ≡ true = ap is_some (map.get-entries marks p.0 ∙ ap (map.find cell_cmp p.0) is ∙ ap (λ b. cond b (Some p.1) (map.find cell_cmp p.0 es)) (ap is_eq (tied_itself cell_cmp_total p.0))) in
        let gone = h p.0 in absurd cc

module _ (state : StateOf) (i : IsSoundTable state) (sorted : AreOfSort state.entries) where
  -- the starts of locks have 64 bits
  low : (x : Cell) (s : ℕ) (p : Cell) → lock_at state.entries x s ≡ Some p → s < 2 ^ 64
  low x s p e = grind arith

  -- an entry under a lock's slot is a lock
  unlocked_slot : IsQuiet state → (k : Slot) (item : Item) → map.get state.entries k ≡ Some item → (sort : Sort) → k.sort ≡ sort → is_lock sort ≡ false
  unlocked_slot q k item there Sort.Data is = refl
  unlocked_slot q k item there Sort.Write is = refl
  unlocked_slot q k item there Sort.Lock is = by item (subst (λ z. IsOfSort z item) is (sorted k item there)) there
    where
      by : (j : Item) → IsOfSort Sort.Lock j → map.get state.entries k ≡ Some j → is_lock Sort.Lock ≡ false
      by (Item.Lock p) fits at =
          let here : map.get state.entries (slot_at k.cell Sort.Lock k.ts.0) ≡ Some (Item.Lock p) = ap (λ z. map.get state.entries (slot_at k.cell z k.ts.0)) (sym is) ∙ at in
          let locked : lock_at state.entries k.cell k.ts.0 ≡ Some p = ap primary_of here in
          let none = q.unlocked k.cell k.ts.0 (low k.cell k.ts.0 p locked) in
          absurd cc
      by _ fits at = absurd fits

  quiet_if : map.len state.marks ≡ 0 → lock_count state.entries ≡ 0 → IsQuiet state
  quiet_if marks locks = record {
    unmarked = λ x. ap (λ m. is_marked m x) (map.empty_of_len state.marks marks) ∙ ap is_some (map.get-empty {X = Unit {0}} cell_cmp x);
    unlocked = λ x u bound. none_if _ (λ p e. counted_none (map.entries state.entries) (slot_at x Sort.Lock u) (Item.Lock p) refl (sym (map.get-entries state.entries (slot_at x Sort.Lock u)) ∙ lock_item _ p e) locks);
  }

  pub quiet_counted : TellsQuiet state
  quiet_counted = record {
    quiet = quiet_if;
    unmarked = λ q. no_marks state.marks q.unmarked;
    unlocked = λ q. none_counted (map.entries state.entries) (λ p has. let f = found_again (map.entries state.entries) p has in unlocked_slot q p.0 f.0 (map.get-entries state.entries p.0 ∙ f.1) p.0.sort refl);
  }

pub tells_quiet : (observers : List ObserverOf) (seats clock : ℕ) (journal : List Entry) (state : StateOf) → IsLegal observers seats clock journal state → TellsQuiet state
tells_quiet observers seats clock journal state l = grind (arith, quiet_counted, legal_sound, run_sorts, nothing_stands, l.run)
