-- A walk over the entries marks each observed cell that has a write record.
use Rattle.std.proofs.Common.{◌≡◌, ℕ, ◌⊎◌, inl, inr, true, false, cond, drop, slice_get, List, [], ◌∷◌, ◌++◌, Option, None, Some, is_some, OnErr, OnOk, Ok, Err, refl, sym, ap, ◌∙◌, subst}
use Rattle.std.specs.FinMap as map
use Rattle.std.specs.declared.result.Result.{Result}
use Rattle.pb_history.proofs.Updates.{same_cell, same_cell_is, same_cell_itself}
use Rattle.pb_state.specs.Keeping.{parts_as_state}
use Rattle.pb_state.specs.Words.{Cell, Entries, IsSoundTable, Item, Marks, ObserverOf, Slot, Sort, StateOf, TableOf, Transactions, Ts, cell_cmp_total, entries_after, is_marked, is_observed, slot_at, start_of, write_at}
use Rattle.pb_state.specs.MoreMarks.{AddsMarks, AreMarkedBefore, WasWritten, IsMarkedBy, is_write_record}
use Rattle.pb_state.specs.MoreObservers.{HasMoreMarks, HasMoreObservers}
use Rattle.pb_state.proofs.EntryWalks.{first_and_rest, here_or_left, none_left, record_there, stands_there}

-- ---- write records

-- what is a write record is one of its cell and timestamp
is_record : (e : Entries) (x : Cell) (sort : Sort) (t : Ts) (item : Item) → map.get e (record { cell = x; sort = sort; ts = t }) ≡ Some item → is_write_record sort item ≡ true → (s : ℕ) × (write_at e x t.0 ≡ Some s)
is_record e x Sort.Write t (Item.Write s) stands w = (s.0, ap start_of stands)
is_record e x Sort.Write t (Item.Data k) stands w = cc
is_record e x Sort.Write t (Item.Lock p) stands w = cc
is_record e x Sort.Data t item stands w = cc
is_record e x Sort.Lock t item stands w = cc

-- and a write record is one
record_is : (item : Item) (s : ℕ) → start_of (Some item) ≡ Some s → is_write_record Sort.Write item ≡ true
record_is (Item.Write t) s h = refl
record_is (Item.Data k) s h = cc
record_is (Item.Lock p) s h = cc

-- ---- one mark more

module _ (marks : Marks) (x : Cell) where
  after_mark : (y : Cell) → is_marked (map.insert marks x tt) y ≡ is_some (cond (same_cell y x) (Some tt) (map.get marks y))
  unfolding same_cell
  after_mark y = ap is_some (map.get-insert cell_cmp_total marks x tt y)

  marked_here : is_marked (map.insert marks x tt) x ≡ true
  marked_here = after_mark x ∙ ap (λ b. is_some (cond b (Some tt) (map.get marks x))) (same_cell_itself x)

  marked_still : (y : Cell) → is_marked marks y ≡ true → is_marked (map.insert marks x tt) y ≡ true
  marked_still y was = after_mark y ∙ (elim (same_cell y x) as (λ b. is_some (cond b (Some tt) (map.get marks y)) ≡ true) [ true ↦ refl | false ↦ was ])

  marked_before : (y : Cell) → is_marked (map.insert marks x tt) y ≡ true → (y ≡ x) ⊎ (is_marked marks y ≡ true)
  marked_before y now =
      elim (same_cell y x) as (λ b. same_cell y x ≡ b → is_some (cond b (Some tt) (map.get marks y)) ≡ true → (y ≡ x) ⊎ (is_marked marks y ≡ true)) [
        | true ↦ λ t _. inl (same_cell_is y x t)
        | false ↦ λ _ was. inr was
      ] refl (sym (after_mark y) ∙ now)

-- ---- the walk

module _ (P : Cell → Type 0) (e : Entries) where
  -- before it nothing is marked, and each record is left
  pub none_met : (marks : Marks) → AreMarkedBefore P e (map.entries e) marks marks
  none_met marks = record {
    adds = record { kept = λ x m. m; only = λ x m. inl m };
    marked = λ x c s o w. inr (ap is_some (sym (map.get-entries e (slot_at x Sort.Write c))) ∙ record_there (map.get e (slot_at x Sort.Write c)) s w);
  }

  module _ (slot : Slot) (item : Item) (stands : map.get e slot ≡ Some item) (rest : List (Slot × Item)) (old now : Marks) (so : AreMarkedBefore P e ((slot, item) ∷ rest) old now) where
    -- an entry where the record of a cell stands is one
    at_record : (x : Cell) (c s : ℕ) → slot ≡ slot_at x Sort.Write c → write_at e x c ≡ Some s → is_write_record slot.sort item ≡ true
    at_record x c s here w =
        subst (λ (q : Slot). is_write_record q.sort item ≡ true) (sym here) (record_is item s (sym (ap start_of (ap (map.get e) (sym here) ∙ stands)) ∙ w))

    -- one that is none of such a cell is passed over
    passed : (is_write_record slot.sort item ≡ true → P slot.cell → ⊥) → AreMarkedBefore P e rest old now
    passed other = record {
      adds = so.adds;
      marked = λ x c s o w. elim (so.marked x c s o w) [
        | inl m ↦ inl m
        | inr l ↦ elim (here_or_left slot item (slot_at x Sort.Write c) rest l) [
          | inl here ↦ absurd (other (at_record x c s here w) (subst (λ (q : Slot). P q.cell) (sym here) o))
          | inr left ↦ inr left
        ]
      ];
    }

    -- one of such a cell marks it
    marks_it : is_write_record slot.sort item ≡ true → P slot.cell → AreMarkedBefore P e rest old (map.insert now slot.cell tt)
    marks_it is so_is = record {
      adds = record {
        kept = λ x m. marked_still now slot.cell x (so.adds.kept x m);
        only = λ x m. elim (marked_before now slot.cell x m) [
          | inl here ↦
              let r = is_record e slot.cell slot.sort slot.ts item stands is in
              inr (subst (λ (y : Cell). P y × WasWritten e y) (sym here) (so_is, (slot.ts.0, r.0, r.1)))
          | inr was ↦ so.adds.only x was
        ];
      };
      marked = λ x c s o w. elim (so.marked x c s o w) [
        | inl m ↦ inl (marked_still now slot.cell x m)
        | inr l ↦ elim (here_or_left slot item (slot_at x Sort.Write c) rest l) [
          | inl here ↦ inl (subst (λ (y : Cell). is_marked (map.insert now slot.cell tt) y ≡ true) (ap (λ (q : Slot). q.cell) here) (marked_here now slot.cell))
          | inr left ↦ inr left
        ]
      ];
    }

    one_met : (new : Marks) → IsMarkedBy P slot item now new → AreMarkedBefore P e rest old new
    one_met new (inl is) = subst (AreMarkedBefore P e rest old) (sym is.2) (marks_it is.0 is.1)
    one_met new (inr is) = subst (AreMarkedBefore P e rest old) (sym is.1) (passed is.0)

  module _ (d : Entries) (same : d ≡ e) (after : Option Slot) (old now : Marks) (so : AreMarkedBefore P e (entries_after after (map.entries e)) old now) where
    -- after one entry more, by which a cell may be marked
    pub one_passed : (x : Slot × Item) (new : Marks) → Some x ≡ slice_get (entries_after after (map.entries d)) 0
        → entries_after (Some x.0) (map.entries d) ≡ drop 1 (entries_after after (map.entries d))
        → IsMarkedBy P x.0 x.1 now new → AreMarkedBefore P e (entries_after (Some x.0) (map.entries e)) old new
    one_passed x new is more by =
        let first : Some x ≡ slice_get (entries_after after (map.entries e)) 0 = subst (λ (f : Entries). Some x ≡ slice_get (entries_after after (map.entries f)) 0) same is in
        let left = entries_after (Some x.0) (map.entries e) in
        let rest : left ≡ drop 1 (entries_after after (map.entries e)) = subst (λ (f : Entries). entries_after (Some x.0) (map.entries f) ≡ drop 1 (entries_after after (map.entries f))) same more in
        one_met x.0 x.1 (stands_there e after x first) left old now (subst (λ (xs : List (Slot × Item)). AreMarkedBefore P e xs old now) (first_and_rest _ left x first rest) so) new by

    -- after the last one
    pub all_passed : None ≡ slice_get (entries_after after (map.entries d)) 0 → AreMarkedBefore P e [] old now
    all_passed is =
        let none : entries_after after (map.entries e) ≡ [] = none_left _ (subst (λ (f : Entries). None ≡ slice_get (entries_after after (map.entries f)) 0) same is) in
        subst (λ (xs : List (Slot × Item)). AreMarkedBefore P e xs old now) none so

-- ---- the state

-- no entry is left of none
pub marked_or_left : {A : Type 0} → A ⊎ (false ≡ true) → A
marked_or_left (inl a) = a
marked_or_left (inr h) = absurd cc

module _ (table table' : TableOf) (observers observers' : List ObserverOf) (clock seats : ℕ) (ts : Transactions) (more : List ObserverOf) (entries : table'.contents.entries ≡ table.contents.entries) where
  pub more_marks : observers' ≡ observers → AddsMarks (λ x. is_observed more x ≡ true) table.contents.entries table.contents.marks table'.contents.marks
      → (old : StateOf) → parts_as_state table observers clock seats ts ≡ old → HasMoreMarks more old (parts_as_state table' observers' clock seats ts)
  more_marks same adds old view = subst (λ (z : StateOf). HasMoreMarks more z (parts_as_state table' observers' clock seats ts)) view (record {
    is = λ i. record { entries = entries i; marks = table'.contents.marks; observers = same i; clock = clock; seats = seats; transactions = ts };
    kept = adds.kept;
    only = adds.only;
  })

  pub more_observers : observers' ≡ observers ++ more → AreMarkedBefore (λ x. is_observed more x ≡ true) table.contents.entries [] table.contents.marks table'.contents.marks
      → (old : StateOf) → parts_as_state table observers clock seats ts ≡ old → HasMoreObservers more old (parts_as_state table' observers' clock seats ts)
  more_observers joined so old view = subst (λ (z : StateOf). HasMoreObservers more z (parts_as_state table' observers' clock seats ts)) view (record {
    is = λ i. record { entries = entries i; marks = table'.contents.marks; observers = joined i; clock = clock; seats = seats; transactions = ts };
    kept = so.adds.kept;
    marked = λ x c s o w. marked_or_left (so.marked x c s o w);
    only = so.adds.only;
  })

-- a sound state stays sound, since that speaks of neither observers nor marks
pub sound_still : {A E : Type 0} (more : List ObserverOf) (old new : StateOf) (r : Result A E) → OnOk r (HasMoreObservers more old new) → OnErr r (HasMoreMarks more old new) → IsSoundTable old → IsSoundTable new
sound_still more old new (Ok x) ok err sound = subst IsSoundTable (sym ok.is) sound
sound_still more old new (Err e) ok err sound = subst IsSoundTable (sym err.is) sound
