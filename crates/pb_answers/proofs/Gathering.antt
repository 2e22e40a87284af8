-- Writes gathered entry by entry, whatever is done with them.
use Rattle.std.proofs.Common.{◌≡◌, ℕ, ◌⊎◌, inl, inr, Bool, true, false, cond, List, ◌∷◌, Option, Some, None, is_some, refl, sym, ap, ◌∙◌, subst}
use Rattle.std.specs.Option.{option_and_then}
use Rattle.std.specs.Cmp.{Equal-is}
use Rattle.std.specs.Ordering.{eq_by_cmp}
use Rattle.std.specs.FinMap as map
use Rattle.std.specs.FinMap.Entries.{find}
use Rattle.pb_answers.specs.Words.{Cell, Content, Ts, Slot, Item, Sort, Entries, Put, data_at, start_of, slot_at, slot_cmp, slot_cmp-IsAntisymmetric}
use Rattle.pb_answers.specs.Seen.{written_at}
use Rattle.pb_answers.specs.Records.{is_record, put_with, put_in, IsPutIn, record_slot, HasGathered}

record_is : (s : Sort) → is_record s ≡ true → s ≡ Sort.Write
record_is Sort.Data e = cc
record_is Sort.Lock e = cc
record_is Sort.Write e = refl

-- a slot of write records is that of its cell and timestamp
same_slot : (slot : Slot) → slot.sort ≡ Sort.Write → slot_at slot.cell Sort.Write slot.ts.0 ≡ slot
same_slot slot is i = record { cell = slot.cell; sort = sym is i; ts = slot.ts }

-- what stands in the slot of a record, by the item there
by_item : (e : Entries) (x : Cell) (c : ℕ) (o : Option Item) → map.get e (slot_at x Sort.Write c) ≡ o → written_at e x c ≡ option_and_then (data_at e x) (start_of o)
by_item e x c o is = ap (λ i. option_and_then (data_at e x) (start_of i)) is

-- a write has its record
record_stands : (f : ℕ → Option Content) (o : Option Item) (k : Content) → option_and_then f (start_of o) ≡ Some k → is_some o ≡ true
record_stands f None k h = cc
record_stands f (Some i) k h = refl

-- before a walk, each write's record is left
pub all_left : (e : Entries) (p : Put) → IsPutIn e p → is_some (find slot_cmp (record_slot p) (map.entries e)) ≡ true
all_left e p w = ap is_some (sym (map.get-entries e (record_slot p))) ∙ record_stands (data_at e p.cell) (map.get e (record_slot p)) p.content w

module _ (e : Entries) (slot : Slot) (item : Item) (stands : map.get e slot ≡ Some item) where
  -- the write is one of the table, and its record is this entry
  abbrev pub IsRecorded : Put → Type 0
  IsRecorded p = IsPutIn e p × (slot ≡ record_slot p)

  by_data : (start : Ts) (p : Put) (d : Option Content) → slot.sort ≡ Sort.Write → item ≡ Item.Write start → data_at e slot.cell start.0 ≡ d → put_with slot d ≡ Some p → IsRecorded p
  by_data start p None is it d h = cc
  by_data start p (Some k) is it d h =
      let there : map.get e (slot_at slot.cell Sort.Write slot.ts.0) ≡ Some (Item.Write start) = ap (map.get e) (same_slot slot is) ∙ stands ∙ ap Some it in
      let written : written_at e slot.cell slot.ts.0 ≡ Some k = by_item e slot.cell slot.ts.0 _ there ∙ d in
      let q : Put = record { cell = slot.cell; commit = slot.ts; content = k } in
      let same : q ≡ p = cc in
      subst IsRecorded same (written, sym (same_slot slot is))

  by_sort : (start : Ts) (p : Put) (b : Bool) → is_record slot.sort ≡ b → item ≡ Item.Write start → cond b (put_with slot (data_at e slot.cell start.0)) None ≡ Some p → IsRecorded p
  by_sort start p true is it h = by_data start p (data_at e slot.cell start.0) (record_is slot.sort is) it refl h
  by_sort start p false is it h = cc

  by_kind : (i : Item) (p : Put) → item ≡ i → put_in e slot i ≡ Some p → IsRecorded p
  by_kind (Item.Data k) p it h = cc
  by_kind (Item.Lock q) p it h = cc
  by_kind (Item.Write start) p it h = by_sort start p (is_record slot.sort) refl it h

  -- so it is with the write that an entry records
  pub put_is : (p : Put) → put_in e slot item ≡ Some p → IsRecorded p
  put_is p h = by_kind item p refl h

  at_item : (i : Item) (p : Put) → written_at e p.cell p.commit.0 ≡ option_and_then (data_at e p.cell) (start_of (Some i)) → IsPutIn e p → put_in e (record_slot p) i ≡ Some p
  at_item (Item.Data k) p is w = let none : None ≡ Some p.content = sym is ∙ w in cc
  at_item (Item.Lock q) p is w = let none : None ≡ Some p.content = sym is ∙ w in cc
  at_item (Item.Write start) p is w = ap (put_with (record_slot p)) (sym is ∙ w)

  -- and a write of the table whose record it is is the one that it records
  pub is_put : (p : Put) → IsPutIn e p → slot ≡ record_slot p → put_in e slot item ≡ Some p
  is_put p w is =
      ap (λ (s : Slot). put_in e s item) is
      ∙ at_item item p (by_item e p.cell p.commit.0 (Some item) (ap (map.get e) (sym is) ∙ stands)) w

  here_or_left : (q : Slot) (rest : List (Slot × Item)) → is_some (find slot_cmp q ((slot, item) ∷ rest)) ≡ true → (slot ≡ q) ⊎ (is_some (find slot_cmp q rest) ≡ true)
  here_or_left q rest h =
      elim (eq_by_cmp slot_cmp q slot) as (λ b. eq_by_cmp slot_cmp q slot ≡ b → is_some (cond b (Some item) (find slot_cmp q rest)) ≡ true → (slot ≡ q) ⊎ (is_some (find slot_cmp q rest) ≡ true)) [
        | true ↦ λ t _. inl (sym (slot_cmp-IsAntisymmetric q slot ((Equal-is (slot_cmp q slot)).0 t)))
        | false ↦ λ _ k. inr k
      ] refl h

  module _ (wanted : Put → Bool) (rest : List (Slot × Item)) (old : Put → Type 0) (so : HasGathered e wanted ((slot, item) ∷ rest) old) where
    -- an entry without a write that is wanted is passed over
    pub passed_over : ((p : Put) → put_in e slot item ≡ Some p → wanted p ≡ false) → HasGathered e wanted rest old
    passed_over none = record {
      sound = so.sound;
      whole = λ p w is. elim (so.whole p w is) [
        | inl g ↦ inl g
        | inr l ↦ elim (here_or_left (record_slot p) rest l) [
          | inl here ↦ let unwanted = none p (is_put p w here) in absurd cc
          | inr left ↦ inr left
        ]
      ];
    }

    -- the write of an entry is taken, beside those that were
    pub one_taken : (new : Put → Type 0) (p : Put) → put_in e slot item ≡ Some p → wanted p ≡ true → new p → ((q : Put) → new q → old q ⊎ (p ≡ q)) → ((q : Put) → IsPutIn e q → old q → new q)
        → HasGathered e wanted rest new
    one_taken new p is ok now back keeps = record {
      sound = λ q g. elim (back q g) [
        | inl was ↦ so.sound q was
        | inr same ↦ subst (λ (r : Put). IsPutIn e r × (wanted r ≡ true)) same ((put_is p is).0, ok)
      ];
      whole = λ q w ask. elim (so.whole q w ask) [
        | inl g ↦ inl (keeps q w g)
        | inr l ↦ elim (here_or_left (record_slot q) rest l) [
          | inl here ↦ let both : Some p ≡ Some q = sym is ∙ is_put q w here in let same : p ≡ q = cc in inl (subst new same now)
          | inr left ↦ inr left
        ]
      ];
    }
