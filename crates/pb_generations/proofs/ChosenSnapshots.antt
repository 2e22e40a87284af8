-- A snapshot for other observers shows what may be viewed of the renumbered table without those that are gone.
use Rattle.std.proofs.Common.{◌≡◌, ◌⊎◌, ℕ, zero, ◌<◌, ◌≤◌, Bool, true, false, nat_lt, List, ◌++◌, length, Option, Some, None, option_map, slice_get, refl, sym, ap, subst, ◌∙◌, arith, inl, inr}
use Rattle.std.proofs.lemmas.List.{length-append}
use Rattle.std.proofs.lemmas.Option.{none-some, slice_get_cases, slice_get_within}
use Rattle.pb_base.proofs.Logic.{not_both, one_value, same_some}
use Rattle.pb_generations.specs.Words.{Cell, Content, Row, ObserverOf, Entries, Marks, Sort, is_marked, IsVersion, data_at, data_of, start_of, write_at, StateOf, Transactions}
use Rattle.pb_history.proofs.Updates.{none_if}
use Rattle.pb_generations.specs.Chosen.{AreChosen, IsChosenSnapshot, chosen_cell, new_number, place_among, placed_after}
use Rattle.pb_generations.specs.KeptTables.{AreCovered}
use Rattle.pb_generations.specs.LeftOut.{LacksOthers, is_known_cell, known_entries, without_others}
use Rattle.pb_generations.specs.Mirrored.{IsMirroredBy, IsPartOf, SameVersion, SameVersionOn, carried}
use Rattle.pb_generations.specs.Renumbered.{IsRenumbered, renumbered_cell}
use Rattle.pb_generations.specs.Snapshots.{AreAcknowledgedLate, IsViewedAt, ServeAcknowledged, ShowsViewed}
use Rattle.pb_generations.proofs.ChosenNumbers.{chosen_is_renumbered, one_chosen, place_found, place_is}
use Rattle.pb_generations.proofs.KnownEntries.{known_same, unknown_none}
use Rattle.pb_generations.proofs.LongerLists.{either_list, stay_in_front}
use Rattle.pb_generations.proofs.SameVersions.{same_back, same_on}
use Rattle.pb_generations.proofs.ViewedVersions.{viewed_same, viewed_there}

-- the number in an acknowledgment
abbrev number_in : Cell → ℕ
number_in (Cell.Data row column) = zero
number_in (Cell.Ack o row column) = o

-- ---- two cells

-- what stands on the cell x of the first stands on y of the second
record SameOn (e : Entries) (x : Cell) (f : Entries) (y : Cell) : Type 0 where
  records : (d : ℕ) → write_at f y d ≡ write_at e x d
  stored : (s : ℕ) → data_at f y s ≡ data_at e x s

-- so it has the same versions
same_version : (e : Entries) (x : Cell) (f : Entries) (y : Cell) (t : ℕ) → SameOn e x f y → SameVersionOn t e x f y
same_version e x f y t same = record {
  there = λ v. (
    λ is. record { low = is.low; written = same.records v.commit.0 ∙ is.written; content = same.stored v.start.0 ∙ is.content; newest = λ n above low. same.records n ∙ is.newest n above low },
    λ is. record { low = is.low; written = sym (same.records v.commit.0) ∙ is.written; content = sym (same.stored v.start.0) ∙ is.content; newest = λ n above low. sym (same.records n) ∙ is.newest n above low },
  );
  none = (λ is n low. same.records n ∙ is n low, λ is n low. sym (same.records n) ∙ is n low);
}

-- a known cell stays as it was
known_is_same : (n : ℕ) (e : Entries) (x : Cell) → is_known_cell n x ≡ true → SameOn e x (known_entries n e) x
known_is_same n e x known = record { records = λ d. ap start_of (known_same n e x Sort.Write d known); stored = λ s. ap data_of (known_same n e x Sort.Data s known) }

-- ---- the cells of those that stay

module _ (c : ℕ) (gone : List ObserverOf) (whole lean renumbered : StateOf) (kept : Entries) (ts : Transactions) (places : List ℕ) (front added : List ObserverOf) (f : Entries) (lacks : LacksOthers c gone whole lean)
    (m : IsMirroredBy c lean kept ts) (serve : ServeAcknowledged lean.observers c lean.entries kept) (late : AreAcknowledgedLate lean.observers c lean) (chosen : AreChosen places lean.observers front)
    (moved : IsRenumbered (new_number places (length (front ++ added))) whole renumbered) (is : IsChosenSnapshot places (carried lean kept ts) f) where
  abbrev size : ℕ
  size = length (front ++ added)

  abbrev to_cell : Cell → Cell
  to_cell = renumbered_cell (new_number places size)

  same_clock : lean.clock ≡ whole.clock
  same_clock = ap (λ (z : StateOf). z.clock) lacks.lean_is

  -- each is known in the old table
  known_before : (x y : Cell) → chosen_cell places x ≡ Some y → is_known_cell (length lean.observers) x ≡ true
  known_before (Cell.Data row column) y e = refl
  known_before (Cell.Ack o row column) y e = by (place_among places o) refl e
    where
      below : (n : ℕ) → o < n → nat_lt o n ≡ true
      below n lt = grind (arith, lt)

      by : (r : Option ℕ) → place_among places o ≡ r → option_map (λ n. Cell.Ack n row column) r ≡ Some y → nat_lt o (length lean.observers) ≡ true
      by None there e = absurd (none-some y e)
      by (Some n) there e = let its = chosen.each n o (place_is places o n there) in below (length lean.observers) (slice_get_within lean.observers o its.0 its.1)

  -- and with its new number in the new one
  known_now : (x y : Cell) → chosen_cell places x ≡ Some y → is_known_cell size y ≡ true
  known_now (Cell.Data row column) y e = ap (is_known_cell size) (one_value (Some y) y (Cell.Data row column) refl (sym e))
  known_now (Cell.Ack o row column) y e = by (place_among places o) refl e
    where
      below : (n : ℕ) → n < length places → nat_lt n size ≡ true
      below n lt = let few : length front ≤ size = omega (arith, length-append front added) in let as_many = chosen.as_many in grind (arith, lt, few, as_many)

      by : (r : Option ℕ) → place_among places o ≡ r → option_map (λ n. Cell.Ack n row column) r ≡ Some y → is_known_cell size y ≡ true
      by None there e = absurd (none-some y e)
      by (Some n) there e = ap (is_known_cell size) (one_value (Some y) y (Cell.Ack n row column) refl (sym e)) ∙ below n (slice_get_within places n o (place_is places o n there))

  -- and no other cell of the table is
  chosen_where : (x : Cell) → is_known_cell size (to_cell x) ≡ true → chosen_cell places x ≡ Some (to_cell x)
  chosen_where (Cell.Data row column) known = refl
  chosen_where (Cell.Ack o row column) known = by (place_among places o) known
    where
      by : (r : Option ℕ) → nat_lt (placed_after size o r) size ≡ true → option_map (λ n. Cell.Ack n row column) r ≡ Some (Cell.Ack (placed_after size o r) row column)
      by None known = absurd (grind (arith, known))
      by (Some n) known = refl

  -- ---- what stands there

  abbrev left : Entries
  left = known_entries size renumbered.entries

  lean_same : (x : Cell) → is_known_cell (length lean.observers) x ≡ true → SameOn whole.entries x lean.entries x
  lean_same x known = subst (λ (z : StateOf). SameOn whole.entries x z.entries x) (sym lacks.lean_is) (known_is_same (length lean.observers) whole.entries x known)

  left_same : (x y : Cell) → chosen_cell places x ≡ Some y → SameOn lean.entries x left y
  left_same x y e =
      let there = known_is_same size renumbered.entries y (known_now x y e) in
      let lean_there = lean_same x (known_before x y e) in
      let cell = chosen_is_renumbered places size x y e in
      record {
        records = λ d. there.records d ∙ ap (λ (z : Cell). write_at renumbered.entries z d) (sym cell) ∙ moved.entries.records x d ∙ sym (lean_there.records d);
        stored = λ s. there.stored s ∙ ap (λ (z : Cell). data_at renumbered.entries z s) (sym cell) ∙ moved.entries.stored x s ∙ sym (lean_there.stored s);
      }

  -- a write record is on a cell of one that stays
  of_one : (y : Cell) (d s : ℕ) → write_at left y d ≡ Some s → (x : Cell) × (chosen_cell places x ≡ Some y)
  of_one y d s there = by (is_known_cell size y) refl
    where
      by : (b : Bool) → is_known_cell size y ≡ b → (x : Cell) × (chosen_cell places x ≡ Some y)
      by true known =
          let x = moved.entries.no_more_records y d s (sym (ap start_of (known_same size renumbered.entries y Sort.Write d known)) ∙ there) in
          (x.0, chosen_where x.0 (ap (is_known_cell size) (sym x.1) ∙ known) ∙ ap (λ (z : Cell). Some z) (sym x.1))
      by false not = absurd (none-some s (sym (ap start_of (unknown_none size renumbered.entries y Sort.Write d not)) ∙ there))

  -- what it shows

  left_clock : renumbered.clock ≡ lean.clock
  left_clock = moved.clock ∙ sym same_clock

  -- what an acknowledgment of the new table was
  of_ack : (x : Cell) (o : ℕ) (row : Row) (column : ℕ) → chosen_cell places x ≡ Some (Cell.Ack o row column) → (p : ℕ) × (x ≡ Cell.Ack p row column) × (place_among places p ≡ Some o)
  of_ack (Cell.Data r k) o row column e = absurd cc
  of_ack (Cell.Ack p r k) o row column e = by (place_among places p) refl e
    where
      by : (n : Option ℕ) → place_among places p ≡ n → option_map (λ n. Cell.Ack n r k) n ≡ Some (Cell.Ack o row column) → (q : ℕ) × (Cell.Ack p r k ≡ Cell.Ack q row column) × (place_among places q ≡ Some o)
      by None there e = absurd (none-some (Cell.Ack o row column) e)
      by (Some n) there e = let same = same_some (Cell.Ack n r k) (Cell.Ack o row column) e in (p, cc, there ∙ ap (λ (z : ℕ). Some z) (ap number_in same))

  -- a cell is one of those that stay, or none of the table becomes it
  from_cell : (y : Cell) → ((x : Cell) × (chosen_cell places x ≡ Some y)) ⊎ ((x : Cell) → chosen_cell places x ≡ Some y → ⊥)
  from_cell (Cell.Data row column) = inl (Cell.Data row column, refl)
  from_cell (Cell.Ack o row column) = elim (slice_get_cases places o).1 [
    | inl p ↦ inl (Cell.Ack p.0 row column, ap (option_map (λ n. Cell.Ack n row column)) (place_found places o p.0 chosen.apart p.2))
    | inr past ↦ inr (λ x becomes. let p = of_ack x o row column becomes in none-some p.0 (sym past.1 ∙ place_is places p.0 o p.2))
  ]

  -- what may be viewed of a cell may be viewed of it under its old name
  viewed_before : (marks : Marks) (x y : Cell) (t : ℕ) → chosen_cell places x ≡ Some y → IsViewedAt (without_others (front ++ added) renumbered marks) y t → IsViewedAt lean x t
  viewed_before marks x y t e (inl at) = inl (at ∙ left_clock)
  viewed_before marks x y t e (inr a) =
      let its_cell : x ≡ Cell.Data a.row a.observer.column = one_chosen places x (Cell.Data a.row a.observer.column) y e (ap (λ (z : Cell). Some z) (sym a.cell)) in
      let z = of_one (Cell.Ack a.o a.row a.observer.column) a.w.commit.0 a.w.start.0 a.is.written in
      let p = of_ack z.0 a.o a.row a.observer.column z.1 in
      let its = chosen.each a.o p.0 (place_is places p.0 a.o p.2) in
      let same : its.0 ≡ a.observer = one_value (slice_get (front ++ added) a.o) its.0 a.observer (stay_in_front front added a.o its.0 its.2) a.there in
      let ack : chosen_cell places (Cell.Ack p.0 a.row a.observer.column) ≡ Some (Cell.Ack a.o a.row a.observer.column) = ap (option_map (λ n. Cell.Ack n a.row a.observer.column)) p.2 in
      let version = ((same_version lean.entries (Cell.Ack p.0 a.row a.observer.column) left (Cell.Ack a.o a.row a.observer.column) renumbered.clock (left_same (Cell.Ack p.0 a.row a.observer.column) (Cell.Ack a.o a.row a.observer.column) ack)).there a.w).1 a.is in
      inr (record {
        o = p.0;
        row = a.row;
        observer = a.observer;
        there = its.1 ∙ ap (λ (z : ObserverOf). Some z) same;
        cell = its_cell;
        w = a.w;
        is = subst (λ (n : ℕ). IsVersion lean.entries (Cell.Ack p.0 a.row a.observer.column) n a.w) left_clock version;
        stamp = a.stamp;
      })

  viewed : (marks : Marks) (y : Cell) (t : ℕ) → IsViewedAt (without_others (front ++ added) renumbered marks) y t → SameVersion t left f y
  viewed marks y t at = elim (from_cell y) [
    | inl x ↦
        let before = viewed_before marks x.0 y t x.1 at in
        same_on t left y lean.entries x.0 f y (same_back t lean.entries x.0 left y (same_version lean.entries x.0 left y t (left_same x.0 y x.1)))
        (same_on t lean.entries x.0 kept x.0 f y (viewed_same c lean kept ts m serve late x.0 t before) (is.viewed x.0 y x.1 t (viewed_there c lean kept ts m serve late x.0 t before)))
    | inr nothing ↦
        let none_left : (d : ℕ) → write_at left y d ≡ None = λ d. none_if (write_at left y d) (λ s there. let x = of_one y d s there in nothing x.0 x.1) in
        let none_there : (d : ℕ) → write_at f y d ≡ None = λ d. none_if (write_at f y d) (λ s there. let x = is.only y d s there in nothing x.0 x.1) in
        record {
          there = λ v. (λ here. absurd (none-some v.start.0 (sym (none_left v.commit.0) ∙ here.written)), λ here. absurd (none-some v.start.0 (sym (none_there v.commit.0) ∙ here.written)));
          none = (λ _ d low. none_there d, λ _ d low. none_left d);
        }
  ]

  shows : (marks : Marks) → ((x : Cell) (d s : ℕ) → write_at kept x d ≡ Some s → (d ≤ lean.clock) × (s ≤ lean.clock)) → ((x : Cell) (s : ℕ) (k : Content) → data_at kept x s ≡ Some k → s ≤ lean.clock)
      → ShowsViewed (without_others (front ++ added) renumbered marks) f
  shows marks records bound = record {
    viewed = viewed marks;
    by_then = λ y d s there. let x = is.only y d s there in let by = records x.0 d s x.2 in (omega (arith, by.0, left_clock), omega (arith, by.1, left_clock));
    stored_by_then = λ y s k there. let x = is.no_more y s k there in let by = bound x.0 s k x.2 in omega (arith, by, left_clock);
    unlocked = is.unlocked;
  }

  -- it has nothing of its own
  has_nothing_more : IsPartOf lean.entries kept → IsPartOf left f
  has_nothing_more within = record {
    records = λ y d s there. let x = is.only y d s there in (left_same x.0 y x.1).records d ∙ within.records x.0 d s x.2;
    stored = λ y s k there. let x = is.no_more y s k there in (left_same x.0 y x.1).stored s ∙ within.stored x.0 s k x.2;
  }

pub chosen_within : (c : ℕ) (gone : List ObserverOf) (whole lean renumbered : StateOf) (kept : Entries) (ts : Transactions) (places : List ℕ) (front added : List ObserverOf) (f : Entries) → LacksOthers c gone whole lean
    → IsMirroredBy c lean kept ts → ServeAcknowledged lean.observers c lean.entries kept → AreAcknowledgedLate lean.observers c lean → AreChosen places lean.observers front
    → IsRenumbered (new_number places (length (front ++ added))) whole renumbered → IsChosenSnapshot places (carried lean kept ts) f → IsPartOf lean.entries kept
    → IsPartOf (known_entries (length (front ++ added)) renumbered.entries) f
chosen_within c gone whole lean renumbered kept ts places front added f lacks m serve late chosen moved is = has_nothing_more c gone whole lean renumbered kept ts places front added f lacks m serve late chosen moved is

pub chosen_shows : (c : ℕ) (gone : List ObserverOf) (whole lean renumbered : StateOf) (kept : Entries) (ts : Transactions) (marks : Marks) (places : List ℕ) (front added : List ObserverOf) (f : Entries) → LacksOthers c gone whole lean
    → IsMirroredBy c lean kept ts → ServeAcknowledged lean.observers c lean.entries kept → AreAcknowledgedLate lean.observers c lean → AreChosen places lean.observers front
    → IsRenumbered (new_number places (length (front ++ added))) whole renumbered → IsChosenSnapshot places (carried lean kept ts) f
    → ((x : Cell) (d s : ℕ) → write_at kept x d ≡ Some s → (d ≤ lean.clock) × (s ≤ lean.clock)) → ((x : Cell) (s : ℕ) (k : Content) → data_at kept x s ≡ Some k → s ≤ lean.clock)
    → ShowsViewed (without_others (front ++ added) renumbered marks) f
chosen_shows c gone whole lean renumbered kept ts marks places front added f lacks m serve late chosen moved is = shows c gone whole lean renumbered kept ts places front added f lacks m serve late chosen moved is marks

-- ---- what is marked for the one list and for the other is for both

pub both_covered : (front added : List ObserverOf) (marks more : Marks) (e : Entries) → AreCovered front marks e → ((x : Cell) → is_marked marks x ≡ true → is_marked more x ≡ true)
    → ((o : ℕ) (observer : ObserverOf) → slice_get added o ≡ Some observer → (row : Row) (d u : ℕ) → write_at e (Cell.Data row observer.column) d ≡ Some u → is_marked more (Cell.Data row observer.column) ≡ true)
    → AreCovered (front ++ added) more e
both_covered front added marks more e covered stays comes o observer there row off d u written = elim (either_list front added o observer there) [
  | inl first ↦ covered o observer first row (still_off (Cell.Data row observer.column) off) d u written
  | inr other ↦ absurd (not_both (is_marked more (Cell.Data row observer.column)) (comes other.1 observer other.2 row d u written) off)
]
  where
    still_off : (x : Cell) → is_marked more x ≡ false → is_marked marks x ≡ false
    still_off x off = by (is_marked marks x) (stays x)
      where
        by : (b : Bool) → (b ≡ true → is_marked more x ≡ true) → b ≡ false
        by true so = absurd (not_both (is_marked more x) (so refl) off)
        by false so = refl
