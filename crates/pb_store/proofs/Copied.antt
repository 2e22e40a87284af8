-- What a tablet contains, copied entry by entry and mark by mark into another.
use Rattle.std.proofs.Common.{◌≡◌, ℕ, ◌+◌, ◌-◌, ◌<◌, ◌≤◌, Bool, true, false, cond, not, T, List, [], ◌∷◌, ◌++◌, Option, None, Some, refl, sym, ap, ◌∙◌, arith, zero, suc, is_some, length, get_or, slice_get, take, drop, subst, Ordering, Less, Equal, Greater}
use Rattle.std.proofs.lemmas.List.{take_more, take_all}
use Rattle.std.proofs.lemmas.Option.{slice_get_within, get_or_from_slice_get}
use Rattle.std.specs.Ordering.{is_lt, is_eq, eq_by_cmp}
use Rattle.std.specs.Cmp.{IsTotalOrder}
use Rattle.std.specs.FinMap as map
use Rattle.std.specs.FinMap.{find, is_sorted}
use Rattle.std.specs.FinMap.Entries.{below_all, where_key, is_sorted-where_key, find-where_key}
use Rattle.pb_store.specs.Words.{Cell, cell_cmp, cell_cmp_total, cell_cmp-IsAntisymmetric}
use Rattle.pb_store.specs.declared.slot.Slot.{Slot}
use Rattle.pb_store.specs.declared.slot.Item.{Item}
use Rattle.pb_store.specs.Slot.{slot_cmp_total, slot_cmp-IsAntisymmetric}
use Rattle.pb_store.specs.Contents.{Contents, Entries, Marks, ComesAfter, IsNextMark, entries_after}
use Rattle.pb_store.proofs.Following.{after_told_entry}
use Rattle.pb_base.proofs.Logic.{none_is as no_item, less_if as less, first_holds as first, second_holds as second, first_of_drop, none_past, turned_order}

-- ---- entries
module _ {K X : Type 0} {R : K → K → Ordering} (o : IsTotalOrder R) where
  -- entries above a key are above it at each place
  pub below_at : (x : K) (es : List (K × X)) (i : ℕ) (d : K × X) → T (below_all R x es) → i < length es → R x (get_or es i d).0 ≡ Less
  below_at x [] i d h lt = absurd (omega (arith, lt))
  below_at x (e ∷ es) zero d h lt = less _ (first _ _ h)
  below_at x (e ∷ es) (suc i) d h lt = below_at x es i d (second _ _ h) (omega arith)

  -- none of the entries before one has its key
  not_before : (es : List (K × X)) (i : ℕ) (d : K × X) → T (is_sorted R es) → i < length es → find R (get_or es i d).0 (take i es) ≡ None
  not_before [] i d s lt = absurd (omega (arith, lt))
  not_before (e ∷ es) zero d s lt = refl
  not_before (e ∷ es) (suc i) d s lt =
      let apart : R (get_or es i d).0 e.0 ≡ Greater = turned_order o e.0 (get_or es i d).0 Less (below_at e.0 es i d (first _ _ s) (omega arith)) in
      ap (λ r. cond (is_eq r) (Some e.1) (find R (get_or es i d).0 (take i es))) apart ∙ not_before es i d (second _ _ s) (omega arith)

  -- a map, of which the entries before place i are copied
  module _ (exact : map.IsAntisymmetric R) (m : map.FinMap R X) where
    -- the map of all its entries is the map itself
    whole : map.from_entries (map.entries m) ≡ m
    whole = map.same_map o exact _ _ (λ q. map.get-from_entries o (map.entries m) q ∙ sym (map.get-entries m q))

    module _ (i : ℕ) (e : K × X) (at : Some e ≡ slice_get (map.entries m) i) where
      within : i < length (map.entries m)
      within = slice_get_within (map.entries m) i e (sym at)

      is_it : get_or (map.entries m) i e ≡ e
      is_it = get_or_from_slice_get (map.entries m) i e e (sym at)

      pub one_more_entry : map.from_entries {R = R} (take (i + 1) (map.entries m)) ≡ map.insert (map.from_entries (take i (map.entries m))) e.0 e.1
      one_more_entry =
          ap (λ es. map.from_entries {R = R} es) (take_more (map.entries m) i e within)
          ∙ ap (λ (x : K × X). map.from_entries {R = R} (take i (map.entries m) ++ x ∷ [])) is_it
          ∙ map.from_entries_push o exact (take i (map.entries m)) e.0 e.1
          (ap (λ (x : K × X). find R x.0 (take i (map.entries m))) (sym is_it) ∙ not_before (map.entries m) i e (map.entries_sorted m) within)

    pub all_entries_of : (i : ℕ) → map.len m ≤ i → map.from_entries {R = R} (take i (map.entries m)) ≡ m
    all_entries_of i le = let size = map.len-entries m in
        ap (λ es. map.from_entries {R = R} es) (take_all i (map.entries m) (omega (arith, size, le))) ∙ whole

-- ---- marks
-- whether a cell is at most the given one
abbrev pub up_to : Option Cell → Cell → Bool
up_to None q = false
up_to (Some a) q = not (is_lt (cell_cmp a q))

-- the marks up to a cell
abbrev pub marks_up_to : Option Cell → Marks → Marks
marks_up_to after m = map.from_sorted (where_key cell_cmp (up_to after) (map.entries m))

alike : (after : Option Cell) (q x : Cell) → cell_cmp q x ≡ Equal → up_to after x ≡ up_to after q
alike after q x e = ap (up_to after) (sym (cell_cmp-IsAntisymmetric q x e))

-- leaving marks out keeps the order
sorted_up_to : (after : Option Cell) (m : Marks) → T (is_sorted cell_cmp (where_key cell_cmp (up_to after) (map.entries m)))
sorted_up_to after m = is_sorted-where_key cell_cmp (up_to after) (map.entries m) (map.entries_sorted m)

get-up_to : (after : Option Cell) (m : Marks) (q : Cell) → map.get (marks_up_to after m) q ≡ cond (up_to after q) (map.get m q) None
get-up_to after m q =
    map.get-from_sorted cell_cmp _ q (sorted_up_to after m)
    ∙ find-where_key cell_cmp (up_to after) q (alike after q) (map.entries m)
    ∙ ap (λ x. cond (up_to after q) x None) (sym (map.get-entries m q))

-- leaving elements out makes no list longer
no_longer : {X : Type 0} (p : Cell → Bool) (es : List (Cell × X)) → length (where_key cell_cmp p es) ≤ length es
no_longer p [] = omega arith
no_longer p (e ∷ es) = grind (arith, no_longer p es)

len-up_to : (after : Option Cell) (m : Marks) → map.len (marks_up_to after m) ≤ map.len m
len-up_to after m =
    let part = map.len-entries (marks_up_to after m) ∙ ap length (map.entries-from_sorted cell_cmp _ (sorted_up_to after m)) in
    let all = map.len-entries m in
    omega (arith, part, all, no_longer (up_to after) (map.entries m))

unit_there : (x : Option (Unit {0})) → is_some x ≡ true → x ≡ Some tt
unit_there None e = cc
unit_there (Some tt) e = refl

-- before the first mark nothing is copied
pub no_marks_yet : (m : Marks) → map.empty ≡ marks_up_to None m
no_marks_yet m = map.same_map cell_cmp_total cell_cmp-IsAntisymmetric _ _ (λ q. map.get-empty cell_cmp q ∙ sym (get-up_to None m q))

-- a cell that isn't up to the given one comes after it
comes_or_not : (after : Option Cell) (q : Cell) → up_to after q ≡ false → ComesAfter after q
comes_or_not None q e = tt
comes_or_not (Some a) q e = grind arith

-- a cell after the next mark wasn't reached before it either
beyond : (after : Option Cell) (n q : Cell) → ComesAfter after n → cell_cmp n q ≡ Less → up_to after q ≡ false
beyond None n q comes lt = refl
beyond (Some a) n q comes lt = ap (λ r. not (is_lt r)) (cell_cmp_total.trans a n q comes lt)

-- what is not up to a cell, and has no mark, is not lost
kept_where_none : (b : Bool) (x : Option (Unit {0})) → (b ≡ false → x ≡ None) → cond b x None ≡ x
kept_where_none true x f = refl
kept_where_none false x f = sym (f refl)

module _ (m : Marks) (after : Option Cell) where
  pub all_marks_of : IsNextMark m after None → marks_up_to after m ≡ m
  all_marks_of none = map.same_map cell_cmp_total cell_cmp-IsAntisymmetric _ _ (λ q.
      get-up_to after m q ∙ kept_where_none (up_to after q) (map.get m q) (λ e. no_item _ (none q (comes_or_not after q e))))

  module _ (n : Cell) (next : IsNextMark m after (Some n)) where
    here : (q : Cell) → cell_cmp q n ≡ Equal → Some tt ≡ map.get m q
    here q e = sym (ap (map.get m) (cell_cmp-IsAntisymmetric q n e) ∙ unit_there _ next.0)

    same_at : (q : Cell) → cond (eq_by_cmp cell_cmp q n) (Some tt) (cond (up_to after q) (map.get m q) None) ≡ cond (up_to (Some n) q) (map.get m q) None
    same_at q =
        elim (cell_cmp q n) as (λ r. cell_cmp q n ≡ r → cond (is_eq r) (Some tt) (cond (up_to after q) (map.get m q) None) ≡ cond (up_to (Some n) q) (map.get m q) None) [
          | Less ↦ λ e.
              kept_where_none (up_to after q) (map.get m q) (λ f. no_item _ (next.2 q (comes_or_not after q f) e))
              ∙ sym (ap (λ r. cond (not (is_lt r)) (map.get m q) None) (turned_order cell_cmp_total q n Less e))
          | Equal ↦ λ e. here q e ∙ sym (ap (λ r. cond (not (is_lt r)) (map.get m q) None) (turned_order cell_cmp_total q n Equal e))
          | Greater ↦ λ e.
              ap (λ b. cond b (map.get m q) None) (beyond after n q next.1 (turned_order cell_cmp_total q n Greater e))
              ∙ sym (ap (λ r. cond (not (is_lt r)) (map.get m q) None) (turned_order cell_cmp_total q n Greater e))
        ] refl

    -- to mark the next cell is to have copied the marks up to it, since none stands between
    pub one_more_mark : map.insert (marks_up_to after m) n tt ≡ marks_up_to (Some n) m
    one_more_mark = map.same_map cell_cmp_total cell_cmp-IsAntisymmetric _ _ (λ q.
        map.get-insert cell_cmp_total (marks_up_to after m) n tt q
        ∙ ap (cond (eq_by_cmp cell_cmp q n) (Some tt)) (get-up_to after m q)
        ∙ same_at q
        ∙ sym (get-up_to (Some n) m q))

    not_yet : (o : Option Cell) → ComesAfter o n → up_to o n ≡ false
    not_yet None comes = refl
    not_yet (Some a) comes = ap (λ r. not (is_lt r)) comes

    unmarked : map.contains_key (marks_up_to after m) n ≡ false
    unmarked = ap is_some (get-up_to after m n ∙ ap (λ b. cond b (map.get m n) None) (not_yet after next.1))

    -- the loop over marks ends, since each turn copies one that wasn't copied
    pub fewer_left : map.len m - map.len (map.insert (marks_up_to after m) n tt) < map.len m - map.len (marks_up_to after m)
    fewer_left =
        let more : map.len (map.insert (marks_up_to after m) n tt) ≡ map.len (marks_up_to after m) + 1 =
        map.len-insert cell_cmp_total (marks_up_to after m) n tt ∙ ap (λ b. cond b (map.len (marks_up_to after m)) (map.len (marks_up_to after m) + 1)) unmarked in
        let most = len-up_to (Some n) m in
        let same = ap map.len one_more_mark in
        omega (arith, more, most, same)

drop_next : {E : Type 0} (xs : List E) (i : ℕ) → drop 1 (drop i xs) ≡ drop (suc i) xs
drop_next [] zero = refl
drop_next [] (suc i) = refl
drop_next (x ∷ xs) zero = refl
drop_next (x ∷ xs) (suc i) = drop_next xs i

-- each turn of the walk leaves one less
shorter : {E : Type 0} (xs : List E) (x : E) → Some x ≡ slice_get xs 0 → length (drop 1 xs) < length xs
shorter [] x p = cc
shorter (y ∷ xs) x p = omega arith

-- ---- both, as a tablet's contents
pub copied_entry : (m : Entries) (i : ℕ) (old new : Contents) (slot : Slot) (item : Item) → old ≡ record { entries = map.from_entries (take i (map.entries m)); marks = map.empty }
    → Some (slot, item) ≡ slice_get (map.entries m) i → new ≡ record { entries = map.insert old.entries slot item; marks = old.marks }
    → new ≡ record { entries = map.from_entries (take (i + 1) (map.entries m)); marks = map.empty }
copied_entry m i old new slot item was at done =
    done
    ∙ ap (λ (c : Contents). record { entries = map.insert c.entries slot item; marks = c.marks }) was
    ∙ ap (λ es. record { entries = es; marks = map.empty }) (sym (one_more_entry slot_cmp_total slot_cmp-IsAntisymmetric m i (slot, item) at))

-- once as many are copied as there are, all of them are
pub copied_entries : (m : Entries) (i : ℕ) (c : Contents) → c ≡ record { entries = map.from_entries (take i (map.entries m)); marks = map.empty } → map.len m ≤ i → c ≡ record { entries = m; marks = map.empty }
copied_entries m i c was le = was ∙ ap (λ es. record { entries = es; marks = map.empty }) (all_entries_of slot_cmp_total slot_cmp-IsAntisymmetric m i le)

-- the entries before place i are copied, and those after the slot are left, of which e is the first
module _ (m : Entries) (after : Option Slot) (i : ℕ) (left : entries_after after (map.entries m) ≡ drop i (map.entries m)) where
  pub none_left : None ≡ slice_get (entries_after after (map.entries m)) 0 → map.len m ≤ i
  none_left p = let size = map.len-entries m in omega (arith, size, none_past (map.entries m) i (p ∙ ap (λ es. slice_get es 0) left ∙ first_of_drop (map.entries m) i))

  module _ (e : Slot × Item) (p : Some e ≡ slice_get (entries_after after (map.entries m)) 0) where
    rest : entries_after (Some e.0) (map.entries m) ≡ drop 1 (entries_after after (map.entries m))
    rest = after_told_entry after (map.entries m) e (map.entries_sorted m) p

    pub stands_there : Some e ≡ slice_get (map.entries m) i
    stands_there = p ∙ ap (λ es. slice_get es 0) left ∙ first_of_drop (map.entries m) i

    pub left_behind : entries_after (Some e.0) (map.entries m) ≡ drop (i + 1) (map.entries m)
    left_behind = grind (arith, rest, drop_next)

    pub fewer_entries : length (entries_after (Some e.0) (map.entries m)) < length (entries_after after (map.entries m))
    fewer_entries = subst (λ es. length es < length (entries_after after (map.entries m))) (sym rest) (shorter (entries_after after (map.entries m)) e p)
