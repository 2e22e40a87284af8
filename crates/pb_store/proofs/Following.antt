-- What follows an entry in sorted entries, and over tablets side by side.
use Rattle.std.proofs.Common.{◌≡◌, ℕ, ◌+◌, ◌<◌, ◌≤◌, true, false, cond, T, List, [], ◌∷◌, ◌++◌, Option, None, Some, IfSome, refl, sym, ap, ◌∙◌, arith, zero, suc, is_some, length, drop, get_or, slice_get, filter, option_map, Ordering, Less, Equal, Greater}
use Rattle.std.proofs.lemmas.List.{at_drop_more, drop_all}
use Rattle.std.proofs.lemmas.List.Elements.{filter-append}
use Rattle.std.specs.Ordering.{is_lt, is_eq, eq_by_cmp, ordering_reverse}
use Rattle.std.specs.Cmp.{IsTotalOrder, tied_itself}
use Rattle.std.specs.FinMap as map
use Rattle.std.specs.FinMap.Entries.{find, is_sorted, below_all}
use Rattle.pb_store.specs.Words.{Row, row_of}
use Rattle.pb_store.specs.declared.slot.Slot.{Slot}
use Rattle.pb_store.specs.declared.slot.Item.{Item}
use Rattle.pb_store.specs.Slot.{slot_cmp, slot_cmp_total}
use Rattle.pb_store.specs.Contents.{Contents, entries_after}
use Rattle.pb_store.specs.Tiles.{Tile, AreTiled, IsPlace, IsStart, tiles_of, all_entries}
use Rattle.pb_store.proofs.Joined.{slots_by_row}
use Rattle.pb_base.proofs.Logic.{less_if as less, first_holds as first, second_holds as second, both_hold as both, less_holds as is_less}

-- ---- sorted entries
module _ {K X : Type 0} {R : K → K → Ordering} (o : IsTotalOrder R) where
  abbrev above : K → List (K × X) → List (K × X)
  above k es = filter (λ e. is_lt (R k e.0)) es

  all_above : (k : K) (es : List (K × X)) → T (below_all R k es) → above k es ≡ es
  all_above k [] h = refl
  all_above k (e ∷ es) h =
      ap (λ r. cond (is_lt r) (e ∷ above k es) (above k es)) (less _ (first _ _ h)) ∙ ap (λ l. e ∷ l) (all_above k es (second _ _ h))

  below_lower : (k x : K) (es : List (K × X)) → R k x ≡ Less → T (below_all R x es) → T (below_all R k es)
  below_lower k x [] lt h = tt
  below_lower k x (e ∷ es) lt h = both _ _ (is_less _ (o.trans k x e.0 lt (less _ (first _ _ h)))) (below_lower k x es lt (second _ _ h))

  above_all_below : (x k : K) (e : K × X) (es : List (K × X)) → T (below_all R x es) → Some e ≡ slice_get (above k es) 0 → R x e.0 ≡ Less
  above_all_below x k e [] h p = cc
  above_all_below x k e (y ∷ es) h p =
      elim (R k y.0) as (λ r. Some e ≡ slice_get (cond (is_lt r) (y ∷ above k es) (above k es)) 0 → R x e.0 ≡ Less) [
        | Less ↦ λ q. let same : e ≡ y = cc in ap (λ (z : K × X). R x z.0) same ∙ less _ (first _ _ h)
        | Equal ↦ λ q. above_all_below x k e es (second _ _ h) q
        | Greater ↦ λ q. above_all_below x k e es (second _ _ h) q
      ] p

  behind_first : (es : List (K × X)) (e : K × X) → T (is_sorted R es) → Some e ≡ slice_get es 0 → above e.0 es ≡ drop 1 es
  behind_first es e s p = grind (arith, all_above, first)

  not_itself : (x e : K × X) (es : List (K × X)) → R x.0 e.0 ≡ Less → above e.0 (x ∷ es) ≡ above e.0 es
  not_itself x e es lt = ap (λ r. cond (is_lt r) (x ∷ above e.0 es) (above e.0 es)) (o.antisymm e.0 x.0 ∙ ap ordering_reverse lt)

  behind_next : (k : K) (es : List (K × X)) (e : K × X) → T (is_sorted R es) → Some e ≡ slice_get (above k es) 0 → above e.0 es ≡ drop 1 (above k es)
  behind_next k [] e s p = cc
  behind_next k (x ∷ es) e s p =
      let left : Ordering → List (K × X) = λ r. cond (is_lt r) (x ∷ above k es) (above k es) in
      let P : Ordering → Type 0 = λ r. R k x.0 ≡ r → Some e ≡ slice_get (left r) 0 → above e.0 (x ∷ es) ≡ drop 1 (left r) in
      elim (R k x.0) as P [
        | Less ↦ λ lt q. behind_first (x ∷ es) e s q ∙ sym (all_above k es (below_lower k x.0 es lt (first _ _ s)))
        | Equal ↦ λ _ q. not_itself x e es (above_all_below x.0 k e es (first _ _ s) q) ∙ behind_next k es e (second _ _ s) q
        | Greater ↦ λ _ q. not_itself x e es (above_all_below x.0 k e es (first _ _ s) q) ∙ behind_next k es e (second _ _ s) q
      ] refl p

-- after the entry that a walk got comes what is left without it
pub after_told_entry : (after : Option Slot) (es : List (Slot × Item)) (e : Slot × Item) → T (is_sorted slot_cmp es) → Some e ≡ slice_get (entries_after after es) 0
    → entries_after (Some e.0) es ≡ drop 1 (entries_after after es)
after_told_entry None es e s p = behind_first slot_cmp_total es e s p
after_told_entry (Some k) es e s p = behind_next slot_cmp_total k es e s p

-- and where it got none, nothing is to be shown
pub rest_behind : (after : Option Slot) (es : List (Slot × Item)) (r : Option (Slot × Item)) → T (is_sorted slot_cmp es) → r ≡ slice_get (entries_after after es) 0
    → IfSome r (λ e. entries_after (Some e.0) es ≡ drop 1 (entries_after after es))
rest_behind after es r s p = grind (arith, after_told_entry)

-- ---- tablets side by side
after-append : (after : Option Slot) (xs ys : List (Slot × Item)) → entries_after after (xs ++ ys) ≡ entries_after after xs ++ entries_after after ys
after-append after xs ys = grind (arith, filter-append)

has_head : (e : Slot × Item) (es : List (Slot × Item)) → is_some (find slot_cmp e.0 (e ∷ es)) ≡ true
has_head e es = ap (λ r. is_some (cond (is_eq r) (Some e.1) (find slot_cmp e.0 es))) (tied_itself slot_cmp_total e.0)

has_tail : (q : Slot) (e : Slot × Item) (es : List (Slot × Item)) → is_some (find slot_cmp q es) ≡ true → is_some (find slot_cmp q (e ∷ es)) ≡ true
has_tail q e es h = elim (eq_by_cmp slot_cmp q e.0) as (λ b. is_some (cond b (Some e.1) (find slot_cmp q es)) ≡ true) [ true ↦ refl | false ↦ h ]

-- a tablet whose keys are all at or before the slot adds nothing to a walk from there
none_after : (k : Slot) (es : List (Slot × Item)) → ((q : Slot) → is_some (find slot_cmp q es) ≡ true → is_lt (slot_cmp k q) ≡ false) → entries_after (Some k) es ≡ []
none_after k [] h = refl
none_after k (e ∷ es) h =
    ap (λ b. cond b (e ∷ entries_after (Some k) es) (entries_after (Some k) es)) (h e.0 (has_head e es)) ∙ none_after k es (λ q is. h q (has_tail q e es is))

-- the first row of a tablet up to the row's own is at most that row
first_low : (tile : Tile) (tiles : List Tile) (i row : ℕ) → AreTiled (tile ∷ tiles) → IsPlace (tile ∷ tiles) i row → tile.0 ≤ row
first_low tile tiles zero row t p = p.0
first_low tile [] (suc i) row t p = absurd p
first_low tile (next ∷ tiles) (suc i) row t p = let low = first_low next tiles i row t.1 p in omega (arith, low, t.0.rises)

-- a slot of a lower row doesn't come after
not_after : (q k : Slot) → (row_of q.cell).0 < (row_of k.cell).0 → is_lt (slot_cmp k q) ≡ false
not_after q k lt = ap is_lt (slot_cmp_total.antisymm k q ∙ ap ordering_reverse (slots_by_row q k lt))

-- no tablet before the row's own has an entry after the slot
skipped : (k : Slot) (tiles : List Tile) (i : ℕ) → AreTiled tiles → IsPlace tiles i (row_of k.cell).0 → entries_after (Some k) (all_entries tiles) ≡ entries_after (Some k) (all_entries (drop i tiles))
skipped k [] i t p = absurd p
skipped k (tile ∷ tiles) zero t p = refl
skipped k (tile ∷ []) (suc i) t p = absurd p
skipped k (tile ∷ next ∷ tiles) (suc i) t p =
    let low = first_low next tiles i (row_of k.cell).0 t.1 p in
    after-append (Some k) (map.entries tile.1.entries) (all_entries (next ∷ tiles))
    ∙ ap (λ es. es ++ entries_after (Some k) (all_entries (next ∷ tiles)))
    (none_after k (map.entries tile.1.entries) (λ q is. let before = t.0.before_next q (ap is_some (map.get-entries tile.1.entries q) ∙ is) in not_after q k (omega (arith, low, before))))
    ∙ skipped k (next ∷ tiles) i t.1 p

-- a walk may begin at the tablet of the slot's row, since those before have nothing after it
from_start : (after : Option Slot) (tiles : List Tile) (i : ℕ) → AreTiled tiles → IsStart tiles i (option_map (λ s. s.cell) after)
    → entries_after after (all_entries tiles) ≡ entries_after after (all_entries (drop i tiles))
from_start after tiles i t start = grind (arith, skipped)

-- the first of two lists together is that of the first list, where it has one
head_front : {E : Type 0} (xs ys : List E) (x : E) → Some x ≡ slice_get xs 0 → slice_get (xs ++ ys) 0 ≡ Some x
head_front [] ys x p = cc
head_front (y ∷ xs) ys x p = sym p

-- else it is that of the second
head_back : {E : Type 0} (xs ys : List E) → None ≡ slice_get xs 0 → slice_get (xs ++ ys) 0 ≡ slice_get ys 0
head_back [] ys p = refl
head_back (y ∷ xs) ys p = cc

none_of_none : (after : Option Slot) → slice_get (entries_after {X = Item} after []) 0 ≡ None
none_of_none after = grind arith

module _ {T : Type 0} (c : T → Contents) (parts : List (Row × T)) (after : Option Slot) where
  -- the first entry after the slot in the tablets from i on
  abbrev pub next_from : ℕ → Option (Slot × Item)
  next_from i = slice_get (entries_after after (all_entries (tiles_of c (drop i parts)))) 0

  drop-tiles_of : (i : ℕ) (ps : List (Row × T)) → drop i (tiles_of c ps) ≡ tiles_of c (drop i ps)
  drop-tiles_of zero ps = refl
  drop-tiles_of (suc i) [] = refl
  drop-tiles_of (suc i) (p ∷ ps) = drop-tiles_of i ps

  pub next_from_start : (i : ℕ) → AreTiled (tiles_of c parts) → IsStart (tiles_of c parts) i (option_map (λ s. s.cell) after)
      → slice_get (entries_after after (all_entries (tiles_of c parts))) 0 ≡ next_from i
  next_from_start i t start = ap (λ es. slice_get es 0) (from_start after (tiles_of c parts) i t start ∙ ap (λ ts. entries_after after (all_entries ts)) (drop-tiles_of i parts))

  pub next_past_all : (i : ℕ) → length parts ≤ i → next_from i ≡ None
  next_past_all i le = ap (λ (ps : List (Row × T)). slice_get (entries_after after (all_entries (tiles_of c ps))) 0) (drop_all i parts le) ∙ none_of_none after

  module _ (i : ℕ) (d : Row × T) (lt : i < length parts) where
    abbrev here : List (Slot × Item)
    here = map.entries (c (get_or parts i d).1).entries

    opened : next_from i ≡ slice_get (entries_after after here ++ entries_after after (all_entries (tiles_of c (drop (i + 1) parts)))) 0
    opened = at_drop_more (λ ps. slice_get (entries_after after (all_entries (tiles_of c ps))) 0) parts i d lt
        ∙ ap (λ es. slice_get es 0) (after-append after here (all_entries (tiles_of c (drop (i + 1) parts))))

    pub next_here : (e : Slot × Item) → Some e ≡ slice_get (entries_after after here) 0 → next_from i ≡ Some e
    next_here e p = opened ∙ head_front _ _ e p

    pub next_later : None ≡ slice_get (entries_after after here) 0 → next_from i ≡ next_from (i + 1)
    next_later p = opened ∙ head_back _ _ p
