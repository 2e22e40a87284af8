-- One half of what tablets contain, entries or marks: tablets side by side as one map.
use Rattle.std.proofs.Common.{◌≡◌, ℕ, ◌<◌, ◌≤◌, Bool, true, false, cond, T, List, [], ◌∷◌, ◌++◌, Option, None, Some, refl, sym, ap, ◌∙◌, subst, arith, zero, suc, is_some, length, Ordering, Less, Equal}
use Rattle.std.specs.Ordering.{eq_by_cmp, is_eq}
use Rattle.std.specs.Cmp.{IsTotalOrder, tied_itself}
use Rattle.std.specs.FinMap as map
use Rattle.std.specs.FinMap.Entries as list
use Rattle.pb_store.specs.Contents.{Contents}
use Rattle.pb_store.specs.Tiles.{Tile, IsBelow, IsPlace}
use Rattle.pb_store.proofs.Routing.{tile_at, replace}
use Rattle.pb_base.proofs.Logic.{first_holds as first, second_holds as second, both_hold as both, less_holds as is_less}

-- keys in an order that goes by row first, and the half of contents that they name
pub record Half {K : Type 0} (R : K → K → Ordering) (X : Type 0) : Type 0 where
  pub total : IsTotalOrder R
  pub exact : map.IsAntisymmetric R
  pub row : K → ℕ
  pub by_row : (x y : K) → row x < row y → R x y ≡ Less
  pub part : Contents → map.FinMap R X

-- what tests as equal is `Equal`
equal_of : (r : Ordering) → is_eq r ≡ true → r ≡ Equal
equal_of r e = grind arith

-- the first value, or the second where there is none
abbrev or_else : {X : Type 0} → Option X → Option X → Option X
or_else None y = y
or_else (Some x) y = Some x

or_none : {X : Type 0} (x : Option X) → or_else x None ≡ x
or_none None = refl
or_none (Some x) = refl

-- what is not there by every reason to be there
absent : {X : Type 0} (x : Option X) → (is_some x ≡ true → ⊥) → x ≡ None
absent x never = grind arith

-- a row below the next tile is below those after it too, since first rows rise
pub below_rest : (n : ℕ) (tile : Tile) (tiles : List Tile) → n < tile.0 → IsBelow tile.0 tiles → IsBelow n tiles
below_rest n tile tiles lt rises = grind arith

-- new contents in a tile change no first row
pub still_below : (tiles : List Tile) (i : ℕ) (c : Contents) (n : ℕ) → IsBelow n tiles → IsBelow n (replace tiles i c)
still_below [] i c n b = b
still_below (tile ∷ tiles) zero c n b = b
still_below (tile ∷ tiles) (suc i) c n b = b

module _ {K X : Type 0} {R : K → K → Ordering} (h : Half R X) where
  -- the keys and values of all tiles, one tile after another
  abbrev pub all_of : List Tile → List (K × X)
  all_of [] = []
  all_of (tile ∷ tiles) = map.entries (h.part tile.1) ++ all_of tiles

  pub record Keeps (tile : Tile) (tiles : List Tile) : Type 0 where
    pub rises : IsBelow tile.0 tiles
    pub from_first : (q : K) → map.contains_key (h.part tile.1) q ≡ true → tile.0 ≤ h.row q
    pub before_next : (q : K) → map.contains_key (h.part tile.1) q ≡ true → IsBelow (h.row q) tiles

  -- each tile keeps to its rows
  abbrev pub Kept : List Tile → Type 0
  Kept [] = Unit {0}
  Kept (tile ∷ tiles) = Keeps tile tiles × Kept tiles

  find-++ : (q : K) (es fs : List (K × X)) → map.find R q (es ++ fs) ≡ or_else (map.find R q es) (map.find R q fs)
  find-++ q [] fs = refl
  find-++ q (e ∷ es) fs = grind (arith, find-++ q es fs)

  -- no tile holds a key of a row before them all
  none_before : (q : K) (tiles : List Tile) → Kept tiles → IsBelow (h.row q) tiles → map.find R q (all_of tiles) ≡ None
  none_before q [] kept below = refl
  none_before q (tile ∷ tiles) kept below =
      let here : map.get (h.part tile.1) q ≡ None = absent _ (λ is. let from = kept.0.from_first q is in omega (arith, from, below)) in
      find-++ q (map.entries (h.part tile.1)) (all_of tiles)
      ∙ ap (λ x. or_else x (map.find R q (all_of tiles))) (sym (map.get-entries (h.part tile.1) q) ∙ here)
      ∙ none_before q tiles kept.1 (below_rest _ tile tiles below kept.0.rises)

  not_below : (n i : ℕ) (tiles : List Tile) → Kept tiles → IsPlace tiles i n → IsBelow n tiles → ⊥
  not_below n i [] kept place below = place
  not_below n zero (tile ∷ tiles) kept place below = omega (arith, place.0, below)
  not_below n (suc i) (tile ∷ tiles) kept place below = not_below n i tiles kept.1 place (below_rest n tile tiles below kept.0.rises)

  -- a look-up goes to the tile of the key's row
  find-all_of : (q : K) (tiles : List Tile) (i : ℕ) → Kept tiles → IsPlace tiles i (h.row q) → map.find R q (all_of tiles) ≡ map.get (h.part (tile_at tiles i)) q
  find-all_of q [] i kept place = absurd place
  find-all_of q (tile ∷ tiles) zero kept place =
      find-++ q (map.entries (h.part tile.1)) (all_of tiles)
      ∙ ap (or_else (map.find R q (map.entries (h.part tile.1)))) (none_before q tiles kept.1 place.1)
      ∙ or_none _
      ∙ sym (map.get-entries (h.part tile.1) q)
  find-all_of q (tile ∷ tiles) (suc i) kept place =
      let here : map.get (h.part tile.1) q ≡ None = absent _ (λ is. not_below _ i tiles kept.1 place (kept.0.before_next q is)) in
      find-++ q (map.entries (h.part tile.1)) (all_of tiles)
      ∙ ap (λ x. or_else x (map.find R q (all_of tiles))) (sym (map.get-entries (h.part tile.1) q) ∙ here)
      ∙ find-all_of q tiles i kept.1 place

  -- a look-up in all tiles is one in the tile of the key's row
  pub get-all_of : (q : K) (tiles : List Tile) (i : ℕ) → Kept tiles → IsPlace tiles i (h.row q) → map.get (map.from_entries {R = R} (all_of tiles)) q ≡ map.get (h.part (tile_at tiles i)) q
  get-all_of q tiles i kept place = map.get-from_entries h.total (all_of tiles) q ∙ find-all_of q tiles i kept place

  -- a key stands in the tile of its row
  pub place_of_key : (q : K) (tiles : List Tile) (i : ℕ) → Kept tiles → i < length tiles → map.contains_key (h.part (tile_at tiles i)) q ≡ true → IsPlace tiles i (h.row q)
  place_of_key q [] i kept lt is = omega (arith, lt)
  place_of_key q (tile ∷ tiles) zero kept lt is = (kept.0.from_first q is, kept.0.before_next q is)
  place_of_key q (tile ∷ tiles) (suc i) kept lt is = place_of_key q tiles i kept.1 (omega arith) is

  place_above : (n m i : ℕ) (tiles : List Tile) → Kept tiles → IsBelow n tiles → IsPlace tiles i m → n < m
  place_above n m i [] kept below place = absurd place
  place_above n m zero (tile ∷ tiles) kept below place = omega (arith, place.0, below)
  place_above n m (suc i) (tile ∷ tiles) kept below place = place_above n m i tiles kept.1 (below_rest n tile tiles below kept.0.rises) place

  -- the rows of an earlier tile are below those of a later one
  pub places_rise : (n m i j : ℕ) (tiles : List Tile) → Kept tiles → IsPlace tiles i n → IsPlace tiles j m → i < j → n < m
  places_rise n m i j [] kept p q lt = absurd p
  places_rise n m i zero (tile ∷ tiles) kept p q lt = absurd (omega (arith, lt))
  places_rise n m zero (suc j) (tile ∷ tiles) kept p q lt = place_above n m j tiles kept.1 p.1 q
  places_rise n m (suc i) (suc j) (tile ∷ tiles) kept p q lt = places_rise n m i j tiles kept.1 p q (omega arith)

  -- what is in no tile is not in all of them
  pub find-nowhere : (q : K) (tiles : List Tile) → ((i : ℕ) → i < length tiles → map.get (h.part (tile_at tiles i)) q ≡ None) → map.find R q (all_of tiles) ≡ None
  find-nowhere q [] none = refl
  find-nowhere q (tile ∷ tiles) none =
      find-++ q (map.entries (h.part tile.1)) (all_of tiles)
      ∙ ap (λ x. or_else x (map.find R q (all_of tiles))) (sym (map.get-entries (h.part tile.1) q) ∙ none 0 (omega arith))
      ∙ find-nowhere q tiles (λ i lt. none (suc i) (omega arith))

  -- ---- in order
  abbrev has : List (K × X) → K → Bool
  has es q = is_some (map.find R q es)

  has_first : (e : K × X) (es : List (K × X)) → has (e ∷ es) e.0 ≡ true
  has_first e es = ap (λ r. is_some (cond (is_eq r) (Some e.1) (map.find R e.0 es))) (tied_itself h.total e.0)

  has_later : (e : K × X) (es : List (K × X)) (q : K) → has es q ≡ true → has (e ∷ es) q ≡ true
  has_later e es q is = elim (eq_by_cmp R q e.0) as (λ b. is_some (cond b (Some e.1) (map.find R q es)) ≡ true) [ true ↦ refl | false ↦ is ]

  below_part : (k : K) (es fs : List (K × X)) (low : ℕ) → h.row k < low → ((q : K) → has es q ≡ true → low ≤ h.row q) → T (list.below_all R k fs) → T (list.below_all R k (es ++ fs))
  below_part k [] fs low lt from rest = rest
  below_part k (e ∷ es) fs low lt from rest =
      let above = from e.0 (has_first e es) in
      both _ _ (is_less _ (h.by_row k e.0 (omega arith))) (below_part k es fs low lt (λ q is. from q (has_later e es q is)) rest)

  below_tiles : (k : K) (tiles : List Tile) → Kept tiles → IsBelow (h.row k) tiles → T (list.below_all R k (all_of tiles))
  below_tiles k [] kept below = tt
  below_tiles k (tile ∷ tiles) kept below =
      below_part k (map.entries (h.part tile.1)) (all_of tiles) tile.0 below
      (λ q is. kept.0.from_first q (ap is_some (map.get-entries (h.part tile.1) q) ∙ is))
      (below_tiles k tiles kept.1 (below_rest _ tile tiles below kept.0.rises))

  below_both : (k : K) (es fs : List (K × X)) → T (list.below_all R k es) → T (list.below_all R k fs) → T (list.below_all R k (es ++ fs))
  below_both k [] fs a b = b
  below_both k (e ∷ es) fs a b = both _ _ (first _ _ a) (below_both k es fs (second _ _ a) b)

  sorted_part : (es : List (K × X)) (tiles : List Tile) → Kept tiles → ((q : K) → has es q ≡ true → IsBelow (h.row q) tiles)
      → T (list.is_sorted R es) → T (list.is_sorted R (all_of tiles)) → T (list.is_sorted R (es ++ all_of tiles))
  sorted_part [] tiles kept before s rest = rest
  sorted_part (e ∷ es) tiles kept before s rest =
      both _ _ (below_both e.0 es (all_of tiles) (first _ _ s) (below_tiles e.0 tiles kept (before e.0 (has_first e es))))
      (sorted_part es tiles kept (λ q is. before q (has_later e es q is)) (second _ _ s) rest)

  sorted-all_of : (tiles : List Tile) → Kept tiles → T (list.is_sorted R (all_of tiles))
  sorted-all_of [] kept = tt
  sorted-all_of (tile ∷ tiles) kept =
      sorted_part (map.entries (h.part tile.1)) tiles kept.1
      (λ q is. kept.0.before_next q (ap is_some (map.get-entries (h.part tile.1) q) ∙ is))
      (map.entries_sorted (h.part tile.1)) (sorted-all_of tiles kept.1)

  -- all tiles one after another are in order already
  pub entries-all_of : (tiles : List Tile) → Kept tiles → map.entries (map.from_entries {R = R} (all_of tiles)) ≡ all_of tiles
  entries-all_of tiles kept =
      let s = sorted-all_of tiles kept in
      let same : map.from_entries {R = R} (all_of tiles) ≡ map.from_sorted {R = R} (all_of tiles) =
      map.same_map h.total h.exact _ _ (λ q. map.get-from_entries h.total _ q ∙ sym (map.get-from_sorted R _ q s)) in
      ap map.entries same ∙ map.entries-from_sorted R (all_of tiles) s

  -- ---- changes
  branches : (b : Bool) (w G F : Option X) → (b ≡ true → F ≡ None) → or_else (cond b w G) F ≡ cond b w (or_else G F)
  branches true w G F none = ap (or_else w) (none refl) ∙ or_none w
  branches false w G F none = refl

  later : (b : Bool) (w G F : Option X) → (b ≡ true → G ≡ None) → or_else G (cond b w F) ≡ cond b w (or_else G F)
  later true w G F none = ap (λ x. or_else x w) (none refl)
  later false w G F none = refl

  tied : (q k : K) → eq_by_cmp R q k ≡ true → q ≡ k
  tied q k b = h.exact q k (equal_of (R q k) b)

  -- one answers as the other does, but at the key
  abbrev pub ChangesAt : K → Option X → map.FinMap R X → map.FinMap R X → Type 0
  ChangesAt k w new old = (q : K) → map.get new q ≡ cond (eq_by_cmp R q k) w (map.get old q)

  -- with other contents in the key's tile, only the look-up of that key changes
  find-replace : (k q : K) (w : Option X) (c : Contents) (tiles : List Tile) (i : ℕ) → Kept tiles → IsPlace tiles i (h.row k)
      → map.get (h.part c) q ≡ cond (eq_by_cmp R q k) w (map.get (h.part (tile_at tiles i)) q)
      → map.find R q (all_of (replace tiles i c)) ≡ cond (eq_by_cmp R q k) w (map.find R q (all_of tiles))
  find-replace k q w c [] i kept place gets = absurd place
  find-replace k q w c (tile ∷ tiles) zero kept place gets =
      find-++ q (map.entries (h.part c)) (all_of tiles)
      ∙ ap (λ x. or_else x (map.find R q (all_of tiles))) (sym (map.get-entries (h.part c) q) ∙ gets)
      ∙ branches (eq_by_cmp R q k) w _ _ (λ b. none_before q tiles kept.1 (subst (λ p. IsBelow (h.row p) tiles) (sym (tied q k b)) place.1))
      ∙ ap (cond (eq_by_cmp R q k) w) (ap (λ x. or_else x (map.find R q (all_of tiles))) (map.get-entries (h.part tile.1) q) ∙ sym (find-++ q (map.entries (h.part tile.1)) (all_of tiles)))
  find-replace k q w c (tile ∷ tiles) (suc i) kept place gets =
      find-++ q (map.entries (h.part tile.1)) (all_of (replace tiles i c))
      ∙ ap (or_else (map.find R q (map.entries (h.part tile.1)))) (find-replace k q w c tiles i kept.1 place gets)
      ∙ later (eq_by_cmp R q k) w _ _ (λ b. sym (map.get-entries (h.part tile.1) q)
      ∙ absent _ (λ is. not_below _ i tiles kept.1 place (subst (λ p. IsBelow (h.row p) tiles) (tied q k b) (kept.0.before_next q is))))
      ∙ ap (cond (eq_by_cmp R q k) w) (sym (find-++ q (map.entries (h.part tile.1)) (all_of tiles)))

  Kept-replace : (k : K) (w : Option X) (c : Contents) (tiles : List Tile) (i : ℕ) → Kept tiles → IsPlace tiles i (h.row k)
      → ChangesAt k w (h.part c) (h.part (tile_at tiles i)) → Kept (replace tiles i c)
  Kept-replace k w c [] i kept place gets = tt
  Kept-replace k w c (tile ∷ tiles) zero kept place gets = grind arith
  Kept-replace k w c (tile ∷ tiles) (suc i) kept place gets = grind (arith, still_below, kept.0.rises, kept.0.from_first, kept.0.before_next, Kept-replace k w c tiles i kept.1 place gets)

  -- the half that an edit leaves alone
  pub all_of-replace_same : (c : Contents) (tiles : List Tile) (i : ℕ) → h.part c ≡ h.part (tile_at tiles i) → all_of (replace tiles i c) ≡ all_of tiles
  all_of-replace_same c [] i e = refl
  all_of-replace_same c (tile ∷ tiles) zero e = ap (λ m. map.entries m ++ all_of tiles) e
  all_of-replace_same c (tile ∷ tiles) (suc i) e = ap (λ es. map.entries (h.part tile.1) ++ es) (all_of-replace_same c tiles i e)

  pub Kept-replace_same : (c : Contents) (tiles : List Tile) (i : ℕ) → Kept tiles → h.part c ≡ h.part (tile_at tiles i) → Kept (replace tiles i c)
  Kept-replace_same c [] i kept e = tt
  Kept-replace_same c (tile ∷ tiles) zero kept e = grind arith
  Kept-replace_same c (tile ∷ tiles) (suc i) kept e = grind (arith, still_below, kept.0.rises, kept.0.from_first, kept.0.before_next, Kept-replace_same c tiles i kept.1 e)

  from_entries-replace : (k : K) (w : Option X) (c : Contents) (tiles : List Tile) (i : ℕ) (m : map.FinMap R X) → Kept tiles → IsPlace tiles i (h.row k)
      → ChangesAt k w (h.part c) (h.part (tile_at tiles i)) → ChangesAt k w m (map.from_entries {R = R} (all_of tiles))
      → map.from_entries {R = R} (all_of (replace tiles i c)) ≡ m
  from_entries-replace k w c tiles i m kept place gets new = map.same_map h.total h.exact _ _ (λ q.
      map.get-from_entries h.total _ q
      ∙ find-replace k q w c tiles i kept place (gets q)
      ∙ ap (cond (eq_by_cmp R q k) w) (sym (map.get-from_entries h.total (all_of tiles) q))
      ∙ sym (new q))

  inserts : (m n : map.FinMap R X) (k : K) (v : X) → n ≡ map.insert m k v → ChangesAt k (Some v) n m
  inserts m n k v e q = ap (λ x. map.get x q) e ∙ map.get-insert h.total m k v q

  removes : (m n : map.FinMap R X) (k : K) → n ≡ map.remove m k → ChangesAt k None n m
  removes m n k e q = ap (λ x. map.get x q) e ∙ map.get-remove h.total m k q

  pub from_entries-inserted : (k : K) (v : X) (c : Contents) (tiles : List Tile) (i : ℕ) → Kept tiles → IsPlace tiles i (h.row k)
      → h.part c ≡ map.insert (h.part (tile_at tiles i)) k v → map.from_entries {R = R} (all_of (replace tiles i c)) ≡ map.insert (map.from_entries (all_of tiles)) k v
  from_entries-inserted k v c tiles i kept place e = from_entries-replace k (Some v) c tiles i _ kept place (inserts _ _ k v e) (inserts _ _ k v refl)

  pub from_entries-removed : (k : K) (c : Contents) (tiles : List Tile) (i : ℕ) → Kept tiles → IsPlace tiles i (h.row k)
      → h.part c ≡ map.remove (h.part (tile_at tiles i)) k → map.from_entries {R = R} (all_of (replace tiles i c)) ≡ map.remove (map.from_entries (all_of tiles)) k
  from_entries-removed k c tiles i kept place e = from_entries-replace k None c tiles i _ kept place (removes _ _ k e) (removes _ _ k refl)

  pub Kept-inserted : (k : K) (v : X) (c : Contents) (tiles : List Tile) (i : ℕ) → Kept tiles → IsPlace tiles i (h.row k)
      → h.part c ≡ map.insert (h.part (tile_at tiles i)) k v → Kept (replace tiles i c)
  Kept-inserted k v c tiles i kept place e = Kept-replace k (Some v) c tiles i kept place (inserts _ _ k v e)

  pub Kept-removed : (k : K) (c : Contents) (tiles : List Tile) (i : ℕ) → Kept tiles → IsPlace tiles i (h.row k)
      → h.part c ≡ map.remove (h.part (tile_at tiles i)) k → Kept (replace tiles i c)
  Kept-removed k c tiles i kept place e = Kept-replace k None c tiles i kept place (removes _ _ k e)
