-- What tablets contain together: look-ups and edits go to the tablet of the row.
use Rattle.std.proofs.Common.{◌≡◌, ℕ, ◌+◌, ◌<◌, ◌==◌, ◌&&◌, Bool, List, [], ◌∷◌, ◌++◌, refl, sym, ap, ◌∙◌, subst, arith, zero, suc, length, length-append, Less}
use Rattle.std.specs.Ordering.{nat_cmp, ordering_then}
use Rattle.std.specs.Cmp.{nat_cmp_is}
use Rattle.std.specs.FinMap as map
use Rattle.pb_store.specs.Words.{Cell, row_of, column_of, rank_of, cell_cmp, cell_cmp_total, cell_cmp-IsAntisymmetric}
use Rattle.pb_store.specs.declared.slot.Slot.{Slot}
use Rattle.pb_store.specs.declared.slot.Item.{Item}
use Rattle.pb_store.specs.declared.slot.Edit.{Edit}
use Rattle.pb_store.specs.Slot.{sort_rank, slot_cmp, slot_cmp_total, slot_cmp-IsAntisymmetric}
use Rattle.pb_store.specs.Contents.{Contents, Entries, Marks, is_nothing, after_edit, after_edits, edit_row, AreOfRow}
use Rattle.pb_store.specs.Tiles.{Tile, AreTiled, BeginAtZero, IsTiling, IsPlace, all_entries, all_marks, all_nothing, joined}
use Rattle.pb_store.proofs.Halves.{Half, Kept, all_of, get-all_of, entries-all_of, all_of-replace_same, from_entries-inserted, from_entries-removed, Kept-inserted, Kept-removed, Kept-replace_same, still_below}
use Rattle.pb_store.proofs.Routing.{tile_at, replace, replace_same}

pub joined-entries : (tiles : List Tile) → (joined tiles).entries ≡ map.from_entries (all_entries tiles)
unfolding joined
joined-entries tiles = refl

pub joined-marks : (tiles : List Tile) → (joined tiles).marks ≡ map.from_entries (all_marks tiles)
unfolding joined
joined-marks tiles = refl

-- cells of a lower row come first, whatever their columns
pub cells_by_row : (x y : Cell) → (row_of x).0 < (row_of y).0 → cell_cmp x y ≡ Less
cells_by_row x y lt = ap (λ r. ordering_then r (ordering_then (nat_cmp (column_of x) (column_of y)) (nat_cmp (rank_of x) (rank_of y)))) (sym (nat_cmp_is (row_of x).0 (row_of y).0 Less lt))

-- and so do slots, since they go by cell first
pub slots_by_row : (x y : Slot) → (row_of x.cell).0 < (row_of y.cell).0 → slot_cmp x y ≡ Less
slots_by_row x y lt = ap (λ r. ordering_then r (ordering_then (nat_cmp (sort_rank x.sort) (sort_rank y.sort)) (nat_cmp x.ts.0 y.ts.0))) (cells_by_row x.cell y.cell lt)

-- entries and marks are two cases of one argument, which needs an order that goes by row first
abbrev entry_half : Half slot_cmp Item
entry_half = record { total = slot_cmp_total; exact = slot_cmp-IsAntisymmetric; row = λ q. (row_of q.cell).0; by_row = slots_by_row; part = λ c. c.entries }

abbrev pub mark_half : Half cell_cmp (Unit {0})
mark_half = record { total = cell_cmp_total; exact = cell_cmp-IsAntisymmetric; row = λ q. (row_of q).0; by_row = cells_by_row; part = λ c. c.marks }

-- tiles that keep to their rows do so with each half alone
entries_kept : (tiles : List Tile) → AreTiled tiles → Kept entry_half tiles
entries_kept [] t = tt
entries_kept (tile ∷ tiles) t = (record { rises = t.0.rises; from_first = t.0.from_first; before_next = t.0.before_next }, entries_kept tiles t.1)

pub marks_kept : (tiles : List Tile) → AreTiled tiles → Kept mark_half tiles
marks_kept [] t = tt
marks_kept (tile ∷ tiles) t = (record { rises = t.0.rises; from_first = t.0.marks_from_first; before_next = t.0.marks_before_next }, marks_kept tiles t.1)

-- and with both halves they do so as a whole
tiled_from_kept : (tiles : List Tile) → Kept entry_half tiles → Kept mark_half tiles → AreTiled tiles
tiled_from_kept [] e m = tt
tiled_from_kept (tile ∷ tiles) e m = grind (arith, e.0.rises, e.0.from_first, e.0.before_next, m.0.from_first, m.0.before_next, tiled_from_kept tiles e.1 m.1)

same_entries : (tiles : List Tile) → all_entries tiles ≡ all_of entry_half tiles
same_entries [] = refl
same_entries (tile ∷ tiles) = ap (λ es. map.entries tile.1.entries ++ es) (same_entries tiles)

same_marks : (tiles : List Tile) → all_marks tiles ≡ all_of mark_half tiles
same_marks [] = refl
same_marks (tile ∷ tiles) = ap (λ es. map.entries tile.1.marks ++ es) (same_marks tiles)

-- the entries of all tiles, in the words of a half
entries_joined : (tiles : List Tile) → (joined tiles).entries ≡ map.from_entries (all_of entry_half tiles)
entries_joined tiles = joined-entries tiles ∙ ap (λ es. map.from_entries es) (same_entries tiles)

pub marks_joined : (tiles : List Tile) → (joined tiles).marks ≡ map.from_entries (all_of mark_half tiles)
marks_joined tiles = joined-marks tiles ∙ ap (λ es. map.from_entries es) (same_marks tiles)

-- ---- look-ups
pub get-joined : (q : Slot) (tiles : List Tile) (i : ℕ) → AreTiled tiles → IsPlace tiles i (row_of q.cell).0 → map.get (joined tiles).entries q ≡ map.get (tile_at tiles i).entries q
get-joined q tiles i tiled place = ap (λ m. map.get m q) (entries_joined tiles) ∙ get-all_of entry_half q tiles i (entries_kept tiles tiled) place

pub mark-joined : (q : Cell) (tiles : List Tile) (i : ℕ) → AreTiled tiles → IsPlace tiles i (row_of q).0 → map.get (joined tiles).marks q ≡ map.get (tile_at tiles i).marks q
mark-joined q tiles i tiled place = ap (λ m. map.get m q) (marks_joined tiles) ∙ get-all_of mark_half q tiles i (marks_kept tiles tiled) place

pub entries-joined : (tiles : List Tile) → AreTiled tiles → map.entries (joined tiles).entries ≡ all_entries tiles
entries-joined tiles tiled = ap map.entries (entries_joined tiles) ∙ entries-all_of entry_half tiles (entries_kept tiles tiled) ∙ sym (same_entries tiles)

marks-joined : (tiles : List Tile) → AreTiled tiles → map.entries (joined tiles).marks ≡ all_marks tiles
marks-joined tiles tiled = ap map.entries (marks_joined tiles) ∙ entries-all_of mark_half tiles (marks_kept tiles tiled) ∙ sym (same_marks tiles)

-- ---- emptiness
none_of_both : (a b : ℕ) → (a + b == 0) ≡ ((a == 0) && (b == 0))
none_of_both a b = grind arith

regroup : (a b c d : Bool) → ((a && b) && (c && d)) ≡ ((a && c) && (b && d))
regroup a b c d = grind arith

-- no tile lists an entry or a mark
abbrev none_listed : List Tile → Bool
none_listed tiles = (length (all_entries tiles) == 0) && (length (all_marks tiles) == 0)

all_nothing-listed : (tiles : List Tile) → none_listed tiles ≡ all_nothing tiles
all_nothing-listed [] = refl
all_nothing-listed (tile ∷ tiles) =
    let e : (length (all_entries (tile ∷ tiles)) == 0) ≡ ((map.len tile.1.entries == 0) && (length (all_entries tiles) == 0)) =
    ap (λ n. n == 0) (length-append (map.entries tile.1.entries) (all_entries tiles)) ∙ none_of_both _ _ ∙ ap (λ n. (n == 0) && (length (all_entries tiles) == 0)) (sym (map.len-entries tile.1.entries)) in
    let m : (length (all_marks (tile ∷ tiles)) == 0) ≡ ((map.len tile.1.marks == 0) && (length (all_marks tiles) == 0)) =
    ap (λ n. n == 0) (length-append (map.entries tile.1.marks) (all_marks tiles)) ∙ none_of_both _ _ ∙ ap (λ n. (n == 0) && (length (all_marks tiles) == 0)) (sym (map.len-entries tile.1.marks)) in
    grind (arith, regroup, tile.1.entries, tile.1.marks, all_nothing-listed tiles)

pub is_nothing-joined : (tiles : List Tile) → AreTiled tiles → is_nothing (joined tiles) ≡ all_nothing tiles
is_nothing-joined tiles tiled =
    let e : map.len (joined tiles).entries ≡ length (all_entries tiles) = map.len-entries (joined tiles).entries ∙ ap length (entries-joined tiles tiled) in
    let m : map.len (joined tiles).marks ≡ length (all_marks tiles) = map.len-entries (joined tiles).marks ∙ ap length (marks-joined tiles tiled) in
    ap (λ n. (n == 0) && (map.len (joined tiles).marks == 0)) e ∙ ap (λ n. (length (all_entries tiles) == 0) && (n == 0)) m ∙ all_nothing-listed tiles

-- ---- edits
both_same : (c : Contents) (m : Entries) (n : Marks) → c.entries ≡ m → c.marks ≡ n → c ≡ record { entries = m; marks = n }
both_same c m n p q = λ i. record { entries = p i; marks = q i }

-- an edit of marks leaves all entries
entries_left : (c : Contents) (tiles : List Tile) (i : ℕ) → c.entries ≡ (tile_at tiles i).entries → (joined (replace tiles i c)).entries ≡ (joined tiles).entries
entries_left c tiles i e = entries_joined _ ∙ ap (λ es. map.from_entries es) (all_of-replace_same entry_half c tiles i e) ∙ sym (entries_joined tiles)

marks_left : (c : Contents) (tiles : List Tile) (i : ℕ) → c.marks ≡ (tile_at tiles i).marks → (joined (replace tiles i c)).marks ≡ (joined tiles).marks
marks_left c tiles i e = marks_joined _ ∙ ap (λ es. map.from_entries es) (all_of-replace_same mark_half c tiles i e) ∙ sym (marks_joined tiles)

joined-edit : (edit : Edit) (tiles : List Tile) (i : ℕ) → AreTiled tiles → IsPlace tiles i (edit_row edit)
    → joined (replace tiles i (after_edit edit (tile_at tiles i))) ≡ after_edit edit (joined tiles)
joined-edit edit tiles i t place = grind (arith, both_same, entries_joined, from_entries-inserted, entries_kept, marks_left, from_entries-removed, entries_left, marks_joined, marks_kept)

-- an edit in the tile of its row leaves each tile with its own rows
still_tiled : (edit : Edit) (tiles : List Tile) (i : ℕ) → AreTiled tiles → IsPlace tiles i (edit_row edit) → AreTiled (replace tiles i (after_edit edit (tile_at tiles i)))
still_tiled (Edit.Put slot item) tiles i t place = tiled_from_kept _
    (Kept-inserted entry_half slot item _ tiles i (entries_kept tiles t) place refl)
    (Kept-replace_same mark_half _ tiles i (marks_kept tiles t) refl)
still_tiled (Edit.Erase slot) tiles i t place = tiled_from_kept _
    (Kept-removed entry_half slot _ tiles i (entries_kept tiles t) place refl)
    (Kept-replace_same mark_half _ tiles i (marks_kept tiles t) refl)
still_tiled (Edit.Mark cell) tiles i t place = tiled_from_kept _
    (Kept-replace_same entry_half _ tiles i (entries_kept tiles t) refl)
    (Kept-inserted mark_half cell tt _ tiles i (marks_kept tiles t) place refl)
still_tiled (Edit.Unmark cell) tiles i t place = tiled_from_kept _
    (Kept-replace_same entry_half _ tiles i (entries_kept tiles t) refl)
    (Kept-removed mark_half cell _ tiles i (marks_kept tiles t) place refl)

still_zero : (tiles : List Tile) (i : ℕ) (c : Contents) → BeginAtZero tiles → BeginAtZero (replace tiles i c)
still_zero tiles i c z = grind arith

-- other contents in any tile don't change which tile has a row
still_place : (tiles : List Tile) (i j n : ℕ) (c : Contents) → IsPlace tiles i n → IsPlace (replace tiles j c) i n
still_place [] i j n c p = p
still_place (tile ∷ tiles) zero zero n c p = p
still_place (tile ∷ tiles) zero (suc j) n c p = (p.0, still_below tiles j c n p.1)
still_place (tile ∷ tiles) (suc i) zero n c p = p
still_place (tile ∷ tiles) (suc i) (suc j) n c p = still_place tiles i j n c p

tile_at-replace : (tiles : List Tile) (i n : ℕ) (c : Contents) → IsPlace tiles i n → tile_at (replace tiles i c) i ≡ c
tile_at-replace [] i n c p = absurd p
tile_at-replace (tile ∷ tiles) zero n c p = refl
tile_at-replace (tile ∷ tiles) (suc i) n c p = tile_at-replace tiles i n c p

replace-replace : (tiles : List Tile) (i : ℕ) (c d : Contents) → replace (replace tiles i c) i d ≡ replace tiles i d
replace-replace [] i c d = refl
replace-replace (tile ∷ tiles) zero c d = refl
replace-replace (tile ∷ tiles) (suc i) c d = ap (λ ts. tile ∷ ts) (replace-replace tiles i c d)

-- edits of the rows of tile i, one after another
pub edits_in_place : (edits : List Edit) (row : ℕ) (tiles : List Tile) (i : ℕ) → AreOfRow row edits → IsTiling tiles → IsPlace tiles i row
    → record { tiling : IsTiling (replace tiles i (after_edits edits (tile_at tiles i))); same : joined (replace tiles i (after_edits edits (tile_at tiles i))) ≡ after_edits edits (joined tiles) }
edits_in_place [] row tiles i of t place = record { tiling = subst IsTiling (sym (replace_same tiles i)) t; same = ap joined (replace_same tiles i) }
edits_in_place (edit ∷ edits) row tiles i of t place =
    let c = after_edit edit (tile_at tiles i) in
    let here : IsPlace tiles i (edit_row edit) = subst (λ r. IsPlace tiles i r) (sym of.0) place in
    let next : IsTiling (replace tiles i c) = record { zero_first = still_zero tiles i c t.zero_first; tiled = still_tiled edit tiles i t.tiled here } in
    let rest = edits_in_place edits row (replace tiles i c) i of.1 next (still_place tiles i i row c place) in
    let at : tile_at (replace tiles i c) i ≡ c = tile_at-replace tiles i row c place in
    let twice : replace (replace tiles i c) i (after_edits edits (tile_at (replace tiles i c) i)) ≡ replace tiles i (after_edits edits c) =
    replace-replace tiles i c _ ∙ ap (λ d. replace tiles i (after_edits edits d)) at in
    grind (arith, joined-edit, t.tiled)
