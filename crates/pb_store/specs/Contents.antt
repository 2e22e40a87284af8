-- What a tablet or a table contains: entries by slot, and marked cells. Both are maps, so that an edit is one insert or one
-- removal, and how they are kept stays open. All contracts of tablets and tables speak of them.
use Rattle.std.specs.Prelude.{◌≡◌, ℕ, ◌<◌, ◌≤◌, Bool, true, false, List, [], ◌∷◌, Option, None, Some, refl, ◌==◌, ◌&&◌, filter}
use Rattle.std.specs.Ordering.{is_lt}
use Rattle.std.specs.FinMap as map
use Rattle.std.specs.declared.cmp.Ordering.TheVariants.{Less}
use Rattle.pb_store.specs.Words.{Cell, Ts, cell_cmp, row_of}
use Rattle.pb_store.specs.declared.slot.Slot.{Slot}
use Rattle.pb_store.specs.declared.slot.Sort.{Sort}
use Rattle.pb_store.specs.declared.slot.Item.{Item}
use Rattle.pb_store.specs.declared.slot.Edit.{Edit}
use Rattle.pb_store.specs.Slot.{slot_cmp}
use Rattle.std.specs.Coded.{Coded, code_by, coded×}
use base.Stored.{coded_unit}
use Rattle.pb_base.specs.contracts.cell.Cell as cell
use Rattle.pb_store.specs.contracts.slot.Slot as slot
use Rattle.pb_store.specs.contracts.slot.Item as item

-- what stands in each slot, listed by rising slot
abbrev pub Entries : Type 0
Entries = map.FinMap slot_cmp Item

-- the marked cells, as a map to the unit type, which is all that the toolchain's own set is
abbrev pub Marks : Type 0
Marks = map.FinMap cell_cmp (Unit {0})

-- all that callers see of a tablet
pub record Contents : Type 0 where
  pub entries : Entries
  pub marks : Marks

-- contents as a tree of numbers, as what stands in a model has to have one
abbrev pub coded_contents : Coded Contents
coded_contents = code_by (Entries × Marks) (coded× (map.code slot.the_row.coded item.the_row.coded) (map.code cell.the_row.coded coded_unit)) (λ c. (c.entries, c.marks)) (λ p. record { entries = p.0; marks = p.1 }) (λ _. refl)

-- no entry and no mark, as a test that code makes
abbrev pub is_nothing : Contents → Bool
is_nothing c = (map.len c.entries == 0) && (map.len c.marks == 0)

-- what a tablet contains when it is made, and when it may end
abbrev pub nothing : Contents
nothing = record { entries = map.empty; marks = map.empty }

-- an edit replaces what its slot has; what is erased or unmarked need not be there
abbrev pub after_edit : Edit → Contents → Contents
after_edit (Edit.Put slot item) c = record { entries = map.insert c.entries slot item; marks = c.marks }
after_edit (Edit.Erase slot) c = record { entries = map.remove c.entries slot; marks = c.marks }
after_edit (Edit.Mark cell) c = record { entries = c.entries; marks = map.insert c.marks cell tt }
after_edit (Edit.Unmark cell) c = record { entries = c.entries; marks = map.remove c.marks cell }

-- what stands when all edits are done in order, where a later one may replace what an earlier one put
abbrev pub after_edits : List Edit → Contents → Contents
after_edits [] c = c
after_edits (edit ∷ edits) c = after_edits edits (after_edit edit c)

-- the slot of a cell and sort at the timestamp t
abbrev pub slot_at : Cell → Sort → ℕ → Slot
slot_at cell sort t = record { cell = cell; sort = sort; ts = record { 0 = t } }

-- a slot of this sort may hold the item: data a content, a lock its primary, a write record its start
abbrev pub IsOfSort : Sort → Item → Type 0
IsOfSort Sort.Data (Item.Data content) = Unit {0}
IsOfSort Sort.Lock (Item.Lock primary) = Unit {0}
IsOfSort Sort.Write (Item.Write start) = Unit {0}
IsOfSort _ _ = ⊥

-- the entry with the greatest timestamp at most high, or none where no timestamp up to high has one
abbrev pub IsNewest : Entries → Cell → Sort → Ts → Option (Ts × Item) → Type 0
IsNewest m cell sort high None = (t : ℕ) → t ≤ high.0 → map.get m (slot_at cell sort t) ≡ None
IsNewest m cell sort high (Some found) =
    (found.0.0 ≤ high.0)
    × (map.get m (slot_at cell sort found.0.0) ≡ Some found.1)
    × IsOfSort sort found.1
    × ((t : ℕ) → found.0.0 < t → t ≤ high.0 → map.get m (slot_at cell sort t) ≡ None)

-- the entries after the given slot, or all where none is given
abbrev pub entries_after : {X : Type 0} → Option Slot → List (Slot × X) → List (Slot × X)
entries_after None es = es
entries_after (Some before) es = filter (λ e. is_lt (slot_cmp before e.0)) es

-- whether a cell comes after the given one, or none is given
abbrev pub ComesAfter : Option Cell → Cell → Type 0
ComesAfter None cell = Unit {0}
ComesAfter (Some before) cell = cell_cmp before cell ≡ Less

-- the first marked cell after the given one
abbrev pub IsNextMark : Marks → Option Cell → Option Cell → Type 0
IsNextMark marks after None = (cell : Cell) → ComesAfter after cell → map.contains_key marks cell ≡ false
IsNextMark marks after (Some next) =
    (map.contains_key marks next ≡ true)
    × ComesAfter after next
    × ((cell : Cell) → ComesAfter after cell → cell_cmp cell next ≡ Less → map.contains_key marks cell ≡ false)

-- the row by which a table finds the tablet of an edit
abbrev pub edit_row : Edit → ℕ
edit_row (Edit.Put slot item) = (row_of slot.cell).0
edit_row (Edit.Erase slot) = (row_of slot.cell).0
edit_row (Edit.Mark cell) = (row_of cell).0
edit_row (Edit.Unmark cell) = (row_of cell).0

-- all edits are of this row
abbrev pub AreOfRow : ℕ → List Edit → Type 0
AreOfRow row [] = Unit {0}
AreOfRow row (edit ∷ edits) = (edit_row edit ≡ row) × AreOfRow row edits

-- all edits are of the first one's row, so that one tablet does them, all or none
abbrev pub AreOfOneRow : List Edit → Type 0
AreOfOneRow [] = Unit {0}
AreOfOneRow (edit ∷ edits) = AreOfRow (edit_row edit) edits

-- an item is put under its own sort
abbrev pub PutsOfSort : Edit → Type 0
PutsOfSort (Edit.Put slot item) = IsOfSort slot.sort item
PutsOfSort _ = Unit {0}

-- no edit puts an item under another sort, so that a tablet never holds one there
abbrev pub AllPutOfSort : List Edit → Type 0
AllPutOfSort [] = Unit {0}
AllPutOfSort (edit ∷ edits) = PutsOfSort edit × AllPutOfSort edits

-- edits that a tablet takes: of one row, each item under its sort
pub record AreEdits (edits : List Edit) : Type 0 where
  pub of_row : AreOfOneRow edits
  pub of_sort : AllPutOfSort edits
