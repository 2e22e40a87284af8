-- What two sorted lists contain, as a tablet's contents. Both sorts of tablet are seen as such lists, so that the laws
-- of edits and look-ups are shown once. Their models, invariants and the functions below `apply` cite them.
use Rattle.std.specs.Prelude.{Bool, true, false, IsTrue, List, [], ◌∷◌}
use Rattle.std.specs.FinMap as map
use Rattle.pb_memtablet.specs.Words.{Cell, cell_cmp, Slot, Item, Edit, slot_cmp, Contents, IsOfSort}

-- entries by rising slot
abbrev pub EntryList : Type 0
EntryList = List (Slot × Item)

-- marked cells in order, each with nothing
abbrev pub MarkList : Type 0
MarkList = List (Cell × Unit {0})

-- the contents that sorted entries and marks stand for
abbrev pub contents_of : EntryList → MarkList → Contents
contents_of es ms = record { entries = map.from_sorted es; marks = map.from_sorted ms }

-- each item is one of its slot's sort
abbrev pub AllOfSort : EntryList → Type 0
AllOfSort [] = Unit {0}
AllOfSort (e ∷ es) = IsOfSort e.0.sort e.1 × AllOfSort es

-- lists in order, each item of its slot's sort
pub record AreLists (es : EntryList) (ms : MarkList) : Type 0 where
  pub entries : IsTrue (map.is_sorted slot_cmp es)
  pub marks : IsTrue (map.is_sorted cell_cmp ms)
  pub of_sort : AllOfSort es

-- whether the edit needs room for an entry, also where it replaces one
abbrev pub is_put : Edit → Bool
is_put (Edit.Put slot item) = true
is_put _ = false

-- whether the edit needs room for a mark
abbrev pub is_mark : Edit → Bool
is_mark (Edit.Mark cell) = true
is_mark _ = false
