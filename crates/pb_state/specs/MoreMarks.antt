-- A walk over the entries, which marks cells that have a write record.
use Rattle.std.specs.Prelude.{◌≡◌, ℕ, ◌⊎◌, Bool, true, false, List, Some, is_some}
use Rattle.std.specs.FinMap as map
use Rattle.std.specs.FinMap.Entries.{find}
use Rattle.pb_state.specs.Words.{Cell, Entries, Item, Marks, Slot, Sort, is_marked, slot_at, slot_cmp, write_at}

-- the cell has a write record
abbrev pub WasWritten : Entries → Cell → Type 0
WasWritten e x = (c : ℕ) × (s : ℕ) × (write_at e x c ≡ Some s)

-- an entry of this sort with this item is a write record
abbrev pub is_write_record : Sort → Item → Bool
is_write_record Sort.Write (Item.Write start) = true
is_write_record _ _ = false

-- an entry marks its cell where it is a write record, and the cell one of these
abbrev pub IsMarkedBy : (Cell → Type 0) → Slot → Item → Marks → Marks → Type 0
IsMarkedBy P slot item old new =
    ((is_write_record slot.sort item ≡ true) × P slot.cell × (new ≡ map.insert old slot.cell tt))
    ⊎ ((is_write_record slot.sort item ≡ true → P slot.cell → ⊥) × (new ≡ old))

-- more marks, each on one of these cells that has a write record
pub record AddsMarks (P : Cell → Type 0) (e : Entries) (old new : Marks) : Type 0 where
  pub kept : (x : Cell) → is_marked old x ≡ true → is_marked new x ≡ true
  pub only : (x : Cell) → is_marked new x ≡ true → (is_marked old x ≡ true) ⊎ (P x × WasWritten e x)

-- and one on each whose records aren't all among the rest of the entries
pub record AreMarkedBefore (P : Cell → Type 0) (e : Entries) (rest : List (Slot × Item)) (old new : Marks) : Type 0 where
  pub adds : AddsMarks P e old new
  pub marked : (x : Cell) (c s : ℕ) → P x → write_at e x c ≡ Some s → (is_marked new x ≡ true) ⊎ (is_some (find slot_cmp (slot_at x Sort.Write c) rest) ≡ true)
