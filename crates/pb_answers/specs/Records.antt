-- The write that an entry records, and what a walk over entries has gathered of them. The functions of src that walk cite
-- these; `written_at` alone defines what they gather.
use Rattle.std.specs.Prelude.{◌≡◌, ℕ, ◌&&◌, ◌⊎◌, Bool, true, false, nat_lt, nat_le, if◌then◌else◌, List, Contains, Option, Some, None, is_some}
use Rattle.std.specs.BTreeMap as tree
use Rattle.std.specs.BTreeMap.{BTreeMap}
use Rattle.std.specs.FinMap.Entries.{find}
use Rattle.pb_answers.specs.Words.{Cell, Content, Slot, Item, Sort, Entries, Newest, Put, AreNewest, data_at, is_data, slot_at, slot_cmp}
use Rattle.pb_answers.specs.Seen.{written_at}
use Rattle.pb_answers.specs.Writes.{WriteKey, key_cmp}

-- a write record
abbrev pub is_record : Sort → Bool
is_record Sort.Data = false
is_record Sort.Lock = false
is_record Sort.Write = true

-- the write of a record in this slot, where its data stand
abbrev pub put_with : Slot → Option Content → Option Put
put_with slot None = None
put_with slot (Some content) = Some (record { cell = slot.cell; commit = slot.ts; content = content })

-- the write that an entry records, if it is a write record with its data
abbrev pub put_in : Entries → Slot → Item → Option Put
put_in e slot (Item.Write start) = if is_record slot.sort then put_with slot (data_at e slot.cell start.0) else None
put_in e slot _ = None

-- the table has this write
abbrev pub IsPutIn : Entries → Put → Type 0
IsPutIn e p = written_at e p.cell p.commit.0 ≡ Some p.content

-- where the record of a write stands
abbrev pub record_slot : Put → Slot
record_slot p = slot_at p.cell Sort.Write p.commit.0

-- of the writes that are wanted, those of the entries up to the rest are gathered
pub record HasGathered (e : Entries) (wanted : Put → Bool) (rest : List (Slot × Item)) (gathered : Put → Type 0) : Type 0 where
  pub sound : (p : Put) → gathered p → IsPutIn e p × (wanted p ≡ true)
  pub whole : (p : Put) → IsPutIn e p → wanted p ≡ true → gathered p ⊎ (is_some (find slot_cmp (record_slot p) rest) ≡ true)

-- one of a data cell above this commit
abbrev pub is_since : ℕ → Put → Bool
is_since above p = nat_lt above p.commit.0 && is_data p.cell

-- one up to this commit
abbrev pub is_up_to : ℕ → Put → Bool
is_up_to last p = nat_le p.commit.0 last

-- the commit and the cell of a write
abbrev pub key_of : Put → WriteKey
key_of p = (p.commit, p.cell)

-- a map has the write
abbrev pub HasPut : BTreeMap WriteKey Content → Put → Type 0
HasPut m p = tree.get key_cmp m (key_of p) ≡ Some p.content

-- a map has those above a commit, of the entries up to the rest
pub record HasWritesSince (e : Entries) (above : ℕ) (rest : List (Slot × Item)) (writes : BTreeMap WriteKey Content) : Type 0 where
  pub gathered : HasGathered e (is_since above) rest (HasPut writes)
  pub rising : tree.IsOrdered key_cmp writes

-- a map has the newest of those up to a commit, of the entries up to the rest
pub record HasNewestUpTo (e : Entries) (last : ℕ) (rest : List (Slot × Item)) (table : BTreeMap Cell Newest) : Type 0 where
  pub puts : List Put
  pub gathered : HasGathered e (is_up_to last) rest (Contains puts)
  pub newest : AreNewest puts table
