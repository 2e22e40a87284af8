-- Entries whose items are kept in a slab. They are seen as the entries of a list tablet, so that what holds of those
-- holds of these. The model and the invariant of `SlabTablet` cite them.
use Rattle.std.specs.Prelude.{◌≡◌, ◌≢◌, ℕ, List, [], ◌∷◌, Option, None, is_some, IsSome, count_by, slice_index_or, unwrap_or, length}
use Rattle.pb_store.specs.declared.slot.Slot.{Slot as Name}
use Rattle.pb_memtablet.specs.Words.{Item}
use Rattle.pb_memtablet.specs.Listed.{EntryList, MarkList, AreLists}

-- slots, each with the key of its item
abbrev pub KeyList : Type 0
KeyList = List (Name × ℕ)

-- what a slab has under each key
abbrev pub Items : Type 0
Items = List (Option Item)

-- what the slab has at a key, or nothing, also past its end
abbrev pub found_at : Items → ℕ → Option Item
found_at s key = slice_index_or s key None

-- the item at a key, or any item where there is none, so that it needs no proof that there is one
abbrev pub item_at : Items → ℕ → Item
item_at s key = unwrap_or (found_at s key) (Item.Write (record { 0 = 0 }))

-- the entries that slots and keys stand for
abbrev pub seen : Items → KeyList → EntryList
seen s [] = []
seen s (k ∷ ks) = (k.0, item_at s k.1) ∷ seen s ks

-- the slab has an item at the key
abbrev pub HasItem : Items → ℕ → Type 0
HasItem s key = IsSome (found_at s key)

-- each key of the list has this property
abbrev pub AllKeys : (ℕ → Type 0) → KeyList → Type 0
AllKeys P [] = Unit {0}
AllKeys P (k ∷ ks) = P k.1 × AllKeys P ks

-- no key stands twice
abbrev pub AreKeysApart : KeyList → Type 0
AreKeysApart [] = Unit {0}
AreKeysApart (k ∷ ks) = AllKeys (λ n. n ≢ k.1) ks × AreKeysApart ks

-- each key has its own item, and the slab no other
pub record AreStored (s : Items) (ks : KeyList) : Type 0 where
  pub stored : AllKeys (HasItem s) ks
  pub apart : AreKeysApart ks
  pub counted : count_by is_some s ≡ length ks

-- slots in order, each with an item of its own and of its sort, and marks in order
pub record AreKept (s : Items) (ks : KeyList) (ms : MarkList) : Type 0 where
  pub keys : AreStored s ks
  pub lists : AreLists (seen s ks) ms
