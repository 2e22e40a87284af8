-- What stands in the table: data, locks and write records (OSDI 2010, section 2.2), read off its entries. Any timestamp
-- is one below 2^64, since code looks for the newest entry up to the greatest of 64 bits.
use Rattle.std.specs.Prelude.{◌≡◌, ℕ, ◌<◌, ◌≤◌, ◌^◌, Bool, true, false, count_by, Option, Some, None, is_some}
use Rattle.std.specs.FinMap as map
use Rattle.pb_steps.specs.Words.{Cell, Content, Revision, Ts, Item, Sort, Entries, slot_at}

-- the content of an item that is data
abbrev pub data_of : Option Item → Option Content
data_of (Some (Item.Data c)) = Some c
data_of _ = None

-- the primary that an item names which is a lock
abbrev pub primary_of : Option Item → Option Cell
primary_of (Some (Item.Lock p)) = Some p
primary_of _ = None

-- the start that an item names which is a write record
abbrev pub start_of : Option Item → Option ℕ
start_of (Some (Item.Write s)) = Some s.0
start_of _ = None

-- the data that start s wrote at x
abbrev pub data_at : Entries → Cell → ℕ → Option Content
data_at e x s = data_of (map.get e (slot_at x Sort.Data s))

-- the primary named by the lock of start s on x
abbrev pub lock_at : Entries → Cell → ℕ → Option Cell
lock_at e x s = primary_of (map.get e (slot_at x Sort.Lock s))

-- the start named by the write record of commit c at x
abbrev pub write_at : Entries → Cell → ℕ → Option ℕ
write_at e x c = start_of (map.get e (slot_at x Sort.Write c))

-- no lock of a start at most s stands on x
abbrev pub NoLockUpTo : Entries → Cell → ℕ → Type 0
NoLockUpTo e x s = (u : ℕ) → u ≤ s → lock_at e x u ≡ None

-- the lock on x of the greatest start at most s, with its primary
abbrev pub IsLockUpTo : Entries → Cell → ℕ → Option (Ts × Cell) → Type 0
IsLockUpTo e x s None = NoLockUpTo e x s
IsLockUpTo e x s (Some l) = (l.0.0 ≤ s) × (lock_at e x l.0.0 ≡ Some l.1) × ((u : ℕ) → l.0.0 < u → u ≤ s → lock_at e x u ≡ None)

-- the version of x with the greatest commit at most s
pub record IsVersion (e : Entries) (x : Cell) (s : ℕ) (v : Revision) : Type 0 where
  pub low : v.commit.0 ≤ s
  pub written : write_at e x v.commit.0 ≡ Some v.start.0
  pub content : data_at e x v.start.0 ≡ Some v.content
  pub newest : (c : ℕ) → v.commit.0 < c → c ≤ s → write_at e x c ≡ None

-- x has no version of a commit at most s
abbrev pub NoVersion : Entries → Cell → ℕ → Type 0
NoVersion e x s = (c : ℕ) → c ≤ s → write_at e x c ≡ None

-- the greatest timestamp of 64 bits
abbrev pub last_timestamp : ℕ
last_timestamp = 18446744073709551615

-- the newest version of x, if it has any
abbrev pub IsNewestVersion : Entries → Cell → Option Revision → Type 0
IsNewestVersion e x None = NoVersion e x last_timestamp
IsNewestVersion e x (Some v) = IsVersion e x last_timestamp v

-- no lock stands on x
abbrev pub NoLock : Entries → Cell → Type 0
NoLock e x = (u : ℕ) → u < 2 ^ 64 → lock_at e x u ≡ None

-- the lock of this start stands on x, with this primary, and none of a later start
pub record IsLockOn (e : Entries) (x : Cell) (start : ℕ) (primary : Cell) : Type 0 where
  pub fits : start < 2 ^ 64
  pub locked : lock_at e x start ≡ Some primary
  pub newest : (u : ℕ) → start < u → u < 2 ^ 64 → lock_at e x u ≡ None

-- some lock stands on x
abbrev pub SomeLock : Entries → Cell → Type 0
SomeLock e x = (u : ℕ) × (u < 2 ^ 64) × (is_some (lock_at e x u) ≡ true)

-- x has no write record of commit s or later
abbrev pub NoWriteFrom : Entries → Cell → ℕ → Type 0
NoWriteFrom e x s = (c : ℕ) → s ≤ c → c < 2 ^ 64 → write_at e x c ≡ None

-- x has a write record of commit s or later
abbrev pub SomeWriteFrom : Entries → Cell → ℕ → Type 0
SomeWriteFrom e x s = (c : ℕ) × (s ≤ c) × (c < 2 ^ 64) × (is_some (write_at e x c) ≡ true)

-- the entry's sort is that of locks
abbrev pub is_lock : Sort → Bool
is_lock Sort.Data = false
is_lock Sort.Lock = true
is_lock Sort.Write = false

-- how many locks stand
abbrev pub lock_count : Entries → ℕ
lock_count e = count_by (λ p. is_lock p.0.sort) (map.entries e)
