-- A write record comes to a cell in the place of its lock, and lock and data go where a transaction is undone (OSDI 2010,
-- section 2.2).
use Rattle.std.specs.Prelude.{ℕ}
use Rattle.std.specs.FinMap as map
use Rattle.pb_steps.specs.Words.{Cell, Item, Sort, Entries, slot_at}
use Rattle.pb_steps.specs.State.{StateOf}
use Rattle.pb_steps.specs.Marks.{with_mark}

-- the lock of s on x becomes the write record c
abbrev pub commit_lock : Entries → Cell → ℕ → ℕ → Entries
commit_lock e x s c = map.insert (map.remove e (slot_at x Sort.Lock s)) (slot_at x Sort.Write c) (Item.Write (record { 0 = s }))

-- every write record is put so, and marks its cell where it has observers (OSDI 2010, section 2.4)
abbrev pub commits : StateOf → Cell → ℕ → ℕ → StateOf
commits old x s c = record old { entries = commit_lock old.entries x s c; marks = with_mark old.observers old.marks x }

-- lock and data of s on x go
abbrev pub erase_lock : Entries → Cell → ℕ → Entries
erase_lock e x s = map.remove (map.remove e (slot_at x Sort.Lock s)) (slot_at x Sort.Data s)

-- no cell is marked, since nothing was committed
abbrev pub rolls_back : StateOf → Cell → ℕ → StateOf
rolls_back old x s = record old { entries = erase_lock old.entries x s }
