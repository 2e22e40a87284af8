-- What the newest entry shows of locks and write records.
use Rattle.std.proofs.Common.{◌≡◌, ℕ, ◌≤◌, Bool, true, false, Option, None, Some, ap, ◌∙◌, arith, is_some, inr, ◌⊎◌, MatchBool}
use Rattle.pb_state.specs.Words.{Cell, Ts, Item, Sort, Entries, IsNewest, IsOfSort, NoLock, NoWriteFrom, SomeLock, SomeWriteFrom, primary_of, start_of}

-- the timestamp up to which every entry is
abbrev pub last : Ts
last = record { 0 = 18446744073709551615 }

lock_item : (i : Item) → IsOfSort Sort.Lock i → is_some (primary_of (Some i)) ≡ true
lock_item i h = grind arith

write_item : (i : Item) → IsOfSort Sort.Write i → is_some (start_of (Some i)) ≡ true
write_item i h = grind arith

-- the newest lock is a lock
pub some_lock : (e : Entries) (x : Cell) (f : Ts × Item) → IsNewest e x Sort.Lock last (Some f) → SomeLock e x
some_lock e x f h = let low = h.0 in (f.0.0, omega arith, ap (λ o. is_some (primary_of o)) h.1 ∙ lock_item f.1 h.2)

-- a newest write record from s on is one from s on
pub later_write : (e : Entries) (x : Cell) (s : ℕ) (f : Ts × Item) → IsNewest e x Sort.Write last (Some f) → s ≤ f.0.0 → SomeWriteFrom e x s
later_write e x s f h le = let low = h.0 in (f.0.0, le, omega arith, ap (λ o. is_some (start_of o)) h.1 ∙ write_item f.1 h.2)

-- where no lock stands, a cell is taken if it is written
pub is_unlocked : (e : Entries) (x : Cell) (s : ℕ) (b : Bool) → NoLock e x → MatchBool b (SomeWriteFrom e x s) (NoWriteFrom e x s) → MatchBool b (SomeLock e x ⊎ SomeWriteFrom e x s) (NoLock e x × NoWriteFrom e x s)
is_unlocked e x s true none w = inr w
is_unlocked e x s false none w = (none, w)

-- without a newest lock none stands
pub no_lock : (e : Entries) (x : Cell) (o : Option (Ts × Item)) → IsNewest e x Sort.Lock last o → is_some o ≡ false → NoLock e x
no_lock e x None h is u lt = ap primary_of (h u (omega (arith, lt)))
no_lock e x (Some f) h is u lt = cc

-- where the newest lock is there, a lock stands
pub lock_if : (e : Entries) (x : Cell) (o : Option (Ts × Item)) → IsNewest e x Sort.Lock last o → is_some o ≡ true → SomeLock e x
lock_if e x o h is = grind (arith, some_lock)
