-- How many entries each step of a table leaves, and a conversation of its only seat: a prewrite puts data and lock, and each write record
-- comes in the place of a lock.
use Rattle.std.proofs.Common.{arith, ◌≡◌, ℕ, ◌+◌, ◌*◌, ◌-◌, ◌≤◌, Bool, true, false, cond, List, [], ◌∷◌, ◌++◌, count_by, Option, Some, None, is_some, refl, ap, ◌∙◌, zero-add}
use Rattle.std.proofs.lemmas.List.Sums.{sum_by-append, sum_by-cons}
use Rattle.std.specs.FinMap as map
use Rattle.pb_notify.specs.Allowed.{entries_by}
use Rattle.law_limits.specs.Words.{Cell, Content, Item, Slot, Sort, Entries, slot_at, slot_cmp, slot_cmp_total, put_lock, commit_lock, erase_lock, if_locked, lock_at, primary_of, StateOf, StepCase, Step, Answer, JournalLeads, Received}

-- ---- maps

put_len : (b : Bool) (m n : ℕ) → n ≡ cond b m (m + 1) → n ≤ m + 1
put_len b m n is = grind arith

removed_len : (b : Bool) (m n : ℕ) → n ≡ cond b (m - 1) m → n ≤ m
removed_len b m n is = grind arith

taken_len : (m n : ℕ) → n ≡ m - 1 → (m ≡ 0 → ⊥) → n + 1 ≤ m
taken_len m n is some = grind (arith, is)

-- a map that has a key isn't empty
some_len : (m : Entries) (k : Slot) → map.contains_key m k ≡ true → map.len m ≡ 0 → ⊥
some_len m k has none = absurd (let e = map.empty_of_len m none in let g = map.get-empty {X = Item} slot_cmp k in grind (arith, e, g, has))

-- ---- locks

len_locked : (m : Entries) (x : Cell) (s : ℕ) (content : Content) (primary : Cell) → map.len (put_lock m x s content primary) ≤ map.len m + 2
len_locked m x s content primary =
    let k = slot_at x Sort.Data s in
    let between = map.insert m k (Item.Data content) in
    let first = put_len (map.contains_key m k) (map.len m) (map.len between) (map.len-insert slot_cmp_total m k (Item.Data content)) in
    let lock = slot_at x Sort.Lock s in
    let second = put_len (map.contains_key between lock) (map.len between) (map.len (put_lock m x s content primary)) (map.len-insert slot_cmp_total between lock (Item.Lock primary)) in
    omega (arith, first, second)

len_unlocked : (m : Entries) (x : Cell) (s : ℕ) → map.len (erase_lock m x s) ≤ map.len m
len_unlocked m x s =
    let lock = slot_at x Sort.Lock s in
    let between = map.remove m lock in
    let first = removed_len (map.contains_key m lock) (map.len m) (map.len between) (map.len-remove slot_cmp_total m lock) in
    let k = slot_at x Sort.Data s in
    let second = removed_len (map.contains_key between k) (map.len between) (map.len (erase_lock m x s)) (map.len-remove slot_cmp_total between k) in
    omega (arith, first, second)

-- a lock on a cell is an entry
lock_there : (m : Entries) (x : Cell) (s : ℕ) → is_some (lock_at m x s) ≡ true → map.contains_key m (slot_at x Sort.Lock s) ≡ true
lock_there m x s e = by (map.get m (slot_at x Sort.Lock s)) refl e where
  by : (o : Option Item) → map.get m (slot_at x Sort.Lock s) ≡ o → is_some (primary_of o) ≡ true → map.contains_key m (slot_at x Sort.Lock s) ≡ true
  by None is some = absurd cc
  by (Some item) is some = ap is_some is

len_commit : (m : Entries) (x : Cell) (s c : ℕ) → is_some (lock_at m x s) ≡ true → map.len (commit_lock m x s c) ≤ map.len m
len_commit m x s c e =
    let lock = slot_at x Sort.Lock s in
    let between = map.remove m lock in
    let has = lock_there m x s e in
    let first = taken_len (map.len m) (map.len between) (map.len-remove slot_cmp_total m lock ∙ ap (λ b. cond b (map.len m - 1) (map.len m)) has) (some_len m lock has) in
    let k = slot_at x Sort.Write c in
    let second = put_len (map.contains_key between k) (map.len between) (map.len (commit_lock m x s c)) (map.len-insert slot_cmp_total between k (Item.Write (record { 0 = s }))) in
    omega (arith, first, second)

len_if_locked : (s : StateOf) (b : Bool) (x : Cell) (n c : ℕ) → is_some (lock_at s.entries x n) ≡ b → map.len (if_locked s b x n c).entries ≤ map.len s.entries
len_if_locked s true x n c e = len_commit s.entries x n c e
len_if_locked s false x n c e = omega arith

same_len : (m n : Entries) → n ≡ m → map.len n ≤ map.len m
same_len m n is = rw is (omega arith)

-- ---- steps

-- a step that puts data and lock, where it doesn't conflict
abbrev pub puts_lock : Step → Bool
puts_lock (Step.Prewrite s x) = true
puts_lock _ = false

-- how many cells were prewritten, or not for a conflict
abbrev pub prewrite_count : List Received → ℕ
prewrite_count said = count_by (λ r. puts_lock r.step) said

case_entries : (s : StateOf) (step : Step) (a : Answer) (t : StateOf) → StepCase s 0 step a t → map.len t.entries ≤ map.len s.entries + cond (puts_lock step) 2 0
case_entries s step a t c = grind (arith, same_len, len_locked, len_commit, len_if_locked, len_unlocked)

-- ---- conversations

abbrev puts_by : Received → ℕ
puts_by r = cond (puts_lock r.step) 1 0

pub prewritten_append : (a b : List Received) → prewrite_count (a ++ b) ≡ prewrite_count a + prewrite_count b
prewritten_append a b = sum_by-append puts_by a b

pub prewritten_after : (r : Received) (a : List Received) → prewrite_count (r ∷ a) ≡ puts_by r + prewrite_count a
prewritten_after r a = sum_by-cons puts_by r a

pub not_prewritten : (r : Received) (a : List Received) → puts_lock r.step ≡ false → prewrite_count (r ∷ a) ≡ prewrite_count a
not_prewritten r a e = prewritten_after r a ∙ (ap (λ b. cond b 1 0 + prewrite_count a) e ∙ zero-add (prewrite_count a))

two_each : (b : Bool) → cond b 2 0 ≡ 2 * cond b 1 0
two_each true = refl
two_each false = refl

-- what the only seat said leaves two entries more at most for each cell that was prewritten
pub most_entries : (said : List Received) (s t : StateOf) → JournalLeads s (entries_by 0 said) t → map.len t.entries ≤ map.len s.entries + 2 * prewrite_count said
most_entries [] s t r = let same : map.len t.entries ≡ map.len s.entries = ap (λ (z : StateOf). map.len z.entries) r in omega (arith, same)
most_entries (x ∷ said) s t r =
    let one = case_entries s x.step x.answer r.0 r.1.taken in
    let two = two_each (puts_lock x.step) in
    let rest = most_entries said r.0 t r.2 in
    let all = prewritten_after x said in
    omega (arith, one, two, rest, all)
