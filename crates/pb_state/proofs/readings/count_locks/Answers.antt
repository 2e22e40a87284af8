use Rattle.std.proofs.Common.{◌≡◌, ℕ, ◌+◌, ◌<◌, Bool, true, false, cond, sym, ap, ◌∙◌, subst, arith, length, drop, List, [], ◌∷◌, Some, None, count_by, slice_get}
use Rattle.std.specs.FinMap as map
use Rattle.std.proofs.lemmas.List.Sums.{sum_by-cons, count_by-le-length}
use Rattle.pb_state.specs.Words.{Slot, Item, entries_after, is_lock}
use Rattle.pb_state.proofs.readings.count_locks.Goals as goal
use Rattle.pb_state.proofs.readings.count_locks.Goals.{then-is_lock, else-is_lock}

-- the entry is a lock
abbrev counts : Slot × Item → Bool
counts p = is_lock p.0.sort

first_counted : (xs : List (Slot × Item)) (e : Slot × Item) → Some e ≡ slice_get xs 0 → count_by counts xs ≡ cond (counts e) 1 0 + count_by counts (drop 1 xs)
first_counted [] e p = cc
first_counted (x ∷ xs) e p =
    let same : x ≡ e = cc in
    sum_by-cons (λ y. cond (counts y) 1 0) x xs ∙ ap (λ y. cond (counts y) 1 0 + count_by counts xs) same

-- each turn of the walk leaves one less
shorter : (xs : List (Slot × Item)) (e : Slot × Item) → Some e ≡ slice_get xs 0 → length (drop 1 xs) < length xs
shorter xs e p = grind arith

-- of the entries, xs are left, whose first is e and whose others are ys
module _ (es xs ys : List (Slot × Item)) (e : Slot × Item) (first : Some e ≡ slice_get xs 0) (rest : ys ≡ drop 1 xs) where
  fewer : length ys < length xs
  fewer = subst (λ (zs : List (Slot × Item)). length zs < length xs) (sym rest) (shorter xs e first)

  split : (b : Bool) → counts e ≡ b → count_by counts xs ≡ cond b 1 0 + count_by counts ys
  split b is = first_counted xs e first ∙ ap (λ zs. cond (counts e) 1 0 + count_by counts zs) (sym rest) ∙ ap (λ a. cond a 1 0 + count_by counts ys) is

  module _ (n : ℕ) (so : n + count_by counts xs ≡ count_by counts es) where
    room : counts e ≡ true → n < length es
    room is = let one = split true is in let most = count_by-le-length counts es in omega (arith, so, one, most)

    yes : (m : ℕ) → m ≡ n + 1 → counts e ≡ true → m + count_by counts ys ≡ count_by counts es
    yes m more is = let one = split true is in omega (arith, so, one, more)

    no : (m : ℕ) → m ≡ n → counts e ≡ false → m + count_by counts ys ≡ count_by counts es
    no m same is = let none = split false is in omega (arith, so, none, same)

none_counted : (xs : List (Slot × Item)) → None ≡ slice_get xs 0 → count_by counts xs ≡ 0
none_counted [] p = omega arith
none_counted (x ∷ xs) p = cc

pub overflow_add-count : goal.overflow_add-count
overflow_add-count g c =
    let es = map.entries c.args.table.now.contents.entries in
    let long = map.len-entries c.args.table.now.contents.entries in
    let few = room es (entries_after c.loop-slot.after es) _ _ (sym c.in-Some.is ∙ c.next_entry.ensures.entry) c.in-Some.ensures.rest c.loop-slot.count c.loop-slot.invariant (sym c.is_lock.ensures ∙ c.if-is_lock.true) in
    omega (arith, few, long, c.requires)

pub loop-slot-smaller : goal.loop-slot-smaller
loop-slot-smaller g c = grind arith

pub loop-slot-preserved : goal.loop-slot-preserved
loop-slot-preserved g c =
    let es = map.entries c.args.table.now.contents.entries in
    let first = sym c.in-Some.is ∙ c.next_entry.ensures.entry in
    elim c.if-is_lock.branch [
      | then-is_lock w ↦ yes es (entries_after c.loop-slot.after es) _ _ first c.in-Some.ensures.rest c.loop-slot.count c.loop-slot.invariant _ w.count-is (sym c.is_lock.ensures ∙ w.if-is_lock.true)
      | else-is_lock w ↦ no es (entries_after c.loop-slot.after es) _ _ first c.in-Some.ensures.rest c.loop-slot.count c.loop-slot.invariant _ w.count-is (sym c.is_lock.ensures ∙ w.if-is_lock.false)
    ]

pub returns : goal.returns
returns g c = grind (arith, none_counted, c.args.table.now.contents.entries, c.loop-slot.after, c.in_default.is, c.next_entry.ensures.entry, c.loop-slot.invariant)
