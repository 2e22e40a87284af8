-- A run of so many steps leaves at most twice as many entries, and as many marks.
use Rattle.std.proofs.Common.{◌≡◌, ℕ, ◌+◌, ◌-◌, ◌*◌, ◌<◌, ◌≤◌, ◌^◌, Bool, cond, List, [], ◌∷◌, length, sym, subst, arith}
use Rattle.std.specs.FinMap as map
use Rattle.pb_core.specs.Words.{Slot, Item, slot_cmp, slot_cmp_total, Cell, cell_cmp, Entries, Step, Answer, StateOf, opening, if_locked, StepCase, Entry, JournalLeads}
use Rattle.pb_core.specs.Keeping.{SharedKeeps}
use Rattle.pb_core.proofs.StepsKeep.{case_kept}

at_most : (b : Bool) (n k : ℕ) → k ≡ cond b n (n + 1) → k ≤ n + 1
at_most b n k is = grind arith

no_more : (b : Bool) (n k : ℕ) → k ≡ cond b (n - 1) n → k ≤ n
no_more b n k is = grind arith

-- a put makes at most one entry more
len_put : (m : Entries) (k : Slot) (v : Item) → map.len (map.insert m k v) ≤ map.len m + 1
len_put m k v = at_most _ _ _ (map.len-insert slot_cmp_total m k v)

len_erased : (m : Entries) (k : Slot) → map.len (map.remove m k) ≤ map.len m
len_erased m k = no_more _ _ _ (map.len-remove slot_cmp_total m k)

len_put_two : (m : Entries) (k l : Slot) (v w : Item) → map.len (map.insert (map.insert m k v) l w) ≤ map.len m + 2
len_put_two m k l v w = let a = len_put m k v in let b = len_put (map.insert m k v) l w in omega arith

len_replaced : (m : Entries) (k l : Slot) (w : Item) → map.len (map.insert (map.remove m k) l w) ≤ map.len m + 2
len_replaced m k l w = let a = len_erased m k in let b = len_put (map.remove m k) l w in omega arith

len_erased_two : (m : Entries) (k l : Slot) → map.len (map.remove (map.remove m k) l) ≤ map.len m + 2
len_erased_two m k l = let a = len_erased m k in let b = len_erased (map.remove m k) l in omega arith

len_if_locked : (s : StateOf) (b : Bool) (x : Cell) (n c : ℕ) → map.len (if_locked s b x n c).entries ≤ map.len s.entries + 2
len_if_locked s b x n c = grind (arith, len_replaced)

same_len : (m n : Entries) → n ≡ m → map.len n ≤ map.len m + 2
same_len m n is = rw is (omega arith)

-- a step makes at most two entries more: data and lock of a prewrite
case_entries : (s : StateOf) (seat : ℕ) (step : Step) (a : Answer) (t : StateOf) → StepCase s seat step a t → map.len t.entries ≤ map.len s.entries + 2
case_entries s seat step a t c = grind (arith, same_len, len_put_two, len_replaced, len_if_locked, len_erased_two)

-- so many steps make at most twice as many
run_entries : (s : StateOf) (es : List Entry) (t : StateOf) → JournalLeads s es t → map.len t.entries ≤ map.len s.entries + 2 * length es
run_entries s [] t r = subst (λ (x : StateOf). map.len x.entries ≤ map.len s.entries + 0) (sym r) (omega arith)
run_entries s (e ∷ es) t r = grind (arith, case_entries, e.seat, e.step, e.answer, r.1.taken, run_entries r.0 es t r.2)

-- and at most as many marks
run_marks : (s : StateOf) (es : List Entry) (t : StateOf) → JournalLeads s es t → map.len t.marks ≤ map.len s.marks + length es
run_marks s [] t r = subst (λ (x : StateOf). map.len x.marks ≤ map.len s.marks + 0) (sym r) (omega arith)
run_marks s (e ∷ es) t r = grind (arith, case_kept, e.seat, e.step, e.answer, r.1.taken, run_marks r.0 es t r.2)

-- the entries of a table can be counted, and so can its marks
pub few_entries : (j : List Entry) (bs : List (List ℕ)) (s : StateOf) (o l : ℕ) → SharedKeeps j bs s o l → map.len s.entries < 2 ^ 64
few_entries j bs s o l k =
    let grown = run_entries (opening s.observers s.seats o) j s k.legal.run in
    let none : map.len (opening s.observers s.seats o).entries ≡ 0 = map.len-empty slot_cmp _ in
    omega (arith, grown, none, k.room, k.bounded)

-- so few that they can be counted, since a journal has a limit
pub few_marks : (j : List Entry) (bs : List (List ℕ)) (s : StateOf) (o l : ℕ) → SharedKeeps j bs s o l → map.len s.marks < 2 ^ 64
few_marks j bs s o l k =
    let grown = run_marks (opening s.observers s.seats o) j s k.legal.run in
    let none : map.len (opening s.observers s.seats o).marks ≡ 0 = map.len-empty cell_cmp _ in
    omega (arith, grown, none, k.room, k.bounded)
