-- The writes of a run are distinct data cells without stamps, 16 at most, at each point of it.
use Rattle.std.proofs.Common.{◌≡◌, ℕ, ◌≤◌, zero, suc, Bool, true, false, cond, nat_eq, nat_lt, List, [], ◌∷◌, ◌++◌, length, Option, Some, None, refl, sym, ap, subst, ◌∙◌, inl, inr, arith, length-append, ◌&&◌, is_some, is_none}
use Rattle.std.specs.Cmp.{eq_by_cmp_equiv}
use Rattle.std.specs.List.{list_all}
use Rattle.std.specs.Ordering.{eq_by_cmp}
use Rattle.std.proofs.lemmas.Bool.{and_parts, ltb-true, le-leb, lt-ltb}
use Rattle.pb_sound.specs.Words.{cell_cmp, cell_cmp_total, Cell, Content, MAX_CELLS, Writes, content_in, is_unstamped, is_data_write, are_distinct, Insn, insn_at, Helper, Environment, State, Reply, Outcome, Goes, Asks, Ends, Stuck, with_value, with_values, replace_write, add_write, reads_cell, writes_cell, helps, calls, does, does_at, act, state_at_entry, Talk, Point, point, on, onward, point_after}
use Rattle.pb_sound.specs.RunWrites.{AreRunWrites, RunsWriteBatches}
use Rattle.pb_sound.proofs.Silent.{IsSilentStep, plain_is_silent}
use Rattle.pb_base.proofs.SameCells.{cell_is}

-- what a run may have written so far
record AreMade (ws : Writes) : Type 0 where
  few : length ws ≤ MAX_CELLS
  plain : list_all is_data_write ws ≡ true
  distinct : are_distinct ws ≡ true

-- ---- a cell is written once more

pub length_replaced : (x : Cell) (c : Content) (ws : Writes) → length (replace_write x c ws) ≡ length ws
length_replaced x c [] = refl
length_replaced x c (w ∷ ws) = by (eq_by_cmp cell_cmp x w.0) (length_replaced x c ws)
  where
    by : (b : Bool) → length (replace_write x c ws) ≡ length ws → length (cond b ((x, c) ∷ ws) (w ∷ replace_write x c ws)) ≡ suc (length ws)
    by true rest = refl
    by false rest = ap suc rest

plain_replaced : (x : Cell) (c : Content) (ws : Writes) → is_data_write (x, c) ≡ true → list_all is_data_write ws ≡ true → list_all is_data_write (replace_write x c ws) ≡ true
plain_replaced x c [] p h = refl
plain_replaced x c (w ∷ ws) p h = let q = and_parts (is_data_write w) (list_all is_data_write ws) h in by (eq_by_cmp cell_cmp x w.0) q.0 q.1 (plain_replaced x c ws p q.1)
  where
    by : (b : Bool) → is_data_write w ≡ true → list_all is_data_write ws ≡ true → list_all is_data_write (replace_write x c ws) ≡ true → list_all is_data_write (cond b ((x, c) ∷ ws) (w ∷ replace_write x c ws)) ≡ true
    by true first rest replaced = λ i. p i && rest i
    by false first rest replaced = λ i. first i && replaced i

-- whether a cell is written doesn't depend on what it is given
none_some : (t : Bool) (a b : Content) (o : Option Content) → is_none (cond t (Some a) o) ≡ is_none (cond t (Some b) o)
none_some t a b o = grind arith

none_past : (t : Bool) (a : Content) (o p : Option Content) → is_none o ≡ is_none p → is_none (cond t (Some a) o) ≡ is_none (cond t (Some a) p)
none_past t a o p e = grind arith

-- a replaced write is of the same cells
lacks_replaced : (x : Cell) (c : Content) (ws : Writes) (y : Cell) → is_none (content_in (replace_write x c ws) y) ≡ is_none (content_in ws y)
lacks_replaced x c [] y = refl
lacks_replaced x c (w ∷ ws) y = by (lacks_replaced x c ws y) (eq_by_cmp cell_cmp x w.0) refl
  where
    by : is_none (content_in (replace_write x c ws) y) ≡ is_none (content_in ws y) → (b : Bool) → eq_by_cmp cell_cmp x w.0 ≡ b → is_none (content_in (cond b ((x, c) ∷ ws) (w ∷ replace_write x c ws)) y) ≡ is_none (content_in (w ∷ ws) y)
    by rest true e = ap (λ z. is_none (cond (eq_by_cmp cell_cmp y z) (Some c) (content_in ws y))) (cell_is x w.0 e) ∙ none_some (eq_by_cmp cell_cmp y w.0) c w.1 (content_in ws y)
    by rest false e = none_past (eq_by_cmp cell_cmp y w.0) w.1 (content_in (replace_write x c ws) y) (content_in ws y) rest

-- so they stay distinct
distinct_replaced : (x : Cell) (c : Content) (ws : Writes) → are_distinct ws ≡ true → are_distinct (replace_write x c ws) ≡ true
distinct_replaced x c [] h = refl
distinct_replaced x c (w ∷ ws) h = let q = and_parts (is_none (content_in ws w.0)) (are_distinct ws) h in by q.0 q.1 (distinct_replaced x c ws q.1) (eq_by_cmp cell_cmp x w.0) refl
  where
    by : is_none (content_in ws w.0) ≡ true → are_distinct ws ≡ true → are_distinct (replace_write x c ws) ≡ true → (b : Bool) → eq_by_cmp cell_cmp x w.0 ≡ b → are_distinct (cond b ((x, c) ∷ ws) (w ∷ replace_write x c ws)) ≡ true
    by first rest replaced true e = λ i. (ap (λ z. is_none (content_in ws z)) (cell_is x w.0 e) ∙ first) i && rest i
    by first rest replaced false e = λ i. (lacks_replaced x c ws w.0 ∙ first) i && replaced i

-- ---- one more cell is written

-- a cell that the list lacks is none of its own, either way round
pub lacks_first : (t : Bool) (a : Content) (o : Option Content) → is_none (cond t (Some a) o) ≡ true → (t ≡ false) × (is_none o ≡ true)
lacks_first t a o h = grind arith

lacks_more : (ws : Writes) (x : Cell) (c : Content) (y : Cell) → is_none (content_in ws y) ≡ true → eq_by_cmp cell_cmp y x ≡ false → is_none (content_in (ws ++ (x, c) ∷ []) y) ≡ true
lacks_more [] x c y h apart = ap (λ b. is_none (cond b (Some c) None)) apart
lacks_more (w ∷ ws) x c y h apart =
    let p = lacks_first (eq_by_cmp cell_cmp y w.0) w.1 (content_in ws y) h in
    ap (λ b. is_none (cond b (Some w.1) (content_in (ws ++ (x, c) ∷ []) y))) p.0 ∙ lacks_more ws x c y p.1 apart

-- and so they do with a cell that wasn't among them
distinct_more : (ws : Writes) (x : Cell) (c : Content) → are_distinct ws ≡ true → is_none (content_in ws x) ≡ true → are_distinct (ws ++ (x, c) ∷ []) ≡ true
distinct_more [] x c h none = refl
distinct_more (w ∷ ws) x c h none =
    let q = and_parts (is_none (content_in ws w.0)) (are_distinct ws) h in
    let p = lacks_first (eq_by_cmp cell_cmp x w.0) w.1 (content_in ws x) none in
    let apart : eq_by_cmp cell_cmp w.0 x ≡ false = (eq_by_cmp_equiv cell_cmp_total).symm w.0 x ∙ p.0 in
    (λ i. lacks_more ws x c w.0 q.0 apart i && distinct_more ws x c q.1 p.1 i)

plain_more : (ws : Writes) (w : Cell × Content) → list_all is_data_write ws ≡ true → is_data_write w ≡ true → list_all is_data_write (ws ++ w ∷ []) ≡ true
plain_more [] w h p = λ i. p i && true
plain_more (v ∷ vs) w h p = let q = and_parts (is_data_write v) (list_all is_data_write vs) h in (λ i. q.0 i && plain_more vs w q.1 p i)

none_if : (o : Option Content) → is_some o ≡ false → is_none o ≡ true
none_if o e = grind arith

-- a write keeps it so: of a 17th cell nothing is written
made_more : (ws : Writes) (x : Cell) (c : Content) → is_data_write (x, c) ≡ true → AreMade ws → AreMade (add_write x c ws)
made_more ws x c p m = by (is_some (content_in ws x)) refl
  where
    room : (b : Bool) → nat_lt (length ws) MAX_CELLS ≡ b → is_none (content_in ws x) ≡ true → AreMade (cond b (ws ++ (x, c) ∷ []) ws)
    room true e none = let small = ltb-true _ _ e in record { few = simp length-append (omega (arith, small)); plain = plain_more ws (x, c) m.plain p; distinct = distinct_more ws x c m.distinct none }
    room false e none = m

    by : (b : Bool) → is_some (content_in ws x) ≡ b → AreMade (cond b (replace_write x c ws) (cond (nat_lt (length ws) MAX_CELLS) (ws ++ (x, c) ∷ []) ws))
    by true e = record { few = let same = length_replaced x c ws in let few = m.few in omega (arith, same, few); plain = plain_replaced x c ws p m.plain; distinct = distinct_replaced x c ws m.distinct }
    by false e = room (nat_lt (length ws) MAX_CELLS) refl (none_if _ e)

-- ---- one instruction

-- so it is after an instruction, with each reply where it asks
abbrev IsMadeStep : Outcome → Type 0
IsMadeStep (Goes t) = AreMade t.writes
IsMadeStep (Asks q go) = (r : Reply) → AreMade (go r).writes
IsMadeStep (Ends v us) = AreMade us
IsMadeStep Stuck = Unit {0}

from_silent : (ws : Writes) → AreMade ws → (o : Outcome) → IsSilentStep ws o → IsMadeStep o
from_silent ws m o h = grind arith

with_one : (o : Option ℕ) (go : ℕ → Outcome) → ((v : ℕ) → IsMadeStep (go v)) → IsMadeStep (with_value o go)
with_one o go h = grind arith

with_many : (o : Option (List ℕ)) (go : List ℕ → Outcome) → ((v : List ℕ) → IsMadeStep (go v)) → IsMadeStep (with_values o go)
with_many o go h = grind arith

either : (b : Bool) (o q : Outcome) → IsMadeStep o → IsMadeStep q → IsMadeStep (cond b o q)
either b o q h k = grind arith

module _ (e : Environment) (s : State) (m : AreMade s.writes) where
  reads : (row column x : ℕ) → IsMadeStep (reads_cell s row column x)
  reads row column x = grind arith

  writes : (row column : ℕ) (c : Content) → is_unstamped c ≡ true → IsMadeStep (writes_cell s row column c)
  writes row column c p = grind (arith, either, made_more, s.writes)

  helping : (h : Helper) → IsMadeStep (helps e s h)
  helping h = grind (arith, with_one, either, reads, with_many, writes)

  calling : (h : Option Helper) → IsMadeStep (calls e s h)
  calling h = grind (arith, either, helping)

  doing : (i : Insn) → IsMadeStep (does e s i)
  doing i = grind (arith, calling, from_silent, plain_is_silent)

  doing_at : (i : Option Insn) → IsMadeStep (does_at e s i)
  doing_at i = grind (arith, doing)

  acting : IsMadeStep (act e s)
  unfolding act
  acting = doing_at (insn_at e.judged.program.insns s.slot)

-- ---- a run

going_on : (talk : Talk) (o : Outcome) (k : ℕ) (u : Point) → IsMadeStep o → on talk o k ≡ Some u → AreMade u.state.writes
going_on talk o k u h e = grind arith

nothing : AreMade []
nothing = record { few = omega arith; plain = refl; distinct = refl }

-- at each point of a run
points_made : (e : Environment) (talk : Talk) (n : ℕ) (u : Point) → point_after e talk n ≡ Some u → AreMade u.state.writes
unfolding point_after state_at_entry
points_made e talk zero u h = let same : point (state_at_entry e) 0 ≡ u = cc in subst (λ (z : Point). AreMade z.state.writes) same nothing
points_made e talk (suc n) u h =
    let go : (z : Option Point) → point_after e talk n ≡ z → onward e talk z ≡ Some u → AreMade u.state.writes = λ z. elim z as (λ z. point_after e talk n ≡ z → onward e talk z ≡ Some u → AreMade u.state.writes) [
      | None ↦ λ w q. cc
      | Some z ↦ λ w q. going_on talk (act e z.state) z.told u (acting e z.state (points_made e talk n z w)) q
    ] in
    go (point_after e talk n) refl h

ended : (o : Outcome) (v : ℕ) (us : Writes) → IsMadeStep o → o ≡ Ends v us → AreMade us
ended o v us h e = subst IsMadeStep e h

-- what may have been written is nothing or a batch
batch_or_none : (ws : Writes) → AreMade ws → AreRunWrites ws
batch_or_none [] m = inl refl
batch_or_none (w ∷ ws) m = inr (rw (lt-ltb 0 (length (w ∷ ws)) (omega arith), le-leb (length (w ∷ ws)) MAX_CELLS m.few, m.plain, m.distinct) refl)

-- of whatever a program means to write
pub runs_write_batches : RunsWriteBatches
runs_write_batches j bytes start talk r ws means =
    let a = means.some.0 in
    let e = means.at a means.some.1 in
    let u = points_made _ talk e.steps (point e.last (length talk)) e.leads in
    subst AreRunWrites (sym e.kept) (by (nat_eq r 0) e.made (ended (act _ e.last) r e.made (acting _ e.last u) e.ends))
  where
    by : (b : Bool) (made : Writes) → AreMade made → AreRunWrites (cond b made [])
    by true made m = batch_or_none made m
    by false made m = inl refl
