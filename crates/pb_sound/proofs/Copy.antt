-- The machine of the run does what the definitions do.
use Rattle.std.proofs.Common.{◌≡◌, ℕ, zero, suc, ◌+◌, ◌-◌, ◌<◌, ◌≤◌, inl, inr, ℤ, Bool, true, false, cond, nat_eq, nat_le, nat_lt, List, ◌∷◌, length, get_or, set, take, drop, replicate, Option, Some, None, is_some, refl, sym, ap, ◌∙◌, arith, length-append, length-take, length-drop, drop-cons, slice_get, get_or-set_same, get_or-set_other, get_or-take, get_or-drop}
use Rattle.std.proofs.lemmas.List.{length-set, get_or_append_left, get_or-append_right}
use Rattle.std.proofs.lemmas.Bool.{cases_eq, cases_lt}
use Rattle.std.proofs.lemmas.Bool.Decides.{nat_tests}
use Rattle.std.specs.Int.{from_le_bytes, to_le_bytes, byte_len}
use Rattle.pb_sound.specs.Words.{COLUMNS, Writes, Content, MAX_RECORD_BYTES, STACK_BYTES, Insn, AluOp, Width, Operand, Size, Extension, Reg, Cmp, number, alu, holds, word, Helper, Read, Write, Delete, Start, helper_of, declared_helper, insn_at, Placement, Map, Environment, State, Outcome, Goes, Asks, Stuck, address, width, extended, mov_sx, fetch, does, entries, push_front, with_entry, with_list, lies_in}
use Rattle.pb_isa.specs.Machine as m
use Rattle.pb_sound.specs.Cells as cell
use Rattle.pb_sound.specs.Cells.{Cells, CellsOutcome, CellsGo, IsSafe, cells_act}
use Rattle.pb_sound.specs.Mirrors.{Mirrors, IsHere}
use Rattle.pb_sound.proofs.Copies.{Copies, CellsCopy}
use Rattle.pb_sound.proofs.Lists.{with_at, with_other, with_list_below, with_list_above, with_list_in}
use Rattle.pb_sound.proofs.Calls.{called_is, reply_long}
use Rattle.pb_base.proofs.Logic.{same_some as some_same, le_true, and_true}
use Rattle.pb_isa.proofs.Instructions.{number_below as number_lt}

-- ---- where the definitions may be stuck

-- where a value is missing the definitions are stuck, so that only what comes of one has to be copied
given_copy : (e : Environment) (p : Type 0) (o : Option ℕ) (go : ℕ → Outcome) (x : CellsOutcome) → ((v : ℕ) → o ≡ Some v → Copies e p (go v) x) → Copies e p (m.with_value o go) x
given_copy e p o go x h = grind arith

given_list_copy : (e : Environment) (p : Type 0) (o : Option (List ℕ)) (go : List ℕ → Outcome) (x : CellsOutcome) → ((bs : List ℕ) → o ≡ Some bs → Copies e p (go bs) x) → Copies e p (m.with_values o go) x
given_list_copy e p o go x h = grind arith

if_copy : (e : Environment) (p : Type 0) (b : Bool) (o : Outcome) (x : CellsOutcome) → (b ≡ true → Copies e p o x) → Copies e p (cond b o Stuck) x
if_copy e p b o x h = grind arith

unless_copy : (e : Environment) (p : Type 0) (b : Bool) (o : Outcome) (x : CellsOutcome) → Copies e p o x → Copies e p (cond b Stuck o) x
unless_copy e p b o x h = grind arith

-- ---- registers

-- a register that is set in the definitions is the same in the cells
mirrored : (e : Environment) (c : Cells) (s : State) (r : Reg) (v : ℕ) → Mirrors e c s → m.value s r ≡ Some v → cell.cell_reg c r ≡ v
mirrored e c s r v t h = t.reg (number r) v (number_lt r) h

second_is : (e : Environment) (c : Cells) (s : State) (x : Operand) (v : ℕ) → Mirrors e c s → m.operand s x ≡ Some v → cell.second_of c x ≡ v
second_is e c s x v t h = grind arith

reg_set : (rs : List ℕ) (g : Map) (d v : ℕ) → length rs ≡ 11 → ((r x : ℕ) → r < 11 → g r ≡ Some x → get_or rs r 0 ≡ x) → (r x : ℕ) → r < 11 → with_entry g d v r ≡ Some x → get_or (set rs d v) r 0 ≡ x
reg_set rs g d v l h r x k q = grind (arith, cases_eq, get_or-set_same, some_same, with_at, get_or-set_other, with_other)

-- a register is set in both
set_copy : (e : Environment) (p : Type 0) (c : Cells) (s : State) (d : Reg) (v w size : ℕ) → Mirrors e c s → p → w ≡ v → Copies e p (m.sets_register e s d v size) (CellsGo (cell.set_reg c d w size))
set_copy e p c s d v w size t safe same =
    unless_copy e p (nat_eq (number d) 10) _ _ (if_copy e p (is_some (insn_at e.judged.program.insns (s.slot + size))) _ _ (λ _. (
      safe,
      record {
        slot = ap (λ n. n + size) t.slot;
        writes = t.writes;
        long = record { regs = length-set _ _ _ ∙ t.long.regs; memory = t.long.memory };
        reg = rw same (reg_set c.regs s.regs (number d) v t.long.regs t.reg);
        byte = t.byte;
        given = t.given;
      },
    )))

-- mov doesn't read its left operand
left_is : (op : AluOp) (w : Width) (s : State) (d : Reg) (a x b : ℕ) → ((v : ℕ) → m.value s d ≡ Some v → x ≡ v) → m.left s op d ≡ Some a → alu op w x b ≡ alu op w a b
left_is op w s d a x b h q = grind arith

alu_copy : (e : Environment) (c : Cells) (s : State) (op : AluOp) (w : Width) (d : Reg) (x : Operand) → Mirrors e c s → Copies e (Unit {0}) (does e s (Insn.Alu op w d x)) (cells_act e.start c (Insn.Alu op w d x))
alu_copy e c s op w d x t =
    given_copy e _ (m.left s op d) _ _ (λ a ha. given_copy e _ (m.operand s x) _ _ (λ b hb.
    set_copy e _ c s d (alu op w a b) _ 1 t tt (ap (λ y. alu op w (cell.cell_reg c d) y) (second_is e c s x b t hb) ∙ left_is op w s d a (cell.cell_reg c d) b (λ v. mirrored e c s d v t) ha)))

mov_sx_copy : (e : Environment) (c : Cells) (s : State) (w : Width) (z : Size) (d r : Reg) → Mirrors e c s → Copies e (Unit {0}) (does e s (Insn.MovSx w z d r)) (cells_act e.start c (Insn.MovSx w z d r))
mov_sx_copy e c s w z d r t = given_copy e _ (m.value s r) _ _ (λ v hv. set_copy e _ c s d (mov_sx w z v) _ 1 t tt (ap (λ y. mov_sx w z y) (mirrored e c s r v t hv)))

neg_copy : (e : Environment) (c : Cells) (s : State) (w : Width) (d : Reg) → Mirrors e c s → Copies e (Unit {0}) (does e s (Insn.Neg w d)) (cells_act e.start c (Insn.Neg w d))
neg_copy e c s w d t = given_copy e _ (m.value s d) _ _ (λ a ha. set_copy e _ c s d (alu AluOp.Sub w 0 a) _ 1 t tt (ap (λ y. alu AluOp.Sub w 0 y) (mirrored e c s d a t ha)))

-- ---- loads

-- bytes that all are written are those of the memory there
entries_copy : (g : Map) (x n : ℕ) (mem bs : List ℕ) → ((i b : ℕ) → x ≤ i → i < x + n → g i ≡ Some b → get_or mem i 0 ≡ b) → x + n ≤ length mem → entries g x n ≡ Some bs → take n (drop x mem) ≡ bs
entries_copy g x zero mem bs h l q = cc
entries_copy g x (suc n) mem bs h l q =
    let more : x < length mem = omega arith in
    let P : Option ℕ → Option (List ℕ) → Type 0 = λ a r. g x ≡ a → entries g (x + 1) n ≡ r → push_front a r ≡ Some bs → get_or mem x 0 ∷ take n (drop (suc x) mem) ≡ bs in
    let go : (a : Option ℕ) (r : Option (List ℕ)) → P a r = λ a r. elim a as (λ a. P a r) [
      | None ↦ λ e1 e2 q. cc
      | Some b ↦ λ e1. elim r as (λ r. entries g (x + 1) n ≡ r → push_front (Some b) r ≡ Some bs → get_or mem x 0 ∷ take n (drop (suc x) mem) ≡ bs) [
        | None ↦ λ e2 q. cc
        | Some rest ↦ λ e2 q.
            let first : get_or mem x 0 ≡ b = h x b (omega arith) (omega arith) e1 in
            let one : x + 1 ≡ suc x = omega arith in
            let tail = entries_copy g (x + 1) n mem rest (λ i b k1 k2. h i b (omega arith) (omega arith)) (omega arith) e2 in
            let tail2 = rw one at tail in
            let whole : b ∷ rest ≡ bs = cc in
            rw (first, tail2) whole
      ]
    ] in
    rw (drop-cons mem x 0) (go (g x) (entries g (x + 1) n) refl refl q)

pub record Inside (base len x n : ℕ) : Type 0 where
  pub low : base ≤ x
  pub high : x + n ≤ base + len

inside : (base len x n : ℕ) → lies_in base len x n ≡ true → Inside base len x n
inside base len x n h = let q = and_true (nat_le base x) (nat_le (x + n) (base + len)) h in record { low = le_true _ _ q.0; high = le_true _ _ q.1 }

record_byte : (e : Environment) (i b : ℕ) → e.place.record_at ≡ 0 → m.record_map e i ≡ Some b → slice_get e.bytes i ≡ Some b
record_byte e i b z h = let q : i - e.place.record_at ≡ i = omega arith in rw q at h

-- n bytes of the memory, which are there
pub record Got (c : Cells) (x n : ℕ) (bs : List ℕ) : Type 0 where
  pub are : cell.bytes_at c x n ≡ bs
  pub room : x + n ≤ cell.memory_bytes

stack_got : (e : Environment) (c : Cells) (s : State) (x n : ℕ) (bs : List ℕ) → IsHere e → Mirrors e c s → m.stack_has e x n ≡ true → entries s.stack x n ≡ Some bs → Got c x n bs
stack_got e c s x n bs pl t h q =
    let i = inside e.place.stack STACK_BYTES x n h in
    let low : MAX_RECORD_BYTES ≤ x = let z = ap (λ (a : Placement). a.stack) pl.place in let l = i.low in omega arith in
    let high : x + n ≤ cell.memory_bytes = let z = ap (λ (a : Placement). a.stack) pl.place in let l = i.high in omega arith in
    record { are = entries_copy s.stack x n c.memory bs (λ j b k1 k2. t.byte j b (omega arith) (omega arith)) (omega arith) q; room = high }

record_got : (e : Environment) (c : Cells) (s : State) (x n : ℕ) (bs : List ℕ) → IsHere e → Mirrors e c s → m.record_has e x n ≡ true → entries (m.record_map e) x n ≡ Some bs → Got c x n bs
record_got e c s x n bs pl t h q =
    let i = inside e.place.record_at (length e.bytes) x n h in
    let high : x + n ≤ MAX_RECORD_BYTES = let z = ap (λ (a : Placement). a.record_at) pl.place in let l = i.high in let size = pl.size in omega arith in
    let long = t.long.memory in
    record { are = entries_copy (m.record_map e) x n c.memory bs (λ j b k1 k2 w. t.given j b (omega arith) (record_byte e j b (ap (λ (a : Placement). a.record_at) pl.place) w)) (omega arith) q; room = omega arith }

-- what the definitions fetch is what the memory has, from either region
got : (e : Environment) (c : Cells) (s : State) (x n : ℕ) (bs : List ℕ) → IsHere e → Mirrors e c s → fetch e s x n ≡ Some bs → Got c x n bs
unfolding fetch
got e c s x n bs pl t q =
    let P : Bool → Bool → Type 0 = λ a b. m.stack_has e x n ≡ a → m.record_has e x n ≡ b → cond a (entries s.stack x n) (cond b (entries (m.record_map e) x n) None) ≡ Some bs → Got c x n bs in
    let go : (a b : Bool) → P a b = λ a b. elim a as (λ a. P a b) [
      | true ↦ λ ea eb q. stack_got e c s x n bs pl t ea q
      | false ↦ λ ea. elim b as (λ b. m.record_has e x n ≡ b → cond b (entries (m.record_map e) x n) None ≡ Some bs → Got c x n bs) [
        | true ↦ λ eb q. record_got e c s x n bs pl t eb q
        | false ↦ λ eb q. cc
      ]
    ] in
    go (m.stack_has e x n) (m.record_has e x n) refl refl q

load_copy : (e : Environment) (c : Cells) (s : State) (z : Size) (y : Extension) (d r : Reg) (o : ℤ) → IsHere e → Mirrors e c s → Copies e (IsSafe c (Insn.Load z y d r o)) (does e s (Insn.Load z y d r o)) (cells_act e.start c (Insn.Load z y d r o))
load_copy e c s z y d r o pl t =
    given_copy e _ (m.value s r) _ _ (λ x hx. given_list_copy e _ (fetch e s (address x o) (byte_len (width z))) _ _ (λ bs hb.
    let base = mirrored e c s r x t hx in
    let g = got e c s (address x o) (byte_len (width z)) bs pl t hb in
    set_copy e _ c s d (extended y z (from_le_bytes (width z) bs)) _ 1 t (rw base g.room) (rw (base, g.are) refl)))

-- ---- stores

-- a list with n elements overwritten from a on
module _ (xs : List ℕ) (a : ℕ) (vs : List ℕ) (room : a + length vs ≤ length xs) where
  over_before : (j : ℕ) → j < a → get_or (cell.put_at xs a vs) j 0 ≡ get_or xs j 0
  over_before j h = grind (arith, length-append, length-take, get_or_append_left, get_or-take)

  over_in : (i : ℕ) → i < length vs → get_or (cell.put_at xs a vs) (a + i) 0 ≡ get_or vs i 0
  over_in i h = grind (arith, length-append, length-take, get_or_append_left, get_or-append_right)

  over_after : (j : ℕ) → a + length vs ≤ j → get_or (cell.put_at xs a vs) j 0 ≡ get_or xs j 0
  over_after j h = grind (arith, length-append, length-take, get_or-append_right, get_or-drop)

  over_long : length (cell.put_at xs a vs) ≡ length xs
  over_long = simp (length-append, length-take, length-drop) (omega arith)

-- a byte after a store is the stored one, or what it was
byte_put : (mem : List ℕ) (g : Map) (x : ℕ) (vs : List ℕ) → x + length vs ≤ length mem → (y b : ℕ) → (g y ≡ Some b → get_or mem y 0 ≡ b) → with_list g x vs y ≡ Some b → get_or (cell.put_at mem x vs) y 0 ≡ b
byte_put mem g x vs room y b h q = elim (cases_lt y x) [
  | inl low ↦ over_before mem x vs room y low ∙ h (sym (with_list_below vs g x y low) ∙ q)
  | inr up ↦ elim (cases_lt y (x + length vs)) [
    | inl mid ↦
        let e1 : y ≡ x + (y - x) = omega arith in
        let q1 = rw e1 at q in
        let in_vs : y - x < length vs = omega arith in
        rw e1 (over_in mem x vs room (y - x) in_vs ∙ some_same (get_or vs (y - x) 0) b (sym (with_list_in vs g x (y - x) in_vs) ∙ q1))
    | inr high ↦ over_after mem x vs room y high ∙ h (sym (with_list_above vs g x y high) ∙ q)
  ]
]

-- bytes put on the stack
mirrors_put : (e : Environment) (c d : Cells) (s t : State) (x : ℕ) (vs : List ℕ) → Mirrors e c s → MAX_RECORD_BYTES ≤ x → x + length vs ≤ cell.memory_bytes → d.slot ≡ t.slot → d.writes ≡ t.writes → d.regs ≡ c.regs → t.regs ≡ s.regs → d.memory ≡ cell.put_at c.memory x vs → t.stack ≡ with_list s.stack x vs → Mirrors e d t
mirrors_put e c d s t x vs h low high eslot ewrites er es em ek =
    let long : length c.memory ≡ cell.memory_bytes = h.long.memory in
    let room : x + length vs ≤ length c.memory = omega arith in
    record {
      slot = eslot;
      writes = ewrites;
      long = record { regs = rw er h.long.regs; memory = rw em (over_long c.memory x vs room ∙ long) };
      reg = rw (er, es) h.reg;
      byte = rw (em, ek) (λ y b k1 k2. byte_put c.memory s.stack x vs room y b (h.byte y b k1 k2));
      given = λ y b k q. rw em (over_before c.memory x vs room y (omega arith) ∙ h.given y b k q);
    }

-- bytes are put into both stacks
store_copy : (e : Environment) (p : Type 0) (c : Cells) (s : State) (x y : ℕ) (vs ws : List ℕ) → IsHere e → Mirrors e c s → (MAX_RECORD_BYTES ≤ x → x + length vs ≤ cell.memory_bytes → p) → y ≡ x → ws ≡ vs → Copies e p (m.stores_bytes e s x vs) (CellsGo (cell.put_bytes c y ws))
store_copy e p c s x y vs ws pl t safe ex ev =
    if_copy e p (m.stack_has e x (length vs)) _ _ (λ h. if_copy e p (is_some (insn_at e.judged.program.insns (s.slot + 1))) _ _ (λ _.
    let i = inside e.place.stack STACK_BYTES x (length vs) h in
    let low : MAX_RECORD_BYTES ≤ x = let z = ap (λ (a : Placement). a.stack) pl.place in let l = i.low in omega arith in
    let high : x + length vs ≤ cell.memory_bytes = let z = ap (λ (a : Placement). a.stack) pl.place in let l = i.high in omega arith in (
      safe low high,
      mirrors_put e c _ s _ x vs t low high (ap (λ n. n + 1) t.slot) t.writes refl refl (rw (ex, ev) refl) refl,
    )))

length-bytes : (z : Size) (v : ℕ) → length (to_le_bytes (width z) v) ≡ byte_len (width z)
length-bytes z v = grind arith

store_imm_copy : (e : Environment) (c : Cells) (s : State) (z : Size) (d : Reg) (o k : ℤ) → IsHere e → Mirrors e c s → Copies e (IsSafe c (Insn.StoreImm z d o k)) (does e s (Insn.StoreImm z d o k)) (cells_act e.start c (Insn.StoreImm z d o k))
store_imm_copy e c s z d o k pl t =
    given_copy e _ (m.value s d) _ _ (λ x hx.
    let base = mirrored e c s d x t hx in
    let vs = to_le_bytes (width z) (word k) in
    let n = length-bytes z (word k) in
    store_copy e _ c s (address x o) _ vs vs pl t (λ l h. rw base (l, rw n at h)) (ap (λ y. address y o) base) refl)

store_reg_copy : (e : Environment) (c : Cells) (s : State) (z : Size) (d : Reg) (o : ℤ) (r : Reg) → IsHere e → Mirrors e c s → Copies e (IsSafe c (Insn.Store z d r o)) (does e s (Insn.Store z d r o)) (cells_act e.start c (Insn.Store z d r o))
store_reg_copy e c s z d o r pl t =
    given_copy e _ (m.value s d) _ _ (λ x hx. given_copy e _ (m.value s r) _ _ (λ v hv.
    let base = mirrored e c s d x t hx in
    let vs = to_le_bytes (width z) v in
    let n = length-bytes z v in
    store_copy e _ c s (address x o) _ vs _ pl t (λ l h. rw base (l, rw n at h)) (ap (λ y. address y o) base) (ap (λ y. to_le_bytes (width z) y) (mirrored e c s r v t hv))))

-- ---- jumps, and the exit

goes_copy : (e : Environment) (c : Cells) (s : State) (n k : ℕ) → Mirrors e c s → k ≡ n → Copies e (Unit {0}) (m.goes e s n s.regs s.stack) (CellsGo (cell.jumped_to c k))
goes_copy e c s n k t same = grind arith

-- a jump that leads somewhere leads to the same slot in both
jumped_is : (n : ℕ) (o : ℤ) (t : ℕ) → m.target n o ≡ Some t → cell.jump_slot n o ≡ t
jumped_is n o t h = grind arith

jump_copy : (e : Environment) (c : Cells) (s : State) (o : ℤ) → Mirrors e c s → Copies e (Unit {0}) (does e s (Insn.Jump o)) (cells_act e.start c (Insn.Jump o))
jump_copy e c s o t = given_copy e _ (m.target s.slot o) _ _ (λ n hn. goes_copy e c s n _ t (rw t.slot (jumped_is s.slot o n hn)))

chosen : (b : Bool) (n : ℕ) (o : ℤ) (t : ℕ) → cond b (m.target n o) (Some (n + 1)) ≡ Some t → cond b (cell.jump_slot n o) (n + 1) ≡ t
chosen b n o t h = grind arith

jump_if_copy : (e : Environment) (c : Cells) (s : State) (p : Cmp) (w : Width) (d : Reg) (x : Operand) (o : ℤ) → Mirrors e c s → Copies e (Unit {0}) (does e s (Insn.JumpIf p w d x o)) (cells_act e.start c (Insn.JumpIf p w d x o))
jump_if_copy e c s p w d x o t =
    given_copy e _ (m.value s d) _ _ (λ a ha. given_copy e _ (m.operand s x) _ _ (λ b hb. given_copy e _ (cond (holds p w a b) (m.target s.slot o) (Some (s.slot + 1))) _ _ (λ n hn.
    goes_copy e c s n _ t (rw (mirrored e c s d a t ha, second_is e c s x b t hb, t.slot) (chosen (holds p w a b) s.slot o n hn)))))

exit_copy : (e : Environment) (c : Cells) (s : State) → Mirrors e c s → Copies e (Unit {0}) (does e s Insn.Exit) (cells_act e.start c Insn.Exit)
exit_copy e c s t = given_copy e _ (s.regs 0) _ _ (λ v hv. (t.reg 0 v (omega arith) hv, t.writes))

-- ---- calls

called_reg : (rs : List ℕ) (g : Map) (v : ℕ) → length rs ≡ 11 → ((r x : ℕ) → r < 11 → g r ≡ Some x → get_or rs r 0 ≡ x) → (r x : ℕ) → r < 11 → m.called_regs g v r ≡ Some x → get_or (set rs 0 v) r 0 ≡ x
called_reg rs g v l h r x k q = grind (arith, get_or-set_same, some_same, nat_tests, get_or-set_other)

returned_copy : (e : Environment) (c : Cells) (s : State) (ws us : Writes) (v w : ℕ) → Mirrors e c s → us ≡ ws → w ≡ v → Mirrors e (cell.cells_after_call c us w) (m.state_after_call s ws v)
returned_copy e c s ws us v w t ew ev = grind (arith, length-set, called_reg, t.slot, t.long.regs, t.long.memory, c.regs, s.regs, t.reg, t.byte, t.given)

filled_copy : (e : Environment) (c : Cells) (s : State) (x y : ℕ) (bs : List ℕ) (v : ℕ) → Mirrors e c s → MAX_RECORD_BYTES ≤ x → x + length bs ≤ cell.memory_bytes → y ≡ x → Mirrors e (cell.cells_after_read c y bs v) (m.state_after_read s x bs v)
filled_copy e c s x y bs v t low high ex =
    let mid : State = record { slot = s.slot; regs = s.regs; stack = with_list s.stack x bs; writes = s.writes } in
    let half : Cells = record { slot = c.slot; regs = c.regs; memory = cell.put_at c.memory x bs; writes = c.writes } in
    let put = mirrors_put e c half s mid x bs t low high t.slot t.writes refl refl refl refl in
    rw ex (returned_copy e half mid s.writes c.writes v v put t.writes refl)

-- the stack bytes at R3
pub record Room (c : Cells) (x : ℕ) : Type 0 where
  pub is : cell.argument c 3 ≡ x
  pub low : MAX_RECORD_BYTES ≤ x
  pub high : x + 32 ≤ cell.memory_bytes

room_at : (e : Environment) (c : Cells) (s : State) (x : ℕ) → IsHere e → Mirrors e c s → s.regs 3 ≡ Some x → m.stack_has e x 32 ≡ true → Room c x
room_at e c s x pl t hx h = grind arith

read_copy : (e : Environment) (c : Cells) (s : State) → IsHere e → Mirrors e c s → Copies e (cell.IsSafeCall c (Some Read)) (m.helps e s Read) (cell.cells_call e.start c (Some Read))
read_copy e c s pl t =
    given_copy e _ (s.regs 1) _ _ (λ row h1. given_copy e _ (s.regs 2) _ _ (λ column h2. given_copy e _ (s.regs 3) _ _ (λ x h3. if_copy e _ (m.stack_has e x 32) _ _ (λ h.
    let r1 = t.reg 1 row (omega arith) h1 in
    let r2 = t.reg 2 column (omega arith) h2 in
    let a = room_at e c s x pl t h3 h in
    let safe : cell.IsSafeCall c (Some Read) = rw a.is a.high in
    let P : Bool → Type 0 = λ low. Copies e (cell.IsSafeCall c (Some Read)) (cond low (Asks (record { row = row; column = column }) (λ r. m.state_after_read s x (m.reply_bytes r) (m.reply_result r))) (Goes (m.state_after_read s x (replicate 32 0) 2))) (cond low (cell.CellsAsk (record { row = row; column = column }) (λ r. cell.cells_after_read c (cell.argument c 3) (m.reply_bytes r) (m.reply_result r))) (CellsGo (cell.cells_after_read c (cell.argument c 3) (replicate 32 0) 2))) in
    let go : (low : Bool) → P low = λ low. elim low as P [
      | true ↦ (safe, refl, λ r l. filled_copy e c s x (cell.argument c 3) (m.reply_bytes r) (m.reply_result r) t a.low (let n = reply_long r l in let k = a.high in omega arith) a.is)
      | false ↦ (safe, filled_copy e c s x (cell.argument c 3) (replicate 32 0) 2 t a.low a.high a.is)
    ] in
    rw (r1, r2) (go (nat_lt column COLUMNS))))))

write_copy : (e : Environment) (p : Type 0) (c : Cells) (s : State) (row column : ℕ) (x y : Content) → Mirrors e c s → p → cell.argument c 1 ≡ row → cell.argument c 2 ≡ column → y ≡ x → Copies e p (m.writes_cell s row column x) (cell.cells_write c y)
write_copy e p c s row column x y t safe r1 r2 ex =
    let ws = m.add_write (m.cell_of row column) x s.writes in
    let v = m.write_result (m.cell_of row column) s.writes in
    let P : Bool → Type 0 = λ low. Copies e p (cond low (Goes (m.state_after_call s ws v)) (Goes (m.state_after_call s s.writes 2))) (cond low (CellsGo (cell.cells_after_call c ws v)) (CellsGo (cell.cells_after_call c s.writes 2))) in
    let go : (low : Bool) → P low = λ low. elim low as P [
      | true ↦ (safe, returned_copy e c s ws ws v v t refl refl)
      | false ↦ (safe, returned_copy e c s s.writes s.writes 2 2 t refl refl)
    ] in
    rw (r1, r2, ex, t.writes) (go (nat_lt column COLUMNS))

-- each of the four helpers
helps_copy : (e : Environment) (c : Cells) (s : State) (x : Helper) → IsHere e → Mirrors e c s → Copies e (cell.IsSafeCall c (Some x)) (m.helps e s x) (cell.cells_call e.start c (Some x))
helps_copy e c s Read pl t = read_copy e c s pl t
helps_copy e c s Write pl t =
    given_copy e _ (s.regs 1) _ _ (λ row h1. given_copy e _ (s.regs 2) _ _ (λ column h2. given_copy e _ (s.regs 3) _ _ (λ x h3. if_copy e _ (m.stack_has e x 32) _ _ (λ h. given_list_copy e _ (entries s.stack x 32) _ _ (λ bs hb.
    let a = room_at e c s x pl t h3 h in
    let g = stack_got e c s x 32 bs pl t h hb in
    let same : cell.bytes_at c (cell.argument c 3) 32 ≡ bs = rw a.is g.are in
    write_copy e _ c s row column (Content.Value bs) _ t (rw a.is a.high) (t.reg 1 row (omega arith) h1) (t.reg 2 column (omega arith) h2) (ap Content.Value same))))))
helps_copy e c s Delete pl t =
    given_copy e _ (s.regs 1) _ _ (λ row h1. given_copy e _ (s.regs 2) _ _ (λ column h2.
    write_copy e _ c s row column Content.Deleted Content.Deleted t tt (t.reg 1 row (omega arith) h1) (t.reg 2 column (omega arith) h2) refl))
helps_copy e c s Start pl t = (tt, returned_copy e c s s.writes c.writes e.start e.start t t.writes refl)

-- a call of a declared helper; one of another is stuck, and needs no copy
calls_copy : (e : Environment) (c : Cells) (s : State) (k : ℤ) (x : Option Helper) → IsHere e → Mirrors e c s → declared_helper e.judged.helpers k ≡ x → Copies e (cell.IsSafeCall c (helper_of k)) (m.calls e s x) (cell.cells_call e.start c (helper_of k))
calls_copy e c s k None pl t q = tt
calls_copy e c s k (Some x) pl t q = if_copy e _ (is_some (insn_at e.judged.program.insns (s.slot + 1))) _ _ (λ _. rw (called_is e.judged.helpers k x q) (helps_copy e c s x pl t))

-- every instruction, by its kind
pub cells_copy : CellsCopy
cells_copy e c s (Insn.Alu op w d x) pl t = alu_copy e c s op w d x t
cells_copy e c s (Insn.MovSx w z d r) pl t = mov_sx_copy e c s w z d r t
cells_copy e c s (Insn.Neg w d) pl t = neg_copy e c s w d t
cells_copy e c s (Insn.LoadImm d v) pl t = set_copy e _ c s d v v 2 t tt refl
cells_copy e c s (Insn.Load z y d r o) pl t = load_copy e c s z y d r o pl t
cells_copy e c s (Insn.StoreImm z d o k) pl t = store_imm_copy e c s z d o k pl t
cells_copy e c s (Insn.Store z d r o) pl t = store_reg_copy e c s z d o r pl t
cells_copy e c s (Insn.Jump o) pl t = jump_copy e c s o t
cells_copy e c s (Insn.JumpIf p w d x o) pl t = jump_if_copy e c s p w d x o t
cells_copy e c s (Insn.Call k) pl t = calls_copy e c s k (declared_helper e.judged.helpers k) pl t refl
cells_copy e c s Insn.Exit pl t = exit_copy e c s t
