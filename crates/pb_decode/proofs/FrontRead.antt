-- What is read at the front is spelt so, and what is spelt so is read.
use Rattle.std.proofs.Common.{◌≡◌, ℕ, ◌⊎◌, ◌+◌, ◌*◌, ◌/◌, ◌%◌, ◌^◌, ◌<◌, ◌≤◌, ℤ, Bool, true, false, cond, List, [], ◌++◌, length, drop, Option, Some, Result, Ok, Err, refl, sym, ap, subst, ◌∙◌, append_assoc, arith, ok_or, ◌==◌, nat_lt, FitsSigned}
use Rattle.std.specs.Int.{w16, w32, cast_signed, cast_unsigned}
use Rattle.std.proofs.lemmas.Bool.{eqb-true, and_parts}
use Rattle.std.proofs.lemmas.Int.{to_z-of_z}
use Rattle.pb_decode.specs.Words.{Insn, Operand, AluOp, Width, Reg, Profile, IsOf, number, reg_of, Fits, ◌>>=◌}
use Rattle.pb_decode.specs.declared.forms.Form.{Form}
use Rattle.pb_decode.specs.declared.forms.Source.{Source}
use Rattle.pb_decode.specs.declared.fields.SlotFields.{SlotFields}
use Rattle.pb_decode.specs.declared.fault.DecodeCode.{DecodeCode}
use Rattle.pb_decode.specs.Opcodes.{opcode, IsFormOf, form_of}
use Rattle.pb_decode.specs.Fields.{slot_bytes, slot_of_bytes}
use Rattle.pb_decode.specs.Encoding.{first_slot, second_slot, second_bytes, insn_bytes}
use Rattle.pb_decode.specs.Reading.{is_alu_offset, is_clean, is_second_slot, pair_of, size_of_bits, insn_of_form, clean_or_code, first_with, first_of}
use Rattle.pb_decode.specs.Faults.{AreBytes}
use Rattle.pb_decode.proofs.SlotBytes.{IsSlot, front_slot, is_slot, rest_bytes, same_slot, slot_back}
use Rattle.pb_decode.proofs.OpcodeTable.{form_front, form_back, reg_back, reg_front}
use Rattle.pb_decode.proofs.Extending.{IsExtending, alu_offset, zero_offset, extending_offset, size_back, some_bits, is_plain, plain_form, load_form}

-- an instruction, and the bytes after it
abbrev Read : Type 0
Read = Insn × List ℕ

abbrev done : {A : Type 0} → A → Result A DecodeCode
done x = Ok x

pub ok_is : {A : Type 0} (x y : A) → done x ≡ done y → x ≡ y
ok_is x y e = cc

-- where two readings one after the other end well, each has
bind_ok : {A B : Type 0} (r : Result A DecodeCode) (f : A → Result B DecodeCode) (y : B) → (r >>= f) ≡ Ok y → (x : A) × (r ≡ Ok x) × (f x ≡ Ok y)
bind_ok r f y e = grind arith

ok_or_ok : {A : Type 0} (c : DecodeCode) (o : Option A) (x : A) → ok_or o c ≡ Ok x → o ≡ Some x
ok_or_ok c o x e = grind arith

-- a form that comes through the test of its fields has none that isn't zero
clean_ok : (p : Profile) (f g : Form) (s : SlotFields) (b : Bool) → is_clean p f s ≡ b → cond b (Ok f) (Err DecodeCode.Unused) ≡ done g → (b ≡ true) × (f ≡ g)
clean_ok p f g s true is e = (refl, ok_is f g e)
clean_ok p f g s false is e = absurd cc

is_zero : (n : ℕ) → (n == 0) ≡ true → 0 ≡ n
is_zero n h = sym (eqb-true n 0 h)

-- what was read from a slot and the bytes after it
abbrev Takes : Profile → SlotFields → List ℕ → Read → Type 0
Takes p s rest x = (slot_bytes s ++ rest ≡ insn_bytes x.0 ++ x.1) × Fits x.0 × IsOf p x.0

-- where an instruction of one slot was read, and this is its slot, it is spelt by it
single : (p : Profile) (i : Insn) (s : SlotFields) (rest : List ℕ) (x : Read) → first_slot i ≡ s → second_bytes i ≡ [] → Fits i → IsOf p i → done (i, rest) ≡ Ok x → Takes p s rest x
single p i s rest x is alone fits of e = grind arith

-- a pair that is read has its second slot, with nothing but an immediate
pair_cases : (d : Reg) (s : SlotFields) (rest : List ℕ) (x : Read) (short clean : Bool) → nat_lt (length rest) 8 ≡ short → is_second_slot (slot_of_bytes rest) ≡ clean
    → cond short (Err DecodeCode.CutOff) (cond clean (Ok (Insn.LoadImm d (s.imm + 2 ^ 32 * (slot_of_bytes rest).imm), drop 8 rest)) (Err DecodeCode.SecondSlot)) ≡ done x
    → (8 ≤ length rest) × (is_second_slot (slot_of_bytes rest) ≡ true) × ((Insn.LoadImm d (s.imm + 2 ^ 32 * (slot_of_bytes rest).imm), drop 8 rest) ≡ x)
pair_cases d s rest x short clean p q e = grind arith

-- a pair that is read is spelt so: both halves are those of its number
pair_takes : (profile : Profile) (d : Reg) (s : SlotFields) (rest : List ℕ) (x : Read) → opcode Form.LoadImm ≡ s.opcode → number d ≡ s.dst → 0 ≡ s.src → 0 ≡ s.offset → IsSlot s → AreBytes rest → pair_of d s.imm rest ≡ Ok x → Takes profile s rest x
pair_takes profile d s rest x o p z f is fits e =
    let c = pair_cases d s rest x (nat_lt (length rest) 8) (is_second_slot (slot_of_bytes rest)) refl refl e in
    let t = slot_of_bytes rest in
    let low = s.imm in
    let high = t.imm in
    let below = is.imm in
    let over = (is_slot rest fits).imm in
    let a = and_parts (t.opcode == 0) _ c.1 in
    let b = and_parts (t.dst == 0) _ a.1 in
    let g = and_parts (t.src == 0) _ b.1 in
    let v = low + 2 ^ 32 * high in
    let first : first_slot (Insn.LoadImm d v) ≡ s = same_slot s _ _ _ _ _ o p z f (omega (arith, below)) in
    let second : second_slot (v / 2 ^ 32) ≡ t = same_slot t _ _ _ _ _ (is_zero t.opcode a.0) (is_zero t.dst b.0) (is_zero t.src g.0) (is_zero t.offset g.1) (omega (arith, below)) in
    let behind : rest ≡ second_bytes (Insn.LoadImm d v) ++ drop 8 rest = front_slot rest fits c.0 ∙ ap (λ (u : SlotFields). slot_bytes u ++ drop 8 rest) (sym second) in
    let parts : slot_bytes s ++ rest ≡ insn_bytes (Insn.LoadImm d v) ++ drop 8 rest =
    ap (λ (u : SlotFields). slot_bytes u ++ rest) (sym first) ∙ ap (λ (bs : List ℕ). slot_bytes (first_slot (Insn.LoadImm d v)) ++ bs) behind ∙ sym (append_assoc (slot_bytes (first_slot (Insn.LoadImm d v))) (second_bytes (Insn.LoadImm d v)) (drop 8 rest)) in
    let v-fits : v < 2 ^ 64 = omega (arith, below, over) in
    subst (Takes profile s rest) c.2 (parts, v-fits, is_plain profile (Insn.LoadImm d v) tt)

-- arithmetic that was read with this offset
abbrev IsAluRead : AluOp → Width → Reg → Reg → Operand → List ℕ → Read → ℕ → Type 0
IsAluRead op w d r a rest x n = done (cond (n == 0) (Insn.Alu op w d a) (Insn.MovSx w (size_of_bits n) d r), rest) ≡ Ok x

-- arithmetic with a register that is read is spelt so, with an offset or without
register_takes : (profile : Profile) (op : AluOp) (w : Width) (d r : Reg) (s : SlotFields) (rest : List ℕ) (x : Read) → opcode (Form.Alu op w Source.X) ≡ s.opcode → number d ≡ s.dst → number r ≡ s.src → 0 ≡ s.imm
    → (0 ≡ s.offset) ⊎ IsExtending profile op w s.offset → IsAluRead op w d r (Operand.Reg r) rest x s.offset → Takes profile s rest x
register_takes profile op w d r s rest x o p q z w1 e = grind (arith, single, same_slot, is_plain, some_bits, size_back)

-- what is read as an instruction of a form is spelt so: a case for each form
form_takes : (profile : Profile) (f : Form) (d r : Reg) (s : SlotFields) (rest : List ℕ) (x : Read) → opcode f ≡ s.opcode → IsFormOf profile f → number d ≡ s.dst → number r ≡ s.src → IsSlot s → AreBytes rest → is_clean profile f s ≡ true → insn_of_form f d r s rest ≡ Ok x → Takes profile s rest x
form_takes profile (Form.Alu op w Source.K) d r s rest x o of p q is fits clean e = grind arith
form_takes profile (Form.Alu op w Source.X) d r s rest x o of p q is fits clean e =
    let a = and_parts (is_alu_offset profile op w s.offset) (s.imm == 0) clean in
    register_takes profile op w d r s rest x o p q (is_zero s.imm a.1) (alu_offset profile op w s.offset a.0) e
form_takes profile (Form.Neg w) d r s rest x o of p q is fits clean e = grind arith
form_takes profile Form.LoadImm d r s rest x o of p q is fits clean e =
    let a = and_parts (s.src == 0) (s.offset == 0) clean in
    pair_takes profile d s rest x o p (is_zero s.src a.0) (is_zero s.offset a.1) is fits e
form_takes profile (Form.Load z x) d r s rest y o of p q is fits clean e = grind arith
form_takes profile (Form.StoreImm z) d r s rest x o of p q is fits clean e = grind arith
form_takes profile (Form.Store z) d r s rest x o of p q is fits clean e = grind arith
form_takes profile Form.Jump d r s rest x o of p q is fits clean e = grind arith
form_takes profile (Form.JumpIf c w Source.K) d r s rest x o of p q is fits clean e = grind arith
form_takes profile (Form.JumpIf c w Source.X) d r s rest x o of p q is fits clean e = grind arith
form_takes profile Form.Call d r s rest x o of p q is fits clean e = grind arith
form_takes profile Form.Exit d r s rest x o of p q is fits clean e = grind arith

-- what is read of a slot and the bytes after it is spelt so, and is of the profile
with_takes : (p : Profile) (s : SlotFields) (rest : List ℕ) (x : Read) → IsSlot s → AreBytes rest → first_with p s rest ≡ Ok x → Takes p s rest x
unfolding first_with
with_takes p s rest x is fits e =
    let a = bind_ok (ok_or (form_of p s.opcode) DecodeCode.Opcode) _ x e in
    let b = bind_ok (ok_or (reg_of s.dst) DecodeCode.Register) _ x a.2 in
    let c = bind_ok (ok_or (reg_of s.src) DecodeCode.Register) _ x b.2 in
    let d = bind_ok (clean_or_code p a.0 s) _ x c.2 in
    let clean = clean_ok p a.0 d.0 s (is_clean p a.0 s) refl d.1 in
    let g : insn_of_form a.0 b.0 c.0 s rest ≡ Ok x = subst (λ (f : Form). insn_of_form f b.0 c.0 s rest ≡ Ok x) (sym clean.1) d.2 in
    let f = form_front p s.opcode a.0 (ok_or_ok DecodeCode.Opcode (form_of p s.opcode) a.0 a.1) in
    form_takes p a.0 b.0 c.0 s rest x f.0 f.1 (reg_front s.dst b.0 (ok_or_ok DecodeCode.Register (reg_of s.dst) b.0 b.1)) (reg_front s.src c.0 (ok_or_ok DecodeCode.Register (reg_of s.src) c.0 c.1)) is fits clean.0 g

-- what is read at the front is spelt so
pub first_takes : (p : Profile) (bytes : List ℕ) (x : Read) → AreBytes bytes → 8 ≤ length bytes → first_of p bytes ≡ Ok x → (bytes ≡ insn_bytes x.0 ++ x.1) × Fits x.0 × IsOf p x.0
first_takes p bytes x fits long e =
    let f = front_slot bytes fits long in
    let t = with_takes p (slot_of_bytes bytes) (drop 8 bytes) x (is_slot bytes fits) (rest_bytes (slot_bytes (slot_of_bytes bytes)) (drop 8 bytes) (subst AreBytes f fits)) e in
    (f ∙ t.0, t.1, t.2)

-- ---- back again

-- the fields of an instruction's slot have their bits
abbrev low_slot : Insn → Type 0
low_slot i = ((first_slot i).dst < 16) × ((first_slot i).src < 16) × IsSlot (first_slot i)

-- since its numbers fit, they have
slot_is_low : (i : Insn) → Fits i → low_slot i
slot_is_low i fits = grind arith

-- an immediate is read back with its sign, and so is an offset
imm_again : (z : ℤ) → FitsSigned w32 z → cast_signed w32 (cast_unsigned w32 z) ≡ z
imm_again z fits = to_z-of_z w32 z fits

off_again : (z : ℤ) → FitsSigned w16 z → cast_signed w16 (cast_unsigned w16 z) ≡ z
off_again z fits = to_z-of_z w16 z fits

-- the halves of a 64-bit immediate are read back as one
pair_again : (d : Reg) (v : ℕ) (rest : List ℕ) → v < 2 ^ 64 → pair_of d (v % 2 ^ 32) (second_bytes (Insn.LoadImm d v) ++ rest) ≡ Ok (Insn.LoadImm d v, rest)
pair_again d v rest lt = grind arith

-- the slot of an instruction is read as it: a case for each
with_again : (p : Profile) (i : Insn) (rest : List ℕ) → Fits i → IsOf p i → first_with p (first_slot i) (second_bytes i ++ rest) ≡ Ok (i, rest)
unfolding first_with
with_again p (Insn.Alu op w d (Operand.Imm k)) rest fits of = rw (form_back p (Form.Alu op w Source.K) (plain_form p (Form.Alu op w Source.K) tt), reg_back d, imm_again k fits) refl
with_again p (Insn.Alu op w d (Operand.Reg s)) rest fits of = rw (form_back p (Form.Alu op w Source.X) (plain_form p (Form.Alu op w Source.X) tt), reg_back d, reg_back s, zero_offset p op w) refl
with_again p (Insn.MovSx w z d s) rest fits of =
    let h = extending_offset p w z d s of in
    rw (form_back p (Form.Alu AluOp.Mov w Source.X) (plain_form p (Form.Alu AluOp.Mov w Source.X) tt), reg_back d, reg_back s, h.0, some_bits z, size_back w z h.1) refl
with_again p (Insn.Neg w d) rest fits of = rw (form_back p (Form.Neg w) (plain_form p (Form.Neg w) tt), reg_back d) refl
with_again p (Insn.LoadImm d v) rest fits of = rw (form_back p Form.LoadImm (plain_form p Form.LoadImm tt), reg_back d) (pair_again d v rest fits)
with_again p (Insn.Load z x d b o) rest fits of = rw (form_back p (Form.Load z x) (load_form p z x d b o of), reg_back d, reg_back b, off_again o fits) refl
with_again p (Insn.StoreImm z b o k) rest fits of = rw (form_back p (Form.StoreImm z) (plain_form p (Form.StoreImm z) tt), reg_back b, off_again o fits.0, imm_again k fits.1) refl
with_again p (Insn.Store z b s o) rest fits of = rw (form_back p (Form.Store z) (plain_form p (Form.Store z) tt), reg_back b, reg_back s, off_again o fits) refl
with_again p (Insn.Jump o) rest fits of = rw (form_back p Form.Jump (plain_form p Form.Jump tt), off_again o fits) refl
with_again p (Insn.JumpIf c w d (Operand.Imm k) o) rest fits of = rw (form_back p (Form.JumpIf c w Source.K) (plain_form p (Form.JumpIf c w Source.K) tt), reg_back d, off_again o fits.1, imm_again k fits.0) refl
with_again p (Insn.JumpIf c w d (Operand.Reg s) o) rest fits of = rw (form_back p (Form.JumpIf c w Source.X) (plain_form p (Form.JumpIf c w Source.X) tt), reg_back d, reg_back s, off_again o fits.1) refl
with_again p (Insn.Call k) rest fits of = rw (form_back p Form.Call (plain_form p Form.Call tt), imm_again k fits) refl
with_again p Insn.Exit rest fits of = rw (form_back p Form.Exit (plain_form p Form.Exit tt)) refl

-- what is spelt so is read, whatever stands after it
pub first_again : (p : Profile) (i : Insn) (rest : List ℕ) → Fits i → IsOf p i → first_of p (insn_bytes i ++ rest) ≡ Ok (i, rest)
first_again p i rest fits of =
    let low = slot_is_low i fits in
    let grouped : insn_bytes i ++ rest ≡ slot_bytes (first_slot i) ++ (second_bytes i ++ rest) = append_assoc (slot_bytes (first_slot i)) (second_bytes i) rest in
    let s : slot_of_bytes (slot_bytes (first_slot i) ++ (second_bytes i ++ rest)) ≡ first_slot i = slot_back (first_slot i) (second_bytes i ++ rest) low.0 low.1 low.2 in
    ap (first_of p) grouped ∙ ap (λ (t : SlotFields). first_with p t (second_bytes i ++ rest)) s ∙ with_again p i rest fits of

-- no instruction's bytes begin another's
pub one_insn : (p : Profile) (i j : Insn) (x y : List ℕ) → Fits i × IsOf p i → Fits j × IsOf p j → insn_bytes i ++ x ≡ insn_bytes j ++ y → (i ≡ j) × (x ≡ y)
one_insn p i j x y f g e =
    let same : (i, x) ≡ (j, y) = ok_is (i, x) (j, y) (sym (first_again p i x f.0 f.1) ∙ ap (first_of p) e ∙ first_again p j y g.0 g.1) in
    (ap (λ (q : Read). q.0) same, ap (λ (q : Read). q.1) same)
