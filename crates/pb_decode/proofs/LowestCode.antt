-- What is read at the front is at fault exactly by the lowest code that applies there.
use Rattle.std.proofs.Common.{◌≡◌, ℕ, ◌≤◌, inl, Bool, true, false, cond, List, ◌++◌, length, drop, Option, Some, None, Result, Ok, Err, refl, sym, ap, subst, ◌∙◌, arith, ok_or, nat_eq, nat_lt}
use Rattle.std.proofs.lemmas.Bool.{ltb-true, ltb-false}
use Rattle.pb_decode.specs.Words.{Insn, Reg, Profile, IsOf, reg_of, ◌>>=◌, Fits}
use Rattle.pb_decode.specs.declared.forms.Form.{Form}
use Rattle.pb_decode.specs.declared.fault.DecodeCode.{DecodeCode}
use Rattle.pb_decode.specs.Opcodes.{opcode, IsFormOf, form_of}
use Rattle.pb_decode.specs.Fields.{slot_of_bytes}
use Rattle.pb_decode.specs.Reading.{is_clean, is_second_slot, insn_of_form, clean_or_code, first_with, first_of}
use Rattle.pb_decode.specs.Faults.{decode_code, Applies, IsLowest}
use Rattle.pb_decode.specs.Encoding.{insn_bytes}
use Rattle.pb_decode.proofs.FrontRead.{first_again}
use Rattle.pb_decode.proofs.OpcodeTable.{form_front, form_back, reg_front, reg_none}
use Rattle.pb_base.proofs.Logic.{one_value as some_same, not_both as not_false, not_none as no_none}
use Rattle.pb_isa.proofs.Instructions.{number_below}

abbrev Read : Type 0
Read = Insn × List ℕ

-- what the codes have to do with what was read
abbrev Told : Profile → List ℕ → Result Read DecodeCode → Type 0
Told profile bytes (Ok x) = (code : DecodeCode) → Applies profile bytes code → ⊥
Told profile bytes (Err code) = IsLowest profile bytes code

-- the form of an opcode is the one that is found
same_form : (profile : Profile) (f g : Form) (n : ℕ) → form_of profile n ≡ Some f → IsFormOf profile g → opcode g ≡ n → g ≡ f
same_form profile f g n is of p = some_same (form_of profile n) g f (ap (form_of profile) (sym p) ∙ form_back profile g of) is

-- each profile has the pair
has_pair : (profile : Profile) → IsFormOf profile Form.LoadImm
has_pair profile = grind arith

-- ---- step by step

-- no code below 12 applies to a slot, since 10 and 11 are of the whole
least_opcode : (profile : Profile) (bytes : List ℕ) (other : DecodeCode) → Applies profile bytes other → 12 ≤ decode_code other
least_opcode profile bytes other h = grind arith

-- an opcode that no form has is refused with 12
no_opcode : (profile : Profile) (bytes : List ℕ) → form_of profile (slot_of_bytes bytes).opcode ≡ None → IsLowest profile bytes DecodeCode.Opcode
no_opcode profile bytes none = grind (arith, no_none, form_back, least_opcode)

-- where a form has the opcode, no code below 13 applies; and so from code to code
least_register : (profile : Profile) (bytes : List ℕ) → (Applies profile bytes DecodeCode.Opcode → ⊥) → (other : DecodeCode) → Applies profile bytes other → 13 ≤ decode_code other
least_register profile bytes known other h = grind arith

least_unused : (profile : Profile) (bytes : List ℕ) → (Applies profile bytes DecodeCode.Opcode → ⊥) → (Applies profile bytes DecodeCode.Register → ⊥) → (other : DecodeCode) → Applies profile bytes other → 14 ≤ decode_code other
least_unused profile bytes known low other h = grind arith

-- the codes before those of the pair do not apply
record Passed (profile : Profile) (bytes : List ℕ) (f : Form) : Type 0 where
  is : form_of profile (slot_of_bytes bytes).opcode ≡ Some f
  dst : (slot_of_bytes bytes).dst ≤ 10
  src : (slot_of_bytes bytes).src ≤ 10
  clean : is_clean profile f (slot_of_bytes bytes) ≡ true

-- 12 doesn't apply where a form is found, 13 where both numbers are registers', and 14 where unused fields are zero
known_opcode : (profile : Profile) (bytes : List ℕ) (f : Form) → form_of profile (slot_of_bytes bytes).opcode ≡ Some f → Applies profile bytes DecodeCode.Opcode → ⊥
known_opcode profile bytes f is h = let o = form_front profile (slot_of_bytes bytes).opcode f is in h f o.1 o.0

low_registers : (profile : Profile) (bytes : List ℕ) → (slot_of_bytes bytes).dst ≤ 10 → (slot_of_bytes bytes).src ≤ 10 → Applies profile bytes DecodeCode.Register → ⊥
low_registers profile bytes d s w = grind arith

clean_fields : (profile : Profile) (bytes : List ℕ) (f : Form) → form_of profile (slot_of_bytes bytes).opcode ≡ Some f → is_clean profile f (slot_of_bytes bytes) ≡ true → Applies profile bytes DecodeCode.Unused → ⊥
clean_fields profile bytes f is clean h =
    let same = same_form profile f h.0 (slot_of_bytes bytes).opcode is h.1 h.2 in
    not_false (is_clean profile f (slot_of_bytes bytes)) clean (subst (λ (g : Form). is_clean profile g (slot_of_bytes bytes) ≡ false) same h.3)

-- after the first three tests only the two codes of a pair are left
only_pair : (profile : Profile) (bytes : List ℕ) (f : Form) → Passed profile bytes f → (Applies profile bytes DecodeCode.CutOff → ⊥) → (Applies profile bytes DecodeCode.SecondSlot → ⊥) → (code : DecodeCode) → Applies profile bytes code → ⊥
only_pair profile bytes f p a b code h = grind (arith, known_opcode, low_registers, clean_fields)

-- so to a slot of another form than the pair's none applies
none_applies : (profile : Profile) (bytes : List ℕ) (f : Form) → Passed profile bytes f → (Form.LoadImm ≡ f → ⊥) → (code : DecodeCode) → Applies profile bytes code → ⊥
none_applies profile bytes f p other = only_pair profile bytes f p (λ h. other (same_form profile f Form.LoadImm (slot_of_bytes bytes).opcode p.is (has_pair profile) h.0)) (λ h. other (same_form profile f Form.LoadImm (slot_of_bytes bytes).opcode p.is (has_pair profile) h.0))

least_cut : (profile : Profile) (bytes : List ℕ) → Passed profile bytes Form.LoadImm → (other : DecodeCode) → Applies profile bytes other → 15 ≤ decode_code other
least_cut profile bytes p other h = grind (arith, known_opcode, low_registers, clean_fields)

not_short : (profile : Profile) (bytes : List ℕ) → 8 ≤ length (drop 8 bytes) → Applies profile bytes DecodeCode.CutOff → ⊥
not_short profile bytes long h = let lt = h.1 in omega (arith, long, lt)

least_second : (profile : Profile) (bytes : List ℕ) → Passed profile bytes Form.LoadImm → 8 ≤ length (drop 8 bytes) → (other : DecodeCode) → Applies profile bytes other → 16 ≤ decode_code other
least_second profile bytes p long other h = grind (arith, known_opcode, low_registers, clean_fields, not_short)

-- for a pair, a cut at the end is reported before the second slot
pair_told : (profile : Profile) (bytes : List ℕ) (x : Read) → Passed profile bytes Form.LoadImm → (short second : Bool) → nat_lt (length (drop 8 bytes)) 8 ≡ short → is_second_slot (slot_of_bytes (drop 8 bytes)) ≡ second → Told profile bytes (cond short (Err DecodeCode.CutOff) (cond second (Ok x) (Err DecodeCode.SecondSlot)))
pair_told profile bytes x p true second a b = record { applies = ((form_front profile (slot_of_bytes bytes).opcode Form.LoadImm p.is).0, ltb-true (length (drop 8 bytes)) 8 a); least = least_cut profile bytes p }
pair_told profile bytes x p false true a b = only_pair profile bytes Form.LoadImm p (not_short profile bytes (ltb-false (length (drop 8 bytes)) 8 a)) (λ h. not_false (is_second_slot (slot_of_bytes (drop 8 bytes))) b h.2)
pair_told profile bytes x p false false a b =
    let long = ltb-false (length (drop 8 bytes)) 8 a in
    record { applies = ((form_front profile (slot_of_bytes bytes).opcode Form.LoadImm p.is).0, long, b); least = least_second profile bytes p long }

-- an instruction of each form is read with no code, or refused with its lowest
insn_told : (profile : Profile) (bytes : List ℕ) (f : Form) (d r : Reg) → Passed profile bytes f → Told profile bytes (insn_of_form f d r (slot_of_bytes bytes) (drop 8 bytes))
insn_told profile bytes f d r p = grind (arith, none_applies, pair_told)

abbrev with_registers : Profile → List ℕ → Form → Reg → Reg → Result Read DecodeCode
with_registers profile bytes f d r = clean_or_code profile f (slot_of_bytes bytes) >>= (λ g. insn_of_form g d r (slot_of_bytes bytes) (drop 8 bytes))

clean_told : (profile : Profile) (bytes : List ℕ) (f : Form) (d r : Reg) → form_of profile (slot_of_bytes bytes).opcode ≡ Some f → (slot_of_bytes bytes).dst ≤ 10 → (slot_of_bytes bytes).src ≤ 10 → (b : Bool) → is_clean profile f (slot_of_bytes bytes) ≡ b
    → Told profile bytes (cond b (Ok f) (Err DecodeCode.Unused) >>= (λ g. insn_of_form g d r (slot_of_bytes bytes) (drop 8 bytes)))
clean_told profile bytes f d r is p q b b1 = grind (arith, insn_told, form_front, least_unused, known_opcode, low_registers)

low_register : (n : ℕ) (r : Reg) → reg_of n ≡ Some r → n ≤ 10
low_register n r h = let a = reg_front n r h in let b = number_below r in omega (arith, a, b)

src_told : (profile : Profile) (bytes : List ℕ) (f : Form) (d : Reg) → form_of profile (slot_of_bytes bytes).opcode ≡ Some f → (slot_of_bytes bytes).dst ≤ 10 → (o : Option Reg) → reg_of (slot_of_bytes bytes).src ≡ o
    → Told profile bytes (ok_or o DecodeCode.Register >>= with_registers profile bytes f d)
src_told profile bytes f d is p o h = grind (arith, clean_told, low_register, reg_none, least_register, known_opcode)

dst_told : (profile : Profile) (bytes : List ℕ) (f : Form) → form_of profile (slot_of_bytes bytes).opcode ≡ Some f → (o : Option Reg) → reg_of (slot_of_bytes bytes).dst ≡ o
    → Told profile bytes (ok_or o DecodeCode.Register >>= (λ d. ok_or (reg_of (slot_of_bytes bytes).src) DecodeCode.Register >>= with_registers profile bytes f d))
dst_told profile bytes f is (Some d) h = src_told profile bytes f d is (low_register (slot_of_bytes bytes).dst d h) (reg_of (slot_of_bytes bytes).src) refl
dst_told profile bytes f is None h = record { applies = inl (reg_none (slot_of_bytes bytes).dst h); least = least_register profile bytes (known_opcode profile bytes f is) }

form_told : (profile : Profile) (bytes : List ℕ) (o : Option Form) → form_of profile (slot_of_bytes bytes).opcode ≡ o
    → Told profile bytes (ok_or o DecodeCode.Opcode >>= (λ f. ok_or (reg_of (slot_of_bytes bytes).dst) DecodeCode.Register >>= (λ d. ok_or (reg_of (slot_of_bytes bytes).src) DecodeCode.Register >>= with_registers profile bytes f d)))
form_told profile bytes o h = grind (arith, dst_told, no_opcode)

-- so what is read, step by step, has no code that applies, or is refused with the lowest
told : (profile : Profile) (bytes : List ℕ) → Told profile bytes (first_of profile bytes)
unfolding first_with
told profile bytes = form_told profile bytes (form_of profile (slot_of_bytes bytes).opcode) refl

-- ---- both ways

-- the code that is reported at the front is the lowest that applies
pub lowest_at_front : (profile : Profile) (bytes : List ℕ) (code : DecodeCode) → first_of profile bytes ≡ Err code → IsLowest profile bytes code
lowest_at_front profile bytes code e = subst (Told profile bytes) e (told profile bytes)

-- where something is read, no code applies
none_read : (profile : Profile) (bytes : List ℕ) (x : Read) (code : DecodeCode) → first_of profile bytes ≡ Ok x → Applies profile bytes code → ⊥
none_read profile bytes x code e = (subst (Told profile bytes) e (told profile bytes)) code

-- where an instruction stands, no code applies
pub insn_clean : (profile : Profile) (i : Insn) (rest : List ℕ) (code : DecodeCode) → Fits i → IsOf profile i → Applies profile (insn_bytes i ++ rest) code → ⊥
insn_clean profile i rest code fits of h = none_read profile (insn_bytes i ++ rest) (i, rest) code (first_again profile i rest fits of) h

code_of : ℕ → DecodeCode
code_of n = cond (nat_eq n 10) DecodeCode.Length (cond (nat_eq n 11) DecodeCode.TooLong (cond (nat_eq n 12) DecodeCode.Opcode (cond (nat_eq n 13) DecodeCode.Register (cond (nat_eq n 14) DecodeCode.Unused (cond (nat_eq n 15) DecodeCode.CutOff DecodeCode.SecondSlot)))))

-- the codes have numbers of their own
code_back : (c : DecodeCode) → code_of (decode_code c) ≡ c
unfolding code_of
code_back c = grind arith

same_code : (c d : DecodeCode) → decode_code c ≤ decode_code d → decode_code d ≤ decode_code c → c ≡ d
same_code c d p q = let e : decode_code c ≡ decode_code d = omega (arith, p, q) in sym (code_back c) ∙ ap code_of e ∙ code_back d

read_lowest : (profile : Profile) (bytes : List ℕ) (code : DecodeCode) → IsLowest profile bytes code → (r : Result Read DecodeCode) → first_of profile bytes ≡ r → r ≡ Err code
read_lowest profile bytes code h (Ok x) e = absurd (none_read profile bytes x code e h.applies)
read_lowest profile bytes code h (Err other) e =
    let o = lowest_at_front profile bytes other e in
    ap Err (same_code other code (o.least code h.applies) (h.least other o.applies))

-- and the lowest that applies is the one that is reported, since there is but one
pub lowest_read : (profile : Profile) (bytes : List ℕ) (code : DecodeCode) → IsLowest profile bytes code → first_of profile bytes ≡ Err code
lowest_read profile bytes code h = read_lowest profile bytes code h (first_of profile bytes) refl
