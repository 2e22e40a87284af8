-- A list of bytes is one program's, or has one fault.
use Rattle.std.proofs.Common.{◌≡◌, ℕ, zero, suc, ◌+◌, ◌-◌, ◌*◌, ◌/◌, ◌%◌, ◌<◌, ◌≤◌, ◌⊎◌, Bool, cond, List, [], ◌∷◌, ◌++◌, length, Option, Some, None, Result, Ok, Err, refl, sym, ap, subst, ◌∙◌, append_assoc, arith, inl, inr, ◌==◌, ◌||◌, not, nat_lt, IfOk, IfErr}
use Rattle.std.specs.List.{AllByRecursion}
use Rattle.std.proofs.lemmas.List.{append-nil, length-append}
use Rattle.std.proofs.lemmas.Grind.{flat_map-append}
use Rattle.pb_decode.specs.Words.{Insn, Fits, places_of, layout, slots, Profile, IsOf, max_slots, ProgramOf, IsProgram}
use Rattle.pb_decode.specs.declared.fault.DecodeCode.{DecodeCode}
use Rattle.pb_decode.specs.declared.fault.DecodeFault.{DecodeFault}
use Rattle.pb_decode.specs.Encoding.{insn_bytes, encoding, in_profile, Encodes}
use Rattle.pb_decode.specs.Reading.{first_of}
use Rattle.pb_decode.specs.Faults.{decode_code, whole_fault, IsFaultAt, IsDecodeFault, AreRefusedAs, AreBytes, HasProgram, HasFault, AreSpelt, IsRefusal, IsNoMemory, IsNoMemoryOr}
use Rattle.pb_decode.proofs.SlotBytes.{rest_bytes}
use Rattle.pb_decode.proofs.FrontRead.{first_takes, first_again, one_insn}
use Rattle.pb_decode.proofs.LowestCode.{lowest_at_front, lowest_read}
use Rattle.pb_isa.proofs.Instructions.{all_next}
use Rattle.pb_base.proofs.Logic.{one_value as some_same}

-- ---- lengths

-- an instruction has eight bytes for each slot
insn_len : (i : Insn) → length (insn_bytes i) ≡ 8 * length (places_of i)
insn_len i = grind arith

-- and so have several
pub bytes_len : (p : List Insn) → length (encoding p) ≡ 8 * slots p
bytes_len [] = refl
bytes_len (i ∷ p) = grind (arith, length-append, insn_len, bytes_len p)

-- ---- one way to read

-- instructions of the profile, with numbers that fit
abbrev pub All : Profile → List Insn → Type 0
All profile p = AllByRecursion Fits p × AllByRecursion (IsOf profile) p

abbrev pub Each : Profile → Insn → Type 0
Each profile i = Fits i × IsOf profile i

front_one : (profile : Profile) (i : Insn) (p : List Insn) → All profile (i ∷ p) → Each profile i
front_one profile i p all = (all.0.0, all.1.0)

others : (profile : Profile) (i : Insn) (p : List Insn) → All profile (i ∷ p) → All profile p
others profile i p all = (all.0.1, all.1.1)

no_error : {A B : Type 0} (r : Result A B) (x : A) (c : B) → r ≡ Ok x → r ≡ Err c → ⊥
no_error r x c p q = absurd cc

err_is : {A B : Type 0} (r : Result A B) (c d : B) → r ≡ Err c → r ≡ Err d → c ≡ d
err_is r c d p q = cc

-- an instruction in front is read again, whatever stands after it
again : (profile : Profile) (i : Insn) (rest : List ℕ) → Each profile i → first_of profile (insn_bytes i ++ rest) ≡ Ok (i, rest)
again profile i rest of = first_again profile i rest of.0 of.1

-- the same instructions in front of a fault
pub same_front : (profile : Profile) (f g : List Insn) (x y : List ℕ) (c d : DecodeCode) → All profile f → All profile g → encoding f ++ x ≡ encoding g ++ y → first_of profile x ≡ Err c → first_of profile y ≡ Err d → (slots f ≡ slots g) × (c ≡ d)
same_front profile [] [] x y c d f-all g-all e p q = (refl, err_is (first_of profile y) c d (sym (ap (first_of profile) e) ∙ p) q)
same_front profile [] (j ∷ g) x y c d f-all g-all e p q = grind (arith, append_assoc, again, front_one, no_error)
same_front profile (i ∷ f) [] x y c d f-all g-all e p q = grind (arith, append_assoc, again, front_one, no_error)
same_front profile (i ∷ f) (j ∷ g) x y c d f-all g-all e p q =
    let o = one_insn profile i j (encoding f ++ x) (encoding g ++ y) (front_one profile i f f-all) (front_one profile j g g-all) (sym (append_assoc (insn_bytes i) (encoding f) x) ∙ e ∙ append_assoc (insn_bytes j) (encoding g) y) in
    let s = same_front profile f g x y c d (others profile i f f-all) (others profile j g g-all) o.1 p q in
    let a = length-append (places_of i) (layout f) in let b = length-append (places_of j) (layout g) in
    let k : length (places_of i) ≡ length (places_of j) = ap (λ (z : Insn). length (places_of z)) o.0 in
    let t = s.0 in
    (omega (arith, a, b, k, t), s.1)

list_push : (P : Insn → Type 0) (p : List Insn) (i : Insn) → AllByRecursion P p → P i → AllByRecursion P (p ++ i ∷ [])
list_push P [] i all one = (one, tt)
list_push P (j ∷ p) i all one = (all.0, list_push P p i all.1 one)

all_push : (profile : Profile) (p : List Insn) (i : Insn) → All profile p → Each profile i → All profile (p ++ i ∷ [])
all_push profile p i all one = (list_push Fits p i all.0 one.0, list_push (IsOf profile) p i all.1 one.1)

-- an instruction has some bytes
not_nil : (i : Insn) (x : List ℕ) → [] ≡ insn_bytes i ++ x → ⊥
not_nil i x e = grind arith

-- no fault after the beginning of a program
pub none_inside : (profile : Profile) (p g : List Insn) (y : List ℕ) (d : DecodeCode) → All profile p → All profile g → encoding p ≡ encoding g ++ y → 0 < length y → first_of profile y ≡ Err d → ⊥
none_inside profile [] [] y d p-all g-all e some q = let z : 0 ≡ length y = ap length e in omega (arith, z, some)
none_inside profile [] (j ∷ g) y d p-all g-all e some q = not_nil j (encoding g ++ y) (e ∙ append_assoc (insn_bytes j) (encoding g) y)
none_inside profile (i ∷ p) [] y d p-all g-all e some q = no_error (first_of profile y) (i, encoding p) d (ap (first_of profile) (sym e) ∙ again profile i (encoding p) (front_one profile i p p-all)) q
none_inside profile (i ∷ p) (j ∷ g) y d p-all g-all e some q =
    let o = one_insn profile i j (encoding p) (encoding g ++ y) (front_one profile i p p-all) (front_one profile j g g-all) (e ∙ append_assoc (insn_bytes j) (encoding g) y) in
    none_inside profile p g y d (others profile i p p-all) (others profile j g g-all) o.1 some q

-- two lists of instructions with the same bytes are one
same_list : (profile : Profile) (p q : List Insn) → All profile p → All profile q → encoding p ≡ encoding q → p ≡ q
same_list profile [] [] f g e = refl
same_list profile [] (j ∷ q) f g e = absurd (not_nil j (encoding q) e)
same_list profile (i ∷ p) [] f g e = absurd (not_nil i (encoding p) (sym e))
same_list profile (i ∷ p) (j ∷ q) f g e =
    let o = one_insn profile i j (encoding p) (encoding q) (front_one profile i p f) (front_one profile j q g) e in
    let s = same_list profile p q (others profile i p f) (others profile j q g) o.1 in
    rw (o.0, s) refl

all_of : (bytes : List ℕ) (p : ProgramOf) → Encodes bytes p → All p.profile p.insns
all_of bytes p h = (h.fits, h.program.of_profile)

abbrev program : Profile → List Insn → ProgramOf
program profile is = record { profile = profile; insns = is }

same_program : (v w : Profile) (p q : List Insn) → v ≡ w → p ≡ q → program v p ≡ program w q
same_program v w p q a b = rw (a, b) refl

-- two programs of one profile with the same bytes are one
pub one_program : (bytes : List ℕ) (p q : ProgramOf) → p.profile ≡ q.profile → Encodes bytes p → Encodes bytes q → p ≡ q
one_program bytes p q same a b = grind (arith, all_of, same_program, same_list, p.profile, q.insns, q.profile, p.insns, a.spelt, b.spelt)

-- ---- the fault of the whole

-- what the length is where the whole has no fault
pub record IsWhole (profile : Profile) (n : ℕ) : Type 0 where
  pub some : 0 < n
  pub even : n % 8 ≡ 0
  pub most : n ≤ 8 * max_slots profile

tests : (profile : Profile) (n : ℕ) (a b c : Bool) → (n == 0) ≡ a → (n % 8 == 0) ≡ b → nat_lt (8 * max_slots profile) n ≡ c → cond (a || not b) (Some DecodeCode.Length) (cond c (Some DecodeCode.TooLong) None) ≡ None → IsWhole profile n
tests profile n a b c p q r e = grind arith

-- where the whole has no fault, its length is some slots, and no more than the profile has
pub whole_none : (profile : Profile) (bytes : List ℕ) → whole_fault profile bytes ≡ None → IsWhole profile (length bytes)
whole_none profile bytes h = tests profile (length bytes) (length bytes == 0) (length bytes % 8 == 0) (nat_lt (8 * max_slots profile) (length bytes)) refl refl refl h

pub none_whole : (profile : Profile) (bytes : List ℕ) → IsWhole profile (length bytes) → whole_fault profile bytes ≡ None
none_whole profile bytes w = grind arith

-- a program's bytes have no fault of the whole
program_whole : (bytes : List ℕ) (p : ProgramOf) → Encodes bytes p → IsWhole p.profile (length bytes)
program_whole bytes p h = grind (arith, bytes_len, p.insns, h.spelt, h.program.some, h.program.most)

no_some : {A : Type 0} (o : Option A) (x : A) → o ≡ None → o ≡ Some x → ⊥
no_some o x p q = absurd cc

fault_all : (profile : Profile) (bytes : List ℕ) (slot : ℕ) (code : DecodeCode) (a : IsFaultAt profile bytes slot code) → All profile a.front
fault_all profile bytes slot code a = (a.fits, a.of_profile)

-- a program's bytes have no fault
pub not_both : (bytes : List ℕ) (p : ProgramOf) (slot : ℕ) (code : DecodeCode) → Encodes bytes p → IsDecodeFault p.profile bytes slot code → ⊥
not_both bytes p slot code h w = grind (arith, no_some, none_whole, program_whole, none_inside, all_of, fault_all, lowest_read)

-- two faults of the same bytes are one
pub one_fault : (profile : Profile) (bytes : List ℕ) (s t : ℕ) (c d : DecodeCode) → IsDecodeFault profile bytes s c → IsDecodeFault profile bytes t d → (s ≡ t) × (c ≡ d)
one_fault profile bytes s t c d (inl a) (inl b) = (a.1 ∙ sym b.1, some_same (whole_fault profile bytes) c d a.0 b.0)
one_fault profile bytes s t c d (inl a) (inr b) = absurd (no_some (whole_fault profile bytes) c b.0 a.0)
one_fault profile bytes s t c d (inr a) (inl b) = absurd (no_some (whole_fault profile bytes) d a.0 b.0)
one_fault profile bytes s t c d (inr a) (inr b) =
    let f = fault_all profile bytes s c a.1 in let g = fault_all profile bytes t d b.1 in
    let e = same_front profile a.1.front b.1.front a.1.rest b.1.rest c d f g (sym a.1.parts ∙ b.1.parts) (lowest_read profile a.1.rest c a.1.fault) (lowest_read profile b.1.rest d b.1.fault) in
    (a.1.place ∙ e.0 ∙ sym b.1.place, e.1)

-- ---- one of the two

-- instructions of the profile that spell bytes of such a length are a program
pub is_program : (profile : Profile) (bytes : List ℕ) (p : List Insn) → IsWhole profile (length bytes) → AreSpelt profile bytes p → Encodes bytes (program profile p)
is_program profile bytes p w h = grind (arith, bytes_len, h.spelt, w.some, w.most, h.of_profile, h.fits)

-- what the bytes from here on are
abbrev Rest : Profile → List ℕ → Type 0
Rest profile bytes = ((p : List Insn) × AreSpelt profile bytes p) ⊎ ((slot : ℕ) × (code : DecodeCode) × IsFaultAt profile bytes slot code)

-- one more instruction in front of what the rest is
behind : (profile : Profile) (i : Insn) (bytes after : List ℕ) → Each profile i → bytes ≡ insn_bytes i ++ after → Rest profile after → Rest profile bytes
behind profile i bytes after of e (inl h) =
    inl (i ∷ h.0, record { fits = (of.0, h.1.fits); of_profile = (of.1, h.1.of_profile); spelt = e ∙ ap (λ (x : List ℕ). insn_bytes i ++ x) h.1.spelt })
behind profile i bytes after of e (inr h) =
    let f = h.2 in
    inr (slots (i ∷ f.front), h.1, record { front = i ∷ f.front; rest = f.rest; some = f.some; fits = (of.0, f.fits); of_profile = (of.1, f.of_profile); parts = e ∙ ap (λ (x : List ℕ). insn_bytes i ++ x) f.parts ∙ sym (append_assoc (insn_bytes i) (encoding f.front) f.rest); place = refl; fault = f.fault })

pub even_rest : (i : Insn) (bytes after : List ℕ) → bytes ≡ insn_bytes i ++ after → length bytes % 8 ≡ 0 → (length after % 8 ≡ 0) × (length after < length bytes)
even_rest i bytes after e even = grind arith

from : (profile : Profile) (n : ℕ) (bytes : List ℕ) → length bytes ≤ suc n → 0 < length bytes → length bytes % 8 ≡ 0 → AreBytes bytes → (r : Result (Insn × List ℕ) DecodeCode) → first_of profile bytes ≡ r
    → ((after : List ℕ) → length after ≤ n → length after % 8 ≡ 0 → AreBytes after → Rest profile after) → Rest profile bytes
from profile n bytes le some even fits (Err code) is next = inr (0, code, record { front = []; rest = bytes; some = some; fits = tt; of_profile = tt; parts = refl; place = refl; fault = lowest_at_front profile bytes code is })
from profile n bytes le some even fits (Ok x) is next =
    let t = first_takes profile bytes x fits (omega (arith, some, even)) is in
    let e = even_rest x.0 bytes x.1 t.0 even in
    let lt = e.1 in
    behind profile x.0 bytes x.1 (t.1, t.2) t.0 (next x.1 (omega (arith, lt, le)) e.0 (rest_bytes (insn_bytes x.0) x.1 (subst AreBytes t.0 fits)))

-- from any slot on, the bytes spell instructions, or a slot is at fault; by their length
walk : (profile : Profile) (n : ℕ) (bytes : List ℕ) → length bytes ≤ n → length bytes % 8 ≡ 0 → AreBytes bytes → Rest profile bytes
walk profile n [] le even fits = inl ([], record { fits = tt; of_profile = tt; spelt = refl })
walk profile zero (b ∷ bytes) le even fits = let no : ⊥ = omega (arith, le) in absurd no
walk profile (suc n) (b ∷ bytes) le even fits = from profile n (b ∷ bytes) le (omega arith) even fits (first_of profile (b ∷ bytes)) refl (λ m. walk profile n m)

chosen : (profile : Profile) (bytes : List ℕ) (o : Option DecodeCode) → whole_fault profile bytes ≡ o → AreBytes bytes → HasProgram profile bytes ⊎ HasFault profile bytes
chosen profile bytes (Some code) is fits = inr (0, code, inl (is, refl))
chosen profile bytes None is fits =
    let w = whole_none profile bytes is in
    elim (walk profile (length bytes) bytes (omega arith) w.even fits) [
      | inl h ↦ inl (program profile h.0, refl, is_program profile bytes h.0 w h.1)
      | inr h ↦ inr (h.0, h.1, inr (is, h.2))
    ]

-- bytes are a program's, or have a fault
pub program_or_fault : (profile : Profile) (bytes : List ℕ) → AreBytes bytes → HasProgram profile bytes ⊎ HasFault profile bytes
program_or_fault profile bytes fits = chosen profile bytes (whole_fault profile bytes) refl fits

-- ---- both ways

-- a program of the profile has no fault in it
no_fault : (profile : Profile) (bytes : List ℕ) (p : ProgramOf) (slot : ℕ) (code : DecodeCode) → p.profile ≡ profile → Encodes bytes p → IsDecodeFault profile bytes slot code → ⊥
no_fault profile bytes p slot code is h f = not_both bytes p slot code h (subst (λ (v : Profile). IsDecodeFault v bytes slot code) (sym is) f)

-- what came back: the program, or the fault
abbrev IsAnswer : Profile → List ℕ → Result ProgramOf DecodeFault → Type 0
IsAnswer profile bytes r = IfOk r (λ q. Encodes bytes q) × IfOk r (λ q. q.profile ≡ profile) × IfErr r (IsRefusal profile bytes)

-- for a program's bytes nothing but it comes back, unless memory is refused
pub only_program : (profile : Profile) (r : Result ProgramOf DecodeFault) (bytes : List ℕ) → IsAnswer profile bytes r → (p : ProgramOf) → p.profile ≡ profile → Encodes bytes p → IfOk r (λ q. q ≡ p) × IfErr r IsNoMemory
only_program profile (Ok q) bytes a p is h = (one_program bytes q p (a.1 ∙ sym is) a.0 h, tt)
only_program profile (Err (DecodeFault.NoMemory refused)) bytes a p is h = (tt, tt)
only_program profile (Err (DecodeFault.Refused f)) bytes a p is h = absurd (no_fault profile bytes p f.slot a.2.0 is h a.2.2)

-- for bytes with a fault nothing but that fault is reported, unless memory is refused
pub only_fault : (profile : Profile) (r : Result ProgramOf DecodeFault) (bytes : List ℕ) → IsAnswer profile bytes r → (slot told : ℕ) → AreRefusedAs profile bytes slot told → IfOk r (λ _. ⊥) × IfErr r (IsNoMemoryOr slot told)
only_fault profile (Ok q) bytes a slot told h = absurd (no_fault profile bytes q slot h.0 a.1 a.0 h.2)
only_fault profile (Err (DecodeFault.NoMemory refused)) bytes a slot told h = (tt, tt)
only_fault profile (Err (DecodeFault.Refused f)) bytes a slot told h =
    let o = one_fault profile bytes f.slot slot a.2.0 h.0 a.2.2 h.2 in
    (tt, (o.0, a.2.1 ∙ ap decode_code o.1 ∙ sym h.1))

-- a program is in range, so that making it is never refused for that
pub never_refused : (p : ProgramOf) → IsProgram p → (slots p.insns ≡ 0) ⊎ (max_slots p.profile < slots p.insns) → ⊥
never_refused p is w = grind arith

-- ---- the loop

-- the loop reads one more instruction: its bytes move from the rest to what is spelt
pub one_more : (profile : Profile) (bytes rest after : List ℕ) (p : List Insn) (i : Insn) → AreBytes bytes → bytes ≡ encoding p ++ rest → All profile p → length rest % 8 ≡ 0 → 0 < length rest → first_of profile rest ≡ Ok (i, after)
    → (bytes ≡ encoding (p ++ i ∷ []) ++ after) × All profile (p ++ i ∷ []) × (length after % 8 ≡ 0) × (length after < length rest)
one_more profile bytes rest after p i fits parts all even some is =
    let inside = rest_bytes (encoding p) rest (subst AreBytes parts fits) in
    let t = first_takes profile rest (i, after) inside (omega (arith, some, even)) is in
    let e = even_rest i rest after t.0 even in
    let spelt : encoding (p ++ i ∷ []) ≡ encoding p ++ insn_bytes i = flat_map-append insn_bytes p (i ∷ []) ∙ ap (λ (b : List ℕ). encoding p ++ b) (append-nil (insn_bytes i)) in
    (parts ∙ ap (λ (b : List ℕ). encoding p ++ b) t.0 ∙ sym (append_assoc (encoding p) (insn_bytes i) after) ∙ ap (λ (b : List ℕ). b ++ after) (sym spelt), all_push profile p i all (t.1, t.2), e.0, e.1)

-- the loop reports a fault: the slot is that of the rest
pub fault_at : (profile : Profile) (bytes rest : List ℕ) (p : List Insn) (code : DecodeCode) (slot : ℕ) → bytes ≡ encoding p ++ rest → All profile p → 0 < length rest → first_of profile rest ≡ Err code → slot ≡ (length bytes - length rest) / 8 → IsFaultAt profile bytes slot code
fault_at profile bytes rest p code slot parts all some is at =
    let l : length bytes ≡ length (encoding p) + length rest = ap length parts ∙ length-append (encoding p) rest in
    let k = bytes_len p in
    record { front = p; rest = rest; some = some; fits = all.0; of_profile = all.1; parts = parts; place = omega (arith, l, k, at); fault = lowest_at_front profile rest code is }

-- ---- profile 1 in profile 2

next : (p : ProgramOf) → IsProgram (in_profile Profile.One p) → IsProgram (in_profile Profile.Two p)
next p is = let most = is.most in record { some = is.some; most = omega (arith, most); of_profile = all_next p.insns is.of_profile }

-- bytes of a program of profile 1 are those of the same instructions' in profile 2
pub read_alike : (bytes : List ℕ) (p : ProgramOf) → p.profile ≡ Profile.One → Encodes bytes p → Encodes bytes (in_profile Profile.Two p)
read_alike bytes p one h = grind (arith, next, h.program, h.fits, h.spelt)
