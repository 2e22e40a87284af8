-- Two programs of one profile that are packed alike are one.
use Rattle.std.proofs.Common.{◌≡◌, ℕ, ◌+◌, ◌*◌, ◌/◌, ◌^◌, ◌⊎◌, inl, inr, Bool, true, false, cond, List, [], ◌∷◌, ◌++◌, length, refl, sym, ap, subst, ◌∙◌, append_assoc, arith, ◌==◌}
use Rattle.std.specs.List.{AllByRecursion}
use Rattle.std.proofs.lemmas.Bool.{eqb-true}
use Rattle.std.proofs.lemmas.List.{append-nil}
use Rattle.pb_reading.proofs.LinesInTurn.{cons_is_same}
use Rattle.pb_decode.specs.Words.{Insn, Fits, Profile, IsOf, ProgramOf, IsProgram}
use Rattle.pb_decode.specs.declared.fields.SlotFields.{SlotFields}
use Rattle.pb_decode.specs.Fields.{slot_bytes}
use Rattle.pb_decode.specs.Encoding.{first_slot, second_slot, second_bytes, insn_bytes}
use Rattle.pb_decode.specs.Packing.{nonzero_bits, nonzero_bytes, packed_bytes, packed_second, packed_insn, packing}
use Rattle.pb_decode.proofs.FrontRead.{one_insn}
use Rattle.pb_decode.proofs.OneProgramOrFault.{All, Each}

-- ---- slots

-- one byte in front: the lowest bit says whether it is zero
one_more : (b c m n : ℕ) (us vs xs ys : List ℕ) (p q : Bool) → (b == 0) ≡ p → (c == 0) ≡ q → cond p 0 1 + 2 * m ≡ cond q 0 1 + 2 * n → cond p us (b ∷ us) ++ xs ≡ cond q vs (c ∷ vs) ++ ys → (b ≡ c) × (m ≡ n) × (us ++ xs ≡ vs ++ ys)
one_more b c m n us vs xs ys true true p q e f = (eqb-true b 0 p ∙ sym (eqb-true c 0 q), omega (arith, e), f)
one_more b c m n us vs xs ys true false p q e f = let no : ⊥ = omega (arith, e) in absurd no
one_more b c m n us vs xs ys false true p q e f = let no : ⊥ = omega (arith, e) in absurd no
one_more b c m n us vs xs ys false false p q e f = let r = cons_is_same b c (us ++ xs) (vs ++ ys) f in (r.0, omega (arith, e), r.1)

-- as many bytes of which the same aren't zero, and are the same
same_bytes : (bs cs xs ys : List ℕ) → length bs ≡ length cs → nonzero_bits bs ≡ nonzero_bits cs → nonzero_bytes bs ++ xs ≡ nonzero_bytes cs ++ ys → (bs ≡ cs) × (xs ≡ ys)
unfolding nonzero_bits nonzero_bytes
same_bytes [] [] xs ys l e f = (refl, f)
same_bytes [] (c ∷ cs) xs ys l e f = let no : ⊥ = omega (arith, l) in absurd no
same_bytes (b ∷ bs) [] xs ys l e f = let no : ⊥ = omega (arith, l) in absurd no
same_bytes (b ∷ bs) (c ∷ cs) xs ys l e f =
    let o = one_more b c (nonzero_bits bs) (nonzero_bits cs) (nonzero_bytes bs) (nonzero_bytes cs) xs ys (b == 0) (c == 0) refl refl e f in
    let r = same_bytes bs cs xs ys (omega (arith, l)) o.1 o.2 in
    (λ i. o.0 i ∷ r.0 i, r.1)

-- no packed bytes begin those of as many others
one_slot : (bs cs xs ys : List ℕ) → length bs ≡ length cs → packed_bytes bs ++ xs ≡ packed_bytes cs ++ ys → (bs ≡ cs) × (xs ≡ ys)
one_slot bs cs xs ys l e =
    let h = cons_is_same (nonzero_bits bs) (nonzero_bits cs) (nonzero_bytes bs ++ xs) (nonzero_bytes cs ++ ys) e in
    same_bytes bs cs xs ys l h.0 h.1

-- each slot has eight bytes
as_long : (s t : SlotFields) → length (slot_bytes s) ≡ length (slot_bytes t)
as_long s t = refl

-- ---- instructions

-- an instruction of one slot
abbrev IsAlone : Insn → Type 0
IsAlone i = (second_bytes i ≡ []) × (packed_second i ≡ [])

-- a pair, with the high half of its immediate
abbrev HasSecond : Insn → Type 0
HasSecond i = (n : ℕ) × (second_bytes i ≡ slot_bytes (second_slot n)) × (packed_second i ≡ packed_bytes (slot_bytes (second_slot n)))

seconds : (i : Insn) → IsAlone i ⊎ HasSecond i
seconds (Insn.Alu op w d s) = inl (refl, refl)
seconds (Insn.MovSx w z d s) = inl (refl, refl)
seconds (Insn.Neg w d) = inl (refl, refl)
seconds (Insn.LoadImm d v) = inr (v / 2 ^ 32, refl, refl)
seconds (Insn.Load z x d s o) = inl (refl, refl)
seconds (Insn.StoreImm z d o k) = inl (refl, refl)
seconds (Insn.Store z d s o) = inl (refl, refl)
seconds (Insn.Jump o) = inl (refl, refl)
seconds (Insn.JumpIf c w d s o) = inl (refl, refl)
seconds (Insn.Call k) = inl (refl, refl)
seconds Insn.Exit = inl (refl, refl)

no_bytes : (s : SlotFields) → slot_bytes s ≡ [] → ⊥
no_bytes s e = cc

-- the first slot of a pair is that of no other instruction
other_slot : (p : Profile) (i j : Insn) → Each p i → Each p j → slot_bytes (first_slot i) ≡ slot_bytes (first_slot j) → IsAlone i → HasSecond j → ⊥
other_slot p i j f g e a b =
    let s = slot_bytes (first_slot i) in
    let t = slot_bytes (first_slot j) in
    let front : insn_bytes i ++ second_bytes j ≡ s ++ second_bytes j = ap (λ (z : List ℕ). z ++ second_bytes j) (ap (λ (z : List ℕ). s ++ z) a.0 ∙ append-nil s) in
    let same : insn_bytes i ++ second_bytes j ≡ insn_bytes j ++ [] = front ∙ ap (λ (z : List ℕ). z ++ second_bytes j) e ∙ sym (append-nil (t ++ second_bytes j)) in
    no_bytes (second_slot b.0) (sym b.1 ∙ (one_insn p i j (second_bytes j) [] f g same).1)

-- where the first slots are the same, so are the instructions, if what is left is
by_seconds : (p : Profile) (i j : Insn) (x y : List ℕ) → Each p i → Each p j → slot_bytes (first_slot i) ≡ slot_bytes (first_slot j) → packed_second i ++ x ≡ packed_second j ++ y → IsAlone i ⊎ HasSecond i → IsAlone j ⊎ HasSecond j → (i ≡ j) × (x ≡ y)
by_seconds p i j x y f g e h (inl a) (inl b) =
    let second : second_bytes i ≡ second_bytes j = a.0 ∙ sym b.0 in
    let rest : x ≡ y = sym (ap (λ (z : List ℕ). z ++ x) a.1) ∙ h ∙ ap (λ (z : List ℕ). z ++ y) b.1 in
    ((one_insn p i j [] [] f g (λ k. (e k ++ second k) ++ [])).0, rest)
by_seconds p i j x y f g e h (inl a) (inr b) = absurd (other_slot p i j f g e a b)
by_seconds p i j x y f g e h (inr a) (inl b) = absurd (other_slot p j i g f (sym e) b a)
by_seconds p i j x y f g e h (inr a) (inr b) =
    let both : packed_bytes (slot_bytes (second_slot a.0)) ++ x ≡ packed_bytes (slot_bytes (second_slot b.0)) ++ y = sym (ap (λ (z : List ℕ). z ++ x) a.2) ∙ h ∙ ap (λ (z : List ℕ). z ++ y) b.2 in
    let r = one_slot (slot_bytes (second_slot a.0)) (slot_bytes (second_slot b.0)) x y (as_long (second_slot a.0) (second_slot b.0)) both in
    let second : second_bytes i ≡ second_bytes j = a.1 ∙ r.0 ∙ sym b.1 in
    ((one_insn p i j [] [] f g (λ k. (e k ++ second k) ++ [])).0, r.1)

-- no instruction packed begins another
one_packed : (p : Profile) (i j : Insn) (x y : List ℕ) → Each p i → Each p j → packed_insn i ++ x ≡ packed_insn j ++ y → (i ≡ j) × (x ≡ y)
one_packed p i j x y f g e =
    let s = slot_bytes (first_slot i) in
    let t = slot_bytes (first_slot j) in
    let o = one_slot s t (packed_second i ++ x) (packed_second j ++ y) (as_long (first_slot i) (first_slot j)) (sym (append_assoc (packed_bytes s) (packed_second i) x) ∙ e ∙ append_assoc (packed_bytes t) (packed_second j) y) in
    by_seconds p i j x y f g o.0 o.1 (seconds i) (seconds j)

-- ---- programs

-- two lists of instructions that are packed alike are one
same_packing : (p : Profile) (is js : List Insn) → All p is → All p js → packing is ≡ packing js → is ≡ js
same_packing p [] [] f g e = refl
same_packing p [] (j ∷ js) f g e = absurd cc
same_packing p (i ∷ is) [] f g e = absurd cc
same_packing p (i ∷ is) (j ∷ js) f g e =
    let o = one_packed p i j (packing is) (packing js) (f.0.0, f.1.0) (g.0.0, g.1.0) e in
    let r = same_packing p is js (f.0.1, f.1.1) (g.0.1, g.1.1) o.1 in
    λ k. o.0 k ∷ r k

-- two programs of one profile that are packed alike are one
pub one_packing : (p q : ProgramOf) → IsProgram p → AllByRecursion Fits p.insns → IsProgram q → AllByRecursion Fits q.insns → p.profile ≡ q.profile → packing p.insns ≡ packing q.insns → p ≡ q
one_packing p q a f b g same e =
    let of = subst (λ (v : Profile). AllByRecursion (IsOf v) p.insns) same a.of_profile in
    let r = same_packing q.profile p.insns q.insns (f, of) (g, b.of_profile) e in
    λ k. record { profile = same k; insns = r k }
