-- How many slots instructions take together.
use Rattle.std.proofs.Common.{◌≡◌, ◌+◌, ◌<◌, ◌≤◌, ◌⊎◌, inl, inr, List, [], ◌∷◌, ◌++◌, length, arith}
use Rattle.std.specs.List.{AllByRecursion}
use Rattle.std.proofs.lemmas.List.{length-append}
use Rattle.pb_asm.specs.Words.{Insn, Fits, places_of, layout, slots, Profile, max_slots, IsOf}
use Rattle.pb_isa.proofs.Instructions.{some_place}

-- one more instruction adds its own slots
pub slots_push : (p : List Insn) (i : Insn) → slots (p ++ i ∷ []) ≡ slots p + slots (i ∷ [])
slots_push [] i = omega arith
slots_push (j ∷ p) i = grind (arith, length-append, slots_push p i)

-- one more instruction of which the same holds
all_push : (P : Insn → Type 0) (p : List Insn) (i : Insn) → AllByRecursion P p → P i → AllByRecursion P (p ++ i ∷ [])
all_push P [] i h f = (f, tt)
all_push P (j ∷ p) i h f = (h.0, all_push P p i h.1 f)

-- the numbers of all fit where those before and the new ones do
pub fit_push : (p : List Insn) (i : Insn) → AllByRecursion Fits p → Fits i → AllByRecursion Fits (p ++ i ∷ [])
fit_push p i h f = all_push Fits p i h f

-- and all are of the profile where they are
pub of_push : (q : Profile) (p : List Insn) (i : Insn) → AllByRecursion (IsOf q) p → IsOf q i → AllByRecursion (IsOf q) (p ++ i ∷ [])
of_push q p i h f = all_push (IsOf q) p i h f

-- some instructions that take at most so many slots as the profile has are a program
pub never_refused : (q : Profile) (p : List Insn) → 0 < length p → slots p ≤ max_slots q → (slots p ≡ 0) ⊎ (max_slots q < slots p) → ⊥
never_refused q [] some most h = omega (arith, some)
never_refused q (i ∷ p) some most (inl none) = let a = length-append (places_of i) (layout p) in let k = some_place i in omega (arith, a, k, none)
never_refused q (i ∷ p) some most (inr many) = omega (arith, most, many)
