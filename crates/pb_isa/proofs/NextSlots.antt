-- The slot after an instruction is the first of another, where there is one.
use Rattle.std.proofs.Common.{◌<◌, ◌≡◌, ◌≢◌, ℕ, ◌+◌, ◌⊎◌, inl, inr, true, List, [], ◌∷◌, length, get_or, Option, Some, None, refl, arith, is_some}
use Rattle.pb_isa.specs.declared.insn.Insn.{Insn}
use Rattle.pb_isa.specs.Slots.{places_of, layout, slots, insn_at}
use Rattle.pb_isa.specs.NextSlots.{LeadOn}

-- how many slots an instruction takes
abbrev size : Insn → ℕ
size i = length (places_of i)

-- an instruction takes one slot, or two of which the second is empty
parts : (i : Insn) → ((places_of i ≡ Some i ∷ []) × (size i ≡ 1)) ⊎ ((places_of i ≡ Some i ∷ None ∷ []) × (size i ≡ 2))
parts i = grind arith

-- some slots begin with an instruction
HasFirst : List (Option Insn) → Type 0
HasFirst ls = 0 ≢ length ls → is_some (get_or ls 0 None) ≡ true

-- the slot after this instruction, where there is one, is the first of another
HasNext : List (Option Insn) → Insn → Type 0
HasNext ls i = (n t : ℕ) → get_or ls n None ≡ Some i → t ≡ n + size i → t ≢ length ls → is_some (get_or ls t None) ≡ true

-- each layout begins with an instruction, since an instruction's own slots do
has_first : (p : List Insn) → HasFirst (layout p)
unfolding HasFirst
has_first [] = λ h. absurd (h refl)
has_first (i ∷ p) = elim (parts i) [ inl e ↦ rw e.0 (λ h. refl) | inr e ↦ rw e.0 (λ h. refl) ]

-- one more slot in front changes nothing of what comes after the instruction
next_one : (i j : Insn) (ls : List (Option Insn)) → size j ≡ 1 → HasFirst ls → HasNext ls i → HasNext (Some j ∷ ls) i
unfolding HasFirst HasNext
next_one i j ls s f h n n1 at e l = grind arith

-- nor does a pair in front
next_two : (i j : Insn) (ls : List (Option Insn)) → size j ≡ 2 → HasFirst ls → HasNext ls i → HasNext (Some j ∷ None ∷ ls) i
unfolding HasFirst HasNext
next_two i j ls s f h n t at e l = grind arith

-- so it holds in each layout, by its instructions one after the other
has_next : (i : Insn) (p : List Insn) → HasNext (layout p) i
unfolding HasNext
has_next i [] = λ n t at e l. cc
has_next i (j ∷ p) = grind (arith, parts, next_one, has_first, next_two, has_next i p)

-- the slot after an instruction is the first of another, unless there is none
next_is : (p : List Insn) (i : Insn) (n : ℕ) → insn_at p n ≡ Some i → n + size i ≢ slots p → is_some (insn_at p (n + size i)) ≡ true
unfolding HasNext
next_is p i n at l = has_next i p n (n + size i) at refl l

-- a program's slot 0 is the first of an instruction
first_of : (p : List Insn) → 0 < slots p → is_some (insn_at p 0) ≡ true
unfolding HasFirst
first_of p h = has_first p (omega arith)

-- both together, as the law `next_slots_are_first` says them
pub lead_on : (p : List Insn) → LeadOn p
lead_on p = record { first = first_of p; next = λ n i. next_is p i n }
