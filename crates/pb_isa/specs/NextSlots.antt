-- Where the slots of a program lead: the slot after an instruction is the first of another.
use Rattle.std.specs.Prelude.{◌≡◌, ◌≢◌, ℕ, ◌+◌, ◌<◌, List, length, Some, is_some, IsTrue}
use Rattle.pb_isa.specs.declared.insn.Insn.{Insn}
use Rattle.pb_isa.specs.Slots.{places_of, slots, insn_at}

-- an instruction begins at slot 0, and at the slot after each instruction but the last
pub record LeadOn (p : List Insn) : Type 0 where
  pub first : 0 < slots p → IsTrue (is_some (insn_at p 0))
  pub next : (n : ℕ) (i : Insn) → insn_at p n ≡ Some i → n + length (places_of i) ≢ slots p → IsTrue (is_some (insn_at p (n + length (places_of i))))

-- in each list of instructions, of whatever length
abbrev pub NextSlotsAreFirst : Type 0
NextSlotsAreFirst = (p : List Insn) → LeadOn p
