-- A program packed, by which two are compared: of the bytes of each slot those that aren't zero, after one byte whose bits
-- say which of the eight they are. About half of a program's bytes are zero, so that it is about half as long. It is no
-- encoding of the RFC, and is never written out.
use Rattle.std.specs.Prelude.{ℕ, ◌+◌, ◌*◌, ◌/◌, ◌^◌, ◌++◌, ◌==◌, if◌then◌else◌, List, [], ◌∷◌}
use Rattle.std.specs.List.{flat_map}
use Rattle.pb_decode.specs.Words.{Insn}
use Rattle.pb_decode.specs.Fields.{slot_bytes}
use Rattle.pb_decode.specs.Encoding.{first_slot, second_slot}

-- 1 for a byte that isn't zero
abbrev pub nonzero_bit : ℕ → ℕ
nonzero_bit b = if b == 0 then 0 else 1

-- which bytes aren't zero, the first by the lowest bit
unfoldable pub nonzero_bits : List ℕ → ℕ
nonzero_bits [] = 0
nonzero_bits (b ∷ bs) = nonzero_bit b + 2 * nonzero_bits bs

-- the bytes that aren't zero, in order
unfoldable pub nonzero_bytes : List ℕ → List ℕ
nonzero_bytes [] = []
nonzero_bytes (b ∷ bs) = if b == 0 then nonzero_bytes bs else b ∷ nonzero_bytes bs

-- bytes of a slot, packed
abbrev pub packed_bytes : List ℕ → List ℕ
packed_bytes bs = nonzero_bits bs ∷ nonzero_bytes bs

-- the second slot of a 64-bit immediate
abbrev pub packed_second : Insn → List ℕ
packed_second (Insn.LoadImm dst imm) = packed_bytes (slot_bytes (second_slot (imm / 2 ^ 32)))
packed_second i = []

-- an instruction packed, slot by slot
abbrev pub packed_insn : Insn → List ℕ
packed_insn i = packed_bytes (slot_bytes (first_slot i)) ++ packed_second i

-- the instructions of a program, one after the other
abbrev pub packing : List Insn → List ℕ
packing is = flat_map packed_insn is
