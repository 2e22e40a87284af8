-- The fields of a slot (RFC 9669, section 3.1): eight bytes, the numbers with their lowest byte first. Both directions are
-- defined, since the encoding is defined by the one and faults by the other.
use Rattle.std.specs.Prelude.{ℕ, ◌+◌, ◌*◌, ◌/◌, ◌%◌, List, ◌∷◌, ◌++◌, drop, slice_index}
use Rattle.byteorder.specs.Endian.{little_bytes, little_number}
use Rattle.pb_decode.specs.declared.fields.SlotFields.{SlotFields}

-- opcode, registers (the destination in the low half), offset, immediate
abbrev pub slot_bytes : SlotFields → List ℕ
slot_bytes s = s.opcode ∷ (s.dst + 16 * s.src) ∷ (little_bytes 2 s.offset ++ little_bytes 4 s.imm)

-- the slot in the first eight bytes
abbrev pub slot_of_bytes : List ℕ → SlotFields
slot_of_bytes bytes =
    record {
      opcode = slice_index bytes 0;
      dst = slice_index bytes 1 % 16;
      src = slice_index bytes 1 / 16;
      offset = little_number 2 (drop 2 bytes);
      imm = little_number 4 (drop 4 bytes);
    }
