-- The fault of a list of bytes that is no program's. When a code applies is defined by the fields alone, and not by a reader that
-- goes from left to right, since such a definition lets through a looseness that is written into both alike.
use Rattle.std.specs.Prelude.{◌≡◌, ◌≢◌, ◌<◌, ◌≤◌, ◌⊎◌, ℕ, ◌*◌, ◌%◌, ◌==◌, false, nat_lt, not, ◌||◌, if◌then◌else◌, List, ◌++◌, length, drop, get_or, Option, Some, None}
use Rattle.std.specs.List.{AllByRecursion}
use Rattle.pb_decode.specs.Words.{Insn, Fits, Profile, IsOf, max_slots, slots, ProgramOf}
use Rattle.pb_decode.specs.declared.fault.DecodeCode.{DecodeCode}
use Rattle.pb_decode.specs.declared.fault.DecodeFault.{DecodeFault}
use Rattle.pb_decode.specs.declared.forms.Form.{Form}
use Rattle.pb_decode.specs.Opcodes.{opcode, IsFormOf}
use Rattle.pb_decode.specs.Fields.{slot_of_bytes}
use Rattle.pb_decode.specs.Encoding.{encoding, Encodes}
use Rattle.pb_decode.specs.Reading.{is_clean, is_second_slot}

-- the numbers by which the faults are reported
abbrev pub decode_code : DecodeCode → ℕ
decode_code DecodeCode.Length = 10
decode_code DecodeCode.TooLong = 11
decode_code DecodeCode.Opcode = 12
decode_code DecodeCode.Register = 13
decode_code DecodeCode.Unused = 14
decode_code DecodeCode.CutOff = 15
decode_code DecodeCode.SecondSlot = 16

-- When a code applies to the bytes at the front, given by their first slot and the bytes after it. In the order of the codes: no
-- form of the profile has the opcode; a register is over 10, in either half; the form doesn't use a field that is not zero; the
-- opcode is the pair's, and no slot follows, or one with more than an immediate. The codes of the whole apply to no slot.
abbrev pub Applies : Profile → List ℕ → DecodeCode → Type 0
Applies p bytes DecodeCode.Length = ⊥
Applies p bytes DecodeCode.TooLong = ⊥
Applies p bytes DecodeCode.Opcode = (f : Form) → IsFormOf p f → opcode f ≢ (slot_of_bytes bytes).opcode
Applies p bytes DecodeCode.Register = (10 < (slot_of_bytes bytes).dst) ⊎ (10 < (slot_of_bytes bytes).src)
Applies p bytes DecodeCode.Unused = (f : Form) × IsFormOf p f × (opcode f ≡ (slot_of_bytes bytes).opcode) × (is_clean p f (slot_of_bytes bytes) ≡ false)
Applies p bytes DecodeCode.CutOff = (opcode Form.LoadImm ≡ (slot_of_bytes bytes).opcode) × (length (drop 8 bytes) < 8)
Applies p bytes DecodeCode.SecondSlot = (opcode Form.LoadImm ≡ (slot_of_bytes bytes).opcode) × (8 ≤ length (drop 8 bytes)) × (is_second_slot (slot_of_bytes (drop 8 bytes)) ≡ false)

-- the lowest code that applies
pub record IsLowest (p : Profile) (bytes : List ℕ) (code : DecodeCode) : Type 0 where
  pub applies : Applies p bytes code
  pub least : (other : DecodeCode) → Applies p bytes other → decode_code code ≤ decode_code other

-- a fault, as it is reported
abbrev pub told_as : ℕ → DecodeCode → DecodeFault
told_as slot code = DecodeFault.Refused (record { slot = slot; code = decode_code code })

-- the fault of the whole, which is reported before all others: no slots at all, or more than the profile has
abbrev pub whole_fault : Profile → List ℕ → Option DecodeCode
whole_fault p bytes =
    if (length bytes == 0) || not (length bytes % 8 == 0) then Some DecodeCode.Length
    else if nat_lt (8 * max_slots p) (length bytes) then Some DecodeCode.TooLong
    else None

-- The instructions in front are of the profile and spelt as they have to be, and a code applies to what stands after them. If
-- that is a pair, its first slot is reported.
pub record IsFaultAt (p : Profile) (bytes : List ℕ) (slot : ℕ) (code : DecodeCode) : Type 0 where
  pub front : List Insn
  pub rest : List ℕ
  pub some : 0 < length rest
  pub fits : AllByRecursion Fits front
  pub of_profile : AllByRecursion (IsOf p) front
  pub parts : bytes ≡ encoding front ++ rest
  pub place : slot ≡ slots front
  pub fault : IsLowest p rest code

-- the first slot at fault, with its lowest code
abbrev pub IsDecodeFault : Profile → List ℕ → ℕ → DecodeCode → Type 0
IsDecodeFault p bytes slot code = (whole_fault p bytes ≡ Some code × (slot ≡ 0)) ⊎ ((whole_fault p bytes ≡ None) × IsFaultAt p bytes slot code)

-- the first slot at fault with its lowest code, by the numbers that are reported
abbrev pub AreRefusedAs : Profile → List ℕ → ℕ → ℕ → Type 0
AreRefusedAs p bytes slot told = (code : DecodeCode) × (told ≡ decode_code code) × IsDecodeFault p bytes slot code

-- why no program came back: memory was refused, or that is the fault
abbrev pub IsRefusal : Profile → List ℕ → DecodeFault → Type 0
IsRefusal p bytes (DecodeFault.NoMemory refused) = Unit {0}
IsRefusal p bytes (DecodeFault.Refused r) = AreRefusedAs p bytes r.slot r.code

-- the refusal is that of memory, which is the only one for a program's bytes
abbrev pub IsNoMemory : DecodeFault → Type 0
IsNoMemory (DecodeFault.NoMemory refused) = Unit {0}
IsNoMemory (DecodeFault.Refused r) = ⊥

-- each number is a byte's, as all that is handed in are
abbrev pub AreBytes : List ℕ → Type 0
AreBytes bytes = (i : ℕ) → get_or bytes i 0 < 256

-- the bytes are some program's of the profile
abbrev pub HasProgram : Profile → List ℕ → Type 0
HasProgram profile bytes = (p : ProgramOf) × (p.profile ≡ profile) × Encodes bytes p

-- the bytes have some fault in the profile
abbrev pub HasFault : Profile → List ℕ → Type 0
HasFault p bytes = (slot : ℕ) × (code : DecodeCode) × IsDecodeFault p bytes slot code

-- memory was refused, or what is reported is that fault
abbrev pub IsNoMemoryOr : ℕ → ℕ → DecodeFault → Type 0
IsNoMemoryOr slot told (DecodeFault.NoMemory refused) = Unit {0}
IsNoMemoryOr slot told (DecodeFault.Refused r) = (r.slot ≡ slot) × (r.code ≡ told)

-- the bytes are those of these instructions of the profile, however many there are
pub record AreSpelt (p : Profile) (bytes : List ℕ) (is : List Insn) : Type 0 where
  pub fits : AllByRecursion Fits is
  pub of_profile : AllByRecursion (IsOf p) is
  pub spelt : bytes ≡ encoding is

-- memory was refused, or a slot is at fault
abbrev pub IsRefusalInside : Profile → List ℕ → DecodeFault → Type 0
IsRefusalInside p bytes (DecodeFault.NoMemory refused) = Unit {0}
IsRefusalInside p bytes (DecodeFault.Refused r) = (code : DecodeCode) × (r.code ≡ decode_code code) × IsFaultAt p bytes r.slot code
