-- The fault of a text is that of its first line at fault, or that it has no instruction.
use Rattle.std.proofs.Common.{arith, ◌≡◌, ℕ, ◌⊎◌, List, [], Result, Err, refl}
use Rattle.pb_asm.specs.Words.{Insn, Profile, ◌>>=◌, lines_of, StopsAt}
use Rattle.pb_asm.specs.Codes.{asm_code}
use Rattle.pb_asm.specs.Texts.{with_insn_line, insns_of_lines, some_of, program_of_text, HasNone}
use Rattle.pb_reading.proofs.FirstFault.{stops_at}
use Rattle.pb_reading.proofs.Readings.{err_is}

-- a line stops it, or all are read and there is no instruction
whole : (q : Profile) (text : List ℕ) (line told : ℕ) (r : Result (List Insn) (ℕ × ℕ)) → insns_of_lines q 0 [] (lines_of text) ≡ r → (r >>= some_of q) ≡ Err (line, told) → StopsAt asm_code (with_insn_line q) [] text line told ⊎ HasNone q text line told
whole q text line told r is h = grind (arith, stops_at, err_is)

-- the fault that is reported is that of the first line at fault, or there is no instruction
pub first_is_told : (q : Profile) (text : List ℕ) (line told : ℕ) → program_of_text q text ≡ Err (line, told) → StopsAt asm_code (with_insn_line q) [] text line told ⊎ HasNone q text line told
first_is_told q text line told h = whole q text line told (insns_of_lines q 0 [] (lines_of text)) refl h
