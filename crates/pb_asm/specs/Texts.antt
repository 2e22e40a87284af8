-- A text of lines, each an instruction. It is the whole reading, with line numbers, as contracts of `assemble_in` and
-- the laws cite it.
use Rattle.std.specs.Prelude.{◌≡◌, ℕ, nat_lt, if◌then◌else◌, List, [], ◌∷◌, ◌++◌, Result, Ok, Err}
use Rattle.pb_asm.specs.Words.{Insn, Profile, max_slots, slots, ProgramOf, ◌>>=◌, lines_of, is_skipped, in_lines}
use Rattle.pb_asm.specs.declared.fault.AsmCode.{AsmCode}
use Rattle.pb_asm.specs.Codes.{asm_code}
use Rattle.pb_asm.specs.Operands.{line_of}

-- The instructions so far, with the one of one more line. That it ends past the profile's last slot is reported last of its
-- line's faults.
unfoldable pub with_insn_line : Profile → List Insn → List ℕ → Result (List Insn) AsmCode
with_insn_line p before line = if is_skipped line then Ok before else do
  i ← line_of p line
  if nat_lt (max_slots p) (slots (before ++ i ∷ [])) then Err AsmCode.TooLong else Ok (before ++ i ∷ [])

-- the lines one after the other, from what those before them made; the first fault ends it
abbrev pub insns_of_lines : Profile → ℕ → List Insn → List (List ℕ) → Result (List Insn) (ℕ × ℕ)
insns_of_lines p n before lines = in_lines asm_code (with_insn_line p) n before lines

-- the program of these instructions, if there are some
abbrev pub some_of : Profile → List Insn → Result ProgramOf (ℕ × ℕ)
some_of p [] = Err (0, asm_code AsmCode.Nothing)
some_of p (i ∷ is) = Ok (record { profile = p; insns = i ∷ is })

-- the program of a text in a profile, or the line (from 1) and the code of its fault
abbrev pub program_of_text : Profile → List ℕ → Result ProgramOf (ℕ × ℕ)
program_of_text p text = insns_of_lines p 0 [] (lines_of text) >>= some_of p

-- all lines are read, and there is no instruction
pub record HasNone (p : Profile) (text : List ℕ) (line told : ℕ) : Type 0 where
  pub read : insns_of_lines p 0 [] (lines_of text) ≡ Ok []
  pub number : line ≡ 0
  pub code : told ≡ asm_code AsmCode.Nothing
