-- The operands of a line, read from left to right. It is a function and no relation, since which fault is reported depends on the
-- order. What is read is defined without it, by the listing alone (`one_spelling`).
use Rattle.std.specs.Prelude.{ℕ, ◌-◌, ◌^◌, ℤ, pos, neg_ℤ, ◌==◌, ◌&&◌, if◌then◌else◌, List, [], ◌∷◌, slice_index, Option, Some, None, ok_or, Result, Ok, Err}
use Rattle.pb_asm.specs.Words.{Insn, Operand, Reg, Width, Size, Profile, is_narrower, ◌>>=◌, words_of, next_word, no_word, numeral_upto}
use Rattle.pb_asm.specs.declared.names.Word.{Word}
use Rattle.pb_asm.specs.declared.fault.AsmCode.{AsmCode}
use Rattle.pb_asm.specs.Names.{sizes, size_bits, word_named, reg_named}
use Rattle.pb_asm.specs.Cuts.{strip_prefix, strip_suffix, split_once}

-- the digits after a minus: at most this, and not zero, so that 0 has one spelling
unfoldable pub minus : ℕ → List ℕ → Result ℤ AsmCode
minus greatest text = do
  n ← numeral_upto AsmCode.Form AsmCode.Range greatest text
  if n == 0 then Err AsmCode.Form else Ok (neg_ℤ (pos n))

-- digits without a minus: below this
unfoldable pub plus : ℕ → List ℕ → Result ℤ AsmCode
plus limit text = do
  n ← numeral_upto AsmCode.Form AsmCode.Range (limit - 1) text
  Ok (pos n)

-- after a minus the digits of a negative number, and else what was read without one
abbrev pub signed_or : Result ℤ AsmCode → ℕ → Option (List ℕ) → Result ℤ AsmCode
signed_or unsigned limit (Some digits) = minus limit digits
signed_or unsigned limit None = unsigned

-- an immediate, which has a sign only where it is negative
abbrev pub imm_of_text : List ℕ → Result ℤ AsmCode
imm_of_text text = signed_or (plus (2 ^ 31) text) (2 ^ 31) (strip_prefix 45 text)

-- after a plus the digits of an offset; without one it has no sign, and is of another form
abbrev pub plus_or_fault : Option (List ℕ) → Result ℤ AsmCode
plus_or_fault (Some digits) = plus (2 ^ 15) digits
plus_or_fault None = Err AsmCode.Form

-- an offset, which always has a sign
abbrev pub offset_of_text : List ℕ → Result ℤ AsmCode
offset_of_text text = signed_or (plus_or_fault (strip_prefix 43 text)) (2 ^ 15) (strip_prefix 45 text)

-- the register of this name
abbrev pub reg_of_text : List ℕ → Result Reg AsmCode
reg_of_text text = ok_or (reg_named text) AsmCode.Form

-- an operand that may be either
unfoldable pub operand_of_text : List ℕ → Result Operand AsmCode
operand_of_text text = if slice_index text 0 == 114 then (reg_of_text text >>= λ r. Ok (Operand.Reg r)) else (imm_of_text text >>= λ k. Ok (Operand.Imm k))

-- a register and the offset after it
unfoldable pub base_and_offset : List ℕ → Result ℤ AsmCode → Result (Reg × ℤ) AsmCode
base_and_offset register offset = do
  r ← reg_of_text register
  o ← offset
  Ok (r, o)

-- the place inside of brackets, cut at a minus
abbrev pub at_minus : Option (List ℕ × List ℕ) → Result (Reg × ℤ) AsmCode
at_minus (Some sides) = base_and_offset sides.0 (minus (2 ^ 15) sides.1)
at_minus None = Err AsmCode.Form

-- cut at a plus, and where there is none, at a minus
abbrev pub at_plus : List ℕ → Option (List ℕ × List ℕ) → Result (Reg × ℤ) AsmCode
at_plus text (Some sides) = base_and_offset sides.0 (plus (2 ^ 15) sides.1)
at_plus text None = at_minus (split_once 45 text)

-- the size of so many bits that is narrower than the width, if there is one
abbrev pub size_in : Width → ℕ → List Size → Option Size
size_in w n [] = None
size_in w n (z ∷ zs) = if is_narrower z w && (size_bits z == n) then Some z else size_in w n zs

-- how many bits a sign-extending move of this width takes from its source: those of a narrower size (RFC 9669, section
-- 4.1); a numeral of any length has the form, so that any other number is out of range
unfoldable pub bits_of_text : Width → List ℕ → Result Size AsmCode
bits_of_text w text = do
  n ← numeral_upto AsmCode.Form AsmCode.Range (2 ^ 64 - 1) text
  ok_or (size_in w n sizes) AsmCode.Range

-- a place in memory: `[`, register, offset, `]`
unfoldable pub place_of_text : List ℕ → Result (Reg × ℤ) AsmCode
place_of_text text = do
  front ← ok_or (strip_prefix 91 text) AsmCode.Form
  inner ← ok_or (strip_suffix 93 front) AsmCode.Form
  at_plus inner (split_once 43 inner)

-- the next word, which has a comma at its end
unfoldable pub comma : List (List ℕ) → Result (List ℕ × List (List ℕ)) AsmCode
comma texts = do
  first ← next_word AsmCode.Form texts
  text ← ok_or (strip_suffix 44 first.0) AsmCode.Form
  Ok (text, first.1)

-- the last word: it is read before a word too many is reported
unfoldable pub last : {A : Type 0} → (List ℕ → Result A AsmCode) → List (List ℕ) → Result A AsmCode
last read texts = do
  first ← next_word AsmCode.Form texts
  x ← read first.0
  end ← no_word AsmCode.Form first.1
  Ok x

-- `r1, -32` or `r1, r2`
unfoldable pub alu_operands : (Reg → Operand → Insn) → List (List ℕ) → Result Insn AsmCode
alu_operands make texts = do
  first ← comma texts
  r ← reg_of_text first.0
  a ← last operand_of_text first.1
  Ok (make r a)

-- `r0, r1, 8`
unfoldable pub mov_sx_operands : Width → List (List ℕ) → Result Insn AsmCode
mov_sx_operands w texts = do
  first ← comma texts
  d ← reg_of_text first.0
  second ← comma first.1
  s ← reg_of_text second.0
  z ← last (bits_of_text w) second.1
  Ok (Insn.MovSx w z d s)

-- `r0, 4294967303`
unfoldable pub load_imm_operands : List (List ℕ) → Result Insn AsmCode
load_imm_operands texts = do
  first ← comma texts
  r ← reg_of_text first.0
  n ← last (numeral_upto AsmCode.Form AsmCode.Range (2 ^ 64 - 1)) first.1
  Ok (Insn.LoadImm r n)

-- `r0, [r1+8]`
unfoldable pub load_operands : (Reg → Reg → ℤ → Insn) → List (List ℕ) → Result Insn AsmCode
load_operands make texts = do
  first ← comma texts
  r ← reg_of_text first.0
  p ← last place_of_text first.1
  Ok (make r p.0 p.1)

-- `[r10-8], 5`
unfoldable pub store_imm_operands : (Reg → ℤ → ℤ → Insn) → List (List ℕ) → Result Insn AsmCode
store_imm_operands make texts = do
  first ← comma texts
  p ← place_of_text first.0
  k ← last imm_of_text first.1
  Ok (make p.0 p.1 k)

-- `[r10-8], r2`
unfoldable pub store_operands : (Reg → Reg → ℤ → Insn) → List (List ℕ) → Result Insn AsmCode
store_operands make texts = do
  first ← comma texts
  p ← place_of_text first.0
  r ← last reg_of_text first.1
  Ok (make p.0 r p.1)

-- `r1, 5, +2` or `r1, r2, +2`
unfoldable pub jump_if_operands : (Reg → Operand → ℤ → Insn) → List (List ℕ) → Result Insn AsmCode
jump_if_operands make texts = do
  first ← comma texts
  r ← reg_of_text first.0
  second ← comma first.1
  a ← operand_of_text second.0
  o ← last offset_of_text second.1
  Ok (make r a o)

-- the instruction that is made of what was read
abbrev pub map_insn : {A : Type 0} → (A → Insn) → Result A AsmCode → Result Insn AsmCode
map_insn make read = read >>= λ x. Ok (make x)

-- the operands that a first word asks for
abbrev pub operands : Word → List (List ℕ) → Result Insn AsmCode
operands (Word.Alu op w) texts = alu_operands (Insn.Alu op w) texts
operands (Word.MovSx w) texts = mov_sx_operands w texts
operands (Word.Neg w) texts = map_insn (Insn.Neg w) (last reg_of_text texts)
operands Word.LoadImm texts = load_imm_operands texts
operands (Word.Load z x) texts = load_operands (Insn.Load z x) texts
operands (Word.StoreImm z) texts = store_imm_operands (Insn.StoreImm z) texts
operands (Word.Store z) texts = store_operands (Insn.Store z) texts
operands Word.Jump texts = map_insn Insn.Jump (last offset_of_text texts)
operands (Word.JumpIf c w) texts = jump_if_operands (Insn.JumpIf c w) texts
operands Word.Call texts = map_insn Insn.Call (last imm_of_text texts)
operands Word.Exit texts = map_insn (λ _. Insn.Exit) (no_word AsmCode.Form texts)

-- the instruction of a line's words: the first says which it is, and is looked at before all operands
unfoldable pub insn_of_words : Profile → List (List ℕ) → Result Insn AsmCode
insn_of_words p texts = do
  first ← next_word AsmCode.Form texts
  w ← ok_or (word_named p first.0) AsmCode.Word
  operands w first.1

-- one instruction: its words stand with one blank between them
abbrev pub line_of : Profile → List ℕ → Result Insn AsmCode
line_of p text = insn_of_words p (words_of text)
