-- Which lines and texts are refused with the codes of the first word, of the slots and of no instruction.
use Rattle.std.proofs.Common.{◌≡◌, ◌≢◌, ℕ, suc, ◌+◌, ◌-◌, ◌^◌, ◌<◌, ◌⊎◌, ◌↔◌, ℤ, pos, neg_ℤ, Bool, true, false, cond, List, [], ◌∷◌, ◌++◌, take, Option, None, Result, Ok, Err, refl, sym, ap, ◌∙◌, arith, inl, inr, ◌==◌, nat_lt, slice_index, ok_or}
use Rattle.std.specs.List.{slice_split, before_first, position_or_len}
use Rattle.std.proofs.lemmas.Bool.{ltb-true, lt-ltb}
use Rattle.pb_asm.specs.Words.{Insn, Operand, Reg, Fits, slots, Profile, Width, max_slots, IsOf, ◌>>=◌, shown_lines, numeral_upto, next_word, no_word, is_skipped, ◌>>=◌, StopsAt}
use Rattle.pb_asm.specs.declared.fault.AsmCode.{AsmCode}
use Rattle.pb_asm.specs.declared.names.Word.{Word}
use Rattle.pb_asm.specs.Names.{name, IsWordOf, sizes, word_named, reg_named}
use Rattle.pb_asm.specs.Cuts.{strip_prefix, strip_suffix, split_once}
use Rattle.pb_asm.specs.Operands.{minus, plus, signed_or, imm_of_text, plus_or_fault, offset_of_text, reg_of_text, operand_of_text, size_in, bits_of_text, base_and_offset, at_minus, at_plus, place_of_text, comma, last, alu_operands, mov_sx_operands, load_imm_operands, load_operands, store_imm_operands, store_operands, jump_if_operands, operands, insn_of_words, line_of}
use Rattle.pb_asm.specs.Listing.{insn_text}
use Rattle.pb_asm.specs.Texts.{with_insn_line, some_of, program_of_text, HasNone}
use Rattle.pb_asm.proofs.NamesAndDigits.{word_back}
use Rattle.pb_asm.proofs.ListingsReadBack.{line_back, insn_shown}
use Rattle.pb_asm.proofs.FirstFault.{first_is_told}
use Rattle.pb_asm.proofs.OnlyListings.{lines_are, lines_back}
use Rattle.pb_reading.proofs.Readings.{err_is, FailsBy, then_fails, if_fails, there_fails, next_fails, end_fails, numeral_fails}
use Rattle.pb_asm.specs.Codes.{asm_code}
use Rattle.pb_asm.proofs.OneSpelling.{named_is, word_among, line_spelled}

-- operands are refused as of another form or out of range
abbrev IsOperandFault : AsmCode → Type 0
IsOperandFault AsmCode.Word = ⊥
IsOperandFault AsmCode.Form = Unit {0}
IsOperandFault AsmCode.Range = Unit {0}
IsOperandFault AsmCode.TooLong = ⊥
IsOperandFault AsmCode.Nothing = ⊥

abbrev Tells : {A : Type 0} → Result A AsmCode → Type 0
Tells read = FailsBy IsOperandFault read

-- so is a number, and all that is made of numbers below
number_tells : (greatest : ℕ) (text : List ℕ) → Tells (numeral_upto AsmCode.Form AsmCode.Range greatest text)
number_tells greatest text = numeral_fails IsOperandFault AsmCode.Form AsmCode.Range greatest text tt tt

minus_tells : (greatest : ℕ) (text : List ℕ) → Tells (minus greatest text)
unfolding minus
minus_tells greatest text = then_fails IsOperandFault (numeral_upto AsmCode.Form AsmCode.Range greatest text) _ (number_tells greatest text) (λ n. if_fails IsOperandFault (n == 0) (Err _) (Ok (neg_ℤ (pos n))) tt tt)

plus_tells : (limit : ℕ) (text : List ℕ) → Tells (plus limit text)
unfolding plus
plus_tells limit text = then_fails IsOperandFault (numeral_upto AsmCode.Form AsmCode.Range (limit - 1) text) _ (number_tells (limit - 1) text) (λ n. tt)

signed_tells : (unsigned : Result ℤ AsmCode) (limit : ℕ) (o : Option (List ℕ)) → Tells unsigned → Tells (signed_or unsigned limit o)
signed_tells unsigned limit o h = grind (arith, minus_tells)

imm_tells : (text : List ℕ) → Tells (imm_of_text text)
imm_tells text = signed_tells (plus (2 ^ 31) text) (2 ^ 31) (strip_prefix 45 text) (plus_tells (2 ^ 31) text)

sign_tells : (o : Option (List ℕ)) → Tells (plus_or_fault o)
sign_tells o = grind (arith, plus_tells)

offset_tells : (text : List ℕ) → Tells (offset_of_text text)
offset_tells text = signed_tells (plus_or_fault (strip_prefix 43 text)) (2 ^ 15) (strip_prefix 45 text) (sign_tells (strip_prefix 43 text))

reg_tells : (text : List ℕ) → Tells (reg_of_text text)
reg_tells text = there_fails IsOperandFault _ (reg_named text) tt

operand_tells : (text : List ℕ) → Tells (operand_of_text text)
unfolding operand_of_text
operand_tells text = if_fails IsOperandFault (slice_index text 0 == 114) _ _ (then_fails IsOperandFault (reg_of_text text) _ (reg_tells text) (λ r. tt)) (then_fails IsOperandFault (imm_of_text text) _ (imm_tells text) (λ k. tt))

bits_tell : (w : Width) (text : List ℕ) → Tells (bits_of_text w text)
unfolding bits_of_text
bits_tell w text = then_fails IsOperandFault (numeral_upto AsmCode.Form AsmCode.Range (2 ^ 64 - 1) text) _ (number_tells (2 ^ 64 - 1) text) (λ n. there_fails IsOperandFault _ (size_in w n sizes) tt)

based_tells : (register : List ℕ) (offset : Result ℤ AsmCode) → Tells offset → Tells (base_and_offset register offset)
unfolding base_and_offset
based_tells register offset h = then_fails IsOperandFault (reg_of_text register) _ (reg_tells register) (λ r. then_fails IsOperandFault offset _ h (λ o. tt))

at_minus_tells : (o : Option (List ℕ × List ℕ)) → Tells (at_minus o)
at_minus_tells o = grind (arith, based_tells, minus_tells)

at_plus_tells : (text : List ℕ) (o : Option (List ℕ × List ℕ)) → Tells (at_plus text o)
at_plus_tells text o = grind (arith, at_minus_tells, based_tells, plus_tells)

-- a place is, too
place_tells : (text : List ℕ) → Tells (place_of_text text)
unfolding place_of_text
place_tells text = then_fails IsOperandFault (ok_or (strip_prefix 91 text) AsmCode.Form) _ (there_fails IsOperandFault _ (strip_prefix 91 text) tt) (λ front. then_fails IsOperandFault (ok_or (strip_suffix 93 front) AsmCode.Form) _ (there_fails IsOperandFault _ (strip_suffix 93 front) tt) (λ inner. at_plus_tells inner (split_once 43 inner)))

-- and a word that lacks its comma
comma_tells : (texts : List (List ℕ)) → Tells (comma texts)
unfolding comma
comma_tells texts = then_fails IsOperandFault (next_word AsmCode.Form texts) _ (next_fails IsOperandFault AsmCode.Form texts tt) (λ first. then_fails IsOperandFault (ok_or (strip_suffix 44 first.0) AsmCode.Form) _ (there_fails IsOperandFault _ (strip_suffix 44 first.0) tt) (λ text. tt))

-- a last word, where its reading is
last_tells : {A : Type 0} (read : List ℕ → Result A AsmCode) (texts : List (List ℕ)) → ((text : List ℕ) → Tells (read text)) → Tells (last read texts)
unfolding last
last_tells read texts h = then_fails IsOperandFault (next_word AsmCode.Form texts) _ (next_fails IsOperandFault AsmCode.Form texts tt) (λ first. then_fails IsOperandFault (read first.0) _ (h first.0) (λ x. then_fails IsOperandFault (no_word AsmCode.Form first.1) _ (end_fails IsOperandFault AsmCode.Form first.1 tt) (λ end. tt)))

alu_tells : (make : Reg → Operand → Insn) (texts : List (List ℕ)) → Tells (alu_operands make texts)
unfolding alu_operands
alu_tells make texts = then_fails IsOperandFault (comma texts) _ (comma_tells texts) (λ first. then_fails IsOperandFault (reg_of_text first.0) _ (reg_tells first.0) (λ r. then_fails IsOperandFault (last operand_of_text first.1) _ (last_tells operand_of_text first.1 operand_tells) (λ a. tt)))

mov_sx_tells : (w : Width) (texts : List (List ℕ)) → Tells (mov_sx_operands w texts)
unfolding mov_sx_operands
mov_sx_tells w texts = then_fails IsOperandFault (comma texts) _ (comma_tells texts) (λ first. then_fails IsOperandFault (reg_of_text first.0) _ (reg_tells first.0) (λ d. then_fails IsOperandFault (comma first.1) _ (comma_tells first.1) (λ second. then_fails IsOperandFault (reg_of_text second.0) _ (reg_tells second.0) (λ s. then_fails IsOperandFault (last (bits_of_text w) second.1) _ (last_tells (bits_of_text w) second.1 (bits_tell w)) (λ z. tt)))))

wide_tells : (texts : List (List ℕ)) → Tells (load_imm_operands texts)
unfolding load_imm_operands
wide_tells texts = then_fails IsOperandFault (comma texts) _ (comma_tells texts) (λ first. then_fails IsOperandFault (reg_of_text first.0) _ (reg_tells first.0) (λ r. then_fails IsOperandFault (last (numeral_upto AsmCode.Form AsmCode.Range (2 ^ 64 - 1)) first.1) _ (last_tells (numeral_upto AsmCode.Form AsmCode.Range (2 ^ 64 - 1)) first.1 (number_tells (2 ^ 64 - 1))) (λ n. tt)))

load_tells : (make : Reg → Reg → ℤ → Insn) (texts : List (List ℕ)) → Tells (load_operands make texts)
unfolding load_operands
load_tells make texts = then_fails IsOperandFault (comma texts) _ (comma_tells texts) (λ first. then_fails IsOperandFault (reg_of_text first.0) _ (reg_tells first.0) (λ r. then_fails IsOperandFault (last place_of_text first.1) _ (last_tells place_of_text first.1 place_tells) (λ p. tt)))

store_imm_tells : (make : Reg → ℤ → ℤ → Insn) (texts : List (List ℕ)) → Tells (store_imm_operands make texts)
unfolding store_imm_operands
store_imm_tells make texts = then_fails IsOperandFault (comma texts) _ (comma_tells texts) (λ first. then_fails IsOperandFault (place_of_text first.0) _ (place_tells first.0) (λ p. then_fails IsOperandFault (last imm_of_text first.1) _ (last_tells imm_of_text first.1 imm_tells) (λ k. tt)))

store_tells : (make : Reg → Reg → ℤ → Insn) (texts : List (List ℕ)) → Tells (store_operands make texts)
unfolding store_operands
store_tells make texts = then_fails IsOperandFault (comma texts) _ (comma_tells texts) (λ first. then_fails IsOperandFault (place_of_text first.0) _ (place_tells first.0) (λ p. then_fails IsOperandFault (last reg_of_text first.1) _ (last_tells reg_of_text first.1 reg_tells) (λ r. tt)))

jump_if_tells : (make : Reg → Operand → ℤ → Insn) (texts : List (List ℕ)) → Tells (jump_if_operands make texts)
unfolding jump_if_operands
jump_if_tells make texts = then_fails IsOperandFault (comma texts) _ (comma_tells texts) (λ first. then_fails IsOperandFault (reg_of_text first.0) _ (reg_tells first.0) (λ r. then_fails IsOperandFault (comma first.1) _ (comma_tells first.1) (λ second. then_fails IsOperandFault (operand_of_text second.0) _ (operand_tells second.0) (λ a. then_fails IsOperandFault (last offset_of_text second.1) _ (last_tells offset_of_text second.1 offset_tells) (λ o. tt)))))

-- so the operands of any word are refused as of another form or out of range, and never as an unknown word
operands_tell : (w : Word) (texts : List (List ℕ)) → Tells (operands w texts)
operands_tell w texts = grind (arith, alu_tells, mov_sx_tells, then_fails, last_tells, reg_tells, wide_tells, load_tells, store_imm_tells, store_tells, offset_tells, jump_if_tells, imm_tells, end_fails)

-- ---- the first word

abbrev blank : ℕ → Bool
blank b = b == 32

-- the words are the one before the first blank, and others
first_step : (b : ℕ) (bs : List ℕ) (rest : List (List ℕ)) (t : Bool) → blank b ≡ t → slice_split blank bs ≡ before_first blank bs ∷ rest → (others : List (List ℕ)) × (slice_split blank (b ∷ bs) ≡ before_first blank (b ∷ bs) ∷ others)
first_step b bs rest true is h = (slice_split blank bs, rw is refl)
first_step b bs rest false is h =
    let next : suc (position_or_len blank bs) ≡ 1 + position_or_len blank bs = omega arith in
    (rest, rw (is, h) (ap (λ (k : ℕ). take k (b ∷ bs) ∷ rest) next))

-- the first of a line's words is what stands before its first blank
first_word : (line : List ℕ) → (others : List (List ℕ)) × (slice_split blank line ≡ before_first blank line ∷ others)
first_word [] = ([], refl)
first_word (b ∷ bs) = let h = first_word bs in first_step b bs h.0 (blank b) refl h.1

-- the word is no name of the profile's
abbrev Unnamed : Profile → List ℕ → Type 0
Unnamed q text = (w : Word) → IsWordOf q w → text ≢ name w

-- if a line is refused with 80, its first word is no name of the profile's, since operands never return 80
named_cases : (q : Profile) (text : List ℕ) (texts : List (List ℕ)) (o : Option Word) → word_named q text ≡ o → (ok_or o AsmCode.Word >>= λ w. operands w texts) ≡ Err AsmCode.Word → Unnamed q text
named_cases q text texts o is h w has same = grind (arith, word_back, operands_tell)

-- and where it is none, no word is found
unnamed : (q : Profile) (text : List ℕ) (o : Option Word) → word_named q text ≡ o → Unnamed q text → word_named q text ≡ None
unnamed q text o is none = grind (arith, named_is, word_among)

-- a line's words are refused with 80 exactly if the first is no name of the profile's
words_word : (q : Profile) (text : List ℕ) (texts : List (List ℕ)) → (insn_of_words q (text ∷ texts) ≡ Err AsmCode.Word) ↔ Unnamed q text
unfolding insn_of_words
words_word q text texts = (named_cases q text texts (word_named q text) refl, λ none. ap (λ (o : Option Word). ok_or o AsmCode.Word >>= λ w. operands w texts) (unnamed q text (word_named q text) refl none))

-- a line is refused with 80 exactly if what stands before its first blank is no name
pub word_told : (q : Profile) (line : List ℕ) → (line_of q line ≡ Err AsmCode.Word) ↔ ((w : Word) → IsWordOf q w → before_first (λ b. b == 32) line ≢ name w)
word_told q line =
    let f = first_word line in
    let e = words_word q (before_first blank line) f.0 in
    (λ h. e.0 (ap (insn_of_words q) (sym f.1) ∙ h), λ h. ap (insn_of_words q) f.1 ∙ e.1 h)

-- ---- the slots

-- operands never return 83
words_short : (texts : List (List ℕ)) (o : Option Word) → (ok_or o AsmCode.Word >>= λ w. operands w texts) ≡ Err AsmCode.TooLong → ⊥
words_short texts o h = grind (arith, operands_tell)

-- nor does a line by itself
line_short : (q : Profile) (texts : List (List ℕ)) → insn_of_words q texts ≡ Err AsmCode.TooLong → ⊥
unfolding insn_of_words
line_short q [] h = absurd cc
line_short q (text ∷ texts) h = words_short texts (word_named q text) h

-- the line is an instruction's that ends past the profile's last slot
abbrev PastEnd : Profile → List Insn → List ℕ → Type 0
PastEnd q front line = (i : Insn) × (line ≡ insn_text i) × Fits i × IsOf q i × (max_slots q < slots (front ++ i ∷ []))

slots_past : (front p : List Insn) (b : Bool) → cond b (Err AsmCode.TooLong) (Ok p) ≡ Err AsmCode.TooLong → b ≡ true
slots_past front p b h = grind arith

-- a fault, as the answer of a reading that would give an A
abbrev pub failed : (A : Type 0) → AsmCode → Result A AsmCode
failed A c = Err c

-- a fault is the same whatever the reading would have given
pub same_fault : (A B : Type 0) (c d : AsmCode) → failed A c ≡ failed A d → failed B c ≡ failed B d
same_fault A B c d h = ap (failed B) (err_is {A = A} c d h)

read_past : (q : Profile) (front : List Insn) (line : List ℕ) (r : Result Insn AsmCode) → line_of q line ≡ r → (r >>= λ i. cond (nat_lt (max_slots q) (slots (front ++ i ∷ []))) (Err AsmCode.TooLong) (Ok (front ++ i ∷ []))) ≡ Err AsmCode.TooLong → PastEnd q front line
read_past q front line (Err c) is h = absurd (line_short q (slice_split blank line) (is ∙ same_fault (List Insn) Insn c AsmCode.TooLong h))
read_past q front line (Ok i) is h =
    let s = line_spelled q line i is in
    (i, s.0, s.1, s.2, ltb-true _ _ (slots_past front (front ++ i ∷ []) (nat_lt (max_slots q) (slots (front ++ i ∷ []))) h))

shown_past : (q : Profile) (front : List Insn) (line : List ℕ) (b : Bool) → cond b (Ok front) (line_of q line >>= λ i. cond (nat_lt (max_slots q) (slots (front ++ i ∷ []))) (Err AsmCode.TooLong) (Ok (front ++ i ∷ []))) ≡ Err AsmCode.TooLong → PastEnd q front line
shown_past q front line b h = grind (arith, read_past)

-- a line that is such an instruction's is refused with 83
past_told : (q : Profile) (front : List Insn) (line : List ℕ) → PastEnd q front line → with_insn_line q front line ≡ Err AsmCode.TooLong
unfolding with_insn_line
past_told q front line h = ap (with_insn_line q front) h.1 ∙ rw (insn_shown h.0, line_back q h.0 h.2 h.3, lt-ltb _ _ h.4) refl

-- and no other line is refused with 83
pub too_long_told : (q : Profile) (front : List Insn) (line : List ℕ) → (with_insn_line q front line ≡ Err AsmCode.TooLong) ↔ ((i : Insn) × (line ≡ insn_text i) × Fits i × IsOf q i × (max_slots q < slots (front ++ i ∷ [])))
unfolding with_insn_line
too_long_told q front line = (shown_past q front line (is_skipped line), past_told q front line)

-- ---- no other code of a line

shown_own : (q : Profile) (front : List Insn) (line : List ℕ) (c : AsmCode) (b : Bool) → cond b (Ok front) (line_of q line >>= λ i. cond (nat_lt (max_slots q) (slots (front ++ i ∷ []))) (Err AsmCode.TooLong) (Ok (front ++ i ∷ []))) ≡ Err c → (c ≡ AsmCode.TooLong) ⊎ (line_of q line ≡ Err c)
shown_own q front line c b h = grind arith

-- a line after others is refused with its own fault, or with 83
pub own_told : (q : Profile) (front : List Insn) (line : List ℕ) (c : AsmCode) → with_insn_line q front line ≡ Err c → (c ≡ AsmCode.TooLong) ⊎ (line_of q line ≡ Err c)
unfolding with_insn_line
own_told q front line c h = shown_own q front line c (is_skipped line) h

-- the fault that operands return is 81 or 82
told_so : (c : AsmCode) → Tells (failed Insn c) → (c ≡ AsmCode.Word) ⊎ (c ≡ AsmCode.Form) ⊎ (c ≡ AsmCode.Range)
told_so c h = grind arith

words_told : (texts : List (List ℕ)) (o : Option Word) (c : AsmCode) → (ok_or o AsmCode.Word >>= λ w. operands w texts) ≡ Err c → (c ≡ AsmCode.Word) ⊎ (c ≡ AsmCode.Form) ⊎ (c ≡ AsmCode.Range)
words_told texts o c h = grind (arith, err_is, told_so, operands_tell)

fields_told : (q : Profile) (texts : List (List ℕ)) (c : AsmCode) → insn_of_words q texts ≡ Err c → (c ≡ AsmCode.Word) ⊎ (c ≡ AsmCode.Form) ⊎ (c ≡ AsmCode.Range)
unfolding insn_of_words
fields_told q [] c h = inr (inl (sym (err_is {A = Insn} AsmCode.Form c h)))
fields_told q (text ∷ texts) c h = words_told texts (word_named q text) c h

-- a line by itself is refused with 80, 81 or 82
pub line_told : (q : Profile) (line : List ℕ) (c : AsmCode) → line_of q line ≡ Err c → (c ≡ AsmCode.Word) ⊎ (c ≡ AsmCode.Form) ⊎ (c ≡ AsmCode.Range)
line_told q line c h = fields_told q (slice_split blank line) c h

-- ---- no instruction

-- if a text is refused with 84, no line has an instruction, since a line's fault has a number from 1
has_none : (q : Profile) (text : List ℕ) → StopsAt asm_code (with_insn_line q) [] text 0 84 ⊎ HasNone q text 0 84 → shown_lines text ≡ []
has_none q text (inl f) = let k = f.number in let no : ⊥ = omega (arith, k) in absurd no
has_none q text (inr f) = (lines_are q text [] f.read).lines

-- if no line has one, the text is refused with 84
none_told : (q : Profile) (text : List ℕ) → shown_lines text ≡ [] → program_of_text q text ≡ Err (0, 84)
none_told q text h = ap (λ (r : Result (List Insn) (ℕ × ℕ)). r >>= some_of q) (lines_back q text [] (record { lines = h; fits = tt; of_profile = tt; most = omega arith }))

-- a text is refused with 84 exactly if each line is empty or a remark
pub nothing_told : (q : Profile) (text : List ℕ) → (program_of_text q text ≡ Err (0, 84)) ↔ (shown_lines text ≡ [])
nothing_told q text = (λ h. has_none q text (first_is_told q text 0 84 h), none_told q text)
