-- A number beyond its field is refused as out of range.
use Rattle.std.proofs.Common.{◌≡◌, ◌≢◌, ℕ, ◌+◌, ◌-◌, ◌^◌, ℤ, Bool, true, false, cond, List, [], ◌∷◌, ◌++◌, Option, Some, None, Result, Ok, Err, refl, sym, ap, ◌∙◌, append_assoc, append-nil, arith, inl, inr, ◌==◌, nat_le, codes, slice_index, ok_or}
use Rattle.std.specs.Char.{is_ascii_digit}
use Rattle.std.specs.List.{list_all}
use Rattle.std.specs.Str.Parse.{digits_value}
use Rattle.std.proofs.lemmas.Bool.{eqb-true, and_parts}
use Rattle.pb_asm.specs.Words.{Reg, Width, Size, Profile, is_narrower, ◌>>=◌, is_numeral, numeral_upto, is_skipped, numbered, Insn}
use Rattle.pb_asm.specs.Codes.{asm_code}
use Rattle.pb_asm.specs.Texts.{with_insn_line}
use Rattle.pb_asm.specs.declared.fault.AsmCode.{AsmCode}
use Rattle.pb_asm.specs.declared.names.Word.{Word}
use Rattle.pb_asm.specs.Names.{name, IsWordOf, sizes, size_bits, reg_name}
use Rattle.pb_asm.specs.Cuts.{strip_suffix, split_once}
use Rattle.pb_asm.specs.Listing.{operand_text, place_text}
use Rattle.pb_asm.specs.Operands.{minus, plus, imm_of_text, offset_of_text, operand_of_text, size_in, bits_of_text, base_and_offset, at_plus, place_of_text, last, alu_operands, mov_sx_operands, load_imm_operands, load_operands, store_imm_operands, store_operands, jump_if_operands, operands, insn_of_words, line_of}
use Rattle.pb_asm.specs.OutOfRange.{IsAbove, IsImmBeyond, IsOffsetBeyond, IsUnlisted, NumberPlace, AluImm, MovSxBits, LoadImmImm, LoadOffset, StoreImmOffset, StoreImmImm, StoreOffset, JumpOffset, JumpIfImm, JumpIfOffset, CallImm, place_with, place_word, operands_with, line_with, FitsBefore, IsBeyond, EndsWord}
use Rattle.pb_asm.proofs.TextCuts.{before_there}
use Rattle.pb_asm.proofs.NamesAndDigits.{above, above_append, above_less, cut_there, around_there, around_none, reg_above}
use Rattle.pb_asm.proofs.ListingsReadBack.{no_front, reg_read, reg_line, operand_line, operand_back, place_line, place_back, blanks, comma_cut, name_cut, last_cut, first_read, comma_read, name_shown}
use Rattle.pb_reading.proofs.NumeralValues.{digits_in, numeral_over}

-- ---- numbers

-- digits are from 48 on, so that no blank cuts them
digits_above : (ds : List ℕ) → list_all is_ascii_digit ds ≡ true → above 48 ds ≡ true
digits_above [] h = refl
digits_above (d ∷ ds) h =
    let p = and_parts (is_ascii_digit d) (list_all is_ascii_digit ds) h in
    let low : nat_le 48 d ≡ true = (and_parts (nat_le 48 d) (nat_le d 57) p.0).0 in
    rw (low, digits_above ds p.1) refl

number_above : (most : ℕ) (text : List ℕ) → IsAbove most text → above 48 text ≡ true
number_above most text h = digits_above text (digits_in text h.numeral).0

-- digits don't begin with an r, so that they are no register
first_not_r : (ds : List ℕ) → list_all is_ascii_digit ds ≡ true → (slice_index ds 0 == 114) ≡ false
first_not_r [] h = refl
first_not_r (d ∷ ds) h = grind arith

minus_over : (most : ℕ) (digits : List ℕ) → IsAbove most digits → minus most digits ≡ Err AsmCode.Range
unfolding minus
minus_over most digits h = rw (numeral_over AsmCode.Form AsmCode.Range most digits h.numeral h.above) refl

plus_over : (limit : ℕ) (digits : List ℕ) → IsAbove (limit - 1) digits → plus limit digits ≡ Err AsmCode.Range
unfolding plus
plus_over limit digits h = rw (numeral_over AsmCode.Form AsmCode.Range (limit - 1) digits h.numeral h.above) refl

-- an immediate beyond its field is out of range
imm_over : (text : List ℕ) → IsImmBeyond text → imm_of_text text ≡ Err AsmCode.Range
imm_over text w = grind (arith, no_front, number_above, plus_over, minus_over)

-- its text has no blank, so that it is one word
imm_line : (text : List ℕ) → IsImmBeyond text → above 33 text ≡ true
imm_line text (inl h) = above_less 33 48 text (omega arith) (number_above (2 ^ 31 - 1) text h)
imm_line text (inr h) = ap (above 33) h.1 ∙ above_less 33 48 h.0 (omega arith) (number_above (2 ^ 31) h.0 h.2)

imm_not_r : (text : List ℕ) → IsImmBeyond text → (slice_index text 0 == 114) ≡ false
imm_not_r text w = grind (arith, first_not_r, digits_in)

-- so is an operand that is such an immediate
operand_over : (text : List ℕ) → IsImmBeyond text → operand_of_text text ≡ Err AsmCode.Range
unfolding operand_of_text
operand_over text h = rw (imm_not_r text h, imm_over text h) refl

-- an offset beyond its field is out of range
offset_over : (text : List ℕ) → IsOffsetBeyond text → offset_of_text text ≡ Err AsmCode.Range
offset_over text w = grind (arith, plus_over, minus_over)

offset_line : (text : List ℕ) → IsOffsetBeyond text → above 33 text ≡ true
offset_line text (inl h) = ap (above 33) h.1 ∙ above_less 33 48 h.0 (omega arith) (number_above (2 ^ 15 - 1) h.0 h.2)
offset_line text (inr h) = ap (above 33) h.1 ∙ above_less 33 48 h.0 (omega arith) (number_above (2 ^ 15) h.0 h.2)

-- ---- bits

-- no size of the list has so many bits
none_sized : (w : Width) (n : ℕ) (zs : List Size) → ((z : Size) → is_narrower z w ≡ true → n ≢ size_bits z) → size_in w n zs ≡ None
none_sized w n [] none = refl
none_sized w n (z ∷ zs) none = grind (arith, eqb-true, none_sized w n zs none)

numeral_cases : (most : ℕ) (text : List ℕ) → is_numeral text ≡ true → (b : Bool) → nat_le (digits_value 10 text) most ≡ b → numeral_upto AsmCode.Form AsmCode.Range most text ≡ cond b (Ok (digits_value 10 text)) (Err AsmCode.Range)
numeral_cases most text is b le = rw (is, le) refl

-- bits that no narrower size has are out of range, also those of a number beyond 64 bits
bits_over : (w : Width) (text : List ℕ) → IsUnlisted w text → bits_of_text w text ≡ Err AsmCode.Range
unfolding bits_of_text
bits_over w text h = cases (nat_le (digits_value 10 text) (2 ^ 64 - 1)) refl
  where
    found : (b : Bool) → (cond b (Ok (digits_value 10 text)) (Err AsmCode.Range) >>= λ n. ok_or (size_in w n sizes) AsmCode.Range) ≡ Err AsmCode.Range
    found true = rw (none_sized w (digits_value 10 text) sizes h.unlisted) refl
    found false = refl

    cases : (b : Bool) → nat_le (digits_value 10 text) (2 ^ 64 - 1) ≡ b → bits_of_text w text ≡ Err AsmCode.Range
    cases b le = ap (λ (r : Result ℕ AsmCode). r >>= λ n. ok_or (size_in w n sizes) AsmCode.Range) (numeral_cases (2 ^ 64 - 1) text h.numeral b le) ∙ found b

bits_line : (w : Width) (text : List ℕ) → IsUnlisted w text → above 33 text ≡ true
bits_line w text h = above_less 33 48 text (omega arith) (digits_above text (digits_in text h.numeral).0)

-- ---- places

based_over : (b : Reg) (read : Result ℤ AsmCode) → read ≡ Err AsmCode.Range → base_and_offset (reg_name b) read ≡ Err AsmCode.Range
unfolding base_and_offset
based_over b read h = rw (reg_read b, h) refl

abbrev inside : Reg → List ℕ → Result (Reg × ℤ) AsmCode
inside b text = at_plus (reg_name b ++ text) (split_once 43 (reg_name b ++ text))

-- the offset of a place is, with either sign
inside_over : (b : Reg) (text : List ℕ) → IsOffsetBeyond text → inside b text ≡ Err AsmCode.Range
inside_over b text (inl h) = grind (arith, around_there, reg_above, based_over, plus_over)
inside_over b text (inr h) =
    let whole : above 44 (reg_name b ++ 45 ∷ h.0) ≡ true = above_append 44 (reg_name b) (45 ∷ h.0) (above_less 44 48 (reg_name b) (omega arith) (reg_above b)) (above_less 44 48 h.0 (omega arith) (number_above (2 ^ 15) h.0 h.2)) in
    grind (arith, reg_above, around_none, around_there, based_over, minus_over)

-- and so is the place
place_over : (b : Reg) (text : List ℕ) → IsOffsetBeyond text → place_of_text (place_with b text) ≡ Err AsmCode.Range
unfolding place_of_text
place_over b text h =
    let grouped : reg_name b ++ (text ++ 93 ∷ []) ≡ (reg_name b ++ text) ++ 93 ∷ [] = sym (append_assoc (reg_name b) text (93 ∷ [])) in
    let e : strip_suffix 93 (reg_name b ++ (text ++ 93 ∷ [])) ≡ Some (reg_name b ++ text) = ap (strip_suffix 93) grouped ∙ before_there 93 (reg_name b ++ text) in
    ap (λ (x : Option (List ℕ)). ok_or x AsmCode.Form >>= λ inner. at_plus inner (split_once 43 inner)) e ∙ inside_over b text h

bracketed_line : (b : Reg) (text : List ℕ) → IsOffsetBeyond text → above 33 (place_with b text) ≡ true
bracketed_line b text h = above_append 33 (reg_name b) (text ++ 93 ∷ []) (reg_line b) (above_append 33 text (93 ∷ []) (offset_line text h) refl)

-- ---- the words of a line

-- a word that the line ends with, or a blank
word_cut : (x rest : List ℕ) → above 33 x ≡ true → EndsWord rest → (others : List (List ℕ)) × (blanks (x ++ rest) ≡ x ∷ others)
word_cut x rest h (inl e) = ([], ap (λ (t : List ℕ). blanks (x ++ t)) e ∙ ap blanks (append-nil x) ∙ last_cut x h)
word_cut x rest h (inr e) = (blanks e.0, ap (λ (t : List ℕ). blanks (x ++ t)) e.1 ∙ cut_there 32 33 x e.0 (omega arith) h)

-- a line returns what its operands return
after_name : (q : Profile) (w : Word) (y : List ℕ) (ys : List (List ℕ)) → IsWordOf q w → blanks y ≡ ys → line_of q (name w ++ (codes " " ++ y)) ≡ operands w ys
after_name q w y ys has e = ap (insn_of_words q) (name_cut w y ∙ ap (λ (ws : List (List ℕ)). name w ∷ ws) e) ∙ first_read q w ys has

then_cut : (x y : List ℕ) (ys : List (List ℕ)) → above 33 x ≡ true → blanks y ≡ ys → blanks (x ++ (codes ", " ++ y)) ≡ (x ++ 44 ∷ []) ∷ ys
then_cut x y ys h e = comma_cut x y h ∙ ap (λ (ws : List (List ℕ)). (x ++ 44 ∷ []) ∷ ws) e

-- a last word out of range is reported before a word too many
last_over : {A : Type 0} (read : List ℕ → Result A AsmCode) (x : List ℕ) (others : List (List ℕ)) → read x ≡ Err AsmCode.Range → last read (x ∷ others) ≡ Err AsmCode.Range
unfolding last
last_over read x others h = rw h refl

with_comma : (x : List ℕ) → above 33 x ≡ true → above 33 (x ++ 44 ∷ []) ≡ true
with_comma x h = above_append 33 x (44 ∷ []) h refl

-- a line whose number is beyond its field is out of range: a case for each place of a number
pub range_told : (q : Profile) (f : NumberPlace) (number rest : List ℕ) → IsWordOf q (place_word f) → FitsBefore f → IsBeyond f number → EndsWord rest → line_of q (line_with f number rest) ≡ Err AsmCode.Range
unfolding alu_operands mov_sx_operands load_imm_operands load_operands store_imm_operands store_operands jump_if_operands
range_told q (AluImm op w d) number rest has fits beyond ends =
    let c = word_cut number rest (imm_line number beyond) ends in
    after_name q (Word.Alu op w) (reg_name d ++ (codes ", " ++ (number ++ rest))) _ has (then_cut (reg_name d) (number ++ rest) _ (reg_line d) c.1)
    ∙ rw (comma_read (reg_name d) (number ∷ c.0), reg_read d, last_over operand_of_text number c.0 (operand_over number beyond)) refl
range_told q (MovSxBits w d s) number rest has fits beyond ends =
    let c = word_cut number rest (bits_line w number beyond) ends in
    after_name q (Word.MovSx w) (reg_name d ++ (codes ", " ++ (reg_name s ++ (codes ", " ++ (number ++ rest))))) _ has (then_cut (reg_name d) (reg_name s ++ (codes ", " ++ (number ++ rest))) _ (reg_line d) (then_cut (reg_name s) (number ++ rest) _ (reg_line s) c.1))
    ∙ rw (comma_read (reg_name d) ((reg_name s ++ 44 ∷ []) ∷ number ∷ c.0), reg_read d, comma_read (reg_name s) (number ∷ c.0), reg_read s, last_over (bits_of_text w) number c.0 (bits_over w number beyond)) refl
range_told q (LoadImmImm d) number rest has fits beyond ends =
    let c = word_cut number rest (above_less 33 48 number (omega arith) (number_above (2 ^ 64 - 1) number beyond)) ends in
    after_name q Word.LoadImm (reg_name d ++ (codes ", " ++ (number ++ rest))) _ has (then_cut (reg_name d) (number ++ rest) _ (reg_line d) c.1)
    ∙ rw (comma_read (reg_name d) (number ∷ c.0), reg_read d, last_over (numeral_upto AsmCode.Form AsmCode.Range (2 ^ 64 - 1)) number c.0 (numeral_over AsmCode.Form AsmCode.Range (2 ^ 64 - 1) number beyond.numeral beyond.above)) refl
range_told q (LoadOffset z x d s) number rest has fits beyond ends =
    let c = word_cut (place_with s number) rest (bracketed_line s number beyond) ends in
    after_name q (Word.Load z x) (reg_name d ++ (codes ", " ++ (place_with s number ++ rest))) _ has (then_cut (reg_name d) (place_with s number ++ rest) _ (reg_line d) c.1)
    ∙ rw (comma_read (reg_name d) (place_with s number ∷ c.0), reg_read d, last_over place_of_text (place_with s number) c.0 (place_over s number beyond)) refl
range_told q (StoreImmOffset z d) number rest has fits beyond ends =
    let c = word_cut (place_with d number ++ 44 ∷ []) rest (with_comma (place_with d number) (bracketed_line d number beyond)) ends in
    after_name q (Word.StoreImm z) ((place_with d number ++ 44 ∷ []) ++ rest) _ has c.1 ∙ rw (comma_read (place_with d number) c.0, place_over d number beyond) refl
range_told q (StoreImmImm z d o) number rest has fits beyond ends =
    let c = word_cut number rest (imm_line number beyond) ends in
    after_name q (Word.StoreImm z) (place_text d o ++ (codes ", " ++ (number ++ rest))) _ has (then_cut (place_text d o) (number ++ rest) _ (place_line d o fits) c.1)
    ∙ rw (comma_read (place_text d o) (number ∷ c.0), place_back d o fits, last_over imm_of_text number c.0 (imm_over number beyond)) refl
range_told q (StoreOffset z d) number rest has fits beyond ends =
    let c = word_cut (place_with d number ++ 44 ∷ []) rest (with_comma (place_with d number) (bracketed_line d number beyond)) ends in
    after_name q (Word.Store z) ((place_with d number ++ 44 ∷ []) ++ rest) _ has c.1 ∙ rw (comma_read (place_with d number) c.0, place_over d number beyond) refl
range_told q JumpOffset number rest has fits beyond ends =
    let c = word_cut number rest (offset_line number beyond) ends in
    after_name q Word.Jump (number ++ rest) _ has c.1 ∙ rw (last_over offset_of_text number c.0 (offset_over number beyond)) refl
range_told q (JumpIfImm k w d) number rest has fits beyond ends =
    let c = word_cut (number ++ 44 ∷ []) rest (with_comma number (imm_line number beyond)) ends in
    after_name q (Word.JumpIf k w) (reg_name d ++ (codes ", " ++ ((number ++ 44 ∷ []) ++ rest))) _ has (then_cut (reg_name d) ((number ++ 44 ∷ []) ++ rest) _ (reg_line d) c.1)
    ∙ rw (comma_read (reg_name d) ((number ++ 44 ∷ []) ∷ c.0), reg_read d, comma_read number c.0, operand_over number beyond) refl
range_told q (JumpIfOffset k w d s) number rest has fits beyond ends =
    let c = word_cut number rest (offset_line number beyond) ends in
    after_name q (Word.JumpIf k w) (reg_name d ++ (codes ", " ++ (operand_text s ++ (codes ", " ++ (number ++ rest))))) _ has (then_cut (reg_name d) (operand_text s ++ (codes ", " ++ (number ++ rest))) _ (reg_line d) (then_cut (operand_text s) (number ++ rest) _ (operand_line s fits) c.1))
    ∙ rw (comma_read (reg_name d) ((operand_text s ++ 44 ∷ []) ∷ number ∷ c.0), reg_read d, comma_read (operand_text s) (number ∷ c.0), operand_back s fits, last_over offset_of_text number c.0 (offset_over number beyond)) refl
range_told q CallImm number rest has fits beyond ends =
    let c = word_cut number rest (imm_line number beyond) ends in
    after_name q Word.Call (number ++ rest) _ has c.1 ∙ rw (last_over imm_of_text number c.0 (imm_over number beyond)) refl

-- such a line isn't skipped
line_shown : (f : NumberPlace) (number rest : List ℕ) → is_skipped (line_with f number rest) ≡ false
line_shown f number rest = name_shown (place_word f) (codes " " ++ operands_with f number rest)

-- so the line is refused with 82 at its number, whatever lines stand before it
pub line_told : (q : Profile) (n : ℕ) (before : List Insn) (f : NumberPlace) (number rest : List ℕ) → IsWordOf q (place_word f) → FitsBefore f → IsBeyond f number → EndsWord rest → numbered asm_code n (with_insn_line q before (line_with f number rest)) ≡ Err (n + 1, 82)
unfolding with_insn_line
line_told q n before f number rest has fits beyond ends = rw (line_shown f number rest, range_told q f number rest has fits beyond ends) refl
