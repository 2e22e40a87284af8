-- A listing is read as its program.
use Rattle.std.proofs.Common.{◌≡◌, ℕ, suc, ◌+◌, ◌-◌, ◌^◌, ◌<◌, ◌≤◌, ℤ, pos, negsuc, Bool, true, false, cond, List, [], ◌∷◌, ◌++◌, length, map, Option, Some, None, Result, Ok, refl, sym, ap, ◌∙◌, append_assoc, arith, ◌==◌, nat_le, codes, slice_index, FitsSigned, w16, w32, ok_or}
use Rattle.std.specs.List.{slice_split, AllByRecursion}
use Rattle.std.specs.Fmt.{decimal, signed_decimal}
use Rattle.std.proofs.lemmas.Bool.{leb-true}
use Rattle.std.proofs.lemmas.List.{length-append}
use Rattle.pb_asm.specs.Words.{Insn, Operand, Profile, Width, Size, Extension, Reg, OperandFits, Fits, slots, is_narrower, IsOf, ◌>>=◌, numeral_upto, is_skipped, ◌>>=◌}
use Rattle.pb_asm.specs.declared.fault.AsmCode.{AsmCode}
use Rattle.pb_asm.specs.declared.names.Word.{Word}
use Rattle.pb_asm.specs.Names.{name, words, IsWordOf, sizes, size_bits, reg_name, word_in}
use Rattle.pb_asm.specs.Cuts.{strip_prefix, strip_suffix, split_once}
use Rattle.pb_asm.specs.Operands.{minus, plus, imm_of_text, offset_of_text, reg_of_text, operand_of_text, size_in, bits_of_text, base_and_offset, at_minus, at_plus, place_of_text, comma, last, alu_operands, mov_sx_operands, load_imm_operands, load_operands, store_imm_operands, store_operands, jump_if_operands, operands, insn_of_words, line_of}
use Rattle.pb_asm.specs.Listing.{operand_text, offset_text, place_text, insn_text, listing}
use Rattle.pb_asm.specs.Texts.{some_of}
use Rattle.pb_asm.proofs.TextCuts.{before_there}
use Rattle.pb_asm.proofs.NamesAndDigits.{above, above_append, above_less, cut_there, cut_none, around_there, around_none, reg_above, name_above, word_back, reg_back, decimal_above, first_is_digit, word_there}
use Rattle.pb_reading.proofs.NumeralValues.{numeral_back}

-- ---- numbers

-- a number is read from its decimal
pub number_back : (greatest n : ℕ) → n ≤ greatest → n < 2 ^ 64 → numeral_upto AsmCode.Form AsmCode.Range greatest (decimal n) ≡ Ok n
number_back greatest n le lt = numeral_back AsmCode.Form AsmCode.Range greatest n lt le

-- a negative number is read from its digits, and one that isn't from its own
minus_back : (greatest n : ℕ) → suc n ≤ greatest → suc n < 2 ^ 64 → minus greatest (decimal (suc n)) ≡ Ok (negsuc n)
unfolding minus
minus_back greatest n le lt = let e : (suc n == 0) ≡ false = grind arith in rw (number_back greatest (suc n) le lt, e) refl

plus_back : (limit n : ℕ) → n < limit → n < 2 ^ 64 → plus limit (decimal n) ≡ Ok (pos n)
unfolding plus
plus_back limit n le lt = rw (number_back (limit - 1) n (omega (arith, le)) lt) refl

front_cases : (c x : ℕ) (xs : List ℕ) → c < 48 → (b : Bool) → nat_le 48 x ≡ b → cond b (above 48 xs) false ≡ true → strip_prefix c (x ∷ xs) ≡ None
front_cases c x xs lt true is h = let q = leb-true 48 x is in let e : (x == c) ≡ false = grind (arith, q, lt) in rw e refl
front_cases c x xs lt false is h = absurd cc

-- digits and letters don't begin with a sign
pub no_front : (c : ℕ) (xs : List ℕ) → c < 48 → above 48 xs ≡ true → strip_prefix c xs ≡ None
no_front c [] lt h = refl
no_front c (x ∷ xs) lt h = front_cases c x xs lt (nat_le 48 x) refl h

-- an immediate is read from its text, and so is an offset
imm_back : (k : ℤ) → FitsSigned w32 k → imm_of_text (signed_decimal k) ≡ Ok k
imm_back (pos n) fits = grind (arith, no_front, decimal_above, plus_back, fits.sfits)
imm_back (negsuc n) fits = grind (arith, minus_back, fits.sfits)

offset_back : (o : ℤ) → FitsSigned w16 o → offset_of_text (offset_text o) ≡ Ok o
offset_back (pos n) fits = grind (arith, plus_back, fits.sfits)
offset_back (negsuc n) fits = grind (arith, minus_back, fits.sfits)

-- ---- bits

-- a size narrower than the width is found by its bits
pub size_there : (w : Width) (z : Size) → is_narrower z w ≡ true → size_in w (size_bits z) sizes ≡ Some z
size_there Width.Bits32 Size.B h = refl
size_there Width.Bits64 Size.B h = refl
size_there Width.Bits32 Size.H h = refl
size_there Width.Bits64 Size.H h = refl
size_there Width.Bits32 Size.W h = absurd cc
size_there Width.Bits64 Size.W h = refl
size_there w Size.Dw h = absurd cc

-- a size's bits are a number that the text can have
pub few_bits : (z : Size) → size_bits z < 2 ^ 64
few_bits Size.B = omega arith
few_bits Size.H = omega arith
few_bits Size.W = omega arith
few_bits Size.Dw = omega arith

-- a move's bits are read from their decimal
bits_back : (w : Width) (z : Size) → is_narrower z w ≡ true → bits_of_text w (decimal (size_bits z)) ≡ Ok z
unfolding bits_of_text
bits_back w z h = let lt = few_bits z in rw (number_back (2 ^ 64 - 1) (size_bits z) (omega (arith, lt)) lt, size_there w z h) refl

-- ---- registers, operands, places

-- a register is read from its name
pub reg_read : (r : Reg) → reg_of_text (reg_name r) ≡ Ok r
reg_read r = rw (reg_back r) refl

-- a register's name begins with an r
pub first_letter : (r : Reg) → (slice_index (reg_name r) 0 == 114) ≡ true
first_letter Reg.R0 = refl
first_letter Reg.R1 = refl
first_letter Reg.R2 = refl
first_letter Reg.R3 = refl
first_letter Reg.R4 = refl
first_letter Reg.R5 = refl
first_letter Reg.R6 = refl
first_letter Reg.R7 = refl
first_letter Reg.R8 = refl
first_letter Reg.R9 = refl
first_letter Reg.R10 = refl

-- an immediate's text doesn't
not_r : (k : ℤ) → FitsSigned w32 k → (slice_index (signed_decimal k) 0 == 114) ≡ false
not_r (pos n) fits =
    let f = first_is_digit n (omega arith) in
    grind arith
not_r (negsuc n) fits = refl

-- so an operand is read as what it is
pub operand_back : (a : Operand) → OperandFits a → operand_of_text (operand_text a) ≡ Ok a
unfolding operand_of_text
operand_back (Operand.Imm k) fits = rw (not_r k fits, imm_back k fits) refl
operand_back (Operand.Reg r) fits = rw (first_letter r, reg_read r) refl

based_back : (b : Reg) (o : ℤ) (read : Result ℤ AsmCode) → read ≡ Ok o → base_and_offset (reg_name b) read ≡ Ok (b, o)
unfolding base_and_offset
based_back b o read h = rw (reg_read b, h) refl

-- what stands between the brackets
inside : (b : Reg) (o : ℤ) → FitsSigned w16 o → at_plus (reg_name b ++ offset_text o) (split_once 43 (reg_name b ++ offset_text o)) ≡ Ok (b, o)
inside b (pos n) fits =
    let lt : n < 2 ^ 15 = fits.sfits in
    ap (at_plus (reg_name b ++ 43 ∷ decimal n)) (around_there 43 48 (reg_name b) (decimal n) (omega arith) (reg_above b))
    ∙ based_back b (pos n) (plus (2 ^ 15) (decimal n)) (plus_back (2 ^ 15) n lt (omega (arith, lt)))
inside b (negsuc n) fits =
    let big : suc n < 2 ^ 64 = omega arith in
    let whole : above 44 (reg_name b ++ 45 ∷ decimal (suc n)) ≡ true = above_append 44 (reg_name b) (45 ∷ decimal (suc n)) (above_less 44 48 (reg_name b) (omega arith) (reg_above b)) (above_less 44 48 (decimal (suc n)) (omega arith) (decimal_above (suc n) big)) in
    ap (at_plus (reg_name b ++ 45 ∷ decimal (suc n))) (around_none 43 44 (reg_name b ++ 45 ∷ decimal (suc n)) (omega arith) whole)
    ∙ ap at_minus (around_there 45 48 (reg_name b) (decimal (suc n)) (omega arith) (reg_above b))
    ∙ based_back b (negsuc n) (minus (2 ^ 15) (decimal (suc n))) (minus_back (2 ^ 15) n (omega arith) big)

-- a place is read from its text
pub place_back : (b : Reg) (o : ℤ) → FitsSigned w16 o → place_of_text (place_text b o) ≡ Ok (b, o)
unfolding place_of_text
place_back b o fits =
    let grouped : reg_name b ++ (offset_text o ++ 93 ∷ []) ≡ (reg_name b ++ offset_text o) ++ 93 ∷ [] = sym (append_assoc (reg_name b) (offset_text o) (93 ∷ [])) in
    let e : strip_suffix 93 (reg_name b ++ (offset_text o ++ 93 ∷ [])) ≡ Some (reg_name b ++ offset_text o) = ap (strip_suffix 93) grouped ∙ before_there 93 (reg_name b ++ offset_text o) in
    ap (λ (x : Option (List ℕ)). ok_or x AsmCode.Form >>= λ inner. at_plus inner (split_once 43 inner)) e ∙ inside b o fits

-- ---- the words of a line

-- no blank in a register's name, nor in the texts of numbers, operands and places
pub reg_line : (r : Reg) → above 33 (reg_name r) ≡ true
reg_line r = above_less 33 48 (reg_name r) (omega arith) (reg_above r)

decimal_line : (n : ℕ) → n < 2 ^ 64 → above 33 (decimal n) ≡ true
decimal_line n lt = above_less 33 48 (decimal n) (omega arith) (decimal_above n lt)

signed_line : (k : ℤ) → FitsSigned w32 k → above 33 (signed_decimal k) ≡ true
signed_line (pos n) fits = let lt : n < 2 ^ 31 = fits.sfits in decimal_line n (omega (arith, lt))
signed_line (negsuc n) fits = let lt : n < 2 ^ 31 = fits.sfits in decimal_line (suc n) (omega (arith, lt))

offset_line : (o : ℤ) → FitsSigned w16 o → above 33 (offset_text o) ≡ true
offset_line (pos n) fits = let lt : n < 2 ^ 15 = fits.sfits in decimal_line n (omega (arith, lt))
offset_line (negsuc n) fits = let lt : n < 2 ^ 15 = fits.sfits in decimal_line (suc n) (omega (arith, lt))

pub operand_line : (a : Operand) → OperandFits a → above 33 (operand_text a) ≡ true
operand_line (Operand.Imm k) fits = signed_line k fits
operand_line (Operand.Reg r) fits = reg_line r

pub place_line : (b : Reg) (o : ℤ) → FitsSigned w16 o → above 33 (place_text b o) ≡ true
place_line b o fits = above_append 33 (reg_name b) (offset_text o ++ 93 ∷ []) (reg_line b) (above_append 33 (offset_text o) (93 ∷ []) (offset_line o fits) refl)

-- a line's words
abbrev pub blanks : List ℕ → List (List ℕ)
blanks text = slice_split (λ b. b == 32) text

-- a line of operands is cut after the first comma
pub comma_cut : (x y : List ℕ) → above 33 x ≡ true → blanks (x ++ (codes ", " ++ y)) ≡ (x ++ 44 ∷ []) ∷ blanks y
comma_cut x y h =
    let grouped : x ++ (codes ", " ++ y) ≡ (x ++ 44 ∷ []) ++ 32 ∷ y = sym (append_assoc x (44 ∷ []) (32 ∷ y)) in
    ap blanks grouped ∙ cut_there 32 33 (x ++ 44 ∷ []) y (omega arith) (above_append 33 x (44 ∷ []) h refl)

-- and after the first word
pub name_cut : (w : Word) (y : List ℕ) → blanks (name w ++ (codes " " ++ y)) ≡ name w ∷ blanks y
name_cut w y = cut_there 32 48 (name w) y (omega arith) (name_above w)

-- a text without a blank is one word
pub last_cut : (x : List ℕ) → above 33 x ≡ true → blanks x ≡ x ∷ []
last_cut x h = cut_none 32 33 x (omega arith) h

-- a first word and one operand
one_word : (w : Word) (x : List ℕ) → above 33 x ≡ true → blanks (name w ++ (codes " " ++ x)) ≡ name w ∷ x ∷ []
one_word w x h = name_cut w x ∙ ap (λ (ws : List (List ℕ)). name w ∷ ws) (last_cut x h)

-- and two
two_words : (w : Word) (x y : List ℕ) → above 33 x ≡ true → above 33 y ≡ true → blanks (name w ++ (codes " " ++ (x ++ (codes ", " ++ y)))) ≡ name w ∷ (x ++ 44 ∷ []) ∷ y ∷ []
two_words w x y h k = name_cut w (x ++ (codes ", " ++ y)) ∙ ap (λ (ws : List (List ℕ)). name w ∷ ws) (comma_cut x y h ∙ ap (λ (ws : List (List ℕ)). (x ++ 44 ∷ []) ∷ ws) (last_cut y k))

three_words : (w : Word) (x y z : List ℕ) → above 33 x ≡ true → above 33 y ≡ true → above 33 z ≡ true
    → blanks (name w ++ (codes " " ++ (x ++ (codes ", " ++ (y ++ (codes ", " ++ z)))))) ≡ name w ∷ (x ++ 44 ∷ []) ∷ (y ++ 44 ∷ []) ∷ z ∷ []
three_words w x y z h k l = grind (arith, name_cut, comma_cut, last_cut)

-- a line that begins with a word is read by its operands
pub first_read : (q : Profile) (w : Word) (texts : List (List ℕ)) → IsWordOf q w → insn_of_words q (name w ∷ texts) ≡ operands w texts
unfolding insn_of_words
first_read q w texts is = rw (word_back q w is) refl

-- a word is read without its comma
pub comma_read : (x : List ℕ) (texts : List (List ℕ)) → comma ((x ++ 44 ∷ []) ∷ texts) ≡ Ok (x, texts)
unfolding comma
comma_read x texts = rw (before_there 44 x) refl

-- a last word is read where it alone is left
last_read : {A : Type 0} (read : List ℕ → Result A AsmCode) (x : List ℕ) (a : A) → read x ≡ Ok a → last read (x ∷ []) ≡ Ok a
unfolding last
last_read read x a h = rw h refl

-- the first word of an instruction
abbrev first_of : Insn → Word
first_of (Insn.Alu op w d a) = Word.Alu op w
first_of (Insn.MovSx w z d s) = Word.MovSx w
first_of (Insn.Neg w d) = Word.Neg w
first_of (Insn.LoadImm d v) = Word.LoadImm
first_of (Insn.Load z x d b o) = Word.Load z x
first_of (Insn.StoreImm z b o k) = Word.StoreImm z
first_of (Insn.Store z b s o) = Word.Store z
first_of (Insn.Jump o) = Word.Jump
first_of (Insn.JumpIf c w d a o) = Word.JumpIf c w
first_of (Insn.Call k) = Word.Call
first_of Insn.Exit = Word.Exit

-- a word that either profile has is in any
has_both : (w : Word) → IsWordOf Profile.One w → IsWordOf Profile.Two w → (q : Profile) → IsWordOf q w
has_both w one two Profile.One = one
has_both w one two Profile.Two = two

-- a profile that has an extending move has its word, and so of loads
has_move : (q : Profile) (w : Width) (z : Size) (d s : Reg) → IsOf q (Insn.MovSx w z d s) → IsWordOf q (Word.MovSx w)
has_move Profile.One w z d s is = is
has_move Profile.Two w z d s is = refl

has_load : (q : Profile) (z : Size) (x : Extension) (d b : Reg) (o : ℤ) → IsOf q (Insn.Load z x d b o) → IsWordOf q (Word.Load z x)
has_load Profile.One z Extension.Zeros d b o is = refl
has_load Profile.One z Extension.Sign d b o is = is
has_load Profile.Two z Extension.Zeros d b o is = refl
has_load Profile.Two z Extension.Sign d b o is = is

-- a profile that has the instruction has its word
has_first : (q : Profile) (i : Insn) → IsOf q i → IsWordOf q (first_of i)
has_first q (Insn.Alu op w d a) is = has_both (Word.Alu op w) refl refl q
has_first q (Insn.MovSx w z d s) is = has_move q w z d s is
has_first q (Insn.Neg w d) is = has_both (Word.Neg w) refl refl q
has_first q (Insn.LoadImm d v) is = has_both Word.LoadImm refl refl q
has_first q (Insn.Load z x d b o) is = has_load q z x d b o is
has_first q (Insn.StoreImm z b o k) is = has_both (Word.StoreImm z) refl refl q
has_first q (Insn.Store z b s o) is = has_both (Word.Store z) refl refl q
has_first q (Insn.Jump o) is = has_both Word.Jump refl refl q
has_first q (Insn.JumpIf c w d a o) is = has_both (Word.JumpIf c w) refl refl q
has_first q (Insn.Call k) is = has_both Word.Call refl refl q
has_first q Insn.Exit is = has_both Word.Exit refl refl q

takes_narrower : (q : Profile) (w : Width) (z : Size) (d s : Reg) → IsOf q (Insn.MovSx w z d s) → is_narrower z w ≡ true
takes_narrower Profile.One w z d s is = absurd cc
takes_narrower Profile.Two w z d s is = is

-- each instruction is read from its line: a case for each
pub line_back : (q : Profile) (i : Insn) → Fits i → IsOf q i → line_of q (insn_text i) ≡ Ok i
unfolding alu_operands mov_sx_operands load_imm_operands load_operands store_imm_operands store_operands jump_if_operands
line_back q (Insn.Alu op w d a) fits is =
    ap (insn_of_words q) (two_words (Word.Alu op w) (reg_name d) (operand_text a) (reg_line d) (operand_line a fits)) ∙ first_read q (Word.Alu op w) _ (has_first q (Insn.Alu op w d a) is)
    ∙ rw (comma_read (reg_name d) (operand_text a ∷ []), reg_read d, last_read operand_of_text (operand_text a) a (operand_back a fits)) refl
line_back q (Insn.MovSx w z d s) fits is =
    ap (insn_of_words q) (three_words (Word.MovSx w) (reg_name d) (reg_name s) (decimal (size_bits z)) (reg_line d) (reg_line s) (decimal_line (size_bits z) (few_bits z))) ∙ first_read q (Word.MovSx w) _ (has_first q (Insn.MovSx w z d s) is)
    ∙ rw (comma_read (reg_name d) ((reg_name s ++ 44 ∷ []) ∷ decimal (size_bits z) ∷ []), reg_read d, comma_read (reg_name s) (decimal (size_bits z) ∷ []), reg_read s, last_read (bits_of_text w) (decimal (size_bits z)) z (bits_back w z (takes_narrower q w z d s is))) refl
line_back q (Insn.Neg w d) fits is =
    ap (insn_of_words q) (one_word (Word.Neg w) (reg_name d) (reg_line d)) ∙ first_read q (Word.Neg w) _ (has_first q (Insn.Neg w d) is)
    ∙ rw (last_read reg_of_text (reg_name d) d (reg_read d)) refl
line_back q (Insn.LoadImm d v) fits is =
    ap (insn_of_words q) (two_words Word.LoadImm (reg_name d) (decimal v) (reg_line d) (decimal_line v fits)) ∙ first_read q Word.LoadImm _ (has_first q (Insn.LoadImm d v) is)
    ∙ rw (comma_read (reg_name d) (decimal v ∷ []), reg_read d, last_read (numeral_upto AsmCode.Form AsmCode.Range (2 ^ 64 - 1)) (decimal v) v (number_back (2 ^ 64 - 1) v (omega (arith, fits)) fits)) refl
line_back q (Insn.Load z x d b o) fits is =
    ap (insn_of_words q) (two_words (Word.Load z x) (reg_name d) (place_text b o) (reg_line d) (place_line b o fits)) ∙ first_read q (Word.Load z x) _ (has_first q (Insn.Load z x d b o) is)
    ∙ rw (comma_read (reg_name d) (place_text b o ∷ []), reg_read d, last_read place_of_text (place_text b o) (b, o) (place_back b o fits)) refl
line_back q (Insn.StoreImm z b o k) fits is =
    ap (insn_of_words q) (two_words (Word.StoreImm z) (place_text b o) (signed_decimal k) (place_line b o fits.0) (signed_line k fits.1)) ∙ first_read q (Word.StoreImm z) _ (has_first q (Insn.StoreImm z b o k) is)
    ∙ rw (comma_read (place_text b o) (signed_decimal k ∷ []), place_back b o fits.0, last_read imm_of_text (signed_decimal k) k (imm_back k fits.1)) refl
line_back q (Insn.Store z b s o) fits is =
    ap (insn_of_words q) (two_words (Word.Store z) (place_text b o) (reg_name s) (place_line b o fits) (reg_line s)) ∙ first_read q (Word.Store z) _ (has_first q (Insn.Store z b s o) is)
    ∙ rw (comma_read (place_text b o) (reg_name s ∷ []), place_back b o fits, last_read reg_of_text (reg_name s) s (reg_read s)) refl
line_back q (Insn.Jump o) fits is =
    ap (insn_of_words q) (one_word Word.Jump (offset_text o) (offset_line o fits)) ∙ first_read q Word.Jump _ (has_first q (Insn.Jump o) is)
    ∙ rw (last_read offset_of_text (offset_text o) o (offset_back o fits)) refl
line_back q (Insn.JumpIf c w d a o) fits is =
    ap (insn_of_words q) (three_words (Word.JumpIf c w) (reg_name d) (operand_text a) (offset_text o) (reg_line d) (operand_line a fits.0) (offset_line o fits.1)) ∙ first_read q (Word.JumpIf c w) _ (has_first q (Insn.JumpIf c w d a o) is)
    ∙ rw (comma_read (reg_name d) ((operand_text a ++ 44 ∷ []) ∷ offset_text o ∷ []), reg_read d, comma_read (operand_text a) (offset_text o ∷ []), operand_back a fits.0, last_read offset_of_text (offset_text o) o (offset_back o fits.1)) refl
line_back q (Insn.Call k) fits is =
    ap (insn_of_words q) (one_word Word.Call (signed_decimal k) (signed_line k fits)) ∙ first_read q Word.Call _ (has_first q (Insn.Call k) is)
    ∙ rw (last_read imm_of_text (signed_decimal k) k (imm_back k fits)) refl
line_back q Insn.Exit fits is = ap (insn_of_words q) (cut_none 32 48 (name Word.Exit) (omega arith) (name_above Word.Exit)) ∙ first_read q Word.Exit [] (has_first q Insn.Exit is)

-- ---- the lines of a listing

-- no word has an empty name, since none is found by it
name_nil : (w : Word) (xs : List ℕ) → name w ≡ xs → 0 < length xs
unfolding words
name_nil w [] e = let h : word_in [] words ≡ Some w = sym (ap (λ (t : List ℕ). word_in t words) e) ∙ word_there w in absurd cc
name_nil w (x ∷ xs) e = omega arith

shown_cases : (x : ℕ) (xs ys : List ℕ) (b : Bool) → nat_le 48 x ≡ b → cond b (above 48 xs) false ≡ true → is_skipped ((x ∷ xs) ++ ys) ≡ false
shown_cases x xs ys true is h = let q = leb-true 48 x is in let e : (x == 35) ≡ false = grind (arith, q) in let f : (length (x ∷ (xs ++ ys)) == 0) ≡ false = grind arith in rw (f, e) refl
shown_cases x xs ys false is h = absurd cc

-- a line that begins with a letter or a digit isn't skipped
shown : (xs ys : List ℕ) → 0 < length xs → above 48 xs ≡ true → is_skipped (xs ++ ys) ≡ false
shown [] ys some h = let no : ⊥ = omega (arith, some) in absurd no
shown (x ∷ xs) ys some h = shown_cases x xs ys (nat_le 48 x) refl h

pub name_shown : (w : Word) (ys : List ℕ) → is_skipped (name w ++ ys) ≡ false
name_shown w ys = shown (name w) ys (name_nil w (name w) refl) (name_above w)

-- so an instruction's line isn't skipped
pub insn_shown : (i : Insn) → is_skipped (insn_text i) ≡ false
insn_shown (Insn.Alu op w d a) = name_shown (Word.Alu op w) (codes " " ++ (reg_name d ++ (codes ", " ++ operand_text a)))
insn_shown (Insn.MovSx w z d s) = name_shown (Word.MovSx w) (codes " " ++ (reg_name d ++ (codes ", " ++ (reg_name s ++ (codes ", " ++ decimal (size_bits z))))))
insn_shown (Insn.Neg w d) = name_shown (Word.Neg w) (codes " " ++ reg_name d)
insn_shown (Insn.LoadImm d v) = name_shown Word.LoadImm (codes " " ++ (reg_name d ++ (codes ", " ++ decimal v)))
insn_shown (Insn.Load z x d b o) = name_shown (Word.Load z x) (codes " " ++ (reg_name d ++ (codes ", " ++ place_text b o)))
insn_shown (Insn.StoreImm z b o k) = name_shown (Word.StoreImm z) (codes " " ++ (place_text b o ++ (codes ", " ++ signed_decimal k)))
insn_shown (Insn.Store z b s o) = name_shown (Word.Store z) (codes " " ++ (place_text b o ++ (codes ", " ++ reg_name s)))
insn_shown (Insn.Jump o) = name_shown Word.Jump (codes " " ++ offset_text o)
insn_shown (Insn.JumpIf c w d a o) = name_shown (Word.JumpIf c w) (codes " " ++ (reg_name d ++ (codes ", " ++ (operand_text a ++ (codes ", " ++ offset_text o)))))
insn_shown (Insn.Call k) = name_shown Word.Call (codes " " ++ signed_decimal k)
insn_shown Insn.Exit = name_shown Word.Exit []

-- no newline in a line
with_name : (w : Word) (x : List ℕ) → above 32 x ≡ true → above 32 (name w ++ (codes " " ++ x)) ≡ true
with_name w x h = above_append 32 (name w) (codes " " ++ x) (above_less 32 48 (name w) (omega arith) (name_above w)) h

less : (x : List ℕ) → above 33 x ≡ true → above 32 x ≡ true
less x h = above_less 32 33 x (omega arith) h

with_comma : (x y : List ℕ) → above 33 x ≡ true → above 32 y ≡ true → above 32 (x ++ (codes ", " ++ y)) ≡ true
with_comma x y h k = above_append 32 x (codes ", " ++ y) (less x h) k

-- no newline in an instruction's line: a case for each
insn_above : (i : Insn) → Fits i → above 32 (insn_text i) ≡ true
insn_above (Insn.Alu op w d a) fits = with_name (Word.Alu op w) (reg_name d ++ (codes ", " ++ operand_text a)) (with_comma (reg_name d) (operand_text a) (reg_line d) (less (operand_text a) (operand_line a fits)))
insn_above (Insn.MovSx w z d s) fits = with_name (Word.MovSx w) (reg_name d ++ (codes ", " ++ (reg_name s ++ (codes ", " ++ decimal (size_bits z))))) (with_comma (reg_name d) (reg_name s ++ (codes ", " ++ decimal (size_bits z))) (reg_line d) (with_comma (reg_name s) (decimal (size_bits z)) (reg_line s) (less (decimal (size_bits z)) (decimal_line (size_bits z) (few_bits z)))))
insn_above (Insn.Neg w d) fits = with_name (Word.Neg w) (reg_name d) (less (reg_name d) (reg_line d))
insn_above (Insn.LoadImm d v) fits = with_name Word.LoadImm (reg_name d ++ (codes ", " ++ decimal v)) (with_comma (reg_name d) (decimal v) (reg_line d) (less (decimal v) (decimal_line v fits)))
insn_above (Insn.Load z x d b o) fits = with_name (Word.Load z x) (reg_name d ++ (codes ", " ++ place_text b o)) (with_comma (reg_name d) (place_text b o) (reg_line d) (less (place_text b o) (place_line b o fits)))
insn_above (Insn.StoreImm z b o k) fits = with_name (Word.StoreImm z) (place_text b o ++ (codes ", " ++ signed_decimal k)) (with_comma (place_text b o) (signed_decimal k) (place_line b o fits.0) (less (signed_decimal k) (signed_line k fits.1)))
insn_above (Insn.Store z b s o) fits = with_name (Word.Store z) (place_text b o ++ (codes ", " ++ reg_name s)) (with_comma (place_text b o) (reg_name s) (place_line b o fits) (less (reg_name s) (reg_line s)))
insn_above (Insn.Jump o) fits = with_name Word.Jump (offset_text o) (less (offset_text o) (offset_line o fits))
insn_above (Insn.JumpIf c w d a o) fits = with_name (Word.JumpIf c w) (reg_name d ++ (codes ", " ++ (operand_text a ++ (codes ", " ++ offset_text o)))) (with_comma (reg_name d) (operand_text a ++ (codes ", " ++ offset_text o)) (reg_line d) (with_comma (operand_text a) (offset_text o) (operand_line a fits.0) (less (offset_text o) (offset_line o fits.1))))
insn_above (Insn.Call k) fits = with_name Word.Call (signed_decimal k) (less (signed_decimal k) (signed_line k fits))
insn_above Insn.Exit fits = above_less 32 48 (name Word.Exit) (omega arith) (name_above Word.Exit)

-- a text's lines
abbrev pub newlines : List ℕ → List (List ℕ)
newlines text = slice_split (λ b. b == 10) text

-- the lines of a listing are those of its instructions, and an empty one after the last newline
pub lines_cut : (p : List Insn) → AllByRecursion Fits p → newlines (listing p) ≡ map insn_text p ++ [] ∷ []
lines_cut [] fits = refl
lines_cut (i ∷ p) fits =
    ap newlines (append_assoc (insn_text i) (10 ∷ []) (listing p)) ∙ cut_there 10 32 (insn_text i) (listing p) (omega arith) (insn_above i fits.0)
    ∙ ap (λ (ls : List (List ℕ)). insn_text i ∷ ls) (lines_cut p fits.1)

-- ---- and of a text

-- two lists of instructions take the slots of both
pub slots_append : (p q : List Insn) → slots (p ++ q) ≡ slots p + slots q
slots_append [] q = omega arith
slots_append (i ∷ p) q = grind (arith, length-append, slots_append p q)

-- instructions that take some slots are a program
pub some_there : (q : Profile) (is : List Insn) → 0 < slots is → some_of q is ≡ Ok (record { profile = q; insns = is })
some_there q [] some = let no : ⊥ = omega (arith, some) in absurd no
some_there q (i ∷ p) some = refl
