-- A line that is refused as out of range is an instruction's up to a number beyond its field.
use Rattle.std.proofs.Common.{◌≡◌, ◌≢◌, ◌⊎◌, ℕ, ◌+◌, ◌-◌, ◌^◌, ◌<◌, ◌↔◌, ℤ, Bool, true, cond, List, [], ◌∷◌, ◌++◌, Option, Some, None, Result, Ok, Err, refl, sym, ap, subst, ◌∙◌, append_assoc, append-nil, arith, inl, inr, ◌==◌, codes, slice_index, ok_or}
use Rattle.std.specs.List.{slice_split, join_with_byte}
use Rattle.std.specs.Str.Parse.{digits_value}
use Rattle.std.proofs.lemmas.List.Splits.{join_with_byte-slice_split}
use Rattle.pb_asm.specs.Words.{Insn, Operand, Reg, AluOp, Cmp, Width, Size, Extension, Profile, is_narrower, ◌>>=◌, numeral_upto, no_word, numbered}
use Rattle.pb_asm.specs.declared.fault.AsmCode.{AsmCode}
use Rattle.pb_asm.specs.declared.names.Word.{Word}
use Rattle.pb_asm.specs.Names.{name, IsWordOf, sizes, size_bits, word_named, reg_name, reg_named}
use Rattle.pb_asm.specs.Cuts.{strip_prefix, strip_suffix, split_once}
use Rattle.pb_asm.specs.Listing.{operand_text, place_text}
use Rattle.pb_asm.specs.Operands.{minus, plus, signed_or, imm_of_text, plus_or_fault, offset_of_text, reg_of_text, operand_of_text, size_in, bits_of_text, base_and_offset, at_minus, at_plus, place_of_text, comma, last, alu_operands, mov_sx_operands, load_imm_operands, load_operands, store_imm_operands, store_operands, jump_if_operands, map_insn, operands, insn_of_words, line_of}
use Rattle.pb_asm.specs.OutOfRange.{IsAbove, IsImmBeyond, IsOffsetBeyond, IsUnlisted, NumberPlace, AluImm, MovSxBits, LoadImmImm, LoadOffset, StoreImmOffset, StoreImmImm, StoreOffset, JumpOffset, JumpIfImm, JumpIfOffset, CallImm, place_with, place_word, line_with, FitsBefore, IsBeyond, EndsWord, IsOutOfRange}
use Rattle.pb_asm.specs.Codes.{asm_code}
use Rattle.pb_asm.specs.Texts.{with_insn_line}
use Rattle.pb_asm.proofs.ListingsReadBack.{few_bits}
use Rattle.pb_reading.proofs.Readings.{there_ok}
use Rattle.pb_asm.proofs.OneSpelling.{behind_whole, before_whole, around_whole, reg_is, word_is, operand_is, place_is, comma_is}
use Rattle.pb_asm.proofs.FaultsTold.{same_fault, own_told}
use Rattle.pb_asm.proofs.NumbersBeyond.{range_told}

-- ---- what a reading that ended out of range has read

-- a reading ended out of range
abbrev IsOver : {A : Type 0} → Result A AsmCode → Type 0
IsOver r = r ≡ Err AsmCode.Range

-- of two readings one after the other, the first did, or the second
then_over : {A B P : Type 0} (r : Result A AsmCode) (f : A → Result B AsmCode) → IsOver (r >>= f) → (IsOver r → P) → ((x : A) → r ≡ Ok x → IsOver (f x) → P) → P
then_over (Ok x) f h first later = later x refl h
then_over {A = A} {B = B} (Err c) f h first later = first (same_fault B A c AsmCode.Range h)

ok_never : {A P : Type 0} (x : A) → IsOver (Ok x) → P
ok_never x h = absurd cc

-- what isn't there is of another form, and never out of range
there_never : {A P : Type 0} (o : Option A) → IsOver (ok_or o AsmCode.Form) → P
there_never o h = grind arith

reg_never : {P : Type 0} (text : List ℕ) → IsOver (reg_of_text text) → P
reg_never text h = there_never (reg_named text) h

-- ---- numbers

-- a number out of range is a numeral above the greatest
number_beyond : (most : ℕ) (text : List ℕ) → IsOver (numeral_upto AsmCode.Form AsmCode.Range most text) → IsAbove most text
number_beyond most text h = grind arith

not_zero_never : {P : Type 0} (b : Bool) (z : ℤ) → IsOver (cond b (Err AsmCode.Form) (Ok z)) → P
not_zero_never b z h = grind arith

-- so is one after a minus, and one without
minus_beyond : (most : ℕ) (digits : List ℕ) → IsOver (minus most digits) → IsAbove most digits
unfolding minus
minus_beyond most digits h = then_over (numeral_upto AsmCode.Form AsmCode.Range most digits) _ h (number_beyond most digits) (λ n is over. not_zero_never (n == 0) _ over)

plus_beyond : (limit : ℕ) (digits : List ℕ) → IsOver (plus limit digits) → IsAbove (limit - 1) digits
unfolding plus
plus_beyond limit digits h = then_over (numeral_upto AsmCode.Form AsmCode.Range (limit - 1) digits) _ h (number_beyond (limit - 1) digits) (λ n is over. ok_never _ over)

imm_signs_beyond : (text : List ℕ) (o : Option (List ℕ)) → strip_prefix 45 text ≡ o → IsOver (signed_or (plus (2 ^ 31) text) (2 ^ 31) o) → IsImmBeyond text
imm_signs_beyond text o is h = grind (arith, behind_whole, minus_beyond, plus_beyond)

-- an immediate out of range is beyond its field
imm_beyond : (text : List ℕ) → IsOver (imm_of_text text) → IsImmBeyond text
imm_beyond text h = imm_signs_beyond text (strip_prefix 45 text) refl h

plus_sign_beyond : (text : List ℕ) (o : Option (List ℕ)) → strip_prefix 43 text ≡ o → IsOver (plus_or_fault o) → IsOffsetBeyond text
plus_sign_beyond text o is h = grind (arith, behind_whole, plus_beyond)

offset_signs_beyond : (text : List ℕ) (o : Option (List ℕ)) → strip_prefix 45 text ≡ o → IsOver (signed_or (plus_or_fault (strip_prefix 43 text)) (2 ^ 15) o) → IsOffsetBeyond text
offset_signs_beyond text o is h = grind (arith, behind_whole, minus_beyond, plus_sign_beyond)

-- and so is an offset
offset_beyond : (text : List ℕ) → IsOver (offset_of_text text) → IsOffsetBeyond text
offset_beyond text h = offset_signs_beyond text (strip_prefix 45 text) refl h

operand_kinds_beyond : (text : List ℕ) (b : Bool) → IsOver (cond b (reg_of_text text >>= λ r. Ok (Operand.Reg r)) (imm_of_text text >>= λ k. Ok (Operand.Imm k))) → IsImmBeyond text
operand_kinds_beyond text b h = grind (arith, then_over, reg_never, ok_never, imm_beyond)

-- an operand out of range is such an immediate, since a register never is
operand_beyond : (text : List ℕ) → IsOver (operand_of_text text) → IsImmBeyond text
unfolding operand_of_text
operand_beyond text h = operand_kinds_beyond text (slice_index text 0 == 114) h

-- ---- bits

-- these digits are the bits of no size that is narrower than the width
abbrev Unlisted : Width → ℕ → Type 0
Unlisted w n = (z : Size) → is_narrower z w ≡ true → n ≢ size_bits z

too_many : (w : Width) (n : ℕ) → 2 ^ 64 - 1 < n → Unlisted w n
too_many w n over z narrow same = let few = few_bits z in let no : ⊥ = omega (arith, few, over, same) in absurd no

never_found : (o : Option Size) → IsOver (ok_or o AsmCode.Range) → o ≡ None
never_found o h = grind arith

many_beyond : (w : Width) (text : List ℕ) → IsAbove (2 ^ 64 - 1) text → IsUnlisted w text
many_beyond w text h = record { numeral = h.numeral; unlisted = too_many w (digits_value 10 text) h.above }

unlisted_beyond : (w : Width) (text : List ℕ) (n : ℕ) → numeral_upto AsmCode.Form AsmCode.Range (2 ^ 64 - 1) text ≡ Ok n → size_in w n sizes ≡ None → IsUnlisted w text
unlisted_beyond w text n is none = grind arith

-- a move's bits out of range are those of no narrower size
bits_beyond : (w : Width) (text : List ℕ) → IsOver (bits_of_text w text) → IsUnlisted w text
unfolding bits_of_text
bits_beyond w text h = then_over (numeral_upto AsmCode.Form AsmCode.Range (2 ^ 64 - 1) text) _ h (λ over. many_beyond w text (number_beyond (2 ^ 64 - 1) text over)) (λ n is over. unlisted_beyond w text n is (never_found (size_in w n sizes) over))

-- ---- places

-- a register, and after it an offset beyond its field
abbrev Inside : List ℕ → Type 0
Inside text = (base : Reg) × (number : List ℕ) × (text ≡ reg_name base ++ number) × IsOffsetBeyond number

based_beyond : (register digits : List ℕ) (c : ℕ) (offset : Result ℤ AsmCode) → IsOver (base_and_offset register offset) → (IsOver offset → IsOffsetBeyond (c ∷ digits)) → Inside (register ++ c ∷ digits)
unfolding base_and_offset
based_beyond register digits c offset h beyond =
    then_over (reg_of_text register) _ h (reg_never register) (λ r is over. then_over offset _ over (λ first. (r, c ∷ digits, ap (λ (t : List ℕ). t ++ c ∷ digits) (reg_is register r is), beyond first)) (λ o at end. ok_never _ end))

at_minus_beyond : (text : List ℕ) (o : Option (List ℕ × List ℕ)) → split_once 45 text ≡ o → IsOver (at_minus o) → Inside text
at_minus_beyond text (Some sides) is h =
    subst Inside (sym (around_whole 45 text sides is))
    (based_beyond sides.0 sides.1 45 (minus (2 ^ 15) sides.1) h (λ over. inr (sides.1, refl, minus_beyond (2 ^ 15) sides.1 over)))
at_minus_beyond text None is h = absurd cc

at_plus_beyond : (text : List ℕ) (o : Option (List ℕ × List ℕ)) → split_once 43 text ≡ o → IsOver (at_plus text o) → Inside text
at_plus_beyond text (Some sides) is h =
    subst Inside (sym (around_whole 43 text sides is))
    (based_beyond sides.0 sides.1 43 (plus (2 ^ 15) sides.1) h (λ over. inl (sides.1, refl, plus_beyond (2 ^ 15) sides.1 over)))
at_plus_beyond text None is h = at_minus_beyond text (split_once 45 text) refl h

bracketed : (text front inner : List ℕ) → text ≡ 91 ∷ front → front ≡ inner ++ 93 ∷ [] → Inside inner → (base : Reg) × (number : List ℕ) × (text ≡ place_with base number) × IsOffsetBeyond number
bracketed text front inner begins ends p = (p.0, p.1, begins ∙ ap (λ (t : List ℕ). 91 ∷ t) (ends ∙ ap (λ (t : List ℕ). t ++ 93 ∷ []) p.2 ∙ append_assoc (reg_name p.0) p.1 (93 ∷ [])), p.3)

-- a place out of range has an offset beyond its field
place_beyond : (text : List ℕ) → IsOver (place_of_text text) → (base : Reg) × (number : List ℕ) × (text ≡ place_with base number) × IsOffsetBeyond number
unfolding place_of_text
place_beyond text h =
    then_over (ok_or (strip_prefix 91 text) AsmCode.Form) _ h (there_never (strip_prefix 91 text)) (λ front begins later.
    then_over (ok_or (strip_suffix 93 front) AsmCode.Form) _ later (there_never (strip_suffix 93 front)) (λ inner ends over.
    bracketed text front inner (behind_whole 91 text front (there_ok _ AsmCode.Form front begins)) (before_whole 93 front inner (omega arith) (there_ok _ AsmCode.Form inner ends)) (at_plus_beyond inner (split_once 43 inner) refl over)))

-- ---- the words of a line

-- a missing comma is of another form, and so is a word too many
comma_never : {P : Type 0} (texts : List (List ℕ)) → IsOver (comma texts) → P
unfolding comma
comma_never texts h = grind arith

ended_never : {P : Type 0} (texts : List (List ℕ)) → IsOver (no_word AsmCode.Form texts) → P
ended_never texts h = grind arith

-- the next word is out of range
abbrev Next : {A : Type 0} → (List ℕ → Result A AsmCode) → List (List ℕ) → Type 0
Next read texts = (text : List ℕ) × (others : List (List ℕ)) × (texts ≡ text ∷ others) × IsOver (read text)

-- a last word out of range is the next one, whatever stands after it
last_beyond : {A : Type 0} (read : List ℕ → Result A AsmCode) (texts : List (List ℕ)) → IsOver (last read texts) → Next read texts
unfolding last
last_beyond read [] h = absurd cc
last_beyond read (text ∷ others) h = then_over (read text) _ h (λ over. (text, others, refl, over)) (λ x is later. then_over (no_word AsmCode.Form others) _ later (ended_never others) (λ end at over. ok_never _ over))

last_reg_never : {P : Type 0} (texts : List (List ℕ)) → IsOver (last reg_of_text texts) → P
last_reg_never texts h = let n = last_beyond reg_of_text texts h in reg_never n.0 n.3

-- what stands after a word
abbrev rest_of : List (List ℕ) → List ℕ
rest_of [] = []
rest_of (text ∷ texts) = 32 ∷ join_with_byte 32 (text ∷ texts)

-- after a word the line ends, or a blank comes
rest_ends : (texts : List (List ℕ)) → EndsWord (rest_of texts)
rest_ends [] = inl refl
rest_ends (text ∷ texts) = inr (join_with_byte 32 (text ∷ texts), refl)

-- words joined are the first one and what stands after it
joined : (text : List ℕ) (texts : List (List ℕ)) → join_with_byte 32 (text ∷ texts) ≡ text ++ rest_of texts
joined text [] = sym (append-nil text)
joined text (next ∷ texts) = refl

-- a first word and the one at fault; one before it, with its comma; and two
first_there : (w : Word) (texts others : List (List ℕ)) (x : List ℕ) → texts ≡ x ∷ others → join_with_byte 32 (name w ∷ texts) ≡ name w ++ (codes " " ++ (x ++ rest_of others))
first_there w texts others x is = ap (λ (ws : List (List ℕ)). join_with_byte 32 (name w ∷ ws)) is ∙ ap (λ (t : List ℕ). name w ++ 32 ∷ t) (joined x others)

comma_there : (u y : List ℕ) (others : List (List ℕ)) → join_with_byte 32 ((u ++ 44 ∷ []) ∷ y ∷ others) ≡ u ++ (codes ", " ++ (y ++ rest_of others))
comma_there u y others = append_assoc u (44 ∷ []) (32 ∷ join_with_byte 32 (y ∷ others)) ∙ ap (λ (t : List ℕ). u ++ 44 ∷ 32 ∷ t) (joined y others)

second_there : (w : Word) (texts others : List (List ℕ)) (first : List ℕ × List (List ℕ)) (u y : List ℕ) → comma texts ≡ Ok first → first.0 ≡ u → first.1 ≡ y ∷ others
    → join_with_byte 32 (name w ∷ texts) ≡ name w ++ (codes " " ++ (u ++ (codes ", " ++ (y ++ rest_of others))))
second_there w texts others first u y begins same ends =
    ap (λ (ws : List (List ℕ)). join_with_byte 32 (name w ∷ ws)) (comma_is texts first begins ∙ ap (λ (t : List ℕ). (t ++ 44 ∷ []) ∷ first.1) same ∙ ap (λ (ws : List (List ℕ)). (u ++ 44 ∷ []) ∷ ws) ends)
    ∙ ap (λ (t : List ℕ). name w ++ 32 ∷ t) (comma_there u y others)

third_there : (w : Word) (texts others : List (List ℕ)) (first second : List ℕ × List (List ℕ)) (t u y : List ℕ) → comma texts ≡ Ok first → comma first.1 ≡ Ok second → first.0 ≡ t → second.0 ≡ u → second.1 ≡ y ∷ others
    → join_with_byte 32 (name w ∷ texts) ≡ name w ++ (codes " " ++ (t ++ (codes ", " ++ (u ++ (codes ", " ++ (y ++ rest_of others))))))
third_there w texts others first second t u y begins goes same_t same_u ends =
    let tail : first.1 ≡ (u ++ 44 ∷ []) ∷ y ∷ others = comma_is first.1 second goes ∙ ap (λ (r : List ℕ). (r ++ 44 ∷ []) ∷ second.1) same_u ∙ ap (λ (ws : List (List ℕ)). (u ++ 44 ∷ []) ∷ ws) ends in
    ap (λ (ws : List (List ℕ)). join_with_byte 32 (name w ∷ ws)) (comma_is texts first begins ∙ ap (λ (r : List ℕ). (r ++ 44 ∷ []) ∷ first.1) same_t ∙ ap (λ (ws : List (List ℕ)). (t ++ 44 ∷ []) ∷ ws) tail)
    ∙ ap (λ (r : List ℕ). name w ++ 32 ∷ r) (append_assoc t (44 ∷ []) (32 ∷ join_with_byte 32 ((u ++ 44 ∷ []) ∷ y ∷ others)) ∙ ap (λ (r : List ℕ). t ++ 44 ∷ 32 ∷ r) (comma_there u y others))

-- ---- the operands of each word

-- a line of these words is out of range
abbrev Beyond : Word → List (List ℕ) → Type 0
Beyond w texts = (q : Profile) → IsWordOf q w → IsOutOfRange q (join_with_byte 32 (name w ∷ texts))

-- a line with a number beyond its field at this place is out of range
beyond_there : (w : Word) (texts : List (List ℕ)) (f : NumberPlace) (number : List ℕ) (others : List (List ℕ)) → place_word f ≡ w → FitsBefore f → IsBeyond f number → join_with_byte 32 (name w ∷ texts) ≡ line_with f number (rest_of others) → Beyond w texts
beyond_there w texts f number others of fits beyond is q has = record { place = f; number = number; rest = rest_of others; of_profile = subst (IsWordOf q) (sym of) has; fits = fits; beyond = beyond; ends = rest_ends others; parts = is }

-- operands out of range make such a line, after each first word: this one and those below
alu_beyond : (op : AluOp) (w : Width) (texts : List (List ℕ)) → IsOver (alu_operands (Insn.Alu op w) texts) → Beyond (Word.Alu op w) texts
unfolding alu_operands
alu_beyond op w texts h =
    then_over (comma texts) _ h (comma_never texts) (λ first begins a.
    then_over (reg_of_text first.0) _ a (reg_never first.0) (λ d is b.
    then_over (last operand_of_text first.1) _ b (λ over.
    let n = last_beyond operand_of_text first.1 over in
    beyond_there (Word.Alu op w) texts (AluImm op w d) n.0 n.1 refl tt (operand_beyond n.0 n.3) (second_there (Word.Alu op w) texts n.1 first (reg_name d) n.0 begins (reg_is first.0 d is) n.2))
    (λ x at over. ok_never _ over)))

mov_sx_beyond : (w : Width) (texts : List (List ℕ)) → IsOver (mov_sx_operands w texts) → Beyond (Word.MovSx w) texts
unfolding mov_sx_operands
mov_sx_beyond w texts h =
    then_over (comma texts) _ h (comma_never texts) (λ first begins a.
    then_over (reg_of_text first.0) _ a (reg_never first.0) (λ d is b.
    then_over (comma first.1) _ b (comma_never first.1) (λ second goes e.
    then_over (reg_of_text second.0) _ e (reg_never second.0) (λ s at g.
    then_over (last (bits_of_text w) second.1) _ g (λ over.
    let n = last_beyond (bits_of_text w) second.1 over in
    beyond_there (Word.MovSx w) texts (MovSxBits w d s) n.0 n.1 refl tt (bits_beyond w n.0 n.3) (third_there (Word.MovSx w) texts n.1 first second (reg_name d) (reg_name s) n.0 begins goes (reg_is first.0 d is) (reg_is second.0 s at) n.2))
    (λ x there over. ok_never _ over)))))

wide_beyond : (texts : List (List ℕ)) → IsOver (load_imm_operands texts) → Beyond Word.LoadImm texts
unfolding load_imm_operands
wide_beyond texts h =
    then_over (comma texts) _ h (comma_never texts) (λ first begins a.
    then_over (reg_of_text first.0) _ a (reg_never first.0) (λ d is b.
    then_over (last (numeral_upto AsmCode.Form AsmCode.Range (2 ^ 64 - 1)) first.1) _ b (λ over.
    let n = last_beyond (numeral_upto AsmCode.Form AsmCode.Range (2 ^ 64 - 1)) first.1 over in
    beyond_there Word.LoadImm texts (LoadImmImm d) n.0 n.1 refl tt (number_beyond (2 ^ 64 - 1) n.0 n.3) (second_there Word.LoadImm texts n.1 first (reg_name d) n.0 begins (reg_is first.0 d is) n.2))
    (λ x at over. ok_never _ over)))

load_beyond : (z : Size) (x : Extension) (texts : List (List ℕ)) → IsOver (load_operands (Insn.Load z x) texts) → Beyond (Word.Load z x) texts
unfolding load_operands
load_beyond z x texts h =
    then_over (comma texts) _ h (comma_never texts) (λ first begins a.
    then_over (reg_of_text first.0) _ a (reg_never first.0) (λ d is b.
    then_over (last place_of_text first.1) _ b (λ over.
    let n = last_beyond place_of_text first.1 over in
    let p = place_beyond n.0 n.3 in
    beyond_there (Word.Load z x) texts (LoadOffset z x d p.0) p.1 n.1 refl tt p.3 (second_there (Word.Load z x) texts n.1 first (reg_name d) (place_with p.0 p.1) begins (reg_is first.0 d is) (n.2 ∙ ap (λ (t : List ℕ). t ∷ n.1) p.2)))
    (λ x at over. ok_never _ over)))

-- a place with its comma, as the word at fault
place_first : (w : Word) (texts : List (List ℕ)) (first : List ℕ × List (List ℕ)) (base : Reg) (number : List ℕ) → comma texts ≡ Ok first → first.0 ≡ place_with base number
    → join_with_byte 32 (name w ∷ texts) ≡ name w ++ (codes " " ++ ((place_with base number ++ codes ",") ++ rest_of first.1))
place_first w texts first base number begins is = first_there w texts first.1 (place_with base number ++ 44 ∷ []) (comma_is texts first begins ∙ ap (λ (t : List ℕ). (t ++ 44 ∷ []) ∷ first.1) is)

store_imm_beyond : (z : Size) (texts : List (List ℕ)) → IsOver (store_imm_operands (Insn.StoreImm z) texts) → Beyond (Word.StoreImm z) texts
unfolding store_imm_operands
store_imm_beyond z texts h =
    then_over (comma texts) _ h (comma_never texts) (λ first begins a.
    then_over (place_of_text first.0) _ a (λ over.
    let p = place_beyond first.0 over in
    beyond_there (Word.StoreImm z) texts (StoreImmOffset z p.0) p.1 first.1 refl tt p.3 (place_first (Word.StoreImm z) texts first p.0 p.1 begins p.2))
    (λ p at b.
    then_over (last imm_of_text first.1) _ b (λ over.
    let n = last_beyond imm_of_text first.1 over in
    let q = place_is first.0 p at in
    beyond_there (Word.StoreImm z) texts (StoreImmImm z p.0 p.1) n.0 n.1 refl q.1 (imm_beyond n.0 n.3) (second_there (Word.StoreImm z) texts n.1 first (place_text p.0 p.1) n.0 begins q.0 n.2))
    (λ x is over. ok_never _ over)))

store_beyond : (z : Size) (texts : List (List ℕ)) → IsOver (store_operands (Insn.Store z) texts) → Beyond (Word.Store z) texts
unfolding store_operands
store_beyond z texts h =
    then_over (comma texts) _ h (comma_never texts) (λ first begins a.
    then_over (place_of_text first.0) _ a (λ over.
    let p = place_beyond first.0 over in
    beyond_there (Word.Store z) texts (StoreOffset z p.0) p.1 first.1 refl tt p.3 (place_first (Word.Store z) texts first p.0 p.1 begins p.2))
    (λ p at b. then_over (last reg_of_text first.1) _ b (last_reg_never first.1) (λ x is over. ok_never _ over)))

jump_if_beyond : (c : Cmp) (w : Width) (texts : List (List ℕ)) → IsOver (jump_if_operands (Insn.JumpIf c w) texts) → Beyond (Word.JumpIf c w) texts
unfolding jump_if_operands
jump_if_beyond c w texts h =
    then_over (comma texts) _ h (comma_never texts) (λ first begins a.
    then_over (reg_of_text first.0) _ a (reg_never first.0) (λ d is b.
    then_over (comma first.1) _ b (comma_never first.1) (λ second goes e.
    then_over (operand_of_text second.0) _ e (λ over.
    beyond_there (Word.JumpIf c w) texts (JumpIfImm c w d) second.0 second.1 refl tt (operand_beyond second.0 over) (second_there (Word.JumpIf c w) texts second.1 first (reg_name d) (second.0 ++ 44 ∷ []) begins (reg_is first.0 d is) (comma_is first.1 second goes)))
    (λ s at g.
    then_over (last offset_of_text second.1) _ g (λ over.
    let n = last_beyond offset_of_text second.1 over in
    let q = operand_is second.0 s at in
    beyond_there (Word.JumpIf c w) texts (JumpIfOffset c w d s) n.0 n.1 refl q.1 (offset_beyond n.0 n.3) (third_there (Word.JumpIf c w) texts n.1 first second (reg_name d) (operand_text s) n.0 begins goes (reg_is first.0 d is) q.0 n.2))
    (λ x there over. ok_never _ over)))))

neg_never : {P : Type 0} (w : Width) (texts : List (List ℕ)) → IsOver (map_insn (Insn.Neg w) (last reg_of_text texts)) → P
neg_never w texts h = then_over (last reg_of_text texts) _ h (last_reg_never texts) (λ x is over. ok_never _ over)

jump_beyond : (texts : List (List ℕ)) → IsOver (map_insn Insn.Jump (last offset_of_text texts)) → Beyond Word.Jump texts
jump_beyond texts h =
    then_over (last offset_of_text texts) _ h (λ over.
    let n = last_beyond offset_of_text texts over in
    beyond_there Word.Jump texts JumpOffset n.0 n.1 refl tt (offset_beyond n.0 n.3) (first_there Word.Jump texts n.1 n.0 n.2))
    (λ x is over. ok_never _ over)

call_beyond : (texts : List (List ℕ)) → IsOver (map_insn Insn.Call (last imm_of_text texts)) → Beyond Word.Call texts
call_beyond texts h =
    then_over (last imm_of_text texts) _ h (λ over.
    let n = last_beyond imm_of_text texts over in
    beyond_there Word.Call texts CallImm n.0 n.1 refl tt (imm_beyond n.0 n.3) (first_there Word.Call texts n.1 n.0 n.2))
    (λ x is over. ok_never _ over)

exit_never : {P : Type 0} (texts : List (List ℕ)) → IsOver (map_insn (λ _. Insn.Exit) (no_word AsmCode.Form texts)) → P
exit_never texts h = then_over (no_word AsmCode.Form texts) _ h (ended_never texts) (λ x is over. ok_never _ over)

-- so whatever the first word is, the line is out of range as the definition says
operands_beyond : (w : Word) (texts : List (List ℕ)) → IsOver (operands w texts) → Beyond w texts
operands_beyond (Word.Alu op w) texts h = alu_beyond op w texts h
operands_beyond (Word.MovSx w) texts h = mov_sx_beyond w texts h
operands_beyond (Word.Neg w) texts h = neg_never w texts h
operands_beyond Word.LoadImm texts h = wide_beyond texts h
operands_beyond (Word.Load z x) texts h = load_beyond z x texts h
operands_beyond (Word.StoreImm z) texts h = store_imm_beyond z texts h
operands_beyond (Word.Store z) texts h = store_beyond z texts h
operands_beyond Word.Jump texts h = jump_beyond texts h
operands_beyond (Word.JumpIf c w) texts h = jump_if_beyond c w texts h
operands_beyond Word.Call texts h = call_beyond texts h
operands_beyond Word.Exit texts h = exit_never texts h

unnamed_never : {P : Type 0} (o : Option Word) → IsOver (ok_or o AsmCode.Word) → P
unnamed_never o h = grind arith

-- words out of range are those of such a line
words_beyond : (q : Profile) (texts : List (List ℕ)) → IsOver (insn_of_words q texts) → IsOutOfRange q (join_with_byte 32 texts)
unfolding insn_of_words
words_beyond q [] h = absurd cc
words_beyond q (text ∷ texts) h =
    then_over (ok_or (word_named q text) AsmCode.Word) _ h (unnamed_never (word_named q text)) (λ w is over.
    let n = word_is q text AsmCode.Word w is in
    subst (λ (t : List ℕ). IsOutOfRange q (join_with_byte 32 (t ∷ texts))) (sym n.0) (operands_beyond w texts over q n.1))

-- and so is a line
line_beyond : (q : Profile) (line : List ℕ) → IsOver (line_of q line) → IsOutOfRange q line
line_beyond q line h = subst (IsOutOfRange q) (join_with_byte-slice_split 32 line) (words_beyond q (slice_split (λ b. b == 32) line) h)

-- a line is refused with 82 exactly if it is out of range
pub range_is : (q : Profile) (line : List ℕ) → (line_of q line ≡ Err AsmCode.Range) ↔ IsOutOfRange q line
range_is q line = (line_beyond q line, λ h. ap (line_of q) h.parts ∙ range_told q h.place h.number h.rest h.of_profile h.fits h.beyond h.ends)

-- ---- the code as it is reported

-- if 82 is reported at a number, its line ended out of range
told_range : (n : ℕ) (r : Result (List Insn) AsmCode) → numbered asm_code n r ≡ Err (n + 1, 82) → IsOver r
told_range n r h = grind arith

-- that line is out of range by itself, since 83 is another code
own_beyond : (q : Profile) (line : List ℕ) → (AsmCode.Range ≡ AsmCode.TooLong) ⊎ IsOver (line_of q line) → IsOutOfRange q line
own_beyond q line w = grind (arith, line_beyond)

-- so no other line is refused with 82
pub told_only : (q : Profile) (n : ℕ) (before : List Insn) (line : List ℕ) → numbered asm_code n (with_insn_line q before line) ≡ Err (n + 1, 82) → IsOutOfRange q line
told_only q n before line h = own_beyond q line (own_told q before line AsmCode.Range (told_range n (with_insn_line q before line) h))
