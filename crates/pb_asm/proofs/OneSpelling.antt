-- What is read as an operand, a line or a text is written as the listing writes it.
use Rattle.std.proofs.Common.{◌≡◌, ℕ, suc, ◌-◌, ◌^◌, ◌<◌, ◌≤◌, ◌↔◌, ℤ, pos, negsuc, Bool, true, false, cond, List, [], ◌∷◌, ◌++◌, length, Option, Some, None, Result, Ok, refl, sym, ap, subst, ◌∙◌, append_assoc, arith, ◌==◌, ◌&&◌, nat_lt, codes, slice_index, FitsSigned, IfOk, w16, w32, bytes_eq, ok_or}
use Rattle.std.specs.List.{slice_split, join_with_byte, position_or_len, before_first, after_first}
use Rattle.std.specs.Fmt.{decimal, signed_decimal}
use Rattle.std.proofs.lemmas.Bool.{eqb-true, ltb-true}
use Rattle.std.proofs.lemmas.List.Sums.{split_at_first, passes_at_first}
use Rattle.std.proofs.lemmas.List.Splits.{join_with_byte-slice_split}
use Rattle.std.proofs.lemmas.Slice.Eq.{bytes_eq-Decides}
use Rattle.pb_asm.specs.Words.{Insn, Operand, Reg, AluOp, Cmp, Width, Size, Extension, Profile, is_narrower, IsOf, OperandFits, Fits, ◌>>=◌, Gives, numeral_upto, no_word}
use Rattle.pb_asm.specs.declared.fault.AsmCode.{AsmCode}
use Rattle.pb_asm.specs.declared.names.Word.{Word}
use Rattle.pb_asm.specs.Names.{name, words, IsWordOf, is_word_of, size_bits, registers, word_in, if_word_of, word_named, reg_name, reg_spelled, reg_named}
use Rattle.pb_asm.specs.Cuts.{strip_prefix, strip_suffix, split_once}
use Rattle.pb_asm.specs.Operands.{minus, plus, signed_or, imm_of_text, plus_or_fault, offset_of_text, reg_of_text, operand_of_text, size_in, bits_of_text, base_and_offset, at_minus, at_plus, place_of_text, comma, last, alu_operands, mov_sx_operands, load_imm_operands, load_operands, store_imm_operands, store_operands, jump_if_operands, map_insn, operands, insn_of_words, line_of}
use Rattle.pb_asm.specs.Listing.{operand_text, offset_text, place_text, insn_text}
use Rattle.pb_asm.proofs.TextCuts.{split_end}
use Rattle.pb_asm.proofs.ListingsReadBack.{line_back}
use Rattle.pb_reading.proofs.NumeralValues.{numeral_is}
use Rattle.pb_reading.proofs.Readings.{then_ok, ok_is, else_ok, there_ok}

-- ---- what a reading that ended well has read

some_is : {A : Type 0} (x y : A) (o : Option A) → o ≡ Some x → o ≡ Some y → x ≡ y
some_is x y o g h = cc

if_some : {A : Type 0} (b : Bool) (x y : A) → cond b (Some x) None ≡ Some y → (b ≡ true) × (x ≡ y)
if_some b x y h = grind arith

-- ---- cuts

-- a text that was cut after its first character begins with it
pub behind_whole : (c : ℕ) (text rest : List ℕ) → strip_prefix c text ≡ Some rest → text ≡ c ∷ rest
behind_whole c text rest h = grind arith

-- one that was cut before its last ends with it
pub before_whole : (c : ℕ) (text front : List ℕ) → 0 < c → strip_suffix c text ≡ Some front → text ≡ front ++ c ∷ []
before_whole c text front some h = grind (arith, if_some, split_end, eqb-true)

-- one that was cut in two has it between both sides
pub around_whole : (c : ℕ) (text : List ℕ) (sides : List ℕ × List ℕ) → split_once c text ≡ Some sides → text ≡ sides.0 ++ c ∷ sides.1
around_whole c text sides h =
    let p = if_some (nat_lt (position_or_len (λ b. b == c) text) (length text)) (before_first (λ b. b == c) text, after_first (λ b. b == c) text) sides h in
    let lt : position_or_len (λ b. b == c) text < length text = ltb-true _ _ p.0 in
    split_at_first (λ b. b == c) text 0 lt
    ∙ ap (λ (b : ℕ). before_first (λ b. b == c) text ++ b ∷ after_first (λ b. b == c) text) (eqb-true _ c (passes_at_first (λ b. b == c) text 0 lt))
    ∙ ap (λ (s : List ℕ × List ℕ). s.0 ++ c ∷ s.1) p.1

-- ---- numbers

-- what is read after a minus is a negative number's digits, and zero isn't
minus_is : (greatest : ℕ) (text : List ℕ) (z : ℤ) → greatest < 2 ^ 64 → minus greatest text ≡ Ok z → (n : ℕ) × (z ≡ negsuc n) × (text ≡ decimal (suc n)) × (n < greatest)
unfolding minus
minus_is greatest text z lt h = grind (arith, then_ok, numeral_is, else_ok, ok_is)

plus_is : (limit : ℕ) (text : List ℕ) (z : ℤ) → limit < 2 ^ 64 → plus limit text ≡ Ok z → (n : ℕ) × (z ≡ pos n) × (text ≡ decimal n) × (n ≤ limit - 1)
unfolding plus
plus_is limit text z lt h = grind (arith, then_ok, numeral_is, ok_is)

-- ---- signed numbers

-- the text is the immediate's, which fits its field
abbrev Immediate : List ℕ → ℤ → Type 0
Immediate text k = (text ≡ signed_decimal k) × FitsSigned w32 k

negative_imm : (text : List ℕ) (k : ℤ) (n : ℕ) → (k ≡ negsuc n) × (text ≡ decimal (suc n)) × (n < 2 ^ 31) → Immediate (45 ∷ text) k
negative_imm text k n h = subst (Immediate (45 ∷ text)) (sym h.0) (ap (λ (ds : List ℕ). 45 ∷ ds) h.1, record { sfits = h.2 })

natural_imm : (text : List ℕ) (k : ℤ) (n : ℕ) → (k ≡ pos n) × (text ≡ decimal n) × (n ≤ 2 ^ 31 - 1) → Immediate text k
natural_imm text k n h = let le = h.2 in subst (Immediate text) (sym h.0) (h.1, record { sfits = omega (arith, le) })

imm_cases : (text : List ℕ) (k : ℤ) (o : Option (List ℕ)) → strip_prefix 45 text ≡ o → signed_or (plus (2 ^ 31) text) (2 ^ 31) o ≡ Ok k → Immediate text k
imm_cases text k o is h = grind (arith, minus_is, behind_whole, negative_imm, plus_is, natural_imm)

-- what is read as an immediate is its text
imm_is : (text : List ℕ) (k : ℤ) → imm_of_text text ≡ Ok k → Immediate text k
imm_is text k h = imm_cases text k (strip_prefix 45 text) refl h

-- the text is the offset's, which fits its field
abbrev Offset : List ℕ → ℤ → Type 0
Offset text o = (text ≡ offset_text o) × FitsSigned w16 o

negative_offset : (text : List ℕ) (o : ℤ) (n : ℕ) → (o ≡ negsuc n) × (text ≡ decimal (suc n)) × (n < 2 ^ 15) → Offset (45 ∷ text) o
negative_offset text o n h = subst (Offset (45 ∷ text)) (sym h.0) (ap (λ (ds : List ℕ). 45 ∷ ds) h.1, record { sfits = h.2 })

natural_offset : (text : List ℕ) (o : ℤ) (n : ℕ) → (o ≡ pos n) × (text ≡ decimal n) × (n ≤ 2 ^ 15 - 1) → Offset (43 ∷ text) o
natural_offset text o n h = let le = h.2 in subst (Offset (43 ∷ text)) (sym h.0) (ap (λ (ds : List ℕ). 43 ∷ ds) h.1, record { sfits = omega (arith, le) })

minus_offset : (digits : List ℕ) (o : ℤ) → minus (2 ^ 15) digits ≡ Ok o → Offset (45 ∷ digits) o
minus_offset digits o h = let m = minus_is (2 ^ 15) digits o (omega arith) h in negative_offset digits o m.0 (m.1, m.2, m.3)

plus_offset : (digits : List ℕ) (o : ℤ) → plus (2 ^ 15) digits ≡ Ok o → Offset (43 ∷ digits) o
plus_offset digits o h = let m = plus_is (2 ^ 15) digits o (omega arith) h in natural_offset digits o m.0 (m.1, m.2, m.3)

sign_cases : (text : List ℕ) (o : ℤ) (p : Option (List ℕ)) → strip_prefix 43 text ≡ p → plus_or_fault p ≡ Ok o → Offset text o
sign_cases text o (Some digits) is h = subst (λ (t : List ℕ). Offset t o) (sym (behind_whole 43 text digits is)) (plus_offset digits o h)
sign_cases text o None is h = absurd cc

offset_cases : (text : List ℕ) (o : ℤ) (p : Option (List ℕ)) → strip_prefix 45 text ≡ p → signed_or (plus_or_fault (strip_prefix 43 text)) (2 ^ 15) p ≡ Ok o → Offset text o
offset_cases text o (Some digits) is h = subst (λ (t : List ℕ). Offset t o) (sym (behind_whole 45 text digits is)) (minus_offset digits o h)
offset_cases text o None is h = sign_cases text o (strip_prefix 43 text) refl h

-- what is read as an offset is its text
offset_is : (text : List ℕ) (o : ℤ) → offset_of_text text ≡ Ok o → Offset text o
offset_is text o h = offset_cases text o (strip_prefix 45 text) refl h

-- ---- names

-- what is found in a list by its name has that name
found : {A : Type 0} (text : List ℕ) (called : A → List ℕ) (x y : A) (rest : Option A) (b : Bool) → bytes_eq text (called x) ≡ b → cond b (Some x) rest ≡ Some y → (rest ≡ Some y → text ≡ called y) → text ≡ called y
found text called x y rest b is h others = grind (arith, bytes_eq-Decides, some_is)

reg_among : (text : List ℕ) (rs : List Reg) (r : Reg) → reg_spelled text rs ≡ Some r → text ≡ reg_name r
reg_among text [] r h = absurd cc
reg_among text (s ∷ rs) r h = found text reg_name s r (reg_spelled text rs) (bytes_eq text (reg_name s)) refl h (reg_among text rs r)

-- what is read as a register is its name
pub reg_is : (text : List ℕ) (r : Reg) → reg_of_text text ≡ Ok r → text ≡ reg_name r
reg_is text r h = reg_among text registers r (there_ok (reg_named text) _ r h)

pub word_among : (text : List ℕ) (ws : List Word) (w : Word) → word_in text ws ≡ Some w → text ≡ name w
word_among text [] w h = absurd cc
word_among text (v ∷ ws) w h = found text name v w (word_in text ws) (bytes_eq text (name v)) refl h (word_among text ws w)

pub named_is : (q : Profile) (o : Option Word) (w : Word) → if_word_of q o ≡ Some w → (o ≡ Some w) × IsWordOf q w
named_is q None w h = absurd cc
named_is q (Some v) w h =
    let p = if_some (is_word_of q v) v w h in
    (ap Some p.1, subst (IsWordOf q) p.1 p.0)

-- what is read as a word is its name, and the profile has it
pub word_is : (q : Profile) (text : List ℕ) (c : AsmCode) (w : Word) → ok_or (word_named q text) c ≡ Ok w → (text ≡ name w) × IsWordOf q w
word_is q text c w h =
    let n = named_is q (word_in text words) w (there_ok (word_named q text) c w h) in
    (word_among text words w n.0, n.1)

-- ---- bits

-- this many bits, and narrower than the width
abbrev Narrower : Width → ℕ → Size → Type 0
Narrower w n z = (n ≡ size_bits z) × (is_narrower z w ≡ true)

sized : (w : Width) (n : ℕ) (z x : Size) (rest : Option Size) (b : Bool) → (is_narrower z w && (size_bits z == n)) ≡ b → cond b (Some z) rest ≡ Some x → (rest ≡ Some x → Narrower w n x) → Narrower w n x
sized w n z x rest b is h others = grind arith

-- a size that is found has the bits, and is narrower
size_is : (w : Width) (n : ℕ) (zs : List Size) (x : Size) → size_in w n zs ≡ Some x → Narrower w n x
size_is w n [] x h = absurd cc
size_is w n (z ∷ zs) x h = sized w n z x (size_in w n zs) (is_narrower z w && (size_bits z == n)) refl h (size_is w n zs x)

-- what is read as a move's bits is their decimal
bits_are : (w : Width) (text : List ℕ) (z : Size) → bits_of_text w text ≡ Ok z → (text ≡ decimal (size_bits z)) × (is_narrower z w ≡ true)
unfolding bits_of_text
bits_are w text z h = grind (arith, then_ok, numeral_is, size_is, there_ok)

-- ---- operands and places

-- the text is the operand's, whose number fits its field
abbrev pub Either : List ℕ → Operand → Type 0
Either text a = (text ≡ operand_text a) × OperandFits a

-- what is read as an operand is its text
pub operand_is : (text : List ℕ) (a : Operand) → operand_of_text text ≡ Ok a → Either text a
unfolding operand_of_text
operand_is text a h = sort (slice_index text 0 == 114) h
  where
    sort : (b : Bool) → cond b (reg_of_text text >>= λ r. Ok (Operand.Reg r)) (imm_of_text text >>= λ k. Ok (Operand.Imm k)) ≡ Ok a → Either text a
    sort true h =
        let p = then_ok (reg_of_text text) (λ r. Ok (Operand.Reg r)) a h in
        subst (Either text) (ok_is (Operand.Reg p.0) a p.2) (reg_is text p.0 p.1, tt)
    sort false h =
        let p = then_ok (imm_of_text text) (λ k. Ok (Operand.Imm k)) a h in
        subst (Either text) (ok_is (Operand.Imm p.0) a p.2) (imm_is text p.0 p.1)

-- the text between brackets is the place's
abbrev Place : List ℕ → Reg × ℤ → Type 0
Place text p = (text ≡ reg_name p.0 ++ offset_text p.1) × FitsSigned w16 p.1

based_is : (register digits : List ℕ) (c : ℕ) (offset : Result ℤ AsmCode) (p : Reg × ℤ) → base_and_offset register offset ≡ Ok p → ((o : ℤ) → offset ≡ Ok o → Offset (c ∷ digits) o) → Place (register ++ c ∷ digits) p
unfolding base_and_offset
based_is register digits c offset p h read = grind (arith, then_ok, ok_is, reg_is)

minus_cases : (text : List ℕ) (p : Reg × ℤ) (o : Option (List ℕ × List ℕ)) → split_once 45 text ≡ o → at_minus o ≡ Ok p → Place text p
minus_cases text p (Some sides) is h = subst (λ (t : List ℕ). Place t p) (sym (around_whole 45 text sides is)) (based_is sides.0 sides.1 45 (minus (2 ^ 15) sides.1) p h (minus_offset sides.1))
minus_cases text p None is h = absurd cc

plus_cases : (text : List ℕ) (p : Reg × ℤ) (o : Option (List ℕ × List ℕ)) → split_once 43 text ≡ o → at_plus text o ≡ Ok p → Place text p
plus_cases text p (Some sides) is h = subst (λ (t : List ℕ). Place t p) (sym (around_whole 43 text sides is)) (based_is sides.0 sides.1 43 (plus (2 ^ 15) sides.1) p h (plus_offset sides.1))
plus_cases text p None is h = minus_cases text p (split_once 45 text) refl h

-- what is read as a place is its text
pub place_is : (text : List ℕ) (p : Reg × ℤ) → place_of_text text ≡ Ok p → (text ≡ place_text p.0 p.1) × FitsSigned w16 p.1
unfolding place_of_text
place_is text p h =
    let a = then_ok (ok_or (strip_prefix 91 text) AsmCode.Form) _ p h in
    let b = then_ok (ok_or (strip_suffix 93 a.0) AsmCode.Form) _ p a.2 in
    let c = plus_cases b.0 p (split_once 43 b.0) refl b.2 in (grind (arith, behind_whole, there_ok, before_whole, append_assoc))

-- ---- the words of a line

-- a word that was read up to its comma had it
pub comma_is : (texts : List (List ℕ)) (p : List ℕ × List (List ℕ)) → comma texts ≡ Ok p → texts ≡ (p.0 ++ 44 ∷ []) ∷ p.1
unfolding comma
comma_is texts p h = grind (arith, then_ok, before_whole, there_ok, ok_is)

-- if a last word was read, no word stood after it
last_is : {A : Type 0} (read : List ℕ → Result A AsmCode) (texts : List (List ℕ)) (x : A) → last read texts ≡ Ok x → (text : List ℕ) × (texts ≡ text ∷ []) × (read text ≡ Ok x)
unfolding last
last_is read texts x h = grind arith

-- a first word and one operand, two, and three
one_there : (w : Word) (texts : List (List ℕ)) (x y : List ℕ) → texts ≡ x ∷ [] → x ≡ y → join_with_byte 32 (name w ∷ texts) ≡ name w ++ (codes " " ++ y)
one_there w texts x y is same = ap (λ (ws : List (List ℕ)). join_with_byte 32 (name w ∷ ws)) is ∙ ap (λ (t : List ℕ). name w ++ 32 ∷ t) same

two_there : (w : Word) (texts : List (List ℕ)) (first : List ℕ × List (List ℕ)) (y u v : List ℕ) → comma texts ≡ Ok first → first.1 ≡ y ∷ [] → first.0 ≡ u → y ≡ v
    → join_with_byte 32 (name w ∷ texts) ≡ name w ++ (codes " " ++ (u ++ (codes ", " ++ v)))
two_there w texts first y u v begins ends same_u same_v =
    ap (λ (ws : List (List ℕ)). join_with_byte 32 (name w ∷ ws)) (comma_is texts first begins ∙ ap (λ (ws : List (List ℕ)). (first.0 ++ 44 ∷ []) ∷ ws) ends)
    ∙ ap (λ (t : List ℕ). name w ++ 32 ∷ t) (append_assoc first.0 (44 ∷ []) (32 ∷ y) ∙ ap (λ (t : List ℕ). t ++ 44 ∷ 32 ∷ y) same_u ∙ ap (λ (t : List ℕ). u ++ 44 ∷ 32 ∷ t) same_v)

three_there : (w : Word) (texts : List (List ℕ)) (first second : List ℕ × List (List ℕ)) (z t u v : List ℕ) → comma texts ≡ Ok first → comma first.1 ≡ Ok second → second.1 ≡ z ∷ [] → first.0 ≡ t → second.0 ≡ u → z ≡ v
    → join_with_byte 32 (name w ∷ texts) ≡ name w ++ (codes " " ++ (t ++ (codes ", " ++ (u ++ (codes ", " ++ v)))))
three_there w texts first second z t u v begins goes ends same_t same_u same_v =
    ap (λ (ws : List (List ℕ)). join_with_byte 32 (name w ∷ ws)) (comma_is texts first begins ∙ ap (λ (ws : List (List ℕ)). (first.0 ++ 44 ∷ []) ∷ ws) (comma_is first.1 second goes ∙ ap (λ (ws : List (List ℕ)). (second.0 ++ 44 ∷ []) ∷ ws) ends))
    ∙ ap (λ (r : List ℕ). name w ++ 32 ∷ r) (append_assoc first.0 (44 ∷ []) (32 ∷ ((second.0 ++ 44 ∷ []) ++ 32 ∷ z)) ∙ ap (λ (r : List ℕ). r ++ 44 ∷ 32 ∷ ((second.0 ++ 44 ∷ []) ++ 32 ∷ z)) same_t
    ∙ ap (λ (r : List ℕ). t ++ 44 ∷ 32 ∷ r) (append_assoc second.0 (44 ∷ []) (32 ∷ z) ∙ ap (λ (r : List ℕ). r ++ 44 ∷ 32 ∷ z) same_u ∙ ap (λ (r : List ℕ). u ++ 44 ∷ 32 ∷ r) same_v))

-- each profile that has the word has the instruction
abbrev OfWord : Word → Insn → Type 0
OfWord w i = (q : Profile) → IsWordOf q w → IsOf q i

-- where it is of each profile
of_any : (w : Word) (i : Insn) → IsOf Profile.One i → IsOf Profile.Two i → OfWord w i
of_any w i one two x is = grind arith

-- a line of these words is the instruction's
abbrev Written : Word → List (List ℕ) → Insn → Type 0
Written w texts i = (join_with_byte 32 (name w ∷ texts) ≡ insn_text i) × Fits i × OfWord w i

-- operands that are read are written so, after each first word: this one and those below
alu_is : (op : AluOp) (w : Width) (texts : List (List ℕ)) (i : Insn) → alu_operands (Insn.Alu op w) texts ≡ Ok i → Written (Word.Alu op w) texts i
unfolding alu_operands
alu_is op w texts i h =
    let a = then_ok (comma texts) _ i h in
    let b = then_ok (reg_of_text a.0.0) _ i a.2 in
    let c = then_ok (last operand_of_text a.0.1) _ i b.2 in
    let d = last_is operand_of_text a.0.1 c.0 c.1 in
    let e = operand_is d.0 c.0 d.2 in
    subst (Written (Word.Alu op w) texts) (ok_is (Insn.Alu op w b.0 c.0) i c.2)
    (two_there (Word.Alu op w) texts a.0 d.0 (reg_name b.0) (operand_text c.0) a.1 d.1 (reg_is a.0.0 b.0 b.1) e.0, e.1, of_any (Word.Alu op w) (Insn.Alu op w b.0 c.0) refl refl)

moved_of : (w : Width) (z : Size) (d s : Reg) → is_narrower z w ≡ true → OfWord (Word.MovSx w) (Insn.MovSx w z d s)
moved_of w z d s narrow x is = grind arith

mov_sx_is : (w : Width) (texts : List (List ℕ)) (i : Insn) → mov_sx_operands w texts ≡ Ok i → Written (Word.MovSx w) texts i
unfolding mov_sx_operands
mov_sx_is w texts i h =
    let a = then_ok (comma texts) _ i h in
    let b = then_ok (reg_of_text a.0.0) _ i a.2 in
    let k = then_ok (comma a.0.1) _ i b.2 in
    let l = then_ok (reg_of_text k.0.0) _ i k.2 in
    let m = then_ok (last (bits_of_text w) k.0.1) _ i l.2 in
    let d = last_is (bits_of_text w) k.0.1 m.0 m.1 in
    let z = bits_are w d.0 m.0 d.2 in
    subst (Written (Word.MovSx w) texts) (ok_is (Insn.MovSx w m.0 b.0 l.0) i m.2)
    (three_there (Word.MovSx w) texts a.0 k.0 d.0 (reg_name b.0) (reg_name l.0) (decimal (size_bits m.0)) a.1 k.1 d.1 (reg_is a.0.0 b.0 b.1) (reg_is k.0.0 l.0 l.1) z.0, tt, moved_of w m.0 b.0 l.0 z.1)

wide_is : (texts : List (List ℕ)) (i : Insn) → load_imm_operands texts ≡ Ok i → Written Word.LoadImm texts i
unfolding load_imm_operands
wide_is texts i h =
    let a = then_ok (comma texts) _ i h in
    let b = then_ok (reg_of_text a.0.0) _ i a.2 in
    let c = then_ok (last (numeral_upto AsmCode.Form AsmCode.Range (2 ^ 64 - 1)) a.0.1) _ i b.2 in
    let d = last_is (numeral_upto AsmCode.Form AsmCode.Range (2 ^ 64 - 1)) a.0.1 c.0 c.1 in
    let e = numeral_is AsmCode.Form AsmCode.Range (2 ^ 64 - 1) c.0 d.0 (omega arith) d.2 in
    subst (Written Word.LoadImm texts) (ok_is (Insn.LoadImm b.0 c.0) i c.2)
    (two_there Word.LoadImm texts a.0 d.0 (reg_name b.0) (decimal c.0) a.1 d.1 (reg_is a.0.0 b.0 b.1) e.0, omega arith, of_any Word.LoadImm (Insn.LoadImm b.0 c.0) refl refl)

loaded_of : (z : Size) (x : Extension) (d b : Reg) (o : ℤ) → OfWord (Word.Load z x) (Insn.Load z x d b o)
loaded_of z x d b o h is = grind arith

load_is : (z : Size) (x : Extension) (texts : List (List ℕ)) (i : Insn) → load_operands (Insn.Load z x) texts ≡ Ok i → Written (Word.Load z x) texts i
unfolding load_operands
load_is z x texts i h =
    let a = then_ok (comma texts) _ i h in
    let b = then_ok (reg_of_text a.0.0) _ i a.2 in
    let c = then_ok (last place_of_text a.0.1) _ i b.2 in
    let d = last_is place_of_text a.0.1 c.0 c.1 in
    let e = place_is d.0 c.0 d.2 in
    subst (Written (Word.Load z x) texts) (ok_is (Insn.Load z x b.0 c.0.0 c.0.1) i c.2)
    (two_there (Word.Load z x) texts a.0 d.0 (reg_name b.0) (place_text c.0.0 c.0.1) a.1 d.1 (reg_is a.0.0 b.0 b.1) e.0, e.1, loaded_of z x b.0 c.0.0 c.0.1)

store_imm_is : (z : Size) (texts : List (List ℕ)) (i : Insn) → store_imm_operands (Insn.StoreImm z) texts ≡ Ok i → Written (Word.StoreImm z) texts i
unfolding store_imm_operands
store_imm_is z texts i h =
    let a = then_ok (comma texts) _ i h in
    let b = then_ok (place_of_text a.0.0) _ i a.2 in
    let c = then_ok (last imm_of_text a.0.1) _ i b.2 in
    let d = last_is imm_of_text a.0.1 c.0 c.1 in
    let p = place_is a.0.0 b.0 b.1 in
    let e = imm_is d.0 c.0 d.2 in
    subst (Written (Word.StoreImm z) texts) (ok_is (Insn.StoreImm z b.0.0 b.0.1 c.0) i c.2)
    (two_there (Word.StoreImm z) texts a.0 d.0 (place_text b.0.0 b.0.1) (signed_decimal c.0) a.1 d.1 p.0 e.0, (p.1, e.1), of_any (Word.StoreImm z) (Insn.StoreImm z b.0.0 b.0.1 c.0) refl refl)

store_is : (z : Size) (texts : List (List ℕ)) (i : Insn) → store_operands (Insn.Store z) texts ≡ Ok i → Written (Word.Store z) texts i
unfolding store_operands
store_is z texts i h =
    let a = then_ok (comma texts) _ i h in
    let b = then_ok (place_of_text a.0.0) _ i a.2 in
    let c = then_ok (last reg_of_text a.0.1) _ i b.2 in
    let d = last_is reg_of_text a.0.1 c.0 c.1 in
    let p = place_is a.0.0 b.0 b.1 in
    subst (Written (Word.Store z) texts) (ok_is (Insn.Store z b.0.0 c.0 b.0.1) i c.2)
    (two_there (Word.Store z) texts a.0 d.0 (place_text b.0.0 b.0.1) (reg_name c.0) a.1 d.1 p.0 (reg_is d.0 c.0 d.2), p.1, of_any (Word.Store z) (Insn.Store z b.0.0 c.0 b.0.1) refl refl)

jump_if_is : (c : Cmp) (w : Width) (texts : List (List ℕ)) (i : Insn) → jump_if_operands (Insn.JumpIf c w) texts ≡ Ok i → Written (Word.JumpIf c w) texts i
unfolding jump_if_operands
jump_if_is c w texts i h =
    let a = then_ok (comma texts) _ i h in
    let b = then_ok (reg_of_text a.0.0) _ i a.2 in
    let k = then_ok (comma a.0.1) _ i b.2 in
    let l = then_ok (operand_of_text k.0.0) _ i k.2 in
    let m = then_ok (last offset_of_text k.0.1) _ i l.2 in
    let d = last_is offset_of_text k.0.1 m.0 m.1 in
    let e = operand_is k.0.0 l.0 l.1 in
    let o = offset_is d.0 m.0 d.2 in
    subst (Written (Word.JumpIf c w) texts) (ok_is (Insn.JumpIf c w b.0 l.0 m.0) i m.2)
    (three_there (Word.JumpIf c w) texts a.0 k.0 d.0 (reg_name b.0) (operand_text l.0) (offset_text m.0) a.1 k.1 d.1 (reg_is a.0.0 b.0 b.1) e.0 o.0, (e.1, o.1), of_any (Word.JumpIf c w) (Insn.JumpIf c w b.0 l.0 m.0) refl refl)

neg_is : (w : Width) (texts : List (List ℕ)) (i : Insn) → map_insn (Insn.Neg w) (last reg_of_text texts) ≡ Ok i → Written (Word.Neg w) texts i
neg_is w texts i h = grind (arith, then_ok, last_is, ok_is, one_there, reg_is, of_any)

jump_is : (texts : List (List ℕ)) (i : Insn) → map_insn Insn.Jump (last offset_of_text texts) ≡ Ok i → Written Word.Jump texts i
jump_is texts i h =
    let a = then_ok (last offset_of_text texts) _ i h in
    let d = last_is offset_of_text texts a.0 a.1 in
    let o = offset_is d.0 a.0 d.2 in
    grind (arith, ok_is, one_there, of_any)

call_is : (texts : List (List ℕ)) (i : Insn) → map_insn Insn.Call (last imm_of_text texts) ≡ Ok i → Written Word.Call texts i
call_is texts i h =
    let a = then_ok (last imm_of_text texts) _ i h in
    let d = last_is imm_of_text texts a.0 a.1 in
    let k = imm_is d.0 a.0 d.2 in
    grind (arith, ok_is, one_there, of_any)

exit_is : (texts : List (List ℕ)) (i : Insn) → map_insn (λ _. Insn.Exit) (no_word AsmCode.Form texts) ≡ Ok i → Written Word.Exit texts i
exit_is texts i h = grind arith

-- so whatever the first word is, the line is the instruction's
operands_are : (w : Word) (texts : List (List ℕ)) (i : Insn) → operands w texts ≡ Ok i → Written w texts i
operands_are (Word.Alu op w) texts i h = alu_is op w texts i h
operands_are (Word.MovSx w) texts i h = mov_sx_is w texts i h
operands_are (Word.Neg w) texts i h = neg_is w texts i h
operands_are Word.LoadImm texts i h = wide_is texts i h
operands_are (Word.Load z x) texts i h = load_is z x texts i h
operands_are (Word.StoreImm z) texts i h = store_imm_is z texts i h
operands_are (Word.Store z) texts i h = store_is z texts i h
operands_are Word.Jump texts i h = jump_is texts i h
operands_are (Word.JumpIf c w) texts i h = jump_if_is c w texts i h
operands_are Word.Call texts i h = call_is texts i h
operands_are Word.Exit texts i h = exit_is texts i h

-- words that are read as an instruction are those of its line
words_are : (q : Profile) (texts : List (List ℕ)) (i : Insn) → insn_of_words q texts ≡ Ok i → (join_with_byte 32 texts ≡ insn_text i) × Fits i × IsOf q i
unfolding insn_of_words
words_are q [] i h = absurd cc
words_are q (text ∷ texts) i h =
    let a = then_ok (ok_or (word_named q text) _) _ i h in
    let b = operands_are a.0 texts i a.2 in
    let n = word_is q text _ a.0 a.1 in
    (ap (λ (t : List ℕ). join_with_byte 32 (t ∷ texts)) n.0 ∙ b.0, b.1, b.2 q n.1)

-- a line that is read is the instruction's own, which the profile has
pub line_spelled : (q : Profile) (line : List ℕ) (i : Insn) → line_of q line ≡ Ok i → (line ≡ insn_text i) × Fits i × IsOf q i
line_spelled q line i h =
    let a = words_are q (slice_split (λ b. b == 32) line) i h in
    (sym (join_with_byte-slice_split 32 line) ∙ a.0, a.1, a.2)

pub read_of : (q : Profile) (texts : List (List ℕ)) (r : Result Insn AsmCode) → Gives (λ _. false) (λ i. i) r (insn_of_words q texts) → IfOk r (IsOf q)
read_of q texts r h = grind (arith, words_are)

-- a line is read as an instruction exactly where it is its line
pub line_is : (q : Profile) (line : List ℕ) (i : Insn) → (line_of q line ≡ Ok i) ↔ ((line ≡ insn_text i) × Fits i × IsOf q i)
line_is q line i = (line_spelled q line i, λ h. ap (line_of q) h.0 ∙ line_back q i h.1 h.2)
