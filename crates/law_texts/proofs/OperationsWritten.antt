-- What is read as a write is written as the write's operation.
use Rattle.std.proofs.Common.{◌≡◌, ℕ, ◌≤◌, Bool, true, false, List, [], ◌∷◌, ◌++◌, length, Result, Ok, sym, ap, subst, ◌∙◌, arith, ◌==◌, ◌||◌, codes, drop, nat_lt, replicate, decimal, bytes_eq}
use Rattle.std.specs.Char.{is_ascii_uppercase}
use Rattle.std.specs.List.{join_with_byte, list_any}
use Rattle.std.proofs.lemmas.Bool.{eqb-false, ltb-false}
use Rattle.std.proofs.lemmas.List.{drop-replicate}
use Rattle.std.proofs.lemmas.List.Splits.{join_with_byte-slice_split}
use Rattle.hex.specs.Hex.{decode_of}
use Rattle.hex.specs.declared.error.FromHexError.{FromHexError}
use Rattle.hex.proofs.HexLemmas.{decode_of-ok}
use Rattle.law_texts.specs.Words.{Row, Cell, Content, next_word, no_word, words_of, ScriptCode, padded_value, value_of_word, cell_at, put_of, del_of, write_of, operation}
use Rattle.pb_reading.proofs.NumeralValues.{numeral_is}
use Rattle.pb_reading.proofs.Readings.{then_ok, ok_is, else_ok, next_is, none_left}
use Rattle.pb_parse.proofs.NextWords.{same_text}
use Rattle.law_texts.specs.OperationTexts.{AreDigitsOf, AreInRange, IsOperationOf}
use Rattle.law_texts.proofs.LowerHex.{lower_written}
use Rattle.pb_base.proofs.Logic.{chosen_branch}

-- ---- places

-- row and column of this cell stand in front
record TakesPlace (x : Cell) (words rest : List (List ℕ)) : Type 0 where
  row : Row
  column : ℕ
  cell : Cell.Data row column ≡ x
  written : words ≡ decimal row.0 ∷ decimal column ∷ rest
  fits : AreInRange row column

-- what is read as a cell is written as its row and column
place_is : (words : List (List ℕ)) (x : Cell × List (List ℕ)) → cell_at words ≡ Ok x → TakesPlace x.0 words x.1
unfolding cell_at
place_is words x h = grind (arith, then_ok, numeral_is, ok_is, next_is)

-- ---- values

padded_is : (r : Result (List ℕ) FromHexError) (value : List ℕ) → padded_value r ≡ Ok value → (bytes : List ℕ) × (r ≡ Ok bytes) × (bytes ++ drop (length bytes) (replicate 32 0) ≡ value)
padded_is r value h = grind arith

all_fail : (a b c : Bool) → (a || (b || c)) ≡ false → (a ≡ false) × (b ≡ false) × (c ≡ false)
all_fail a b c h = grind arith

-- what is read as a value is written as digits of it
digits_are : (word value : List ℕ) → value_of_word word ≡ Ok value → AreDigitsOf value word
digits_are word value h =
    let p = else_ok ((length word == 0) || (nat_lt 64 (length word) || list_any is_ascii_uppercase word)) (padded_value (decode_of word)) ScriptCode.Hex value h in
    let t = all_fail (length word == 0) (nat_lt 64 (length word)) (list_any is_ascii_uppercase word) p.0 in
    let q = padded_is (decode_of word) value p.1 in
    let d = decode_of-ok word q.0 q.1 in
    let twice = d.2 in
    let full = eqb-false (length word) 0 t.0 in
    let short : length word ≤ 64 = ltb-false _ _ t.1 in
    record {
      bytes = q.0;
      fit = d.3;
      some = grind (arith, full, twice);
      few = omega (arith, short, twice);
      written = lower_written word q.0 q.1 t.2;
      padded = sym q.2 ∙ ap (λ (zeros : List ℕ). q.0 ++ zeros) (drop-replicate (length q.0) 32 0);
    }

-- ---- operations

-- the write of these words
abbrev IsWriteOf : List (List ℕ) → Cell × Content → Type 0
IsWriteOf words w = IsOperationOf w.0 w.1 (join_with_byte 32 words)

moved : (words : List (List ℕ)) (x y : Cell) (content : Content) (w : Cell × Content) → x ≡ y → ◌≡◌ {A = Result (Cell × Content) ScriptCode} (Ok (y, content)) (Ok w) → IsWriteOf words (x, content) → IsWriteOf words w
moved words x y content w cell is h = subst (IsWriteOf words) (ap (λ (z : Cell). (z, content)) cell ∙ ok_is {E = ScriptCode} (y, content) w is) h

-- what is read as a write is written as one
put_is : (words : List (List ℕ)) (w : Cell × Content) → put_of words ≡ Ok w → IsWriteOf (codes "put" ∷ words) w
unfolding put_of
put_is words w h =
    let a = then_ok (cell_at words) _ w h in
    let b = then_ok (next_word ScriptCode.Form a.0.1) _ w a.2 in
    let c = then_ok (value_of_word b.0.0) _ w b.2 in
    let d = then_ok (no_word ScriptCode.Form b.0.1) _ w c.2 in
    let p = place_is words a.0 a.1 in
    let last : a.0.1 ≡ b.0.0 ∷ [] = next_is ScriptCode.Form a.0.1 b.0 b.1 ∙ ap (λ (ws : List (List ℕ)). b.0.0 ∷ ws) (none_left ScriptCode.Form b.0.1 d.0 d.1) in
    let whole : words ≡ decimal p.row.0 ∷ decimal p.column ∷ b.0.0 ∷ [] = p.written ∙ ap (λ (ws : List (List ℕ)). decimal p.row.0 ∷ decimal p.column ∷ ws) last in
    grind (arith, moved, digits_are)

-- what is read as a deletion is written as one
del_is : (words : List (List ℕ)) (w : Cell × Content) → del_of words ≡ Ok w → IsWriteOf (codes "del" ∷ words) w
unfolding del_of
del_is words w h =
    let a = then_ok (cell_at words) _ w h in
    let d = then_ok (no_word ScriptCode.Form a.0.1) _ w a.2 in
    let p = place_is words a.0 a.1 in
    let whole : words ≡ decimal p.row.0 ∷ decimal p.column ∷ [] = p.written ∙ ap (λ (ws : List (List ℕ)). decimal p.row.0 ∷ decimal p.column ∷ ws) (none_left ScriptCode.Form a.0.1 d.0 d.1) in
    grind (arith, moved)

-- the verb in front is this one
in_front : (words : List (List ℕ)) (x : List ℕ × List (List ℕ)) (verb : List ℕ) (w : Cell × Content) → words ≡ x.0 ∷ x.1 → bytes_eq x.0 verb ≡ true → IsWriteOf (verb ∷ x.1) w → IsWriteOf words w
in_front words x verb w cut is h = subst (λ (ws : List (List ℕ)). IsWriteOf ws w) (sym (cut ∙ ap (λ (v : List ℕ). v ∷ x.1) (same_text x.0 verb is))) h

write_is : (words : List (List ℕ)) (w : Cell × Content) → write_of words ≡ Ok w → IsWriteOf words w
unfolding write_of
write_is words w h = grind (arith, then_ok, next_is, chosen_branch, in_front, put_is, del_is)

-- a text that is read as a write, or a deletion, is written as that
pub operation_written : (text : List ℕ) (x : Cell) (content : Content) → operation text ≡ Ok (x, content) → IsOperationOf x content text
operation_written text x content h = subst (IsOperationOf x content) (join_with_byte-slice_split 32 text) (write_is (words_of text) (x, content) h)
