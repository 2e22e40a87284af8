-- A write's operation is read as the write.
use Rattle.std.proofs.Common.{◌≡◌, ℕ, ◌*◌, ◌<◌, ◌≤◌, Bool, false, cond, List, [], ◌∷◌, ◌++◌, length, Result, Ok, Err, refl, sym, ap, subst, ◌∙◌, arith, ◌==◌, ◌||◌, codes, nat_lt, decimal}
use Rattle.std.specs.Char.{is_ascii_uppercase}
use Rattle.std.specs.List.{join_with_byte, list_any}
use Rattle.std.proofs.lemmas.Bool.{le-ltb}
use Rattle.std.proofs.lemmas.List.{drop-replicate}
use Rattle.hex.specs.Hex.{decode_of, encode_lower, lower_digits}
use Rattle.hex.proofs.HexLemmas.{decode_of-encode_lower, length-encode_with}
use Rattle.law_texts.specs.Words.{Row, Cell, Content, words_of, ScriptCode, padded_value, value_of_word, cell_at, put_of, del_of, write_of, operation}
use Rattle.law_texts.specs.OperationTexts.{AreDigitsOf, AreInRange, IsOperationOf}
use Rattle.law_texts.proofs.LowerHex.{digit_of, digits_hold, none_upper}
use Rattle.pb_reading.proofs.Parts.{Lacks, AreParts, IsNoDigit, blank_no_digit, decimal_lacks, joined_parts, lacks_joined}
use Rattle.pb_reading.proofs.NumeralValues.{numeral_back}

-- row and column are read as the cell
place_back : (row : Row) (column : ℕ) (rest : List (List ℕ)) → AreInRange row column → cell_at (decimal row.0 ∷ decimal column ∷ rest) ≡ Ok (Cell.Data row column, rest)
unfolding cell_at
place_back row column rest fits = grind (arith, numeral_back)

-- ---- values

not_zero : (n : ℕ) → 1 ≤ n → (n == 0) ≡ false
not_zero n h = grind arith

tested : (a b c : Bool) (r : Result (List ℕ) ScriptCode) → a ≡ false → b ≡ false → c ≡ false → cond (a || (b || c)) (Err ScriptCode.Hex) r ≡ r
tested a b c r p q s = rw (p, q, s) refl

-- the digits of a value are read as that value, with zeros after them
digits_back : (value digits : List ℕ) → AreDigitsOf value digits → value_of_word digits ≡ Ok value
digits_back value digits d =
    let twice : length (encode_lower d.bytes) ≡ 2 * length d.bytes = length-encode_with lower_digits d.bytes in
    let some = d.some in
    let few = d.few in
    let full : (length (encode_lower d.bytes) == 0) ≡ false = not_zero _ (omega (arith, twice, some)) in
    let short : nat_lt 64 (length (encode_lower d.bytes)) ≡ false = le-ltb _ _ (omega (arith, twice, few)) in
    ap value_of_word d.written
    ∙ tested (length (encode_lower d.bytes) == 0) (nat_lt 64 (length (encode_lower d.bytes))) (list_any is_ascii_uppercase (encode_lower d.bytes)) (padded_value (decode_of (encode_lower d.bytes))) full short (none_upper d.bytes d.fit)
    ∙ ap padded_value (decode_of-encode_lower d.bytes d.fit)
    ∙ ap (λ (zeros : List ℕ). Ok (d.bytes ++ zeros)) (drop-replicate (length d.bytes) 32 0)
    ∙ ap Ok (sym d.padded)

-- the words of a write are read as it
put_back : (row : Row) (column : ℕ) (value digits : List ℕ) → AreInRange row column → AreDigitsOf value digits → write_of (codes "put" ∷ decimal row.0 ∷ decimal column ∷ digits ∷ []) ≡ Ok (Cell.Data row column, Content.Value value)
unfolding write_of put_of
put_back row column value digits fits d = rw (place_back row column (digits ∷ []) fits, digits_back value digits d) refl

-- the words of a deletion are read as it
del_back : (row : Row) (column : ℕ) → AreInRange row column → write_of (codes "del" ∷ decimal row.0 ∷ decimal column ∷ []) ≡ Ok (Cell.Data row column, Content.Deleted)
unfolding write_of del_of
del_back row column fits = rw (place_back row column [] fits) refl

-- ---- words

-- no digit, decimal or hexadecimal
abbrev IsNoHexDigit : ℕ → Type 0
IsNoHexDigit c = (v : ℕ) → v < 16 → (digit_of v == c) ≡ false

digits_lack : (c : ℕ) (value digits : List ℕ) → IsNoHexDigit c → AreDigitsOf value digits → Lacks c digits
digits_lack c value digits none d = subst (Lacks c) (sym d.written) (digits_hold (λ b. (b == c) ≡ false) none d.bytes d.fit)

row_lacks : (c : ℕ) (row : Row) (column : ℕ) → IsNoDigit c → AreInRange row column → Lacks c (decimal row.0)
row_lacks c row column none fits = decimal_lacks c row.0 none fits.0

column_lacks : (c : ℕ) (row : Row) (column : ℕ) → IsNoDigit c → AreInRange row column → Lacks c (decimal column)
column_lacks c row column none fits = let few = fits.1 in decimal_lacks c column none (omega (arith, few))

blank_no_hex_digit : IsNoHexDigit 32
blank_no_hex_digit v lt = grind arith

semicolon_no_digit : IsNoDigit 59
semicolon_no_digit n lt = grind arith

semicolon_no_hex_digit : IsNoHexDigit 59
semicolon_no_hex_digit v lt = grind arith

-- the words of an operation
abbrev put_words : Row → ℕ → List ℕ → List (List ℕ)
put_words row column digits = codes "put" ∷ decimal row.0 ∷ decimal column ∷ digits ∷ []

abbrev del_words : Row → ℕ → List (List ℕ)
del_words row column = codes "del" ∷ decimal row.0 ∷ decimal column ∷ []

put_parts : (c : ℕ) (row : Row) (column : ℕ) (value digits : List ℕ) → Lacks c (codes "put") → IsNoDigit c → IsNoHexDigit c → AreInRange row column → AreDigitsOf value digits → AreParts c (put_words row column digits)
put_parts c row column value digits verb none no_hex fits d = (verb, (row_lacks c row column none fits, (column_lacks c row column none fits, (digits_lack c value digits no_hex d, tt))))

del_parts : (c : ℕ) (row : Row) (column : ℕ) → Lacks c (codes "del") → IsNoDigit c → AreInRange row column → AreParts c (del_words row column)
del_parts c row column verb none fits = (verb, (row_lacks c row column none fits, (column_lacks c row column none fits, tt)))

-- the words of a write are cut at its blanks, since none has a blank
put_cut : (row : Row) (column : ℕ) (value digits : List ℕ) → AreInRange row column → AreDigitsOf value digits → words_of (join_with_byte 32 (put_words row column digits)) ≡ put_words row column digits
put_cut row column value digits fits d =
    let parts = put_parts 32 row column value digits (refl, (refl, (refl, tt))) blank_no_digit blank_no_hex_digit fits d in
    joined_parts 32 (codes "put") (decimal row.0 ∷ decimal column ∷ digits ∷ []) parts.0 parts.1

del_cut : (row : Row) (column : ℕ) → AreInRange row column → words_of (join_with_byte 32 (del_words row column)) ≡ del_words row column
del_cut row column fits =
    let parts = del_parts 32 row column (refl, (refl, (refl, tt))) blank_no_digit fits in
    joined_parts 32 (codes "del") (decimal row.0 ∷ decimal column ∷ []) parts.0 parts.1

-- an operation has no semicolon
pub no_semicolon : (x : Cell) (content : Content) (text : List ℕ) → IsOperationOf x content text → Lacks 59 text
no_semicolon (Cell.Data row column) (Content.Value value) text h = subst (Lacks 59) (sym h.3) (lacks_joined 59 32 (put_words row column h.1) refl (put_parts 59 row column value h.1 (refl, (refl, (refl, tt))) semicolon_no_digit semicolon_no_hex_digit h.0 h.2))
no_semicolon (Cell.Data row column) Content.Deleted text h = subst (Lacks 59) (sym h.1) (lacks_joined 59 32 (del_words row column) refl (del_parts 59 row column (refl, (refl, (refl, tt))) semicolon_no_digit h.0))
no_semicolon (Cell.Data row column) (Content.Stamp time) text h = absurd h
no_semicolon (Cell.Ack observer row column) content text h = absurd h

-- the text of a write, or of a deletion, is read as it
pub operation_read : (text : List ℕ) (x : Cell) (content : Content) → IsOperationOf x content text → operation text ≡ Ok (x, content)
operation_read text (Cell.Data row column) (Content.Value value) h = ap operation h.3 ∙ ap write_of (put_cut row column value h.1 h.0 h.2) ∙ put_back row column value h.1 h.0 h.2
operation_read text (Cell.Data row column) Content.Deleted h = ap operation h.1 ∙ ap write_of (del_cut row column h.0) ∙ del_back row column h.0
operation_read text (Cell.Data row column) (Content.Stamp time) h = absurd h
operation_read text (Cell.Ack observer row column) content h = absurd h
