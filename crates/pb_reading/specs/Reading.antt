-- Reading a text from left to right, which may stop at a fault: lines, words, numbers, and what a reader returned. The
-- readers of programs' texts, scripts and schedules are all said by these, so that they count lines and take numbers
-- alike.
use Rattle.std.specs.Prelude.{◌≡◌, ℕ, ◌+◌, Bool, true, false, not, ◌&&◌, ◌||◌, ◌==◌, nat_le, nat_lt, if◌then◌else◌, List, [], ◌∷◌, length, map, slice_index, Option, Some, None, Result, Ok, Err}
use Rattle.std.specs.Char.{is_ascii_digit}
use Rattle.std.specs.List.{filter, list_all, slice_split}
use Rattle.std.specs.Str.Parse.{digits_value}
use denote.Ref.{Bor}

infixl 10 ◌>>=◌
-- the next reading, of what the first one made; a fault of the first is the fault of both
abbrev pub ◌>>=◌ : {A B E : Type 0} → Result A E → (A → Result B E) → Result B E
(Ok x) >>= f = f x
(Err e) >>= f = Err e

-- what reading gives where a function failed so: that fault. Of want of memory nothing follows, since no contract can
-- say when there is any
abbrev pub Fails : {Y E : Type 0} → Bool → E → Result Y E → Type 0
Fails true e read = Unit {0}
Fails false e read = read ≡ Err e

-- what a function returned, seen by view, is what reading gives, unless memory ran out
abbrev pub Gives : {X Y E : Type 0} → (E → Bool) → (X → Y) → Result X E → Result Y E → Type 0
Gives is_memory view (Ok x) read = read ≡ Ok (view x)
Gives is_memory view (Err e) read = Fails (is_memory e) e read

-- ---- lines and words

-- what stands between newlines
abbrev pub lines_of : List ℕ → List (List ℕ)
lines_of text = slice_split (λ b. b == 10) text

-- what stands between blanks
abbrev pub words_of : List ℕ → List (List ℕ)
words_of line = slice_split (λ b. b == 32) line

-- texts without where they lie in memory
abbrev pub texts_of : List (Bor (List ℕ)) → List (List ℕ)
texts_of texts = map (λ t. t.now) texts

-- The lines and the words of what is left of a text, after a newline or a blank. If nothing is left there are none, while an
-- empty text is one empty line, or one empty word.
abbrev pub lines_left : Option (Bor (List ℕ)) → List (List ℕ)
lines_left None = []
lines_left (Some text) = lines_of text.now

abbrev pub words_left : Option (Bor (List ℕ)) → List (List ℕ)
words_left None = []
words_left (Some line) = words_of line.now

-- a line that is empty, or a remark, which begins with `#`
abbrev pub is_skipped : List ℕ → Bool
is_skipped line = (length line == 0) || (slice_index line 0 == 35)

-- the lines of a text that are not skipped
abbrev pub shown_lines : List ℕ → List (List ℕ)
shown_lines text = filter (λ line. not (is_skipped line)) (lines_of text)

-- the next word and those after it; where there is none, this fault
abbrev pub next_word : {E : Type 0} → E → List (List ℕ) → Result (List ℕ × List (List ℕ)) E
next_word form [] = Err form
next_word form (word ∷ words) = Ok (word, words)

-- no word is left, or else this fault
abbrev pub no_word : {E : Type 0} → E → List (List ℕ) → Result (Unit {0}) E
no_word form [] = Ok tt
no_word form (word ∷ words) = Err form

-- ---- numbers

-- some digits, with no zero before another, so that each number has one spelling
abbrev pub is_numeral : List ℕ → Bool
is_numeral word = if length word == 0 then false else if (slice_index word 0 == 48) && nat_lt 1 (length word) then false else list_all is_ascii_digit word

-- the value of a numeral of any length, at most this; the faults are those of another form and of a greater value
abbrev pub numeral_upto : {E : Type 0} → E → E → ℕ → List ℕ → Result ℕ E
numeral_upto form range greatest word = if is_numeral word then (if nat_le (digits_value 10 word) greatest then Ok (digits_value 10 word) else Err range) else Err form

-- ---- one after the other

-- each step from what those before it made, with its number, so that a fault can name its line; the first fault ends it
abbrev pub in_turn : {S A E : Type 0} → (ℕ → S → A → Result S E) → ℕ → S → List A → Result S E
in_turn step n s [] = Ok s
in_turn step n s (x ∷ xs) = step n s x >>= λ t. in_turn step (n + 1) t xs

-- the fault that is reported for the line after n lines: the line's number, from 1, and the fault's
abbrev pub numbered : {A E : Type 0} → (E → ℕ) → ℕ → Result A E → Result A (ℕ × ℕ)
numbered code n (Ok x) = Ok x
numbered code n (Err fault) = Err (n + 1, code fault)
