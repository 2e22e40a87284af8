-- An operation's own faults are its form, its row or column out of range, and its HEX.
use Rattle.std.proofs.Common.{arith, ◌≡◌, ℕ, List, Result, Err, subst, ◌==◌, ◌||◌, nat_lt, length}
use Rattle.std.specs.Char.{is_ascii_uppercase}
use Rattle.std.specs.List.{list_any}
use Rattle.hex.specs.Hex.{decode_of}
use Rattle.pb_parse.specs.declared.script.code.ScriptCode.{ScriptCode}
use Rattle.pb_parse.specs.Words.{next_word, no_word, words_of}
use Rattle.pb_reading.proofs.Readings.{FailsBy, then_fails, if_fails, next_fails, end_fails, numeral_fails}
use Rattle.pb_parse.specs.ScriptWords.{number_upto, padded_value, value_of_word, cell_at, put_of, del_of, write_of, operation}

-- a fault that an operation can have by itself: 70, 71 or 72
abbrev pub IsOwn : ScriptCode → Type 0
IsOwn ScriptCode.Form = Unit {0}
IsOwn ScriptCode.Range = Unit {0}
IsOwn ScriptCode.Hex = Unit {0}
IsOwn ScriptCode.Twice = ⊥
IsOwn ScriptCode.Seventeenth = ⊥
IsOwn ScriptCode.TooMany = ⊥

-- what reads a part of an operation fails with none but these
abbrev FaultIsOwn : {A : Type 0} → Result A ScriptCode → Type 0
FaultIsOwn r = FailsBy IsOwn r

-- a number is out of form or out of range
number : (greatest : ℕ) (word : List ℕ) → FaultIsOwn (number_upto greatest word)
number greatest word = numeral_fails IsOwn ScriptCode.Form ScriptCode.Range greatest word tt tt

pads : {E : Type 0} (r : Result (List ℕ) E) → FaultIsOwn (padded_value r)
pads r = grind arith

-- a value is refused by 72 alone
content : (word : List ℕ) → FaultIsOwn (value_of_word word)
content word = if_fails IsOwn ((length word == 0) || (nat_lt 64 (length word) || list_any is_ascii_uppercase word)) (Err ScriptCode.Hex) (padded_value (decode_of word)) tt (pads (decode_of word))

cell : (words : List (List ℕ)) → FaultIsOwn (cell_at words)
unfolding cell_at
cell words = then_fails IsOwn (next_word ScriptCode.Form words) _ (next_fails IsOwn ScriptCode.Form words tt) (λ a. then_fails IsOwn (number_upto _ a.0) _ (number _ a.0) (λ row. then_fails IsOwn (next_word ScriptCode.Form a.1) _ (next_fails IsOwn ScriptCode.Form a.1 tt) (λ b. then_fails IsOwn (number_upto _ b.0) _ (number _ b.0) (λ column. tt))))

put : (words : List (List ℕ)) → FaultIsOwn (put_of words)
unfolding put_of
put words = then_fails IsOwn (cell_at words) _ (cell words) (λ a. then_fails IsOwn (next_word ScriptCode.Form a.1) _ (next_fails IsOwn ScriptCode.Form a.1 tt) (λ b. then_fails IsOwn (value_of_word b.0) _ (content b.0) (λ v. then_fails IsOwn (no_word ScriptCode.Form b.1) _ (end_fails IsOwn ScriptCode.Form b.1 tt) (λ e. tt))))

del : (words : List (List ℕ)) → FaultIsOwn (del_of words)
unfolding del_of
del words = then_fails IsOwn (cell_at words) _ (cell words) (λ a. then_fails IsOwn (no_word ScriptCode.Form a.1) _ (end_fails IsOwn ScriptCode.Form a.1 tt) (λ e. tt))

write : (words : List (List ℕ)) → FaultIsOwn (write_of words)
unfolding write_of
write words = grind (arith, then_fails, next_fails, if_fails, put, del)

-- so an operation has no fault that depends on those before it
pub own_fault : (text : List ℕ) (cause : ScriptCode) → operation text ≡ Err cause → IsOwn cause
own_fault text cause h = subst (FailsBy IsOwn) h (write (words_of text))
