-- The words of one operation, each read from left to right, since the first field at fault is the one that is reported.
-- Each reader of src/script/words.rt cites the one of its name.
use Rattle.std.specs.Prelude.{ℕ, ◌-◌, ◌^◌, replicate, ◌||◌, ◌==◌, nat_lt, if◌then◌else◌, List, ◌++◌, length, drop, codes, Result, Ok, Err, bytes_eq}
use Rattle.std.specs.Char.{is_ascii_uppercase}
use Rattle.std.specs.List.{list_any}
use Rattle.hex.specs.Hex.{decode_of}
use Rattle.pb_parse.specs.Words.{COLUMNS, Cell, Content, ◌>>=◌, next_word, no_word, numeral_upto, words_of}
use Rattle.pb_parse.specs.declared.script.code.ScriptCode.{ScriptCode}

-- a number of any length, at most this
abbrev pub number_upto : ℕ → List ℕ → Result ℕ ScriptCode
number_upto greatest word = numeral_upto ScriptCode.Form ScriptCode.Range greatest word

-- 32 bytes: those that were read, and zeros
abbrev pub padded_value : {E : Type 0} → Result (List ℕ) E → Result (List ℕ) ScriptCode
padded_value (Ok bytes) = Ok (bytes ++ drop (length bytes) (replicate 32 0))
padded_value (Err e) = Err ScriptCode.Hex

-- 2 to 64 lower-case hexadecimal digits, two for a byte
abbrev pub value_of_word : List ℕ → Result (List ℕ) ScriptCode
value_of_word word = if (length word == 0) || (nat_lt 64 (length word) || list_any is_ascii_uppercase word) then Err ScriptCode.Hex else padded_value (decode_of word)

-- a row and a column, and the words after them
unfoldable pub cell_at : List (List ℕ) → Result (Cell × List (List ℕ)) ScriptCode
cell_at words = do
  first ← next_word ScriptCode.Form words
  row ← number_upto (2 ^ 64 - 1) first.0
  second ← next_word ScriptCode.Form first.1
  column ← number_upto (COLUMNS - 1) second.0
  Ok (Cell.Data (record { 0 = row }) column, second.1)

-- `put ROW COL HEX`, after its verb: the content is read before the check whether a word is left
unfoldable pub put_of : List (List ℕ) → Result (Cell × Content) ScriptCode
put_of words = do
  cell ← cell_at words
  word ← next_word ScriptCode.Form cell.1
  content ← value_of_word word.0
  end ← no_word ScriptCode.Form word.1
  Ok (cell.0, Content.Value content)

-- `del ROW COL`, after its verb
unfoldable pub del_of : List (List ℕ) → Result (Cell × Content) ScriptCode
del_of words = do
  cell ← cell_at words
  end ← no_word ScriptCode.Form cell.1
  Ok (cell.0, Content.Deleted)

-- an operation by its verb; an unknown one is of no form, with any words after it
unfoldable pub write_of : List (List ℕ) → Result (Cell × Content) ScriptCode
write_of words = do
  verb ← next_word ScriptCode.Form words
  if bytes_eq verb.0 (codes "put") then put_of verb.1 else if bytes_eq verb.0 (codes "del") then del_of verb.1 else Err ScriptCode.Form

-- one operation: its words stand with one blank between them
abbrev pub operation : List ℕ → Result (Cell × Content) ScriptCode
operation text = write_of (words_of text)
