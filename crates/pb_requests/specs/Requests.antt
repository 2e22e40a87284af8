-- A line of the standard input of `percobpf_keep`, and what it asks for. `parse_request` cites it.
use Rattle.std.specs.Prelude.{ℕ, ◌^◌, ◌-◌, nat_lt, ◌==◌, ◌||◌, if◌then◌else◌, List, [], ◌∷◌, length, codes, Result, Ok, Err, bytes_eq}
use Rattle.pb_requests.specs.Words.{Ts, column_of, row_of, next_word, no_word, words_of, ◌>>=◌, cut, cell_at, number_upto, ScriptCode}
use Rattle.pb_requests.specs.declared.parse.TheConstants.{MAX_LINE}
use Rattle.pb_requests.specs.declared.request.Condition.{Condition}
use Rattle.pb_requests.specs.declared.request.Request.{Request}

-- a commit, and the words after it
unfoldable pub commit_of : List (List ℕ) → Result (ℕ × List (List ℕ)) ScriptCode
commit_of words = do
  word ← next_word ScriptCode.Form words
  commit ← number_upto (2 ^ 64 - 1) word.0
  Ok (commit, word.1)

-- a line that is its verb alone
unfoldable pub alone_in : Request → List (List ℕ) → Result Request ScriptCode
alone_in request words = do
  end ← no_word ScriptCode.Form words
  Ok request

-- `get ROW COL`, after its verb
unfoldable pub get_of : List (List ℕ) → Result Request ScriptCode
get_of words = do
  cell ← cell_at words
  end ← no_word ScriptCode.Form cell.1
  Ok (Request.Get (row_of cell.0) (column_of cell.0))

-- `since C`, after its verb
unfoldable pub since_of : List (List ℕ) → Result Request ScriptCode
since_of words = do
  commit ← commit_of words
  end ← no_word ScriptCode.Form commit.1
  Ok (Request.Since (record { 0 = commit.0 }))

-- `copy N`, after its verb
unfoldable pub copy_request_of : List (List ℕ) → Result Request ScriptCode
copy_request_of words = do
  word ← next_word ScriptCode.Form words
  number ← number_upto (2 ^ 64 - 1) word.0
  end ← no_word ScriptCode.Form word.1
  Ok (Request.Copy number)

-- `if ROW COL C`, after its verb: the cell, and the commit that its newest write is to have
unfoldable pub condition_in : List (List ℕ) → Result Condition ScriptCode
condition_in words = do
  cell ← cell_at words
  commit ← commit_of cell.1
  end ← no_word ScriptCode.Form commit.1
  Ok (record { row = row_of cell.0; column = column_of cell.0; commit = record { 0 = commit.0 } })

unfoldable pub condition_of : List ℕ → Result Condition ScriptCode
condition_of text = do
  verb ← next_word ScriptCode.Form (words_of text)
  condition_in verb.1

-- `if ROW COL C`, and one operation at least, each after a `; `
unfoldable pub conditional : List (List ℕ) → Result Request ScriptCode
conditional [] = Err ScriptCode.Form
conditional (first ∷ operations) = if length operations == 0 then Err ScriptCode.Form else do
  condition ← condition_of first
  Ok (Request.ChangeIf condition)

-- a line that asks something of the log, by its verb
unfoldable pub of_log : List ℕ → List (List ℕ) → Result Request ScriptCode
of_log verb words =
    if bytes_eq verb (codes "compact") then alone_in Request.Compact words
    else if bytes_eq verb (codes "copy") then copy_request_of words
    else Err ScriptCode.Form

-- a line that changes nothing, by its verb
unfoldable pub question_of : List ℕ → List (List ℕ) → Result Request ScriptCode
question_of verb words =
    if bytes_eq verb (codes "get") then get_of words
    else if bytes_eq verb (codes "since") then since_of words
    else if bytes_eq verb (codes "list") then alone_in Request.List words
    else if bytes_eq verb (codes "begin") then alone_in Request.Begin words
    else if bytes_eq verb (codes "end") then alone_in Request.End words
    else if bytes_eq verb (codes "quiet?") then alone_in Request.IsQuiet words
    else if bytes_eq verb (codes "stats") then alone_in Request.Stats words
    else of_log verb words

-- a line by its verb and the words after it
unfoldable pub request_by : List ℕ → List ℕ → List (List ℕ) → Result Request ScriptCode
request_by line verb words =
    if bytes_eq verb (codes "put") || bytes_eq verb (codes "del") then Ok Request.Change
    else if bytes_eq verb (codes "if") then conditional (cut line)
    else question_of verb words

-- a line; one that is too long, or empty, or of another verb is of no form
unfoldable pub asked_by : List ℕ → Result Request ScriptCode
asked_by line = if nat_lt MAX_LINE (length line) then Err ScriptCode.Form else do
  verb ← next_word ScriptCode.Form (words_of line)
  request_by line verb.0 verb.1
