-- What the operations of a line write, and which of them is at fault. It is defined for all at once, without an order of reading,
-- since a looseness of the reading in turn would stand in definition and reader alike. The laws of lines cite it.
use Rattle.std.specs.Prelude.{◌≡◌, ℕ, ◌≤◌, true, false, is_some, List, ◌∷◌, ◌++◌, length, map, Ok, Err}
use Rattle.pb_parse.specs.Words.{MAX_CELLS, Cell, Content, Writes, content_in, are_distinct}
use Rattle.pb_parse.specs.declared.script.code.ScriptCode.{ScriptCode}
use Rattle.pb_parse.specs.ScriptWords.{operation}
use Rattle.pb_parse.specs.ScriptLines.{cut}

-- each of the texts is read, as the write in its place
abbrev pub Say : List (List ℕ) → Writes → Type 0
Say texts writes = map operation texts ≡ map (λ w. Ok w) writes

-- Why the operation of this text is at fault after those that ask for these writes: by itself; or it names one of their cells; or
-- it names another, and they are as many as a transaction may have.
abbrev pub IsFaultAfter : Writes → List ℕ → ScriptCode → Type 0
IsFaultAfter before text ScriptCode.Form = operation text ≡ Err ScriptCode.Form
IsFaultAfter before text ScriptCode.Range = operation text ≡ Err ScriptCode.Range
IsFaultAfter before text ScriptCode.Hex = operation text ≡ Err ScriptCode.Hex
IsFaultAfter before text ScriptCode.Twice = (w : Cell × Content) × (operation text ≡ Ok w) × (is_some (content_in before w.0) ≡ true)
IsFaultAfter before text ScriptCode.Seventeenth = (w : Cell × Content) × (operation text ≡ Ok w) × (is_some (content_in before w.0) ≡ false) × (length before ≡ MAX_CELLS)
IsFaultAfter before text ScriptCode.TooMany = ⊥

-- the operations in front are read, of distinct cells and no more than a transaction may have, and the next is at fault after them
pub record StopsWith (line : List ℕ) (cause : ScriptCode) : Type 0 where
  pub front : List (List ℕ)
  pub here : List ℕ
  pub after : List (List ℕ)
  pub before : Writes
  pub parts : cut line ≡ front ++ here ∷ after
  pub read : Say front before
  pub distinct : are_distinct before ≡ true
  pub few : length before ≤ MAX_CELLS
  pub fault : IsFaultAfter before here cause
