-- Which fault is reported for a text: that of its first line at fault, by the line's number and the code's. Readers of programs'
-- texts, scripts and schedules promise it by these words, and so do their laws.
use Rattle.std.specs.Prelude.{◌≡◌, ℕ, ◌+◌, List, ◌∷◌, ◌++◌, length, Result, Ok, Err, codes, decimal}
use Rattle.pb_reading.specs.declared.fault.LineFault.{LineFault}
use Rattle.pb_reading.specs.declared.fault.TextFault.{TextFault}
use Rattle.pb_reading.specs.Reading.{lines_of, in_turn, numbered}

-- what reading gives where a line wasn't taken for this: that fault. Of want of memory nothing follows, since no contract
-- can say when there is any
abbrev pub Ends : {Y C : Type 0} → LineFault C → Result Y C → Type 0
Ends (LineFault.NoMemory refused) read = Unit {0}
Ends (LineFault.Code c) read = read ≡ Err c

-- what was returned of a line, seen by view, is what reading gives, unless memory ran out
abbrev pub ReadsLine : {X Y C : Type 0} → (X → Y) → Result X (LineFault C) → Result Y C → Type 0
ReadsLine view (Ok x) read = read ≡ Ok (view x)
ReadsLine view (Err fault) read = Ends fault read

-- the line by which a fault is reported; want of memory is no line's
abbrev pub line_told : TextFault → ℕ
line_told (TextFault.NoMemory refused) = 0
line_told (TextFault.At line code) = line

-- the number by which it is reported
abbrev pub code_told : TextFault → ℕ
code_told (TextFault.NoMemory refused) = 1
code_told (TextFault.At line code) = code

-- a fault's words, without a newline
abbrev pub line_and_code : ℕ → ℕ → List ℕ
line_and_code line code = codes "line " ++ (decimal line ++ (codes " code " ++ decimal code))

-- what was returned of a text, seen by view, is what reading gives, unless memory ran out
abbrev pub ReadsText : {X Y : Type 0} → (X → Y) → Result X TextFault → Result Y (ℕ × ℕ) → Type 0
ReadsText view (Ok x) read = read ≡ Ok (view x)
ReadsText view (Err (TextFault.NoMemory refused)) read = Unit {0}
ReadsText view (Err (TextFault.At line code)) read = read ≡ Err (line, code)

-- reading ends with the fault of this line
abbrev pub IsFaultOf : {Y : Type 0} → Result Y (ℕ × ℕ) → TextFault → Type 0
IsFaultOf read (TextFault.NoMemory refused) = ⊥
IsFaultOf read (TextFault.At line code) = read ≡ Err (line, code)

-- the lines one after the other, each after what those before it made; the first fault ends it, and is reported by the number of
-- its line, to which skipped lines count, and by that of its code
abbrev pub in_lines : {S C : Type 0} → (C → ℕ) → (S → List ℕ → Result S C) → ℕ → S → List (List ℕ) → Result S (ℕ × ℕ)
in_lines code with_line n before lines = in_turn (λ m s line. numbered code m (with_line s line)) n before lines

-- the lines in front are read, as a text of their own, and after them the line of this number is at fault
pub record StopsAt {S C : Type 0} (code : C → ℕ) (with_line : S → List ℕ → Result S C) (start : S) (text : List ℕ) (line told : ℕ) : Type 0 where
  pub front : List (List ℕ)
  pub here : List ℕ
  pub after : List (List ℕ)
  pub before : S
  pub cause : C
  pub parts : lines_of text ≡ front ++ here ∷ after
  pub read : in_lines code with_line 0 start front ≡ Ok before
  pub fault : with_line before here ≡ Err cause
  pub number : line ≡ length front + 1
  pub told_by : told ≡ code cause
