-- What a script is read as that has these lines.
use Rattle.std.proofs.Common.{◌≡◌, ℕ, ◌+◌, ◌≤◌, ◌<◌, Bool, true, false, List, [], ◌∷◌, ◌++◌, length, map, Ok, refl, arith, ◌||◌, ◌==◌, ◌∙◌, ap}
use Rattle.std.specs.List.{list_any}
use Rattle.std.proofs.lemmas.List.{append_assoc, append-nil, length_push}
use Rattle.pb_reading.specs.Reading.{lines_of}
use Rattle.pb_reading.specs.Faults.{in_lines}
use Rattle.pb_reading.proofs.Parts.{Lacks, AreParts, joined_parts}
use Rattle.pb_parse.specs.ScriptLines.{Batches, with_line}
use Rattle.pb_keep.specs.Words.{Writes, MAX_CHANGES, script_of, script_code}
use Rattle.pb_keep.specs.Waits.{script_lines, IsScriptLine, AreScriptLines}

pub empty_list : {A : Type 0} (xs : List A) → length xs ≡ 0 → xs ≡ []
empty_list [] e = refl
empty_list (x ∷ xs) e = absurd cc

-- a line more
pub one_line_more : (ls : List (List ℕ)) (l : List ℕ) → script_lines (ls ++ l ∷ []) ≡ script_lines ls ++ (l ++ 10 ∷ [])
one_line_more [] l = refl
one_line_more (a ∷ []) l = grind (arith, append_assoc)
one_line_more (a ∷ b ∷ ls) l = grind (arith, append_assoc, one_line_more (b ∷ ls) l)

pub neither_holds : (a b : Bool) → (a || b) ≡ false → (a ≡ false) × (b ≡ false)
neither_holds true b h = absurd cc
neither_holds false b h = (refl, h)

no_newline : (text : List ℕ) → list_any (λ b. b == 10) text ≡ false → Lacks 10 text
no_newline [] h = tt
no_newline (x ∷ xs) h = let p = neither_holds (x == 10) (list_any (λ b. b == 10) xs) h in (p.0, no_newline xs p.1)

parts_of : (ls : List (List ℕ)) (bs : List Writes) → AreScriptLines ls bs → AreParts 10 (ls ++ [] ∷ [])
parts_of [] [] h = (tt, tt)
parts_of [] (b ∷ bs) h = absurd h
parts_of (l ∷ ls) [] h = absurd h
parts_of (l ∷ ls) (b ∷ bs) h = (no_newline l h.0.whole, parts_of ls bs h.1)

pub lines_are : (ls : List (List ℕ)) (bs : List Writes) → AreScriptLines ls bs → lines_of (script_lines ls) ≡ ls ++ [] ∷ []
lines_are [] bs h = joined_parts 10 [] [] tt tt
lines_are (l ∷ ls) [] h = absurd h
lines_are (l ∷ ls) (b ∷ bs) h = joined_parts 10 l (ls ++ [] ∷ []) (no_newline l h.0.whole) (parts_of ls bs h.1)

one_more : (before : Batches) (l : List ℕ) (b : Writes) → IsScriptLine l b → length before < MAX_CHANGES → with_line before l ≡ Ok (before ++ b ∷ [])
unfolding with_line
one_more before l b h lt = grind (arith, h.read, h.shown)

last : (before : Batches) → with_line before [] ≡ Ok before
unfolding with_line
last before = refl

one_longer : (before : Batches) (b : Writes) (bs : List Writes) → length before + length (b ∷ bs) ≤ MAX_CHANGES → length (before ++ b ∷ []) + length bs ≤ MAX_CHANGES
one_longer before b bs le = let e = length_push before b in rw (e) (omega arith)

in_turn_are : (n : ℕ) (before : Batches) (ls : List (List ℕ)) (bs : List Writes) → AreScriptLines ls bs → length before + length bs ≤ MAX_CHANGES → in_lines script_code with_line n before (ls ++ [] ∷ []) ≡ Ok (before ++ bs)
in_turn_are n before [] [] h le = rw (last before, append-nil before) refl
in_turn_are n before [] (b ∷ bs) h le = absurd h
in_turn_are n before (l ∷ ls) [] h le = absurd h
in_turn_are n before (l ∷ ls) (b ∷ bs) h le =
    rw (one_more before l b h.0 (omega arith)) (in_turn_are (n + 1) (before ++ b ∷ []) ls bs h.1 (one_longer before b bs le) ∙ ap (λ x. Ok x) (append_assoc before (b ∷ []) bs))

-- the script of these lines is read as these changes
pub script_is : (ls : List (List ℕ)) (bs : List Writes) → AreScriptLines ls bs → length bs ≤ MAX_CHANGES → script_of (script_lines ls) ≡ Ok bs
script_is ls bs h le = rw (lines_are ls bs h) (in_turn_are 0 [] ls bs h (omega arith))

-- a list of no items
pub no_items : {A B : Type 0} (f : A → B) (xs : List A) → map f xs ≡ [] → xs ≡ []
no_items f [] e = refl
no_items f (x ∷ xs) e = absurd cc
