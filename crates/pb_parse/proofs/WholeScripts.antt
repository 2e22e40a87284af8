-- A text is read as transactions exactly where its lines are, each as one of them, and they are no more than a script may
-- have.
use Rattle.std.proofs.Common.{◌≡◌, ℕ, ◌<◌, ◌≤◌, true, false, cond, List, [], ◌∷◌, ◌++◌, length, map, Result, Ok, Err, refl, sym, ap, subst, ◌∙◌, arith, length-append, nat_le}
use Rattle.std.proofs.lemmas.Bool.{leb-false, lt-leb}
use Rattle.pb_parse.specs.Words.{MAX_CHANGES, Writes, ◌>>=◌, is_skipped, lines_of}
use Rattle.pb_reading.proofs.LinesInTurn.{Adds, TakesLines, read_adds_all, said_is_read, flat_singles}
use Rattle.pb_reading.proofs.SkippedLines.{kept}
use Rattle.pb_reading.proofs.Readings.{then_ok, ok_is, else_ok}
use Rattle.pb_parse.specs.Codes.{script_code}
use Rattle.pb_parse.specs.declared.script.code.ScriptCode.{ScriptCode}
use Rattle.pb_parse.specs.ScriptLines.{Batches, batch_of, with_line, script_of}

abbrev one : Writes → Batches
one batch = batch ∷ []

-- no more transactions than a script may have
abbrev Room : Batches → Type 0
Room batches = length batches ≤ MAX_CHANGES

skip_line : (before : Batches) (l : List ℕ) → is_skipped l ≡ true → with_line before l ≡ Ok before
unfolding with_line
skip_line before l is = rw is refl

abbrev added : Batches → Writes → Result Batches ScriptCode
added before batch = cond (nat_le MAX_CHANGES (length before)) (Err ScriptCode.TooMany) (Ok (before ++ batch ∷ []))

shown_line : (before : Batches) (l : List ℕ) → is_skipped l ≡ false → with_line before l ≡ (batch_of l >>= added before)
unfolding with_line
shown_line before l is = rw is refl

-- a line adds its transaction, the 10,000th at most
take_line : (before after : Batches) (l : List ℕ) → is_skipped l ≡ false → with_line before l ≡ Ok after → Adds batch_of one Room before after l
take_line before after l is h =
    let a = then_ok (batch_of l) (added before) after (sym (shown_line before l is) ∙ h) in
    let p = else_ok (nat_le MAX_CHANGES (length before)) (Ok (before ++ a.0 ∷ [])) ScriptCode.TooMany after a.2 in
    let whole = ok_is {E = ScriptCode} (before ++ a.0 ∷ []) after p.1 in
    let room : length before < MAX_CHANGES = leb-false _ _ p.0 in
    let few : Room (before ++ a.0 ∷ []) = simp length-append (omega (arith, room)) in
    record { thing = a.0; says = a.1; whole = whole; room = subst Room whole few }

add_line : (before : Batches) (l : List ℕ) (batch : Writes) → is_skipped l ≡ false → batch_of l ≡ Ok batch → Room (before ++ batch ∷ []) → with_line before l ≡ Ok (before ++ batch ∷ [])
add_line before l batch is says few = grind (arith, length-append, lt-leb, shown_line)

fewer : (before more : Batches) → Room (before ++ more) → Room before
fewer before more room = let b = length-append before more in omega (arith, b, room)

takes : TakesLines with_line batch_of one Room
takes = record { skips = skip_line; adds = take_line; takes = add_line; fewer = fewer }

-- a text's transactions are those of its lines
pub lines_are : (text : List ℕ) (batches : Batches) → script_of text ≡ Ok batches → (map batch_of (kept (lines_of text)) ≡ map (λ batch. Ok batch) batches) × Room batches
lines_are text batches h =
    let f = read_adds_all script_code with_line batch_of one Room takes 0 [] batches (lines_of text) h (omega arith) in
    (f.says ∙ ap (map (λ batch. Ok batch)) (sym (f.whole ∙ flat_singles f.things)), f.room)

pub lines_back : (text : List ℕ) (batches : Batches) → map batch_of (kept (lines_of text)) ≡ map (λ batch. Ok batch) batches → Room batches → script_of text ≡ Ok batches
lines_back text batches says room = said_is_read script_code with_line batch_of one Room takes 0 (lines_of text) [] batches says (subst Room (sym (flat_singles batches)) room) ∙ ap Ok (flat_singles batches)
