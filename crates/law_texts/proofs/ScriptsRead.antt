-- A text is read as transactions exactly where its lines are theirs.
use Rattle.std.proofs.Common.{◌≡◌, ◌≢◌, ◌↔◌, ℕ, false, List, [], ◌∷◌, map, Result, Ok, refl, sym, ap, subst, ◌∙◌, arith, ◌==◌}
use Rattle.std.specs.List.{All, AllZip, filter, join_with_byte}
use Rattle.std.proofs.lemmas.Bool.{eqb-false, ne_eqb}
use Rattle.std.proofs.lemmas.List.Elements.{All-from_recursion, recursion_from_All}
use Rattle.std.proofs.lemmas.List.Splits.{join_with_byte-slice_split}
use Rattle.law_texts.specs.Words.{Writes, lines_of, ScriptCode, Batches, batch_of, script_of}
use Rattle.pb_reading.proofs.LinesInTurn.{cons_is_same}
use Rattle.pb_reading.proofs.Parts.{Lacks, AreParts, parts_are, joined_parts}
use Rattle.pb_reading.proofs.SkippedLines.{kept}
use Rattle.pb_parse.proofs.WholeScripts.{lines_are, lines_back}
use Rattle.law_texts.specs.LineTexts.{IsBatchLine}
use Rattle.law_texts.specs.ScriptTexts.{is_transaction, IsScriptOf}

-- ---- lines that are skipped

-- so those that aren't are the transactions'
shown_is : (ls : List (List ℕ)) → kept ls ≡ filter is_transaction ls
shown_is [] = refl
shown_is (l ∷ ls) = grind arith

-- ---- whole texts

-- what the law `lines_are_read_as_written` says
abbrev pub ReadsLines : Type 0
ReadsLines = (line : List ℕ) (batch : Writes) → (batch_of line ≡ Ok batch) ↔ IsBatchLine batch line

-- each of the lines is read as the transaction in its place
abbrev AreRead : Batches → List (List ℕ) → Type 0
AreRead batches ls = map batch_of ls ≡ map (λ batch. Ok batch) batches

are_lines : ReadsLines → (batches : Batches) (ls : List (List ℕ)) → AreRead batches ls → AllZip IsBatchLine batches ls
are_lines law [] [] h = tt
are_lines law [] (l ∷ ls) h = absurd cc
are_lines law (b ∷ bs) [] h = absurd cc
are_lines law (b ∷ bs) (l ∷ ls) h =
    let p = cons_is_same (batch_of l) (Ok b) (map batch_of ls) (map (λ batch. Ok batch) bs) h in
    ((law l b).0 p.0, are_lines law bs ls p.1)

are_read : ReadsLines → (batches : Batches) (ls : List (List ℕ)) → AllZip IsBatchLine batches ls → AreRead batches ls
are_read law [] [] h = refl
are_read law [] (l ∷ ls) h = absurd h
are_read law (b ∷ bs) [] h = absurd h
are_read law (b ∷ bs) (l ∷ ls) h = ap (λ (r : Result Writes ScriptCode). r ∷ map batch_of ls) ((law l b).1 h.0) ∙ ap (λ (rs : List (Result Writes ScriptCode)). Ok b ∷ rs) (are_read law bs ls h.1)

-- no newline in a line
abbrev AreParted : List (List ℕ) → Type 0
AreParted lines = All (λ line. All (λ b. b ≢ 10) line) lines

are_parted : (lines : List (List ℕ)) → AreParts 10 lines → AreParted lines
are_parted lines h k d lt j e less = eqb-false _ _ (All-from_recursion (λ b. (b == 10) ≡ false) _ (All-from_recursion (Lacks 10) lines h k d lt) j e less)

are_parts : (lines : List (List ℕ)) → AreParted lines → AreParts 10 lines
are_parts lines h = recursion_from_All (Lacks 10) lines (λ k d lt. recursion_from_All (λ b. (b == 10) ≡ false) _ (λ j e less. ne_eqb _ _ (h k d lt j e less)))

kept_again : (lines : List (List ℕ)) → AreParts 10 lines → kept (lines_of (join_with_byte 10 lines)) ≡ kept lines
kept_again [] parts = refl
kept_again (line ∷ lines) parts = ap kept (joined_parts 10 line lines parts.0 parts.1)

-- a text that is read as transactions is written as theirs
text_written : ReadsLines → (text : List ℕ) (batches : Batches) → script_of text ≡ Ok batches → IsScriptOf batches text
text_written law text batches h =
    let f = lines_are text batches h in
    record {
      lines = lines_of text;
      parted = are_parted (lines_of text) (parts_are 10 text);
      joined = sym (join_with_byte-slice_split 10 text);
      told = subst (AllZip IsBatchLine batches) (shown_is (lines_of text)) (are_lines law batches (kept (lines_of text)) f.0);
      few = f.1;
    }

-- and one that is written as theirs is read as them
text_back : ReadsLines → (text : List ℕ) (batches : Batches) → IsScriptOf batches text → script_of text ≡ Ok batches
text_back law text batches s = grind (arith, kept, kept_again, are_parts, shown_is, lines_back, are_read, s.lines, s.joined, s.parted, s.told, s.few)

-- a text is read as transactions exactly where it is their script
pub text_is : ReadsLines → (text : List ℕ) (batches : Batches) → (script_of text ≡ Ok batches) ↔ IsScriptOf batches text
text_is law text batches = (text_written law text batches, text_back law text batches)
