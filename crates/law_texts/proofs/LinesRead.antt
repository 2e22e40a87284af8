-- A line is read as a transaction exactly where it is the transaction's line.
use Rattle.std.proofs.Common.{◌≡◌, ◌↔◌, ℕ, ◌<◌, ◌≤◌, true, List, [], ◌∷◌, length, Ok, refl, sym, arith, nat_le, nat_lt}
use Rattle.std.specs.List.{AllZip, list_all}
use Rattle.std.proofs.lemmas.Bool.{and_parts, le-leb, leb-true, lt-ltb, ltb-true}
use Rattle.law_texts.specs.Words.{MAX_CELLS, Cell, Content, Writes, is_data_write, are_distinct, is_batch, operation, cut, batch_of, Say}
use Rattle.law_texts.specs.OperationTexts.{IsOperationOf}
use Rattle.law_texts.specs.LineTexts.{IsBatchLine}
use Rattle.pb_reading.proofs.Parts.{AreParts}
use Rattle.law_texts.proofs.DistinctWrites.{distinct_is}
use Rattle.law_texts.proofs.Joints.{joined, joined_cut, cut_joined}
use Rattle.law_texts.proofs.OperationsWritten.{operation_written}
use Rattle.law_texts.proofs.OperationsRead.{operation_read, no_semicolon}

-- what the law `reads_operations` says
abbrev pub ReadsOperations : Type 0
ReadsOperations = (line : List ℕ) (batch : Writes) → (batch_of line ≡ Ok batch) ↔ (Say (cut line) batch × (is_batch batch ≡ true))

-- these are the texts of the writes, in their order
abbrev AreOperations : Writes → List (List ℕ) → Type 0
AreOperations ws texts = AllZip (λ w text. IsOperationOf w.0 w.1 text) ws texts

-- ---- what is read

-- texts that are read as these writes are written as theirs
are_written : (texts : List (List ℕ)) (ws : Writes) → Say texts ws → AreOperations ws texts
are_written [] [] said = tt
are_written [] (w ∷ ws) said = absurd cc
are_written (text ∷ texts) [] said = absurd cc
are_written (text ∷ texts) (w ∷ ws) said =
    let here : operation text ≡ Ok w = cc in
    let others : Say texts ws = cc in
    (operation_written text w.0 w.1 here, are_written texts ws others)

-- a line that is read as a transaction is written as its line
line_written : ReadsOperations → (line : List ℕ) (batch : Writes) → batch_of line ≡ Ok batch → IsBatchLine batch line
line_written reads line batch h =
    let r = (reads line batch).0 h in
    let p = and_parts _ (are_distinct batch) r.1 in
    let q = and_parts _ (list_all is_data_write batch) p.0 in
    let s = and_parts (nat_lt 0 (length batch)) (nat_le (length batch) MAX_CELLS) q.0 in
    let some : 0 < length batch = ltb-true _ _ s.0 in
    record { texts = cut line; operations = are_written (cut line) batch r.0; joined = sym (joined_cut line); distinct = (distinct_is batch).0 p.1; some = omega (arith, some); few = leb-true _ _ s.1 }

-- ---- what is written

say_more : (text : List ℕ) (texts : List (List ℕ)) (w : Cell × Content) (ws : Writes) → operation text ≡ Ok w → Say texts ws → Say (text ∷ texts) (w ∷ ws)
say_more text texts w ws is said = λ i. is i ∷ said i

-- and texts that are written as theirs are read as these writes
say_all : (ws : Writes) (texts : List (List ℕ)) → AreOperations ws texts → Say texts ws
say_all [] [] h = refl
say_all [] (text ∷ texts) h = absurd h
say_all (w ∷ ws) [] h = absurd h
say_all (w ∷ ws) (text ∷ texts) h = say_more text texts w ws (operation_read text w.0 w.1 h.0) (say_all ws texts h.1)

-- no operation has a semicolon, so that a line is cut between them alone
no_semicolons : (ws : Writes) (texts : List (List ℕ)) → AreOperations ws texts → AreParts 59 texts
no_semicolons [] [] h = tt
no_semicolons [] (text ∷ texts) h = absurd h
no_semicolons (w ∷ ws) [] h = absurd h
no_semicolons (w ∷ ws) (text ∷ texts) h = (no_semicolon w.0 w.1 text h.0, no_semicolons ws texts h.1)

to_data : (x : Cell) (content : Content) (text : List ℕ) → IsOperationOf x content text → is_data_write (x, content) ≡ true
to_data x content text h = grind arith

all_to_data : (ws : Writes) (texts : List (List ℕ)) → AreOperations ws texts → list_all is_data_write ws ≡ true
all_to_data [] [] h = refl
all_to_data [] (text ∷ texts) h = absurd h
all_to_data (w ∷ ws) [] h = absurd h
all_to_data (w ∷ ws) (text ∷ texts) h = rw (to_data w.0 w.1 text h.0) (all_to_data ws texts h.1)

-- the operations of a line are its parts
cut_again : (ws : Writes) (texts : List (List ℕ)) → 1 ≤ length ws → AreOperations ws texts → cut (joined texts) ≡ texts
cut_again [] texts some h = absurd (omega arith)
cut_again (w ∷ ws) [] some h = absurd h
cut_again (w ∷ ws) (text ∷ texts) some h = let parts = no_semicolons (w ∷ ws) (text ∷ texts) h in cut_joined text texts parts.0 parts.1

-- a line that is written as a transaction's is read as that
line_back : ReadsOperations → (line : List ℕ) (batch : Writes) → IsBatchLine batch line → batch_of line ≡ Ok batch
line_back reads line batch l = grind (arith, cut_again, say_all, lt-ltb, le-leb, all_to_data, distinct_is, l.some, l.texts, l.joined, l.operations, l.few, l.distinct)

-- a line is read as a transaction exactly where it is the transaction's line
pub line_is : ReadsOperations → (line : List ℕ) (batch : Writes) → (batch_of line ≡ Ok batch) ↔ IsBatchLine batch line
line_is reads line batch = (line_written reads line batch, line_back reads line batch)
