-- A line is read exactly where its operations are, and are a batch.
use Rattle.std.proofs.Common.{◌≡◌, ℕ, ◌+◌, ◌<◌, ◌≤◌, true, false, List, [], ◌∷◌, ◌++◌, length, Some, None, Ok, refl, sym, ap, ◌∙◌, arith, inl, inr, append_assoc, length-append, ◌↔◌, is_none, nat_le, nat_lt}
use Rattle.std.specs.List.{list_all}
use Rattle.std.proofs.lemmas.Bool.{and_parts, leb-true, lt-leb}
use Rattle.std.proofs.lemmas.List.{append-nil}
use Rattle.std.specs.Ordering.{eq_by_cmp}
use Rattle.std.specs.Cmp.{eq_by_cmp_equiv}
use Rattle.pb_parse.specs.Words.{MAX_CELLS, Cell, Content, cell_cmp, cell_cmp_total, Writes, content_in, is_data_write, are_distinct, is_batch, in_turn}
use Rattle.pb_parse.specs.ScriptWords.{operation}
use Rattle.pb_parse.specs.ScriptLines.{cut, with_operation, batch_of}
use Rattle.pb_parse.specs.Operations.{Say}
use Rattle.pb_parse.proofs.Batches.{none_of, line_is_open, line_is_batch}
use Rattle.pb_base.proofs.Logic.{chosen_branch}

-- where no cell is named twice, one isn't named before

-- where a cell isn't among the writes, it is none of their cells
apart : (vs ws : Writes) (w : Cell × Content) (x : Cell) → content_in (vs ++ w ∷ ws) x ≡ None → eq_by_cmp cell_cmp x w.0 ≡ false
apart [] ws w x n = grind arith
apart (v ∷ vs) ws w x n = elim (chosen_branch (eq_by_cmp cell_cmp x v.0) (Some v.1) (content_in (vs ++ w ∷ ws) x) None n) [
  | inl here ↦ let no = here.1 in absurd cc
  | inr there ↦ apart vs ws w x there.1
]

-- among distinct cells none of those before one is its cell
lacks : (before ws : Writes) (w : Cell × Content) → are_distinct (before ++ w ∷ ws) ≡ true → content_in before w.0 ≡ None
lacks [] ws w d = refl
lacks (v ∷ vs) ws w d =
    let p = and_parts (is_none (content_in (vs ++ w ∷ ws) v.0)) (are_distinct (vs ++ w ∷ ws)) d in
    let other : eq_by_cmp cell_cmp w.0 v.0 ≡ false = (eq_by_cmp_equiv cell_cmp_total).symm w.0 v.0 ∙ apart vs ws w v.0 (none_of (content_in (vs ++ w ∷ ws) v.0) p.0) in
    rw other (lacks vs ws w p.1)

-- an operation that is read, of a new cell, is taken where there is room
adds : (before : Writes) (text : List ℕ) (w : Cell × Content) → operation text ≡ Ok w → content_in before w.0 ≡ None → length before < MAX_CELLS → with_operation before text ≡ Ok (before ++ w ∷ [])
unfolding with_operation
adds before text w read new room = rw (read, new, lt-leb MAX_CELLS (length before) room) refl

first_said : (text : List ℕ) (texts : List (List ℕ)) (w : Cell × Content) (ws : Writes) → Say (text ∷ texts) (w ∷ ws) → (operation text ≡ Ok w) × Say texts ws
first_said text texts w ws said = (cc, cc)

-- so operations that say a batch are taken one after the other, from any of its beginnings
goes : (n : ℕ) (before ws : Writes) (texts : List (List ℕ)) → Say texts ws → length (before ++ ws) ≤ MAX_CELLS → are_distinct (before ++ ws) ≡ true → in_turn (λ _. with_operation) n before texts ≡ Ok (before ++ ws)
goes n before [] [] said few distinct = ap Ok (sym (append-nil before))
goes n before (w ∷ ws) [] said few distinct = absurd cc
goes n before [] (t ∷ ts) said few distinct = absurd cc
goes n before (w ∷ ws) (t ∷ ts) said few distinct =
    let p = first_said t ts w ws said in
    let room : length before < MAX_CELLS = let k = simp length-append at few in omega arith in
    let same : (before ++ w ∷ []) ++ ws ≡ before ++ w ∷ ws = append_assoc before (w ∷ []) ws in
    let rest : in_turn (λ _. with_operation) (n + 1) (before ++ w ∷ []) ts ≡ Ok ((before ++ w ∷ []) ++ ws) = goes (n + 1) (before ++ w ∷ []) ws ts p.1 (rw same few) (rw same distinct) in
    rw (adds before t w p.0 (lacks before ws w distinct) room) (rest ∙ ap Ok same)

-- a line whose operations say a batch is read as that batch
is_read : (line : List ℕ) (batch : Writes) → Say (cut line) batch → is_batch batch ≡ true → batch_of line ≡ Ok batch
is_read line batch said h =
    let p = and_parts _ (are_distinct batch) h in
    let q = and_parts _ (list_all is_data_write batch) p.0 in
    let r = and_parts (nat_lt 0 (length batch)) (nat_le (length batch) MAX_CELLS) q.0 in
    goes 0 [] batch (cut line) said (leb-true _ _ r.1) p.1

-- and one that is read says a batch: there is no other way to be read
pub reads_operations : (line : List ℕ) (batch : Writes) → (batch_of line ≡ Ok batch) ↔ (Say (cut line) batch × (is_batch batch ≡ true))
reads_operations line batch = (λ h. let o = line_is_open line batch h in (o.said, line_is_batch line batch h), λ p. is_read line batch p.0 p.1)
