-- What the operations of a line make is a batch, however many they are.
use Rattle.std.proofs.Common.{◌≡◌, ℕ, ◌+◌, ◌<◌, ◌≤◌, Bool, true, false, cond, List, [], ◌∷◌, ◌++◌, length, Option, Some, None, Result, Ok, refl, sym, ap, subst, ◌∙◌, arith, inl, inr, append_assoc, length-append, ◌==◌, ◌&&◌, is_none}
use Rattle.std.specs.Cmp.{eq_by_cmp_equiv}
use Rattle.std.specs.List.{list_all, onto_first}
use Rattle.std.specs.Ordering.{eq_by_cmp}
use Rattle.std.proofs.lemmas.Bool.{and_parts, le-leb, lt-ltb}
use Rattle.std.proofs.lemmas.List.{append-nil, length-map, map-append}
use Rattle.pb_parse.specs.Words.{cell_cmp, cell_cmp_total, is_data, Cell, Content, Writes, content_in, is_unstamped, is_data_write, are_distinct, is_batch, ◌>>=◌, in_turn, MAX_CELLS}
use Rattle.pb_parse.specs.declared.script.code.ScriptCode.{ScriptCode}
use Rattle.pb_parse.specs.ScriptWords.{put_of, del_of, write_of, operation, cell_at}
use Rattle.pb_parse.specs.ScriptLines.{cut, with_operation, batch_of}
use Rattle.pb_parse.specs.Operations.{Say}
use Rattle.pb_reading.proofs.Readings.{ok_is, then_ok}
use Rattle.pb_base.proofs.Logic.{chosen_branch}

-- the cells of a script are data cells, since no word of it names another
cell_is_data : (words : List (List ℕ)) (c : Cell × List (List ℕ)) → cell_at words ≡ Ok c → is_data c.0 ≡ true
unfolding cell_at
cell_is_data words c h = grind arith

-- a value or a deletion of a data cell is what a batch may have
is_written : (x : Cell) (k : Content) (w : Cell × Content) → is_data x ≡ true → is_unstamped k ≡ true → ◌≡◌ {A = Result (Cell × Content) ScriptCode} (Ok (x, k)) (Ok w) → is_data_write w ≡ true
is_written x k w place plain h = sym (ap is_data_write (ok_is {E = ScriptCode} (x, k) w h)) ∙ (rw (place, plain) refl)

-- so `put` writes what a batch may have
plain_put : (words : List (List ℕ)) (w : Cell × Content) → put_of words ≡ Ok w → is_data_write w ≡ true
unfolding put_of
plain_put words w h = grind (arith, then_ok, is_written, cell_is_data)

plain_del : (words : List (List ℕ)) (w : Cell × Content) → del_of words ≡ Ok w → is_data_write w ≡ true
unfolding del_of
plain_del words w h = grind (arith, then_ok, is_written, cell_is_data)

plain_write : (words : List (List ℕ)) (w : Cell × Content) → write_of words ≡ Ok w → is_data_write w ≡ true
unfolding write_of
plain_write words w h = grind (arith, then_ok, chosen_branch, plain_put, plain_del)

-- ---- one write more

pub none_of : {A : Type 0} (o : Option A) → is_none o ≡ true → o ≡ None
none_of o h = grind arith

-- a cell that none of the writes names isn't named after one more of another cell
lack_more : (ws : Writes) (w : Cell × Content) (x : Cell) → content_in ws x ≡ None → eq_by_cmp cell_cmp x w.0 ≡ false → content_in (ws ++ w ∷ []) x ≡ None
lack_more [] w x n e = rw e refl
lack_more (v ∷ vs) w x n e = elim (chosen_branch (eq_by_cmp cell_cmp x v.0) (Some v.1) (content_in vs x) None n) [
  | inl here ↦ let no = here.1 in absurd cc
  | inr there ↦ rw there.0 (lack_more vs w x there.1 e)
]

-- distinct cells stay distinct with one more that none of them is
distinct_more : (ws : Writes) (w : Cell × Content) → are_distinct ws ≡ true → content_in ws w.0 ≡ None → are_distinct (ws ++ w ∷ []) ≡ true
distinct_more [] w d n = refl
distinct_more (v ∷ vs) w d n =
    let p = and_parts (is_none (content_in vs v.0)) (are_distinct vs) d in
    elim (chosen_branch (eq_by_cmp cell_cmp w.0 v.0) (Some v.1) (content_in vs w.0) None n) [
      | inl here ↦ let no = here.1 in absurd cc
      | inr there ↦ let apart : eq_by_cmp cell_cmp v.0 w.0 ≡ false = (eq_by_cmp_equiv cell_cmp_total).symm v.0 w.0 ∙ there.0 in
          rw (lack_more vs w v.0 (none_of (content_in vs v.0) p.0) apart, distinct_more vs w p.1 there.1) refl
    ]

-- one data write more, and all are
plain_more : (ws : Writes) (w : Cell × Content) → list_all is_data_write ws ≡ true → is_data_write w ≡ true → list_all is_data_write (ws ++ w ∷ []) ≡ true
plain_more [] w h p = rw p refl
plain_more (v ∷ vs) w h p = let q = and_parts (is_data_write v) (list_all is_data_write vs) h in rw (q.0, plain_more vs w q.1 p) refl

-- the texts say these writes, which are a batch, or none yet
pub record IsOpen (texts : List (List ℕ)) (ws : Writes) : Type 0 where
  pub said : Say texts ws
  pub few : length ws ≤ MAX_CELLS
  pub plain : list_all is_data_write ws ≡ true
  pub distinct : are_distinct ws ≡ true

-- what one more operation added
pub record IsAdded (before after : Writes) (text : List ℕ) : Type 0 where
  pub write : Cell × Content
  pub read : operation text ≡ Ok write
  pub new : content_in before write.0 ≡ None
  pub room : length before < MAX_CELLS
  pub all : before ++ write ∷ [] ≡ after

-- an operation that is taken is read, of a cell not named before, and there was room for it
added : (before after : Writes) (text : List ℕ) → with_operation before text ≡ Ok after → IsAdded before after text
unfolding with_operation
added before after text h = grind arith

-- one more operation says one more write
say_more : (texts : List (List ℕ)) (ws : Writes) (text : List ℕ) (w : Cell × Content) → Say texts ws → operation text ≡ Ok w → Say (texts ++ text ∷ []) (ws ++ w ∷ [])
say_more texts ws text w said read = simp map-append (rw (said, read) refl)

-- a line that is open stays so with one more operation
grown : (texts : List (List ℕ)) (before after : Writes) (text : List ℕ) → IsOpen texts before → IsAdded before after text → IsOpen (texts ++ text ∷ []) after
grown texts before after text o a = grind (arith, say_more, length-append, plain_more, plain_write, distinct_more, a.all, a.write, o.said, a.read, a.room, o.plain, o.distinct, a.new)

-- ---- operations in turn

-- operations in turn are read only where the first of them is
turn_open : (texts : List (List ℕ)) (after : Writes) (r : Result Writes ScriptCode) (more : Writes → Result Writes ScriptCode) → ((s : Writes) → r ≡ Ok s → more s ≡ Ok after → IsOpen texts after) → (r >>= more) ≡ Ok after → IsOpen texts after
turn_open texts after r more f h = grind arith

-- operations in turn after others
pub all_open : (n : ℕ) (front : List (List ℕ)) (before after : Writes) (texts : List (List ℕ)) → IsOpen front before → in_turn (λ _. with_operation) n before texts ≡ Ok after → IsOpen (front ++ texts) after
all_open n front before after [] o h = rw append-nil (subst (IsOpen front) (ok_is {E = ScriptCode} before after h) o)
all_open n front before after (t ∷ ts) o h =
    turn_open (front ++ t ∷ ts) after (with_operation before t) (λ s. in_turn (λ _. with_operation) (n + 1) s ts)
    (λ s is k. subst (λ (texts : List (List ℕ)). IsOpen texts after) (append_assoc front (t ∷ []) ts) (all_open (n + 1) (front ++ t ∷ []) s after ts (grown front before s t o (added before s t is)) k)) h

-- a line of which nothing is read is open: it says no writes yet
pub nothing_open : IsOpen [] []
nothing_open = record { said = refl; few = omega arith; plain = refl; distinct = refl }

onto_some : (b : ℕ) (xs : List (List ℕ)) → (x : List ℕ) × (ys : List (List ℕ)) × (onto_first b xs ≡ x ∷ ys)
onto_some b [] = (b ∷ [], [], refl)
onto_some b (x ∷ xs) = (b ∷ x, xs, refl)

cut_choice : (k : Bool) (x y : List (List ℕ)) → (a : List ℕ) × (ys : List (List ℕ)) × (y ≡ a ∷ ys) → (a : List ℕ) × (ys : List (List ℕ)) × (cond k ([] ∷ x) y ≡ a ∷ ys)
cut_choice true x y h = ([], x, refl)
cut_choice false x y h = h

-- a line has at least one operation, even if an empty one, so what is read is never an empty batch
cut_some : (line : List ℕ) → (x : List ℕ) × (ys : List (List ℕ)) × (cut line ≡ x ∷ ys)
cut_some [] = ([], [], refl)
cut_some (b ∷ []) = (b ∷ [], [], refl)
cut_some (b ∷ c ∷ bs) = cut_choice ((b == 59) && (c == 32)) (cut bs) (onto_first b (cut (c ∷ bs))) (onto_some b (cut (c ∷ bs)))

-- an open line with an operation is a batch
closed : (texts : List (List ℕ)) (ws : Writes) → IsOpen texts ws → 0 < length texts → is_batch ws ≡ true
closed texts ws o some = grind (arith, length-map, lt-ltb, le-leb, o.said, o.few, o.plain, o.distinct)

-- what a line is read as is what its operations say
pub line_is_open : (line : List ℕ) (batch : Writes) → batch_of line ≡ Ok batch → IsOpen (cut line) batch
line_is_open line batch h = all_open 0 [] [] batch (cut line) nothing_open h

-- and it is a batch
pub line_is_batch : (line : List ℕ) (batch : Writes) → batch_of line ≡ Ok batch → is_batch batch ≡ true
line_is_batch line batch h =
    let c = cut_some line in
    closed (cut line) batch (line_is_open line batch h) (rw c.2 (omega arith))
