-- A line more that waits.
use Rattle.std.proofs.Common.{◌≡◌, ℕ, ◌≤◌, Bool, true, false, List, [], ◌∷◌, ◌++◌, length, refl, ap, sym, subst, ◌∙◌, arith}
use Rattle.pb_keep.specs.Words.{MAX_CHANGES, Writes}
use Rattle.pb_keep.specs.declared.waiting.TheConstants.{MAX_RECORD}
use Rattle.pb_keep.specs.declared.waiting.Waits.{Waits}
use Rattle.pb_keep.specs.declared.waiting.Waiting.{Waiting}
use Rattle.pb_keep.specs.Waits.{changes_in, script_lines, AreScriptLines, HasNoEnd, IsNoLine, IsOpenGroup, IsScriptLine, IsWaiting}

pub changes_of_both : (xs ys : List Waits) → changes_in (xs ++ ys) ≡ changes_in xs ++ changes_in ys
changes_of_both [] ys = refl
changes_of_both (Waits.Change batch ∷ xs) ys = ap (λ l. batch ∷ l) (changes_of_both xs ys)
changes_of_both (Waits.Unmade newest ∷ xs) ys = changes_of_both xs ys
changes_of_both (Waits.Refused code ∷ xs) ys = changes_of_both xs ys
changes_of_both (Waits.Begun ∷ xs) ys = changes_of_both xs ys
changes_of_both (Waits.Ended ∷ xs) ys = changes_of_both xs ys

pub line_is_added : (ls : List (List ℕ)) (bs : List Writes) (l : List ℕ) (b : Writes) → AreScriptLines ls bs → IsScriptLine l b → AreScriptLines (ls ++ l ∷ []) (bs ++ b ∷ [])
line_is_added [] [] l b h k = (k, tt)
line_is_added [] (c ∷ bs) l b h k = absurd h
line_is_added (a ∷ ls) [] l b h k = absurd h
line_is_added (a ∷ ls) (c ∷ bs) l b h k = (h.0, line_is_added ls bs l b h.1 k)

-- ---- a group

no_end_more : (xs : List Waits) (item : Waits) → HasNoEnd xs → HasNoEnd (item ∷ []) → HasNoEnd (xs ++ item ∷ [])
no_end_more [] item h k = k
no_end_more (Waits.Change batch ∷ xs) item h k = no_end_more xs item h k
no_end_more (Waits.Unmade newest ∷ xs) item h k = no_end_more xs item h k
no_end_more (Waits.Refused code ∷ xs) item h k = no_end_more xs item h k
no_end_more (Waits.Begun ∷ xs) item h k = no_end_more xs item h k
no_end_more (Waits.Ended ∷ xs) item h k = absurd h

-- a group that goes on
pub group_goes_on : (items : List Waits) (item : Waits) → HasNoEnd (item ∷ []) → IsOpenGroup items → IsOpenGroup (items ++ item ∷ [])
group_goes_on items item k g = (g.0 ++ item ∷ [], ap (λ l. l ++ item ∷ []) g.1, no_end_more g.0 item g.2 k)

-- ---- nothing waits

no_lines : (ls : List (List ℕ)) (bs : List Writes) → AreScriptLines ls bs → bs ≡ [] → ls ≡ []
no_lines [] bs h e = refl
no_lines (l ∷ ls) [] h e = absurd h
no_lines (l ∷ ls) (b ∷ bs) h e = absurd cc

in_no_group : (b : Bool) (items : List Waits) → (b ≡ true → IsOpenGroup items) → items ≡ [] → b ≡ false
in_no_group false items open_group e = refl
in_no_group true items open_group e = absurd (begun (open_group refl).0 (sym (open_group refl).1 ∙ e)) where
  begun : (rest : List Waits) → Waits.Begun ∷ rest ≡ [] → ⊥
  begun rest f = absurd cc

-- where no item waits, nothing does
pub none_is_waiting : (w : Waiting) → IsWaiting w → w.items.items ≡ [] → IsNoLine w
none_is_waiting w is e = record {
  items = e;
  script = is.script ∙ ap script_lines (no_lines is.lines (changes_in w.items.items) is.read (ap changes_in e));
  changes = is.count ∙ ap (λ items. length (changes_in items)) e;
  alone = in_no_group w.is_group w.items.items is.open_group e;
}

-- where nothing waits the next record has nothing
pub no_line_waits : (w : Waiting) → IsNoLine w → IsWaiting w
no_line_waits w none = record {
  lines = [];
  script = none.script;
  read = subst (λ items. AreScriptLines [] (changes_in items)) (sym none.items) tt;
  count = none.changes ∙ ap (λ items. length (changes_in items)) (sym none.items);
  few = subst (λ n. n ≤ MAX_CHANGES) (sym none.changes) (omega arith);
  bytes = subst (λ l. length l ≤ MAX_RECORD) (sym none.script) (omega arith);
  open_group = λ e. absurd (open_and_not w.is_group none.alone e);
} where
  open_and_not : (b : Bool) → b ≡ false → b ≡ true → ⊥
  open_and_not true e f = absurd cc
  open_and_not false e f = absurd cc
