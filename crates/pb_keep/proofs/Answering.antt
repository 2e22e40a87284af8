-- Lines that waited are answered.
use Rattle.std.proofs.Common.{arith, ◌≡◌, ◌+◌, ◌≤◌, ◌==◌, ℕ, List, [], ◌∷◌, ◌++◌, length, refl, ap, sym, subst, ◌∙◌}
use Rattle.pb_keep.specs.Words.{MAX_CHANGES, KeptTable, StateOf, Writes}
use Rattle.pb_keep.specs.declared.waiting.Waits.{Waits}
use Rattle.pb_keep.specs.Waits.{changes_in, none, one_more, AreAnswers, Group, group_after, IsAnswer}
use Rattle.pb_keep.specs.Held.{IsLineHeld}
use Rattle.pb_keep.specs.Conversations.{one_answered, AreAnswered, none_held, one_held, AreHeld}
use Rattle.std.proofs.lemmas.List.{append_assoc, append-nil, length-append}
use Rattle.pb_keep.proofs.Added.{changes_of_both}
use Rattle.pb_keep.proofs.Lasts.{last_is_some, one_last}

-- no line is answered by nothing
pub none_answered : (limit : ℕ) (items : List Waits) (old new : KeptTable) (text : List ℕ) → AreAnswers limit items old new text → items ≡ [] → (new ≡ old) × (text ≡ [])
none_answered limit items old new text (none table) e = (refl, refl)
none_answered limit items old new text (one_more is item o b n t more a last) e = absurd (last_is_some is item e)

-- nor does a line that isn't a change change anything
same_without : (limit : ℕ) (item : Waits) (old new : KeptTable) (text : List ℕ) → IsAnswer limit item old new text → changes_in (item ∷ []) ≡ [] → new ≡ old
same_without limit (Waits.Change batch) old new text is e = absurd cc
same_without limit (Waits.Unmade newest) old new text is e = is.0
same_without limit (Waits.Refused code) old new text is e = is.0
same_without limit Waits.Begun old new text is e = is.0
same_without limit Waits.Ended old new text is e = is.0

neither_has : (a b : List Writes) → a ++ b ≡ [] → (a ≡ []) × (b ≡ [])
neither_has [] b e = (refl, e)
neither_has (x ∷ a) b e = absurd cc

unchanged : (limit : ℕ) (items : List Waits) (old new : KeptTable) (text : List ℕ) → AreAnswers limit items old new text → changes_in items ≡ [] → new ≡ old
unchanged limit items old new text (none table) e = refl
unchanged limit items old new text (one_more is item o b n t more a last) e =
    let both = neither_has (changes_in is) (changes_in (item ∷ [])) (sym (changes_of_both is (item ∷ [])) ∙ e) in
    same_without limit item b n more last both.1 ∙ unchanged limit is o b t a both.0

-- the last line, and those before it
record LastAnswer (limit : ℕ) (items : List Waits) (item : Waits) (old new : KeptTable) (text : List ℕ) : Type 0 where
  between : KeptTable
  before : List ℕ
  after : List ℕ
  front : AreAnswers limit items old between before
  last : IsAnswer limit item between new after
  text_is : text ≡ before ++ after

last_answer : (limit : ℕ) (all : List Waits) (old new : KeptTable) (text : List ℕ) → AreAnswers limit all old new text → (items : List Waits) (item : Waits) → all ≡ items ++ item ∷ [] → LastAnswer limit items item old new text
last_answer limit all old new text (none table) items item e = absurd (last_is_some items item (sym e))
last_answer limit all old new text (one_more is i o b n t more a last) items item e =
    let same = one_last is items i item e in
    record {
      between = b;
      before = t;
      after = more;
      front = subst (λ l. AreAnswers limit l o b t) same.0 a;
      last = subst (λ w. IsAnswer limit w b n more) same.1 last;
      text_is = refl;
    }

-- lines that wait, and none waits
pub none_waited : (limit : ℕ) (state : StateOf) (lines : List (List ℕ)) (items : List Waits) (group : Group) → AreHeld limit state lines items group → items ≡ [] → lines ≡ []
none_waited limit state lines items group none_held e = refl
none_waited limit state lines items group (one_held ls l is i g h any) e = absurd (last_is_some is i e)

same_answered : (since limit : ℕ) (start now : KeptTable) (group : Group) (m n : ℕ) (lines lines2 : List (List ℕ)) (made made2 : List Writes) (text text2 : List ℕ) → m ≡ n → lines ≡ lines2 → made ≡ made2 → text ≡ text2 → AreAnswered since limit start lines made group m now text → AreAnswered since limit start lines2 made2 group n now text2
same_answered since limit start now group m n lines lines2 made made2 text text2 d e f g a =
    subst (λ k. AreAnswered since limit start lines2 made2 group k now text2) d
    (subst (λ t. AreAnswered since limit start lines2 made2 group m now t) g (subst (λ w. AreAnswered since limit start lines2 w group m now text) f (subst (λ l. AreAnswered since limit start l made group m now text) e a)))

-- a line more has as many changes more
changes_counted : (items : List Waits) (item : Waits) → length (changes_in (items ++ item ∷ [])) ≡ length (changes_in items) + length (changes_in (item ∷ []))
changes_counted items item = ap length (changes_of_both items (item ∷ [])) ∙ length-append (changes_in items) (changes_in (item ∷ []))

module _ (since limit : ℕ) (start old : KeptTable) (answered : List (List ℕ)) (made : List Writes) (text : List ℕ) (told : AreAnswered since limit start answered made Group.alone 0 old text) where
  one_held_answered : (lines : List (List ℕ)) (line : List ℕ) (items : List Waits) (item : Waits) (group : Group) (new : KeptTable) (more : List ℕ)
      → ((between : KeptTable) (before : List ℕ) → AreAnswers limit items old between before → AreAnswered since limit start (answered ++ lines) (made ++ changes_in items) group (length (changes_in items)) between (text ++ before))
      → ((s : StateOf) → (changes_in items ≡ [] → s ≡ old.state) → IsLineHeld limit (length (changes_in items) == 0) group s line item) → LastAnswer limit items item old new more → length (changes_in (items ++ item ∷ [])) ≤ MAX_CHANGES
      → AreAnswered since limit start (answered ++ (lines ++ line ∷ [])) (made ++ changes_in (items ++ item ∷ [])) (group_after group (length line) item) (length (changes_in (items ++ item ∷ []))) new (text ++ more)
  one_held_answered lines line items item group new more first any l few =
      let both = changes_counted items item in
      let held = any l.between.state (λ none_before. ap (λ t. t.state) (unchanged limit items old l.between l.before l.front none_before)) in
      same_answered since limit start new (group_after group (length line) item) (length (changes_in items) + length (changes_in (item ∷ []))) (length (changes_in (items ++ item ∷ [])))
      ((answered ++ lines) ++ line ∷ []) (answered ++ (lines ++ line ∷ []))
      ((made ++ changes_in items) ++ changes_in (item ∷ [])) (made ++ changes_in (items ++ item ∷ []))
      ((text ++ l.before) ++ l.after) (text ++ more)
      (sym both)
      (append_assoc answered lines (line ∷ []))
      (append_assoc made (changes_in items) (changes_in (item ∷ [])) ∙ ap (λ m. made ++ m) (sym (changes_of_both items (item ∷ []))))
      (append_assoc text l.before l.after ∙ ap (λ t. text ++ t) (sym l.text_is))
      (one_answered (answered ++ lines) line (made ++ changes_in items) group (length (changes_in items)) item l.between new (text ++ l.before) l.after (first l.between l.before l.front) held l.last (subst (λ n. n ≤ MAX_CHANGES) both few))

  -- lines that wait after lines that are answered, and now are answered too
  pub held_answered : (pending : List (List ℕ)) (items : List Waits) (group : Group) (new : KeptTable) (more : List ℕ) → AreHeld limit old.state pending items group → AreAnswers limit items old new more → length (changes_in items) ≤ MAX_CHANGES
      → AreAnswered since limit start (answered ++ pending) (made ++ changes_in items) group (length (changes_in items)) new (text ++ more)
  held_answered pending items group new more none_held a few =
      let e = none_answered limit [] old new more a refl in
      subst (λ s. AreAnswered since limit start (answered ++ []) (made ++ []) Group.alone 0 s (text ++ more)) (sym e.0)
      (same_answered since limit start old Group.alone 0 0 answered (answered ++ []) made (made ++ []) text (text ++ more) refl (sym (append-nil answered)) (sym (append-nil made)) (sym (append-nil text) ∙ ap (λ t. text ++ t) (sym e.1)) told)
  held_answered pending items group new more (one_held ls l is i g h any) a few =
      let both = changes_counted is i in
      one_held_answered ls l is i g new more (λ between before b. held_answered ls is g between before h b (omega (arith, both, few))) any (last_answer limit (is ++ i ∷ []) old new more a is i refl) few
