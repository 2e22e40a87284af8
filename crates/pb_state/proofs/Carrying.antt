-- A state that has begun with versions has, with one that may come next put, begun with that too.
use Rattle.std.proofs.Common.{arith, ◌≡◌, ℕ, ◌<◌, ◌⊎◌, inl, inr, Bool, true, false, cond, ◌||◌, List, [], ◌∷◌, ◌++◌, Option, Some, None, is_some, refl, sym, ap, ◌∙◌, subst}
use Rattle.std.proofs.lemmas.Option.{none-some}
use Rattle.std.specs.FinMap as map
use Rattle.std.specs.Ordering.{is_eq, eq_by_cmp, nat_cmp}
use Rattle.std.specs.Cmp.{eq_by_cmp_equiv, tied_itself}
use Rattle.pb_base.proofs.Logic.{same_some}
use Rattle.pb_base.proofs.SameCells.{cell_is as same_cell}
use Rattle.pb_history.proofs.Updates.{changed_or_before, has_front, has_last, has_more, none_if, placed_or_before, same_number, set1, set1_here, set1_there, set2, set2_here, set2_there}
use Rattle.pb_history.proofs.ViewsAfter.{field_at, insert_other, insert_same}
use Rattle.pb_state.specs.Words.{Cell, Content, Revision, Entries, Item, ObserverOf, Sort, StateOf, TransactionOf, Transactions, Writes, Has, cell_cmp, cell_cmp_total, content_in, data_at, data_of, is_in, lock_at, opening, primary_of, slot_at, slot_cmp, start_of, write_at}
use Rattle.pb_state.specs.CarriedOver.{CellVersions, AreLeftOver, AreVersionsBy, HoldsVersions, IsCarriedOver, IsLeftOver, IsOrBeganLast, MayFollow, left_over_by, put_version, state_with_version}
use Rattle.pb_state.proofs.VersionOrder.{begins_before, committed_before}

-- ---- writes with one more

content_before : (ws more : Writes) (y : Cell) (k : Content) → content_in ws y ≡ Some k → content_in (ws ++ more) y ≡ Some k
content_before [] more y k is = absurd (none-some k is)
content_before (w ∷ ws) more y k is =
    elim (eq_by_cmp cell_cmp y w.0) as (λ b. cond b (Some w.1) (content_in ws y) ≡ Some k → cond b (Some w.1) (content_in (ws ++ more) y) ≡ Some k) [
      | true ↦ λ e. e
      | false ↦ λ e. content_before ws more y k e
    ] is

content_last : (ws : Writes) (x : Cell) (k : Content) → content_in ws x ≡ None → content_in (ws ++ (x, k) ∷ []) x ≡ Some k
content_last [] x k none = ap (λ b. cond b (Some k) None) (ap is_eq (tied_itself cell_cmp_total x))
content_last (w ∷ ws) x k none =
    elim (eq_by_cmp cell_cmp x w.0) as (λ b. cond b (Some w.1) (content_in ws x) ≡ None → cond b (Some w.1) (content_in (ws ++ (x, k) ∷ []) x) ≡ Some k) [
      | true ↦ λ e. absurd (none-some w.1 (sym e))
      | false ↦ λ e. content_last ws x k e
    ] none

content_from : (ws : Writes) (x : Cell) (k : Content) (y : Cell) (l : Content) → content_in (ws ++ (x, k) ∷ []) y ≡ Some l → (content_in ws y ≡ Some l) ⊎ ((x ≡ y) × (k ≡ l))
content_from [] x k y l is =
    elim (eq_by_cmp cell_cmp y x) as (λ b. eq_by_cmp cell_cmp y x ≡ b → cond b (Some k) None ≡ Some l → (None ≡ Some l) ⊎ ((x ≡ y) × (k ≡ l))) [
      | true ↦ λ e g. inr (sym (same_cell y x e), same_some k l g)
      | false ↦ λ e g. inl g
    ] refl is
content_from (w ∷ ws) x k y l is =
    elim (eq_by_cmp cell_cmp y w.0) as (λ b. cond b (Some w.1) (content_in (ws ++ (x, k) ∷ []) y) ≡ Some l → (cond b (Some w.1) (content_in ws y) ≡ Some l) ⊎ ((x ≡ y) × (k ≡ l))) [
      | true ↦ λ g. inl g
      | false ↦ λ g. content_from ws x k y l g
    ] is

some_more : (ws : Writes) (x : Cell) (k : Content) (y : Cell) → is_some (content_in (ws ++ (x, k) ∷ []) y) ≡ (is_some (content_in ws y) || eq_by_cmp cell_cmp y x)
some_more [] x k y = elim (eq_by_cmp cell_cmp y x) as (λ b. is_some (cond b (Some k) None) ≡ b) [ true ↦ refl | false ↦ refl ]
some_more (w ∷ ws) x k y =
    elim (eq_by_cmp cell_cmp y w.0) as (λ b. is_some (cond b (Some w.1) (content_in (ws ++ (x, k) ∷ []) y)) ≡ (is_some (cond b (Some w.1) (content_in ws y)) || eq_by_cmp cell_cmp y x)) [
      | true ↦ refl
      | false ↦ some_more ws x k y
    ]

is_in_more : (ps : List Cell) (x y : Cell) → is_in (ps ++ x ∷ []) y ≡ (is_in ps y || eq_by_cmp cell_cmp y x)
is_in_more [] x y = or_false _ ∙ (eq_by_cmp_equiv cell_cmp_total).symm x y
  where
    or_false : (b : Bool) → (b || false) ≡ b
    or_false b = grind arith
is_in_more (p ∷ ps) x y = ap (λ b. eq_by_cmp cell_cmp p y || b) (is_in_more ps x y) ∙ assoc (eq_by_cmp cell_cmp p y) (is_in ps y) (eq_by_cmp cell_cmp y x)
  where
    assoc : (a b c : Bool) → (a || (b || c)) ≡ ((a || b) || c)
    assoc a b c = grind arith

-- ---- one version more

-- each version before of its cell has a start and a commit below its own
abbrev IsNewestOf : CellVersions → Cell → Revision → Type 0
IsNewestOf cells x v = (w : Revision) → Has cells (x, w) → (w.start.0 < v.start.0) × (w.commit.0 < v.commit.0)

module _ (cells : CellVersions) (x : Cell) (v : Revision) (newest : IsNewestOf cells x v) where
  abbrev more : CellVersions
  more = cells ++ (x, v) ∷ []

  below : (y : Cell) (w : Revision) → Has cells (y, w) → y ≡ x → (w.start.0 < v.start.0) × (w.commit.0 < v.commit.0)
  below y w there same = newest w (subst (λ (z : Cell). Has cells (z, w)) same there)

  module _ (e : Entries) (h : HoldsVersions cells e) where
    abbrev after : Entries
    after = put_version e x v

    write_after : write_at after ≡ set2 (write_at e) x v.commit.0 (Some v.start.0)
    write_after = insert_same start_of _ x v.commit.0 Sort.Write (Item.Write v.start) ∙ ap (λ f. set2 f x v.commit.0 (Some v.start.0)) (insert_other start_of e x v.start.0 Sort.Data (Item.Data v.content) Sort.Write (λ q. cc))

    data_after : data_at after ≡ set2 (data_at e) x v.start.0 (Some v.content)
    data_after = insert_other data_of _ x v.commit.0 Sort.Write (Item.Write v.start) Sort.Data (λ q. cc) ∙ insert_same data_of e x v.start.0 Sort.Data (Item.Data v.content)

    lock_after : lock_at after ≡ lock_at e
    lock_after = insert_other primary_of _ x v.commit.0 Sort.Write (Item.Write v.start) Sort.Lock (λ q. cc) ∙ insert_other primary_of e x v.start.0 Sort.Data (Item.Data v.content) Sort.Lock (λ q. cc)

    abbrev Stands : Cell × Revision → Type 0
    Stands c = (write_at after c.0 c.1.commit.0 ≡ Some c.1.start.0) × (data_at after c.0 c.1.start.0 ≡ Some c.1.content)

    stands_here : Stands (x, v)
    stands_here = (ap (λ f. f x v.commit.0) write_after ∙ set2_here (write_at e) x v.commit.0 (Some v.start.0), ap (λ f. f x v.start.0) data_after ∙ set2_here (data_at e) x v.start.0 (Some v.content))

    stands_there : (y : Cell) (w : Revision) → Has cells (y, w) → Stands (y, w)
    stands_there y w there =
        let k = h.kept y w there in (
          ap (λ f. f y w.commit.0) write_after ∙ set2_there (write_at e) x v.commit.0 (Some v.start.0) y w.commit.0 (λ same at. let low = (below y w there same).1 in omega (arith, low, at)) ∙ k.0,
          ap (λ f. f y w.start.0) data_after ∙ set2_there (data_at e) x v.start.0 (Some v.content) y w.start.0 (λ same at. let low = (below y w there same).0 in omega (arith, low, at)) ∙ k.1,
        )

    holds_more : HoldsVersions more after
    holds_more = record {
      kept = λ y w has. elim (has_more cells (x, v) (y, w) has) [
        | inl same ↦ subst Stands same stands_here
        | inr there ↦ stands_there y w there
      ];
      only = λ y d s is. elim (placed_or_before (write_at e) x v.commit.0 v.start.0 y d s (sym (ap (λ f. f y d) write_after) ∙ is)) [
        | inl p ↦ (v, subst (λ (z : Cell). Has more (z, v)) (sym p.0) (has_last cells (x, v)), sym p.1, p.2)
        | inr q ↦ let k = h.only y d s q.0 in (k.0, has_front cells (x, v) (y, k.0) k.1, k.2, k.3)
      ];
      no_more = λ y s k is. elim (placed_or_before (data_at e) x v.start.0 v.content y s k (sym (ap (λ f. f y s) data_after) ∙ is)) [
        | inl p ↦ (v, subst (λ (z : Cell). Has more (z, v)) (sym p.0) (has_last cells (x, v)), sym p.1, p.2)
        | inr q ↦ let w = h.no_more y s k q.0 in (w.0, has_front cells (x, v) (y, w.0) w.1, w.2, w.3)
      ];
      unlocked = λ y s. ap (λ f. f y s) lock_after ∙ h.unlocked y s;
    }

  module _ (seats : ℕ) (ts : Transactions) (left : AreLeftOver seats cells ts) where
    abbrev its : TransactionOf
    its = left_over_by seats (map.get ts v.start.0) x v

    abbrev ts_after : Transactions
    ts_after = map.insert ts v.start.0 its

    got_after : (s : ℕ) → map.get ts_after s ≡ set1 (map.get ts) v.start.0 (Some its) s
    got_after s = field_at (λ (o : Option TransactionOf). o) ts v.start.0 its s

    is_left : (o : Option TransactionOf) → map.get ts v.start.0 ≡ o → IsLeftOver seats more v.start.0 (left_over_by seats o x v)
    is_left None none = record {
      commit = v.commit;
      phase = refl;
      some = (x, v, has_last cells (x, v), refl, refl);
      unread = refl;
      unseated = refl;
      declared = λ y k. (
        λ is. elim (content_from [] x v.content y k is) [
          | inl nowhere ↦ absurd (none-some k nowhere)
          | inr p ↦ (v, subst (λ (z : Cell). Has more (z, v)) p.0 (has_last cells (x, v)), refl, p.1)
        ],
        λ w. elim (has_more cells (x, v) (y, w.0) w.1) [
          | inl same ↦ subst (λ (c : Cell × Revision). content_in ((x, v.content) ∷ []) c.0 ≡ Some c.1.content) same (content_last [] x v.content refl) ∙ ap (λ (l : Content). Some l) w.3
          | inr there ↦ let t = left.all y w.0 there in absurd (none-some t.0 (sym none ∙ ap (λ n. map.get ts n) (sym w.2) ∙ t.1))
        ],
      );
      prewritten = λ y. is_in_more [] x y ∙ sym (some_more [] x v.content y);
    }
    is_left (Some t) there =
        let k = left.each v.start.0 t there in
        let new : content_in t.declared x ≡ None = none_if _ (λ l is. let w = (k.declared x l).0 is in let low = (newest w.0 w.1).0 in let at = w.2 in omega (arith, low, at)) in
        record {
          commit = k.commit;
          phase = k.phase;
          some = (k.some.0, k.some.1, has_front cells (x, v) (k.some.0, k.some.1) k.some.2, k.some.3, k.some.4);
          unread = k.unread;
          unseated = k.unseated;
          declared = λ y l. (
            λ is. elim (content_from t.declared x v.content y l is) [
              | inl before ↦ let w = (k.declared y l).0 before in (w.0, has_front cells (x, v) (y, w.0) w.1, w.2, w.3)
              | inr p ↦ (v, subst (λ (z : Cell). Has more (z, v)) p.0 (has_last cells (x, v)), refl, p.1)
            ],
            λ w. elim (has_more cells (x, v) (y, w.0) w.1) [
              | inl same ↦ subst (λ (c : Cell × Revision). content_in (t.declared ++ (x, v.content) ∷ []) c.0 ≡ Some c.1.content) same (content_last t.declared x v.content new) ∙ ap (λ (q : Content). Some q) w.3
              | inr before ↦ content_before t.declared ((x, v.content) ∷ []) y l ((k.declared y l).1 (w.0, before, w.2, w.3))
            ],
          );
          prewritten = λ y. is_in_more t.prewritten x y ∙ ap (λ b. b || eq_by_cmp cell_cmp y x) (k.prewritten y) ∙ sym (some_more t.declared x v.content y);
        }

    -- what is left of another transaction
    other_left : (s : ℕ) (t : TransactionOf) → map.get ts s ≡ Some t → (s ≡ v.start.0 → ⊥) → IsLeftOver seats more s t
    other_left s t there other =
        let k = left.each s t there in
        record {
          commit = k.commit;
          phase = k.phase;
          some = (k.some.0, k.some.1, has_front cells (x, v) (k.some.0, k.some.1) k.some.2, k.some.3, k.some.4);
          unread = k.unread;
          unseated = k.unseated;
          declared = λ y l. (
            λ is. let w = (k.declared y l).0 is in (w.0, has_front cells (x, v) (y, w.0) w.1, w.2, w.3),
            λ w. elim (has_more cells (x, v) (y, w.0) w.1) [
              | inl same ↦ absurd (other (sym w.2 ∙ ap (λ (c : Cell × Revision). c.1.start.0) (sym same)))
              | inr before ↦ (k.declared y l).1 (w.0, before, w.2, w.3)
            ],
          );
          prewritten = k.prewritten;
        }

    -- there is one of each start that had one, and of the version's
    there_now : (s : ℕ) → s ≡ v.start.0 → (t : TransactionOf) × (map.get ts_after s ≡ Some t)
    there_now s same = (its, got_after s ∙ ap (set1 (map.get ts) v.start.0 (Some its)) same ∙ set1_here (map.get ts) v.start.0 (Some its))

    there_still : (s : ℕ) (t : TransactionOf) → map.get ts s ≡ Some t → (u : TransactionOf) × (map.get ts_after s ≡ Some u)
    there_still s t there = elim (same_number s v.start.0) [
      | inl same ↦ there_now s same
      | inr other ↦ (t, got_after s ∙ set1_there (map.get ts) v.start.0 (Some its) s other ∙ there)
    ]

    left_more : AreLeftOver seats more ts_after
    left_more = record {
      each = λ s t is. elim (changed_or_before (map.get ts) v.start.0 (Some its) s (Some t) (sym (got_after s) ∙ is)) [
        | inl p ↦ subst (λ (q : ℕ × TransactionOf). IsLeftOver seats more q.0 q.1) (λ i. (sym p.0 i, same_some its t p.1 i)) (is_left (map.get ts v.start.0) refl)
        | inr p ↦ other_left s t p.0 p.1
      ];
      all = λ y w has. elim (has_more cells (x, v) (y, w) has) [
        | inl same ↦ there_now w.start.0 (ap (λ (c : Cell × Revision). c.1.start.0) (sym same))
        | inr before ↦ let t = left.all y w before in there_still w.start.0 t.0 t.1
      ];
    }

-- ---- over a state

module _ (observers others : List ObserverOf) (seats last : ℕ) (cells : CellVersions) (old : StateOf) (c : IsCarriedOver observers seats last cells old) (x : Cell) (v : Revision) (may : MayFollow others last cells (x, v)) (are : AreVersionsBy last cells) where
  newest : IsNewestOf cells x v
  newest w has =
      let before = committed_before x w v (may.in_order (x, w) has) in
      let above = are.above (x, w) has in
      let low = may.above in
      (omega (arith, before, above), omega (arith, before, low))

  pub carried_more : IsCarriedOver observers seats last (cells ++ (x, v) ∷ []) (state_with_version old x v)
  carried_more = record {
    entries_are = holds_more cells x v newest old.entries c.entries_are;
    transactions_are = subst (λ n. AreLeftOver n (cells ++ (x, v) ∷ []) (state_with_version old x v).transactions) c.seats_are
        (left_more cells x v newest old.seats old.transactions (subst (λ n. AreLeftOver n cells old.transactions) (sym c.seats_are) c.transactions_are));
    marks_are = c.marks_are;
    observers_are = c.observers_are;
    clock_is = c.clock_is;
    seats_are = c.seats_are;
  }

  -- the version's transaction is one that is left, or began after all of them
  pub began_last : IsOrBeganLast old.transactions v.start.0
  began_last none s t there =
      let k = c.transactions_are.each s t there in
      let y : Cell × Revision = (k.some.0, k.some.1) in
      let above = are.above y k.some.2 in
      elim (begins_before y (x, v) (may.in_order y k.some.2) above) [
        | inl same ↦ absurd (none-some t (sym none ∙ ap (λ n. map.get old.transactions n) (sym same ∙ k.some.3) ∙ there))
        | inr before ↦ let at = k.some.3 in omega (arith, before, at)
      ]

-- before any version is put
pub carried_none : (observers : List ObserverOf) (seats last : ℕ) → IsCarriedOver observers seats last [] (opening observers seats last)
carried_none observers seats last = record {
  entries_are = record {
    kept = λ x v h. absurd h;
    only = λ x d s is. absurd (none-some s (sym (ap start_of (map.get-empty slot_cmp (slot_at x Sort.Write d))) ∙ is));
    no_more = λ x s k is. absurd (none-some k (sym (ap data_of (map.get-empty slot_cmp (slot_at x Sort.Data s))) ∙ is));
    unlocked = λ x s. ap primary_of (map.get-empty slot_cmp (slot_at x Sort.Lock s));
  };
  transactions_are = record {
    each = λ s t is. absurd (none-some t (sym (map.get-empty nat_cmp s) ∙ is));
    all = λ x v h. absurd h;
  };
  marks_are = refl;
  observers_are = refl;
  clock_is = refl;
  seats_are = refl;
}
