-- What the view of a state is after a change of its entries or of a transaction.
use Rattle.std.proofs.Common.{arith, ◌≡◌, ◌≢◌, ℕ, Bool, true, false, cond, inl, inr, Option, Some, None, refl, sym, ap, ◌∙◌, nat_eq}
use Rattle.std.specs.Ordering.{is_eq, eq_by_cmp}
use Rattle.std.specs.Cmp.{Equal-is, tied_itself, nat_cmp_total, unsigned_tied}
use Rattle.std.specs.FinMap as map
use Rattle.std.proofs.lemmas.Bool.{eqb-true, false_from_ne_true as not_true}
use Rattle.pb_history.specs.Words.{Cell, Content, Slot, Item, Sort, slot_cmp, slot_cmp_total, slot_cmp-IsAntisymmetric, Entries, slot_at, TransactionOf, Transactions, data_of, primary_of, start_of, data_at, lock_at, write_at, put_lock, commit_lock, erase_lock}
use Rattle.pb_history.proofs.Updates.{set1, set2, at_place, at_or_apart, apart_test, at_place_itself}

through : {A B : Type 0} (f : A → B) (b : Bool) (x y : A) → f (cond b x y) ≡ cond b (f x) (f y)
through f b x y = grind arith

-- ---- the transactions

module _ {A : Type 0} (f : Option TransactionOf → A) (m : Transactions) (s : ℕ) (t : TransactionOf) where
  pub field_at : (u : ℕ) → f (map.get (map.insert m s t) u) ≡ set1 (λ w. f (map.get m w)) s (f (Some t)) u
  field_at u = ap f (map.get-insert nat_cmp_total m s t u ∙ ap (λ b. cond b (Some t) (map.get m u)) (unsigned_tied u s)) ∙ through f (nat_eq u s) (Some t) (map.get m u)

  pub field_after : ◌≡◌ {A = ℕ → A} (λ u. f (map.get (map.insert m s t) u)) (set1 (λ w. f (map.get m w)) s (f (Some t)))
  field_after i u = field_at u i

  pub field_same : f (Some t) ≡ f (map.get m s) → ◌≡◌ {A = ℕ → A} (λ u. f (map.get (map.insert m s t) u)) (λ u. f (map.get m u))
  field_same e i u = (field_at u ∙ rewrite_same u (nat_eq u s) refl) i
    where
      rewrite_same : (u : ℕ) (b : Bool) → nat_eq u s ≡ b → cond b (f (Some t)) (f (map.get m u)) ≡ f (map.get m u)
      rewrite_same u true p = e ∙ ap (λ w. f (map.get m w)) (sym (eqb-true u s p))
      rewrite_same u false p = refl

-- ---- the entries

-- two slots of one sort are one where cell and timestamp are
same_slot : (y : Cell) (u : ℕ) (x : Cell) (s : ℕ) (so : Sort) → eq_by_cmp slot_cmp (slot_at y so u) (slot_at x so s) ≡ at_place y u x s
same_slot y u x s so = elim (at_or_apart y u x s) [
  | inl p ↦ ap (λ (z : Slot). eq_by_cmp slot_cmp z (slot_at x so s)) (λ i. slot_at (p.0 i) so (p.1 i)) ∙ ap is_eq (tied_itself slot_cmp_total (slot_at x so s)) ∙ sym ((λ i. at_place (p.0 i) (p.1 i) x s) ∙ at_place_itself x s)
  | inr n ↦ not_true _ (λ e. let same = slot_cmp-IsAntisymmetric (slot_at y so u) (slot_at x so s) ((Equal-is (slot_cmp (slot_at y so u) (slot_at x so s))).0 e) in n (ap (λ (z : Slot). z.cell) same) (ap (λ (z : Slot). z.ts.0) same)) ∙ sym (apart_test y u x s n)
]

-- slots of different sorts are never one, so that a lock's change leaves data and write records
other_slot : (y : Cell) (u : ℕ) (x : Cell) (s : ℕ) (so to : Sort) → so ≢ to → eq_by_cmp slot_cmp (slot_at y so u) (slot_at x to s) ≡ false
other_slot y u x s so to n = not_true _ (λ e. n (ap (λ (z : Slot). z.sort) (slot_cmp-IsAntisymmetric (slot_at y so u) (slot_at x to s) ((Equal-is (slot_cmp (slot_at y so u) (slot_at x to s))).0 e))))

module _ {A : Type 0} (g : Option Item → A) (e : Entries) (x : Cell) (s : ℕ) (so : Sort) where
  abbrev read_at : Entries → Sort → Cell → ℕ → A
  read_at d to y u = g (map.get d (slot_at y to u))

  pub insert_same : (item : Item) → read_at (map.insert e (slot_at x so s) item) so ≡ set2 (read_at e so) x s (g (Some item))
  insert_same item i y u =
      (ap g (map.get-insert slot_cmp_total e (slot_at x so s) item (slot_at y so u) ∙ ap (λ b. cond b (Some item) (map.get e (slot_at y so u))) (same_slot y u x s so))
      ∙ through g (at_place y u x s) (Some item) (map.get e (slot_at y so u))) i

  pub insert_other : (item : Item) (to : Sort) → to ≢ so → read_at (map.insert e (slot_at x so s) item) to ≡ read_at e to
  insert_other item to n i y u =
      (ap g (map.get-insert slot_cmp_total e (slot_at x so s) item (slot_at y to u) ∙ ap (λ b. cond b (Some item) (map.get e (slot_at y to u))) (other_slot y u x s to so n))) i

  pub remove_same : read_at (map.remove e (slot_at x so s)) so ≡ set2 (read_at e so) x s (g None)
  remove_same i y u =
      (ap g (map.get-remove slot_cmp_total e (slot_at x so s) (slot_at y so u) ∙ ap (λ b. cond b None (map.get e (slot_at y so u))) (same_slot y u x s so))
      ∙ through g (at_place y u x s) None (map.get e (slot_at y so u))) i

  pub remove_other : (to : Sort) → to ≢ so → read_at (map.remove e (slot_at x so s)) to ≡ read_at e to
  remove_other to n i y u =
      (ap g (map.get-remove slot_cmp_total e (slot_at x so s) (slot_at y to u) ∙ ap (λ b. cond b None (map.get e (slot_at y to u))) (other_slot y u x s to so n))) i

module _ (e : Entries) (x : Cell) (s : ℕ) where
  pub lock_after_commit : (c : ℕ) → lock_at (commit_lock e x s c) ≡ set2 (lock_at e) x s None
  lock_after_commit c = insert_other primary_of _ x c Sort.Write (Item.Write (record { 0 = s })) Sort.Lock (λ q. cc) ∙ remove_same primary_of e x s Sort.Lock

  pub data_after_commit : (c : ℕ) → data_at (commit_lock e x s c) ≡ data_at e
  data_after_commit c = insert_other data_of _ x c Sort.Write (Item.Write (record { 0 = s })) Sort.Data (λ q. cc) ∙ remove_other data_of e x s Sort.Lock Sort.Data (λ q. cc)

  pub write_after_commit : (c : ℕ) → write_at (commit_lock e x s c) ≡ set2 (write_at e) x c (Some s)
  write_after_commit c = insert_same start_of _ x c Sort.Write (Item.Write (record { 0 = s })) ∙ ap (λ f. set2 f x c (Some s)) (remove_other start_of e x s Sort.Lock Sort.Write (λ q. cc))

  pub lock_after_back : lock_at (erase_lock e x s) ≡ set2 (lock_at e) x s None
  lock_after_back = remove_other primary_of _ x s Sort.Data Sort.Lock (λ q. cc) ∙ remove_same primary_of e x s Sort.Lock

  pub data_after_back : data_at (erase_lock e x s) ≡ set2 (data_at e) x s None
  data_after_back = remove_same data_of _ x s Sort.Data ∙ ap (λ f. set2 f x s None) (remove_other data_of e x s Sort.Lock Sort.Data (λ q. cc))

  pub write_after_back : write_at (erase_lock e x s) ≡ write_at e
  write_after_back = remove_other start_of _ x s Sort.Data Sort.Write (λ q. cc) ∙ remove_other start_of e x s Sort.Lock Sort.Write (λ q. cc)

  pub lock_after_put : (k : Content) (p : Cell) → lock_at (put_lock e x s k p) ≡ set2 (lock_at e) x s (Some p)
  lock_after_put k p = insert_same primary_of _ x s Sort.Lock (Item.Lock p) ∙ ap (λ f. set2 f x s (Some p)) (insert_other primary_of e x s Sort.Data (Item.Data k) Sort.Lock (λ q. cc))

  pub data_after_put : (k : Content) (p : Cell) → data_at (put_lock e x s k p) ≡ set2 (data_at e) x s (Some k)
  data_after_put k p = insert_other data_of _ x s Sort.Lock (Item.Lock p) Sort.Data (λ q. cc) ∙ insert_same data_of e x s Sort.Data (Item.Data k)

  pub write_after_put : (k : Content) (p : Cell) → write_at (put_lock e x s k p) ≡ write_at e
  write_after_put k p = insert_other start_of _ x s Sort.Lock (Item.Lock p) Sort.Write (λ q. cc) ∙ insert_other start_of e x s Sort.Data (Item.Data k) Sort.Write (λ q. cc)
