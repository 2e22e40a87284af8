-- What stands on known cells alone: it is the same there, and nothing stands elsewhere, also after the changes that steps make.
use Rattle.std.proofs.Common.{◌≡◌, ℕ, Bool, true, false, cond, Option, Some, None, refl, sym, ap, ◌∙◌}
use Rattle.std.specs.FinMap as map
use Rattle.std.specs.Ordering.{eq_by_cmp}
use Rattle.std.specs.Cmp.{Equal-is}
use Rattle.pb_generations.specs.Words.{Cell, Content, Entries, slot_at, slot_cmp, slot_cmp-IsAntisymmetric, slot_cmp_total, Item, Slot, Sort, commit_lock, erase_lock, put_lock}
use Rattle.pb_generations.specs.LeftOut.{is_known_cell, known_entries}

module _ (n : ℕ) where
  abbrev is_known_slot : Slot → Bool
  is_known_slot z = is_known_cell n z.cell

  known_at : (e : Entries) (z : Slot) → map.get (known_entries n e) z ≡ cond (is_known_slot z) (map.get e z) None
  known_at e z = map.get-retain_keys e is_known_slot z (λ y same. sym (ap is_known_slot (slot_cmp-IsAntisymmetric z y same)))

  pub known_same : (e : Entries) (x : Cell) (so : Sort) (s : ℕ) → is_known_cell n x ≡ true → map.get (known_entries n e) (slot_at x so s) ≡ map.get e (slot_at x so s)
  known_same e x so s known = known_at e (slot_at x so s) ∙ ap (λ b. cond b (map.get e (slot_at x so s)) None) known

  pub unknown_none : (e : Entries) (x : Cell) (so : Sort) (s : ℕ) → is_known_cell n x ≡ false → map.get (known_entries n e) (slot_at x so s) ≡ None
  unknown_none e x so s not = known_at e (slot_at x so s) ∙ ap (λ b. cond b (map.get e (slot_at x so s)) None) not

  -- nothing stands there where nothing stands at all
  pub known_nothing : known_entries n map.empty ≡ map.empty
  known_nothing = map.same_map slot_cmp_total slot_cmp-IsAntisymmetric _ _ (λ z. known_at map.empty z ∙ by (is_known_slot z) (map.get map.empty z) (map.get-empty slot_cmp z))
    where
      by : (b : Bool) (o : Option Item) → o ≡ None → cond b o None ≡ o
      by true o is = refl
      by false o is = sym is

  -- ---- one change

  known_insert : (e : Entries) (k : Slot) (v : Item) → is_known_slot k ≡ true → known_entries n (map.insert e k v) ≡ map.insert (known_entries n e) k v
  known_insert e k v known = map.same_map slot_cmp_total slot_cmp-IsAntisymmetric _ _ (λ z.
      known_at (map.insert e k v) z ∙ ap (λ o. cond (is_known_slot z) o None) (map.get-insert slot_cmp_total e k v z)
      ∙ by z (eq_by_cmp slot_cmp z k) refl
      ∙ sym (map.get-insert slot_cmp_total (known_entries n e) k v z ∙ ap (λ o. cond (eq_by_cmp slot_cmp z k) (Some v) o) (known_at e z)))
    where
      by : (z : Slot) (b : Bool) → eq_by_cmp slot_cmp z k ≡ b → cond (is_known_slot z) (cond b (Some v) (map.get e z)) None ≡ cond b (Some v) (cond (is_known_slot z) (map.get e z) None)
      by z true same = ap (λ b. cond b (Some v) None) (ap is_known_slot (slot_cmp-IsAntisymmetric z k ((Equal-is (slot_cmp z k)).0 same)) ∙ known)
      by z false same = refl

  known_remove : (e : Entries) (k : Slot) → known_entries n (map.remove e k) ≡ map.remove (known_entries n e) k
  known_remove e k = map.same_map slot_cmp_total slot_cmp-IsAntisymmetric _ _ (λ z.
      known_at (map.remove e k) z ∙ ap (λ o. cond (is_known_slot z) o None) (map.get-remove slot_cmp_total e k z)
      ∙ by (is_known_slot z) (eq_by_cmp slot_cmp z k) (map.get e z)
      ∙ sym (map.get-remove slot_cmp_total (known_entries n e) k z ∙ ap (λ o. cond (eq_by_cmp slot_cmp z k) None o) (known_at e z)))
    where
      by : (a b : Bool) (o : Option Item) → cond a (cond b None o) None ≡ cond b None (cond a o None)
      by true true o = refl
      by true false o = refl
      by false true o = refl
      by false false o = refl

  -- ---- the changes of steps

  module _ (e : Entries) (x : Cell) (s : ℕ) (known : is_known_cell n x ≡ true) where
    pub known_put : (k : Content) (p : Cell) → known_entries n (put_lock e x s k p) ≡ put_lock (known_entries n e) x s k p
    known_put k p =
        known_insert (map.insert e (slot_at x Sort.Data s) (Item.Data k)) (slot_at x Sort.Lock s) (Item.Lock p) known
        ∙ ap (λ f. map.insert f (slot_at x Sort.Lock s) (Item.Lock p)) (known_insert e (slot_at x Sort.Data s) (Item.Data k) known)

    pub known_commit : (c : ℕ) → known_entries n (commit_lock e x s c) ≡ commit_lock (known_entries n e) x s c
    known_commit c =
        known_insert (map.remove e (slot_at x Sort.Lock s)) (slot_at x Sort.Write c) (Item.Write (record { 0 = s })) known
        ∙ ap (λ f. map.insert f (slot_at x Sort.Write c) (Item.Write (record { 0 = s }))) (known_remove e (slot_at x Sort.Lock s))

    pub known_erase : known_entries n (erase_lock e x s) ≡ erase_lock (known_entries n e) x s
    known_erase =
        known_remove (map.remove e (slot_at x Sort.Lock s)) (slot_at x Sort.Data s)
        ∙ ap (λ f. map.remove f (slot_at x Sort.Data s)) (known_remove e (slot_at x Sort.Lock s))
