-- Entries and transactions that are the same but for the numbers of the observers stay so where both are changed alike.
use Rattle.std.proofs.Common.{◌≡◌, ℕ, Bool, true, false, cond, Option, Some, None, refl, sym, ap, subst, ◌∙◌, inl, inr, option_map}
use Rattle.std.proofs.lemmas.Option.{none-some}
use Rattle.std.specs.FinMap as map
use Rattle.std.specs.Cmp.{nat_cmp_total}
use Rattle.std.specs.Ordering.{nat_cmp, eq_by_cmp}
use Rattle.pb_generations.specs.Words.{Cell, Content, Entries, slot_at, slot_cmp, Sort, commit_lock, erase_lock, put_lock, data_at, data_of, lock_at, primary_of, start_of, write_at, TransactionOf, Transactions}
use Rattle.pb_history.proofs.Updates.{set2, at_place, placed_or_before, left_after_clearing}
use Rattle.pb_history.proofs.ViewsAfter.{lock_after_commit, data_after_commit, write_after_commit, lock_after_back, data_after_back, write_after_back, lock_after_put, data_after_put, write_after_put}
use Rattle.pb_generations.specs.Renumbered.{IsOneToOne, EntriesAreRenumbered, TransactionsAreRenumbered, renumbered_cell, renumbered_transaction}
use Rattle.pb_generations.proofs.RenumberedCells.{place_renumbered}

module _ (number : ℕ → ℕ) (one : IsOneToOne number) where
  abbrev to_cell : Cell → Cell
  to_cell = renumbered_cell number

  -- ---- one view

  -- what the first has of a cell, the second has of the renumbered one, and it has nothing else
  pub record IsMoved {A : Type 0} (turn : Option A → Option A) (f g : Cell → ℕ → Option A) : Type 0 where
    pub same : (x : Cell) (s : ℕ) → g (to_cell x) s ≡ turn (f x s)
    pub only : (y : Cell) (s : ℕ) (k : A) → g y s ≡ Some k → (x : Cell) × (y ≡ to_cell x)

  moved_as : {A : Type 0} (turn : Option A → Option A) (f f' g g' : Cell → ℕ → Option A) → f' ≡ f → g' ≡ g → IsMoved turn f g → IsMoved turn f' g'
  moved_as turn f f' g g' fs gs m = subst (λ h. IsMoved turn h g') (sym fs) (subst (λ h. IsMoved turn f h) (sym gs) m)

  module _ {A : Type 0} (turn : Option A → Option A) (f g : Cell → ℕ → Option A) (m : IsMoved turn f g) (x : Cell) (s : ℕ) where
    -- one value is set in both
    both_set : (v w : Option A) → w ≡ turn v → (y : Cell) (u : ℕ) → set2 g (to_cell x) s w (to_cell y) u ≡ turn (set2 f x s v y u)
    both_set v w is y u = ap (λ b. cond b w (g (to_cell y) u)) (place_renumbered number one y u x s) ∙ by (at_place y u x s)
      where
        by : (b : Bool) → cond b w (g (to_cell y) u) ≡ turn (cond b v (f y u))
        by true = is
        by false = m.same y u

    moved_put : (v w : A) → Some w ≡ turn (Some v) → IsMoved turn (set2 f x s (Some v)) (set2 g (to_cell x) s (Some w))
    moved_put v w is = record {
      same = both_set (Some v) (Some w) is;
      only = λ y u k e. elim (placed_or_before g (to_cell x) s w y u k e) [ inl here ↦ (x, here.0) | inr there ↦ m.only y u k there.0 ];
    }

    moved_off : None ≡ turn None → IsMoved turn (set2 f x s None) (set2 g (to_cell x) s None)
    moved_off is = record {
      same = both_set None None is;
      only = λ y u k e. m.only y u k (left_after_clearing g (to_cell x) s y u k e).0;
    }

  -- ---- all entries

  pub record AreMoved (old new : Entries) : Type 0 where
    pub written : IsMoved (λ o. o) (write_at old) (write_at new)
    pub stored : IsMoved (λ o. o) (data_at old) (data_at new)
    pub locked : IsMoved (option_map to_cell) (lock_at old) (lock_at new)

  pub entries_renumbered : (old new : Entries) → AreMoved old new → EntriesAreRenumbered number old new
  entries_renumbered old new m = record {
    records = m.written.same;
    stored = m.stored.same;
    locks = m.locked.same;
    no_more_records = m.written.only;
    no_more_stored = m.stored.only;
    no_more_locks = m.locked.only;
  }

  pub nothing_moved : AreMoved map.empty map.empty
  nothing_moved = record {
    written = record { same = λ x s. no_write (to_cell x) s ∙ sym (no_write x s); only = λ y s k e. absurd (none-some k (sym (no_write y s) ∙ e)) };
    stored = record { same = λ x s. no_data (to_cell x) s ∙ sym (no_data x s); only = λ y s k e. absurd (none-some k (sym (no_data y s) ∙ e)) };
    locked = record { same = λ x s. no_lock (to_cell x) s ∙ sym (ap (option_map to_cell) (no_lock x s)); only = λ y s k e. absurd (none-some k (sym (no_lock y s) ∙ e)) };
  }
    where
      no_write : (x : Cell) (s : ℕ) → write_at map.empty x s ≡ None
      no_write x s = ap start_of (map.get-empty slot_cmp (slot_at x Sort.Write s))

      no_data : (x : Cell) (s : ℕ) → data_at map.empty x s ≡ None
      no_data x s = ap data_of (map.get-empty slot_cmp (slot_at x Sort.Data s))

      no_lock : (x : Cell) (s : ℕ) → lock_at map.empty x s ≡ None
      no_lock x s = ap primary_of (map.get-empty slot_cmp (slot_at x Sort.Lock s))

  module _ (old new : Entries) (m : AreMoved old new) (x : Cell) (s : ℕ) where
    abbrev y : Cell
    y = to_cell x

    pub moved_after_put : (k : Content) (p : Cell) → AreMoved (put_lock old x s k p) (put_lock new y s k (to_cell p))
    moved_after_put k p = record {
      written = moved_as (λ o. o) _ _ _ _ (write_after_put old x s k p) (write_after_put new y s k (to_cell p)) m.written;
      stored = moved_as (λ o. o) _ _ _ _ (data_after_put old x s k p) (data_after_put new y s k (to_cell p)) (moved_put (λ o. o) (data_at old) (data_at new) m.stored x s k k refl);
      locked = moved_as (option_map to_cell) _ _ _ _ (lock_after_put old x s k p) (lock_after_put new y s k (to_cell p)) (moved_put (option_map to_cell) (lock_at old) (lock_at new) m.locked x s p (to_cell p) refl);
    }

    pub moved_after_commit : (c : ℕ) → AreMoved (commit_lock old x s c) (commit_lock new y s c)
    moved_after_commit c = record {
      written = moved_as (λ o. o) _ _ _ _ (write_after_commit old x s c) (write_after_commit new y s c) (moved_put (λ o. o) (write_at old) (write_at new) m.written x c s s refl);
      stored = moved_as (λ o. o) _ _ _ _ (data_after_commit old x s c) (data_after_commit new y s c) m.stored;
      locked = moved_as (option_map to_cell) _ _ _ _ (lock_after_commit old x s c) (lock_after_commit new y s c) (moved_off (option_map to_cell) (lock_at old) (lock_at new) m.locked x s refl);
    }

    pub moved_after_back : AreMoved (erase_lock old x s) (erase_lock new y s)
    moved_after_back = record {
      written = moved_as (λ o. o) _ _ _ _ (write_after_back old x s) (write_after_back new y s) m.written;
      stored = moved_as (λ o. o) _ _ _ _ (data_after_back old x s) (data_after_back new y s) (moved_off (λ o. o) (data_at old) (data_at new) m.stored x s refl);
      locked = moved_as (option_map to_cell) _ _ _ _ (lock_after_back old x s) (lock_after_back new y s) (moved_off (option_map to_cell) (lock_at old) (lock_at new) m.locked x s refl);
    }

-- ---- transactions

module _ (number : ℕ → ℕ) (old new : Transactions) (m : TransactionsAreRenumbered number old new) (s : ℕ) (t w : TransactionOf) where
  pub renumbered_insert : w ≡ renumbered_transaction number t → TransactionsAreRenumbered number (map.insert old s t) (map.insert new s w)
  renumbered_insert is u =
      map.get-insert nat_cmp_total new s w u ∙ by (eq_by_cmp nat_cmp u s) ∙ sym (ap (option_map (renumbered_transaction number)) (map.get-insert nat_cmp_total old s t u))
    where
      by : (b : Bool) → cond b (Some w) (map.get new u) ≡ option_map (renumbered_transaction number) (cond b (Some t) (map.get old u))
      by true = ap Some is
      by false = m u
