-- What stays of two tables of which one mirrors the other, where both are changed alike.
use Rattle.std.proofs.Common.{◌≡◌, ◌↔◌, ◌⊎◌, ℕ, ◌<◌, ◌≤◌, inl, inr, sym, ◌∙◌, ap, subst, arith, Bool, true, false, cond, Option, Some, None}
use Rattle.std.proofs.lemmas.Bool.{cases_lt}
use Rattle.std.specs.FinMap as map
use Rattle.std.specs.Ordering.{nat_cmp, eq_by_cmp}
use Rattle.std.specs.Cmp.{nat_cmp_total}
use Rattle.pb_generations.specs.Words.{Cell, Content, Revision, Entries, commit_lock, erase_lock, put_lock, IsVersion, NoVersion, data_at, lock_at, write_at, TransactionOf, Transactions}
use Rattle.pb_history.proofs.Updates.{set2, at_place, set2_there, placed_or_before as placed, left_after_clearing as cleared}
use Rattle.pb_history.proofs.ViewsAfter.{lock_after_commit, data_after_commit, write_after_commit, lock_after_back, data_after_back, write_after_back, lock_after_put, data_after_put, write_after_put}
use Rattle.pb_generations.specs.Mirrored.{IsPartOf, SameEntries, SameTransactions, SameVersion, IsLatePhase}

-- ---- transactions

-- the one of two options that a test gives is the first or the second
pub first_or_second : {A : Type 0} (b : Bool) (x y z : Option A) → cond b x y ≡ z → (x ≡ z) ⊎ (y ≡ z)
first_or_second true x y z is = inl is
first_or_second false x y z is = inr is

-- the value of an option, and another where it has none
abbrev pub unwrap : {A : Type 0} → A → Option A → A
unwrap d None = d
unwrap d (Some x) = x

pub with_both : (c : ℕ) (whole kept : Transactions) (s : ℕ) (t : TransactionOf) → SameTransactions c whole kept → c < s → IsLatePhase c t.phase → SameTransactions c (map.insert whole s t) (map.insert kept s t)
with_both c whole kept s t m later phase = record {
  same = λ u above.
      map.get-insert nat_cmp_total kept s t u
      ∙ ap (λ (o : Option TransactionOf). cond (eq_by_cmp nat_cmp u s) (Some t) o) (m.same u above)
      ∙ sym (map.get-insert nat_cmp_total whole s t u);
  phases = λ u w above is. elim (first_or_second (eq_by_cmp nat_cmp u s) (Some t) (map.get whole u) (Some w) (sym (map.get-insert nat_cmp_total whole s t u) ∙ is)) [
    | inl here ↦ subst (λ (z : TransactionOf). IsLatePhase c z.phase) (ap (unwrap t) here) phase
    | inr there ↦ m.phases u w above there
  ];
}

-- ---- entries

pub same_there : {A : Type 0} {f g : Cell → ℕ → A} → f ≡ g → (x : Cell) (s : ℕ) → f x s ≡ g x s
same_there is x s = ap (λ h. h x s) is

-- what stands up to u, and data of starts up to c, decide the version at u
version_under : (c u : ℕ) (e f : Entries) (x : Cell) (v : Revision) → ((d : ℕ) → d ≤ u → write_at f x d ≡ write_at e x d) → ((s : ℕ) → s ≤ c → data_at f x s ≡ data_at e x s)
    → ((d s : ℕ) → d ≤ u → write_at e x d ≡ Some s → s ≤ c) → IsVersion e x u v → IsVersion f x u v
version_under c u e f x v w d early is = record {
  low = is.low;
  written = w v.commit.0 is.low ∙ is.written;
  content = d v.start.0 (early v.commit.0 v.start.0 is.low is.written) ∙ is.content;
  newest = λ n above low. w n low ∙ is.newest n above low;
}

none_under : (u : ℕ) (e f : Entries) (x : Cell) → ((d : ℕ) → d ≤ u → write_at f x d ≡ write_at e x d) → NoVersion e x u → NoVersion f x u
none_under u e f x w is n low = w n low ∙ is n low

-- both were changed above c alone, and alike
record Alike (c : ℕ) (whole kept whole' kept' : Entries) : Type 0 where
  written : (x : Cell) (d : ℕ) → d ≤ c → write_at whole' x d ≡ write_at whole x d
  kept_written : (x : Cell) (d : ℕ) → d ≤ c → write_at kept' x d ≡ write_at kept x d
  stored_early : (x : Cell) (s : ℕ) → s ≤ c → data_at whole' x s ≡ data_at whole x s
  kept_stored : (x : Cell) (s : ℕ) → s ≤ c → data_at kept' x s ≡ data_at kept x s
  records : (x : Cell) (d : ℕ) → c < d → write_at kept' x d ≡ write_at whole' x d
  starts : (x : Cell) (d s : ℕ) → c < d → write_at whole' x d ≡ Some s → c < s
  stored : (x : Cell) (s : ℕ) → c < s → data_at kept' x s ≡ data_at whole' x s
  locks : (x : Cell) (s : ℕ) → lock_at kept' x s ≡ lock_at whole' x s
  late : (x : Cell) (s : ℕ) (p : Cell) → lock_at whole' x s ≡ Some p → c < s

-- then they are the same after it, of no cell is the version at c another, and where earlier versions are the same, they still are
pub record Changes (c : ℕ) (whole kept whole' kept' : Entries) : Type 0 where
  pub same : SameEntries c whole' kept'
  pub versions : (x : Cell) (v : Revision) → IsVersion whole x c v ↔ IsVersion whole' x c v
  pub before : (x : Cell) (u : ℕ) → u ≤ c → SameVersion u whole kept x → SameVersion u whole' kept' x
  pub within : IsPartOf whole kept → IsPartOf whole' kept'

changed : (c : ℕ) (whole kept whole' kept' : Entries) → SameEntries c whole kept → Alike c whole kept whole' kept' → Changes c whole kept whole' kept'
changed c whole kept whole' kept' m a =
    let early : (x : Cell) (d s : ℕ) → d ≤ c → write_at whole' x d ≡ Some s → s ≤ c = λ x d s low is. m.early x d s low (sym (a.written x d low) ∙ is) in
    let kept_early : (x : Cell) (d s : ℕ) → d ≤ c → write_at kept' x d ≡ Some s → s ≤ c = λ x d s low is. m.kept_early x d s low (sym (a.kept_written x d low) ∙ is) in
    let within : (u d : ℕ) → u ≤ c → d ≤ u → d ≤ c = λ u d under low. omega (arith, under, low) in
    let on : (x : Cell) (u : ℕ) (v : Revision) → u ≤ c → IsVersion whole x u v → IsVersion whole' x u v = λ x u v under is. version_under c u whole whole' x v (λ d low. a.written x d (within u d under low)) (a.stored_early x) (λ d s low. m.early x d s (within u d under low)) is in
    let off : (x : Cell) (u : ℕ) (v : Revision) → u ≤ c → IsVersion whole' x u v → IsVersion whole x u v = λ x u v under is. version_under c u whole' whole x v (λ d low. sym (a.written x d (within u d under low))) (λ s low. sym (a.stored_early x s low)) (λ d s low. early x d s (within u d under low)) is in
    let kept_on : (x : Cell) (u : ℕ) (v : Revision) → u ≤ c → IsVersion kept x u v → IsVersion kept' x u v = λ x u v under is. version_under c u kept kept' x v (λ d low. a.kept_written x d (within u d under low)) (a.kept_stored x) (λ d s low. m.kept_early x d s (within u d under low)) is in
    let kept_off : (x : Cell) (u : ℕ) (v : Revision) → u ≤ c → IsVersion kept' x u v → IsVersion kept x u v = λ x u v under is. version_under c u kept' kept x v (λ d low. sym (a.kept_written x d (within u d under low))) (λ s low. sym (a.kept_stored x s low)) (λ d s low. kept_early x d s (within u d under low)) is in
    let before : (x : Cell) (u : ℕ) → u ≤ c → SameVersion u whole kept x → SameVersion u whole' kept' x = λ x u under were. record {
      there = λ v. (λ is. kept_on x u v under ((were.there v).0 (off x u v under is)), λ is. on x u v under ((were.there v).1 (kept_off x u v under is)));
      none = (
        λ is. none_under u kept kept' x (λ d low. a.kept_written x d (within u d under low)) (were.none.0 (none_under u whole' whole x (λ d low. sym (a.written x d (within u d under low))) is)),
        λ is. none_under u whole whole' x (λ d low. a.written x d (within u d under low)) (were.none.1 (none_under u kept' kept x (λ d low. sym (a.kept_written x d (within u d under low))) is)),
      );
    } in
    record {
      same = record {
        versions = λ x. before x c (omega arith) (m.versions x);
        either = λ x. elim (m.either x) [
          | inl v ↦ inl (v.0, on x c v.0 (omega arith) v.1)
          | inr none ↦ inr (none_under c whole whole' x (a.written x) none)
        ];
        early = early;
        kept_early = kept_early;
        records = a.records;
        starts = a.starts;
        stored = a.stored;
        locks = a.locks;
        late = a.late;
      };
      versions = λ x v. (on x c v (omega arith), off x c v (omega arith));
      before = before;
      within = λ had. record {
        records = λ x d s there. elim (cases_lt c d) [
          | inl late ↦ sym (a.records x d late) ∙ there
          | inr low ↦ a.written x d low ∙ had.records x d s (sym (a.kept_written x d low) ∙ there)
        ];
        stored = λ x s k there. elim (cases_lt c s) [
          | inl late ↦ sym (a.stored x s late) ∙ there
          | inr low ↦ a.stored_early x s low ∙ had.stored x s k (sym (a.kept_stored x s low) ∙ there)
        ];
      };
    }

module _ (c : ℕ) (whole kept : Entries) (m : SameEntries c whole kept) (x : Cell) (s : ℕ) (later : c < s) where
  apart : (y : Cell) (u t : ℕ) → u ≤ c → c < t → y ≡ x → u ≡ t → ⊥
  apart y u t low above same is = omega (arith, low, above, is)

  -- one value is put in the same place of both
  both : {A : Type 0} (f g : Cell → ℕ → A) (t : ℕ) (v : A) (y : Cell) (u : ℕ) → f y u ≡ g y u → set2 f x t v y u ≡ set2 g x t v y u
  both f g t v y u is = ap (λ o. cond (at_place y u x t) v o) is

  pub lock_put : (k : Content) (p : Cell) → Changes c whole kept (put_lock whole x s k p) (put_lock kept x s k p)
  lock_put k p = changed c whole kept (put_lock whole x s k p) (put_lock kept x s k p) m (record {
    written = λ y d low. same_there (write_after_put whole x s k p) y d;
    kept_written = λ y d low. same_there (write_after_put kept x s k p) y d;
    stored_early = λ y u low. same_there (data_after_put whole x s k p) y u ∙ set2_there (data_at whole) x s (Some k) y u (apart y u s low later);
    kept_stored = λ y u low. same_there (data_after_put kept x s k p) y u ∙ set2_there (data_at kept) x s (Some k) y u (apart y u s low later);
    records = λ y d above. same_there (write_after_put kept x s k p) y d ∙ m.records y d above ∙ sym (same_there (write_after_put whole x s k p) y d);
    starts = λ y d u above is. m.starts y d u above (sym (same_there (write_after_put whole x s k p) y d) ∙ is);
    stored = λ y u above. same_there (data_after_put kept x s k p) y u ∙ both (data_at kept) (data_at whole) s (Some k) y u (m.stored y u above) ∙ sym (same_there (data_after_put whole x s k p) y u);
    locks = λ y u. same_there (lock_after_put kept x s k p) y u ∙ both (lock_at kept) (lock_at whole) s (Some p) y u (m.locks y u) ∙ sym (same_there (lock_after_put whole x s k p) y u);
    late = λ y u q is. elim (placed (lock_at whole) x s p y u q (sym (same_there (lock_after_put whole x s k p) y u) ∙ is)) [
      | inl here ↦ subst (λ (n : ℕ). c < n) (sym here.1) later
      | inr there ↦ m.late y u q there.0
    ];
  })

  pub lock_committed : (d : ℕ) → c < d → Changes c whole kept (commit_lock whole x s d) (commit_lock kept x s d)
  lock_committed d late = changed c whole kept (commit_lock whole x s d) (commit_lock kept x s d) m (record {
    written = λ y u low. same_there (write_after_commit whole x s d) y u ∙ set2_there (write_at whole) x d (Some s) y u (apart y u d low late);
    kept_written = λ y u low. same_there (write_after_commit kept x s d) y u ∙ set2_there (write_at kept) x d (Some s) y u (apart y u d low late);
    stored_early = λ y u low. same_there (data_after_commit whole x s d) y u;
    kept_stored = λ y u low. same_there (data_after_commit kept x s d) y u;
    records = λ y u above. same_there (write_after_commit kept x s d) y u ∙ both (write_at kept) (write_at whole) d (Some s) y u (m.records y u above) ∙ sym (same_there (write_after_commit whole x s d) y u);
    starts = λ y u w above is. elim (placed (write_at whole) x d s y u w (sym (same_there (write_after_commit whole x s d) y u) ∙ is)) [
      | inl here ↦ subst (λ (n : ℕ). c < n) here.2 later
      | inr there ↦ m.starts y u w above there.0
    ];
    stored = λ y u above. same_there (data_after_commit kept x s d) y u ∙ m.stored y u above ∙ sym (same_there (data_after_commit whole x s d) y u);
    locks = λ y u. same_there (lock_after_commit kept x s d) y u ∙ both (lock_at kept) (lock_at whole) s None y u (m.locks y u) ∙ sym (same_there (lock_after_commit whole x s d) y u);
    late = λ y u q is. m.late y u q (cleared (lock_at whole) x s y u q (sym (same_there (lock_after_commit whole x s d) y u) ∙ is)).0;
  })

  pub lock_erased : Changes c whole kept (erase_lock whole x s) (erase_lock kept x s)
  lock_erased = changed c whole kept (erase_lock whole x s) (erase_lock kept x s) m (record {
    written = λ y u low. same_there (write_after_back whole x s) y u;
    kept_written = λ y u low. same_there (write_after_back kept x s) y u;
    stored_early = λ y u low. same_there (data_after_back whole x s) y u ∙ set2_there (data_at whole) x s None y u (apart y u s low later);
    kept_stored = λ y u low. same_there (data_after_back kept x s) y u ∙ set2_there (data_at kept) x s None y u (apart y u s low later);
    records = λ y u above. same_there (write_after_back kept x s) y u ∙ m.records y u above ∙ sym (same_there (write_after_back whole x s) y u);
    starts = λ y u w above is. m.starts y u w above (sym (same_there (write_after_back whole x s) y u) ∙ is);
    stored = λ y u above. same_there (data_after_back kept x s) y u ∙ both (data_at kept) (data_at whole) s None y u (m.stored y u above) ∙ sym (same_there (data_after_back whole x s) y u);
    locks = λ y u. same_there (lock_after_back kept x s) y u ∙ both (lock_at kept) (lock_at whole) s None y u (m.locks y u) ∙ sym (same_there (lock_after_back whole x s) y u);
    late = λ y u q is. m.late y u q (cleared (lock_at whole) x s y u q (sym (same_there (lock_after_back whole x s) y u) ∙ is)).0;
  })
