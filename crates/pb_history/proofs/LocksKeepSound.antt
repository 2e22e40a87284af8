-- The table stays sound where a cell is prewritten, a lock becomes a write record, and a lock is rolled back.
use Rattle.std.proofs.Common.{◌≡◌, ◌≢◌, ℕ, ◌<◌, ◌≤◌, Bool, true, ◌⊎◌, Some, None, sym, ap, ◌∙◌, subst, inl, inr, arith, ◌||◌}
use Rattle.pb_history.specs.Words.{Cell, Content, Phase, RecordedRead, Answer, read_up_to}
use Rattle.pb_history.specs.History.{Has}
use Rattle.pb_history.specs.TableView.{TableView}
use Rattle.pb_history.specs.Sound.{HasStamp, LacksPrimary, ReadTells, IsSoundView}
use Rattle.pb_history.proofs.Updates.{set1, set2, Apart, same_cell, same_cell_is, same_cell_itself, changed_or_before, set1_here, set2_here, set2_there, set2_none, placed_or_before, left_after_clearing, at_or_apart, same_number}
use Rattle.pb_history.proofs.PhasesKeepSound.{stamped_at, committed_at, same_commit}
use Rattle.std.proofs.lemmas.Bool.{or_right}
use Rattle.pb_base.proofs.Logic.{or_cases}

-- data and lock on one cell more
abbrev pub with_prewrite : TableView → ℕ → Cell → Cell → Content → TableView
with_prewrite v s x p k = record v { prewritten = set1 v.prewritten s (λ y. v.prewritten s y || same_cell x y); lock = set2 v.lock x s (Some p); stored = set2 v.stored x s (Some k) }

-- what a read returned doesn't depend on phases: it stands where its write record and data do
pub tells_on : (v w : TableView) (s : ℕ) (x : Cell) (answer : Answer) → ((start c : ℕ) → v.write x c ≡ Some start → w.write x c ≡ Some start) → ((start c : ℕ) → v.write x c ≡ Some start → w.stored x start ≡ v.stored x start) → ((c u : ℕ) → c ≤ s → w.write x c ≡ Some u → v.write x c ≡ Some u) → ReadTells v s x answer → ReadTells w s x answer
tells_on v w s x answer f g h t = grind arith

module _ (v : TableView) (i : IsSoundView v) (s : ℕ) (x p : Cell) (k : Content) (was : v.phase s ≡ Some Phase.Declared) (first : v.primary s ≡ Some p) (declared : v.content s x ≡ Some k) (order : (x ≡ p) ⊎ (v.prewritten s p ≡ true)) (once : v.prewritten s x ≢ true) (unlocked : (u : ℕ) → v.lock x u ≡ None) (early : (c u : ℕ) → v.write x c ≡ Some u → c < s) where
  pre_back : (u : ℕ) (y : Cell) → (with_prewrite v s x p k).prewritten u y ≡ true → ((u ≡ s) × (y ≡ x)) ⊎ (v.prewritten u y ≡ true)
  pre_back u y e = grind (arith, changed_or_before, same_cell, or_cases, same_cell_is, v.prewritten)

  pre_on : (u : ℕ) (y : Cell) → v.prewritten u y ≡ true → (with_prewrite v s x p k).prewritten u y ≡ true
  pre_on u y e = grind arith

  pre_here : (with_prewrite v s x p k).prewritten s x ≡ true
  pre_here = ap (λ (f : Cell → Bool). f x) (set1_here v.prewritten s (λ w. v.prewritten s w || same_cell x w)) ∙ or_right (v.prewritten s x) (same_cell x x) (same_cell_itself x)

  away : (u : ℕ) (y : Cell) → v.phase u ≢ Some Phase.Declared → Apart y u x s
  away u y n a b = n (subst (λ w. v.phase w ≡ Some Phase.Declared) (sym b) was)

  complete_away : (u c : ℕ) (y : Cell) → v.phase u ≡ Some (committed_at c) → Apart y u x s
  complete_away u c y e = away u y (λ f. cc)

  stamp_away : (u c : ℕ) (y : Cell) → HasStamp v u c → Apart y u x s
  stamp_away u c y w = grind arith

  lock_back : (y : Cell) (u : ℕ) (q : Cell) → (with_prewrite v s x p k).lock y u ≡ Some q → ((y ≡ x) × (u ≡ s) × (p ≡ q)) ⊎ ((v.lock y u ≡ Some q) × Apart y u x s)
  lock_back y u q e = placed_or_before v.lock x s p y u q e

  lock_on : (y : Cell) (u : ℕ) (q : Cell) → v.lock y u ≡ Some q → (with_prewrite v s x p k).lock y u ≡ Some q
  lock_on y u q e = set2_there v.lock x s (Some p) y u (λ a b. let z : v.lock x u ≡ Some q = subst (λ w. v.lock w u ≡ Some q) a e in let n = unlocked u in cc) ∙ e

  pub prewrite_kept : IsSoundView (with_prewrite v s x p k)
  prewrite_kept = record {
    small = i.small;
    begun = i.begun;
    stamped = i.stamped;
    one_stamp = i.one_stamp;
    was_declared = λ u y e. elim (pre_back u y e) [ inl q ↦ (k, (λ j. v.content (q.0 j) (q.1 j)) ∙ declared) | inr b ↦ i.was_declared u y b ];
    past_reading = λ u y e. elim (pre_back u y e) [
      | inl q ↦ (let z : v.phase u ≡ Some Phase.Declared = ap v.phase q.0 ∙ was in (λ f. cc, λ f. cc))
      | inr b ↦ i.past_reading u y b
    ];
    primary_first = λ u y q e g. grind (arith, pre_back, pre_here, pre_on, v.primary, i.primary_first);
    all_prewritten = λ u c y k' e g. pre_on u y (i.all_prewritten u c y k' e g);
    lock_prewritten = λ y u q e. grind (arith, pre_here, pre_on, lock_back, v.primary, i.lock_prewritten);
    lock_data = λ y u q e. grind (arith, lock_back, set2_here, set2_there, v.content, v.stored, i.lock_data);
    one_lock = λ y a b q r e f. elim (lock_back y a q e) [
      | inl g ↦ grind (arith, lock_back, v.lock)
      | inr g ↦ elim (lock_back y b r f) [
        | inl h ↦ (let z : v.lock x a ≡ Some q = subst (λ w. v.lock w a ≡ Some q) h.0 g.0 in let n = unlocked a in cc)
        | inr h ↦ i.one_lock y a b q r g.0 h.0
      ]
    ];
    all_locked = λ u q y e f g. grind (arith, pre_back, lock_back, set2_here, lock_on, v.primary, i.primary_first, v.lock, v.prewritten, i.all_locked);
    record_committed = i.record_committed;
    record_data = λ y c u e. set2_there v.stored x s (Some k) y u (complete_away u c y (i.record_committed y c u e)) ∙ i.record_data y c u e;
    record_prewritten = λ y c u e. pre_on u y (i.record_prewritten y c u e);
    record_unlocked = λ y c u e. set2_there v.lock x s (Some p) y u (complete_away u c y (i.record_committed y c u e)) ∙ i.record_unlocked y c u e;
    behind_lock = λ y u q c w e f. grind (arith, lock_back, v.write, i.behind_lock);
    apart = i.apart;
    stands = λ u c y k' e g. elim (i.stands u c y k' e g) [ inl a ↦ inl a | inr b ↦ inr (b.0, lock_on y u b.0 b.1) ];
    primary_stands = i.primary_stands;
    read_begun = i.read_begun;
    tells = λ u r e. tells_on v (with_prewrite v s x p k) (read_up_to u r.at) r.cell r.answer (λ a c f. f) (λ a c f. set2_there v.stored x s (Some k) r.cell a (complete_away a c r.cell (i.record_committed r.cell c a f))) (λ c w l f. f) (i.tells u r e);
    settled = λ u r w c k' e f l g. grind (arith, set2_there, stamp_away, v.lock, i.settled);
  }

-- lock and data of a start gone from a cell
abbrev pub without_lock : TableView → ℕ → Cell → TableView
without_lock v s x = record v { lock = set2 v.lock x s None; stored = set2 v.stored x s None }

module _ (v : TableView) (i : IsSoundView v) (s : ℕ) (x p : Cell) (locked : v.lock x s ≡ Some p) (open_still : (c : ℕ) → v.phase s ≢ Some (committed_at c)) (dead : (x ≡ p) ⊎ (v.lock p s ≡ None)) where
  roll_back : (y : Cell) (u : ℕ) (q : Cell) → (without_lock v s x).lock y u ≡ Some q → (v.lock y u ≡ Some q) × Apart y u x s
  roll_back y u q e = left_after_clearing v.lock x s y u q e

  complete_far : (u c : ℕ) (y : Cell) → v.phase u ≡ Some (committed_at c) → Apart y u x s
  complete_far u c y e a b = open_still c (subst (λ w. v.phase w ≡ Some (committed_at c)) b e)

  pub rolled_back_kept : IsSoundView (without_lock v s x)
  rolled_back_kept = record {
    small = i.small;
    begun = i.begun;
    stamped = i.stamped;
    one_stamp = i.one_stamp;
    was_declared = i.was_declared;
    past_reading = i.past_reading;
    primary_first = i.primary_first;
    all_prewritten = i.all_prewritten;
    lock_prewritten = λ y u q e. i.lock_prewritten y u q (roll_back y u q e).0;
    lock_data = λ y u q e. let b = roll_back y u q e in set2_there v.stored x s None y u b.1 ∙ i.lock_data y u q b.0;
    one_lock = λ y a b q r e f. i.one_lock y a b q r (roll_back y a q e).0 (roll_back y b r f).0;
    all_locked = λ u q y e f g.
        let b = roll_back q u q f in
        set2_there v.lock x s None y u (λ j l.
        let t = (i.lock_prewritten x s p locked).1 in
        let same : p ≡ q = cc in
        elim dead [
          | inl d ↦ b.1 (sym same ∙ sym d) l
          | inr d ↦ (let on : v.lock p s ≡ Some q = (λ j. v.lock (same j) (sym l j)) ∙ b.0 in cc)
        ])
        ∙ i.all_locked u q y e b.0 g;
    record_committed = i.record_committed;
    record_data = λ y c u e. set2_there v.stored x s None y u (complete_far u c y (i.record_committed y c u e)) ∙ i.record_data y c u e;
    record_prewritten = i.record_prewritten;
    record_unlocked = λ y c u e. set2_none v.lock x s y u (i.record_unlocked y c u e);
    behind_lock = λ y u q c w e. i.behind_lock y u q c w (roll_back y u q e).0;
    apart = i.apart;
    stands = λ u c y k e g. elim (i.stands u c y k e g) [ inl a ↦ inl a | inr b ↦ inr (b.0, set2_there v.lock x s None y u (complete_far u c y e) ∙ b.1) ];
    primary_stands = i.primary_stands;
    read_begun = i.read_begun;
    tells = λ u r e. tells_on v (without_lock v s x) (read_up_to u r.at) r.cell r.answer (λ a c f. f) (λ a c f. set2_there v.stored x s None r.cell a (complete_far a c r.cell (i.record_committed r.cell c a f))) (λ c w l f. f) (i.tells u r e);
    settled = λ u r w c k e f l g. grind (arith, set2_none, i.settled);
  }

-- the lock of s on x becomes its write record, where s is committed already or x is its primary
abbrev pub with_record : TableView → ℕ → Cell → ℕ → TableView
with_record v s x c = record v { phase = set1 v.phase s (Some (committed_at c)); lock = set2 v.lock x s None; write = set2 v.write x c (Some s) }

module _ (v : TableView) (i : IsSoundView v) (s c : ℕ) (x p : Cell) (locked : v.lock x s ≡ Some p) (may : (v.phase s ≡ Some (committed_at c)) ⊎ ((v.phase s ≡ Some (stamped_at c)) × (x ≡ p))) where
  stamp : HasStamp v s c
  stamp = elim may [ inl a ↦ inr a | inr b ↦ inl b.0 ]

  unlock_back : (y : Cell) (u : ℕ) (q : Cell) → (with_record v s x c).lock y u ≡ Some q → (v.lock y u ≡ Some q) × Apart y u x s
  unlock_back y u q e = left_after_clearing v.lock x s y u q e

  write_back : (y : Cell) (d u : ℕ) → (with_record v s x c).write y d ≡ Some u → ((y ≡ x) × (d ≡ c) × (s ≡ u)) ⊎ ((v.write y d ≡ Some u) × Apart y d x c)
  write_back y d u e = placed_or_before v.write x c s y d u e

  -- an earlier write record stands
  pub write_on : (y : Cell) (d u : ℕ) → v.write y d ≡ Some u → (with_record v s x c).write y d ≡ Some u
  write_on y d u e = elim (at_or_apart y d x c) [
    | inl a ↦ (let z : u ≡ s = i.one_stamp u s c (inr (subst (λ w. v.phase u ≡ Some (committed_at w)) a.1 (i.record_committed y d u e))) stamp in (λ j. (with_record v s x c).write (a.0 j) (a.1 j)) ∙ set2_here v.write x c (Some s) ∙ ap Some (sym z))
    | inr b ↦ set2_there v.write x c (Some s) y d b ∙ e
  ]

  stamp_was : (u d : ℕ) → HasStamp (with_record v s x c) u d → HasStamp v u d
  stamp_was u d w = grind arith

  -- a transaction that is committed is s, or was it before
  complete_now : (u d : ℕ) → (with_record v s x c).phase u ≡ Some (committed_at d) → ((u ≡ s) × (d ≡ c)) ⊎ (v.phase u ≡ Some (committed_at d))
  complete_now u d e = elim (changed_or_before v.phase s (Some (committed_at c)) u (Some (committed_at d)) e) [ inl a ↦ inl (a.0, same_commit d c (sym a.1)) | inr b ↦ inr b.0 ]

  complete_stays : (u d : ℕ) → v.phase u ≡ Some (committed_at d) → (with_record v s x c).phase u ≡ Some (committed_at d)
  complete_stays u d e = grind arith

  mine : v.primary s ≡ Some p
  mine = (i.lock_prewritten x s p locked).1

  -- the primary is locked by s, or has its record
  has_primary : v.phase s ≢ Some (committed_at c) → LacksPrimary v s → ⊥
  has_primary n d = grind arith

  -- the commit comes after each recorded read of this cell
  after_reads : (w : ℕ) (r : RecordedRead) → Has (v.reads w) r → r.cell ≡ x → c ≤ read_up_to w r.at → v.write x c ≡ Some s
  after_reads w r e same low = grind arith

  -- and so there is none at or after it
  no_read : (w : ℕ) (r : RecordedRead) → Has (v.reads w) r → r.cell ≡ x → c ≤ read_up_to w r.at → ⊥
  no_read w r e same low = let off = i.record_unlocked x c s (after_reads w r e same low) in cc

  held_on : (y : Cell) (k : Content) → v.content s y ≡ Some k → (v.write y c ≡ Some s) ⊎ ((q : Cell) × (v.lock y s ≡ Some q))
  held_on y k e = grind arith

  now_stands : (u d : ℕ) (y : Cell) → d ≡ c ⊎ (u ≢ s) → (v.write y d ≡ Some u) ⊎ ((q : Cell) × (v.lock y u ≡ Some q)) → ((with_record v s x c).write y d ≡ Some u) ⊎ ((q : Cell) × ((with_record v s x c).lock y u ≡ Some q))
  now_stands u d y which (inl a) = inl (write_on y d u a)
  now_stands u d y which (inr b) = elim (at_or_apart y u x s) [
    | inl a ↦ grind (arith, set2_here, v.write)
    | inr n ↦ inr (b.0, set2_there v.lock x s None y u n ∙ b.1)
  ]

  pub record_kept : IsSoundView (with_record v s x c)
  record_kept = record {
    small = i.small;
    begun = λ u g e. elim (changed_or_before v.phase s (Some (committed_at c)) u (Some g) e) [ inl q ↦ (let o = i.stamped s c stamp in let z = q.0 in omega arith) | inr q ↦ i.begun u g q.0 ];
    stamped = λ u d e. i.stamped u d (stamp_was u d e);
    one_stamp = λ u w d a b. i.one_stamp u w d (stamp_was u d a) (stamp_was w d b);
    was_declared = i.was_declared;
    past_reading = λ u y e. (grind (arith, changed_or_before, committed_at, v.phase, i.past_reading));
    primary_first = i.primary_first;
    all_prewritten = λ u d y k e g. elim (changed_or_before v.phase s (Some (committed_at c)) u (Some (stamped_at d)) e) [ inl a ↦ cc | inr b ↦ i.all_prewritten u d y k b.0 g ];
    lock_prewritten = λ y u q e. i.lock_prewritten y u q (unlock_back y u q e).0;
    lock_data = λ y u q e. i.lock_data y u q (unlock_back y u q e).0;
    one_lock = λ y a b q r e f. i.one_lock y a b q r (unlock_back y a q e).0 (unlock_back y b r f).0;
    all_locked = λ u q y e f g.
        let b = unlock_back q u q f in
        set2_there v.lock x s None y u (λ j l.
        let m = mine in
        let z : v.primary s ≡ Some q = subst (λ w. v.primary w ≡ Some q) l e in
        let same : p ≡ q = cc in
        elim may [
          | inl a ↦ (let off : v.lock q s ≡ None = i.record_unlocked q c s (i.primary_stands s c q a z) in let on : v.lock q s ≡ Some q = subst (λ w. v.lock q w ≡ Some q) l b.0 in cc)
          | inr d ↦ b.1 (sym same ∙ sym d.1) l
        ])
        ∙ i.all_locked u q y e b.0 g;
    record_committed = λ y d u e. grind (arith, committed_at, write_back, set1, set1_here, complete_stays, v.phase, i.record_committed);
    record_data = λ y d u e. grind (arith, write_back, i.lock_data, v.stored, v.content, i.record_data);
    record_prewritten = λ y d u e. elim (write_back y d u e) [
      | inl a ↦ (λ j. v.prewritten (sym a.2 j) (a.0 j)) ∙ (i.lock_prewritten x s p locked).0
      | inr b ↦ i.record_prewritten y d u b.0
    ];
    record_unlocked = λ y d u e. grind (arith, write_back, set2_here, set2_none, i.record_unlocked);
    behind_lock = λ y u q d w e f. grind (arith, write_back, i.one_lock, i.behind_lock);
    apart = λ y a u b w e f n. grind (arith, write_back, i.behind_lock, v.write, i.apart);
    stands = λ u d y k e g. elim (complete_now u d e) [
      | inl a ↦ now_stands u d y (inl a.1) (subst (λ w. (v.write y w ≡ Some u) ⊎ ((q : Cell) × (v.lock y u ≡ Some q))) (sym a.1) (subst (λ w. (v.write y c ≡ Some w) ⊎ ((q : Cell) × (v.lock y w ≡ Some q))) (sym a.0) (held_on y k (subst (λ w. v.content w y ≡ Some k) a.0 g))))
      | inr b ↦ now_stands u d y (elim (same_number u s) [
        | inl q ↦ inl (let b' : v.phase s ≡ Some (committed_at d) = subst (λ w. v.phase w ≡ Some (committed_at d)) q b in elim may [ inl m ↦ same_commit d c (sym b' ∙ m) | inr m ↦ (let m' = m.0 in cc) ])
        | inr n ↦ inr n
      ]) (i.stands u d y k b g)
    ];
    primary_stands = λ u d q e g. grind (arith, set2_here, complete_now, write_on, i.primary_stands, v.write);
    read_begun = i.read_begun;
    tells = λ w r e. grind (arith, write_back, write_on, tells_on, no_read, i.tells);
    settled = λ w r u d k e f l g. elim (i.settled w r u d k e (stamp_was u d f) l g) [
      | inl a ↦ inl (write_on r.cell d u a)
      | inr b ↦ grind (arith, committed_at, set2_none, complete_now, has_primary, v.phase)
    ];
  }
