-- The table stays sound where a transaction gets a phase without a commit, where it declares, reads or is stamped.
use Rattle.std.proofs.Common.{◌≡◌, ◌≢◌, ℕ, ◌+◌, ◌<◌, ◌≤◌, ◌^◌, true, ◌⊎◌, [], ◌∷◌, ◌++◌, Option, Some, None, sym, ap, ◌∙◌, subst, inl, inr, arith}
use Rattle.pb_history.specs.Words.{Cell, Content, Ts, Phase, RecordedRead, Answer, read_up_to}
use Rattle.pb_history.specs.History.{Has}
use Rattle.pb_history.specs.TableView.{TableView}
use Rattle.pb_history.specs.Sound.{HasStamp, LacksPrimary, ReadTells, IsSoundView}
use Rattle.pb_history.proofs.Agreement.{read_of}
use Rattle.pb_history.proofs.Updates.{set1, changed_or_before, set1_there, none_if, has_more}
use Rattle.pb_base.proofs.Logic.{same_some as same_phase}

abbrev pub stamped_at : ℕ → Phase
stamped_at c = Phase.Stamped (record { 0 = c })

abbrev pub committed_at : ℕ → Phase
committed_at c = Phase.Committed (record { 0 = c })

one_commit : (c d : Ts) → Some (Phase.Committed c) ≡ Some (Phase.Committed d) → c ≡ d
one_commit c d e = cc

one_stamp : (c d : Ts) → Some (Phase.Stamped c) ≡ Some (Phase.Stamped d) → c ≡ d
one_stamp c d e = cc

-- a phase has one commit
pub same_commit : (c d : ℕ) → Some (committed_at c) ≡ Some (committed_at d) → c ≡ d
same_commit c d e = ap (λ (t : Ts). t.0) (one_commit (record { 0 = c }) (record { 0 = d }) e)

-- a phase without a commit timestamp: Reading, Declared or Failed
abbrev pub IsPlain : Phase → Type 0
IsPlain h = (c : ℕ) → (h ≢ stamped_at c) × (h ≢ committed_at c)

-- one transaction in another phase, and the clock perhaps later
abbrev pub with_phase : TableView → ℕ → Phase → ℕ → TableView
with_phase v s h k = record v { clock = k; phase = set1 v.phase s (Some h) }

module _ (v : TableView) (i : IsSoundView v) (s : ℕ) (h : Phase) (plain : IsPlain h) (open_still : (c : ℕ) → v.phase s ≢ Some (committed_at c)) (k : ℕ) (low : v.clock ≤ k) (mine : s ≤ k) (small : k < 2 ^ 64) (ready : (x : Cell) → v.prewritten s x ≡ true → h ≢ Phase.Reading) where
  stamp_back : (u c : ℕ) → HasStamp (with_phase v s h k) u c → HasStamp v u c
  stamp_back u c (inl e) = elim (changed_or_before v.phase s (Some h) u (Some (stamped_at c)) e) [ inl p ↦ absurd ((plain c).0 (same_phase _ _ p.1)) | inr q ↦ inl q.0 ]
  stamp_back u c (inr e) = elim (changed_or_before v.phase s (Some h) u (Some (committed_at c)) e) [ inl p ↦ absurd ((plain c).1 (same_phase _ _ p.1)) | inr q ↦ inr q.0 ]

  complete_back : (u c : ℕ) → (with_phase v s h k).phase u ≡ Some (committed_at c) → v.phase u ≡ Some (committed_at c)
  complete_back u c e = elim (changed_or_before v.phase s (Some h) u (Some (committed_at c)) e) [ inl p ↦ absurd ((plain c).1 (same_phase _ _ p.1)) | inr q ↦ q.0 ]

  stamped_back : (u c : ℕ) → (with_phase v s h k).phase u ≡ Some (stamped_at c) → v.phase u ≡ Some (stamped_at c)
  stamped_back u c e = elim (changed_or_before v.phase s (Some h) u (Some (stamped_at c)) e) [ inl p ↦ absurd ((plain c).0 (same_phase _ _ p.1)) | inr q ↦ q.0 ]

  complete_on : (u c : ℕ) → v.phase u ≡ Some (committed_at c) → (with_phase v s h k).phase u ≡ Some (committed_at c)
  complete_on u c e = set1_there v.phase s (Some h) u (λ p. open_still c (subst (λ w. v.phase w ≡ Some (committed_at c)) p e)) ∙ e

  pub phase_kept : IsSoundView (with_phase v s h k)
  phase_kept = record {
    small = small;
    begun = λ u g e. elim (changed_or_before v.phase s (Some h) u (Some g) e) [ inl p ↦ subst (λ w. w ≤ k) (sym p.0) mine | inr q ↦ omega (arith, i.begun u g q.0) ];
    stamped = λ u c e. let p = i.stamped u c (stamp_back u c e) in (p.0, omega arith);
    one_stamp = λ u w c a b. i.one_stamp u w c (stamp_back u c a) (stamp_back w c b);
    was_declared = i.was_declared;
    past_reading = λ u x e. (grind (arith, changed_or_before, same_phase, v.phase, v.prewritten, i.past_reading));
    primary_first = i.primary_first;
    all_prewritten = λ u c x k' e. i.all_prewritten u c x k' (stamped_back u c e);
    lock_prewritten = i.lock_prewritten;
    lock_data = i.lock_data;
    one_lock = i.one_lock;
    all_locked = i.all_locked;
    record_committed = λ x c u e. complete_on u c (i.record_committed x c u e);
    record_data = i.record_data;
    record_prewritten = i.record_prewritten;
    record_unlocked = i.record_unlocked;
    behind_lock = i.behind_lock;
    apart = i.apart;
    stands = λ u c x k' e. i.stands u c x k' (complete_back u c e);
    primary_stands = λ u c p e. i.primary_stands u c p (complete_back u c e);
    read_begun = λ u r e. let q = i.read_begun u r e in omega arith;
    tells = i.tells;
    settled = λ u r w c k' e f l g. elim (i.settled u r w c k' e (stamp_back w c f) l g) [ inl a ↦ inl a | inr b ↦ inr (λ z. b.0 (complete_back w c z), b.1) ];
  }

-- one recorded read more
abbrev pub has_read : TableView → ℕ → RecordedRead → TableView
has_read v s r = record v { reads = set1 v.reads s (v.reads s ++ r ∷ []) }

-- a read is recorded: it returned what stands, and no lock at most the timestamp read at was seen
module _ (v : TableView) (i : IsSoundView v) (s : ℕ) (x : Cell) (at : Option Ts) (answer : Answer) (begun : read_up_to s at ≤ v.clock) (unlocked : (u : ℕ) → u ≤ read_up_to s at → v.lock x u ≡ None) (tells : ReadTells v (read_up_to s at) x answer) where
  read_back : (u : ℕ) (r : RecordedRead) → Has ((has_read v s (read_of x at answer)).reads u) r → ((u ≡ s) × (read_of x at answer ≡ r)) ⊎ Has (v.reads u) r
  read_back u r e = grind (arith, changed_or_before, read_of, has_more, v.reads)

  lacks_primary : (u c : ℕ) (k : Content) → v.phase u ≡ Some (stamped_at c) → c ≤ read_up_to s at → v.content u x ≡ Some k → LacksPrimary v u
  lacks_primary u c k e l f p g =
      let lower : u ≤ read_up_to s at = (let q = i.stamped u c (inl e) in omega arith) in
      grind (arith, none_if, v.lock, v.primary, i.lock_prewritten, i.all_locked, i.all_prewritten)

  seen : (u c : ℕ) (k : Content) → HasStamp v u c → c ≤ read_up_to s at → v.content u x ≡ Some k → (v.write x c ≡ Some u) ⊎ ((v.phase u ≢ Some (committed_at c)) × LacksPrimary v u)
  seen u c k (inl e) l f = inr (λ g. cc, lacks_primary u c k e l f)
  seen u c k (inr e) l f = elim (i.stands u c x k e f) [
    | inl w ↦ inl w
    | inr p ↦ (let lower : u ≤ read_up_to s at = (let q = i.stamped u c (inr e) in omega arith) in let off : v.lock x u ≡ None = unlocked u lower in let on : v.lock x u ≡ Some p.0 = p.1 in cc)
  ]

  pub read_kept : IsSoundView (has_read v s (read_of x at answer))
  read_kept = record {
    small = i.small;
    begun = i.begun;
    stamped = i.stamped;
    one_stamp = i.one_stamp;
    was_declared = i.was_declared;
    past_reading = i.past_reading;
    primary_first = i.primary_first;
    all_prewritten = i.all_prewritten;
    lock_prewritten = i.lock_prewritten;
    lock_data = i.lock_data;
    one_lock = i.one_lock;
    all_locked = i.all_locked;
    record_committed = i.record_committed;
    record_data = i.record_data;
    record_prewritten = i.record_prewritten;
    record_unlocked = i.record_unlocked;
    behind_lock = i.behind_lock;
    apart = i.apart;
    stands = i.stands;
    primary_stands = i.primary_stands;
    read_begun = λ u r e. elim (read_back u r e) [ inl p ↦ subst (λ (z : RecordedRead). read_up_to u z.at ≤ v.clock) p.1 (subst (λ w. read_up_to w at ≤ v.clock) (sym p.0) begun) | inr q ↦ i.read_begun u r q ];
    tells = λ u r e. elim (read_back u r e) [ inl p ↦ subst (λ (z : RecordedRead). ReadTells v (read_up_to u z.at) z.cell z.answer) p.1 (subst (λ w. ReadTells v (read_up_to w at) x answer) (sym p.0) tells) | inr q ↦ i.tells u r q ];
    settled = λ u r w c k e f l g. grind (arith, read_back, seen, v.content, v.write, v.phase, i.settled);
  }

-- what a transaction writes, and its primary
abbrev pub with_declared : TableView → ℕ → (Cell → Option Content) → Option Cell → TableView
with_declared v s f p = record v { content = set1 v.content s f; primary = set1 v.primary s p }

-- what a transaction declares, before its stamp and its first prewrite
module _ (v : TableView) (i : IsSoundView v) (s : ℕ) (f : Cell → Option Content) (p : Option Cell) (early : (x : Cell) → v.prewritten s x ≢ true) (unstamped : (c : ℕ) → HasStamp v s c → ⊥) where
  other_pre : (u : ℕ) (x : Cell) → v.prewritten u x ≡ true → u ≢ s
  other_pre u x e q = early x (subst (λ w. v.prewritten w x ≡ true) q e)

  other_stamp : (u c : ℕ) → HasStamp v u c → u ≢ s
  other_stamp u c e q = unstamped c (subst (λ w. HasStamp v w c) q e)

  content_on : (u : ℕ) (x : Cell) → u ≢ s → (with_declared v s f p).content u x ≡ v.content u x
  content_on u x n = ap (λ (g : Cell → Option Content). g x) (set1_there v.content s f u n)

  primary_on : (u : ℕ) → u ≢ s → (with_declared v s f p).primary u ≡ v.primary u
  primary_on u n = set1_there v.primary s p u n

  pub declared_kept : IsSoundView (with_declared v s f p)
  declared_kept = record {
    small = i.small;
    begun = i.begun;
    stamped = i.stamped;
    one_stamp = i.one_stamp;
    was_declared = λ u x e. let k = i.was_declared u x e in (k.0, content_on u x (other_pre u x e) ∙ k.1);
    past_reading = i.past_reading;
    primary_first = λ u x q e g. i.primary_first u x q e (sym (primary_on u (other_pre u x e)) ∙ g);
    all_prewritten = λ u c x k e g. i.all_prewritten u c x k e (sym (content_on u x (other_stamp u c (inl e))) ∙ g);
    lock_prewritten = λ x u q e. let k = i.lock_prewritten x u q e in (k.0, primary_on u (other_pre u x k.0) ∙ k.1);
    lock_data = λ x u q e. i.lock_data x u q e ∙ sym (content_on u x (other_pre u x (i.lock_prewritten x u q e).0));
    one_lock = i.one_lock;
    all_locked = λ u q x e g h. i.all_locked u q x (sym (primary_on u (other_pre u x h)) ∙ e) g h;
    record_committed = i.record_committed;
    record_data = λ x c u e. i.record_data x c u e ∙ sym (content_on u x (other_pre u x (i.record_prewritten x c u e)));
    record_prewritten = i.record_prewritten;
    record_unlocked = i.record_unlocked;
    behind_lock = i.behind_lock;
    apart = i.apart;
    stands = λ u c x k e g. i.stands u c x k e (sym (content_on u x (other_stamp u c (inr e))) ∙ g);
    primary_stands = λ u c q e g. i.primary_stands u c q e (sym (primary_on u (other_stamp u c (inr e))) ∙ g);
    read_begun = i.read_begun;
    tells = i.tells;
    settled = λ u r w c k e g l h. elim (i.settled u r w c k e g l (sym (content_on w r.cell (other_stamp w c g)) ∙ h)) [
      | inl a ↦ inl a
      | inr b ↦ inr (b.0, λ q z. b.1 q (sym (primary_on w (other_stamp w c g)) ∙ z))
    ];
  }

-- a fresh commit timestamp, which is the clock from then on
abbrev pub with_stamp : TableView → ℕ → ℕ → TableView
with_stamp v s c = record v { clock = c; phase = set1 v.phase s (Some (stamped_at c)) }

module _ (v : TableView) (i : IsSoundView v) (s c : ℕ) (fresh : c ≡ v.clock + 1) (small : c < 2 ^ 64) (was : v.phase s ≡ Some Phase.Declared) (ready : (x : Cell) (k : Content) → v.content s x ≡ Some k → v.prewritten s x ≡ true) where
  stamps_back : (u d : ℕ) → HasStamp (with_stamp v s c) u d → ((u ≡ s) × (d ≡ c)) ⊎ HasStamp v u d
  stamps_back u d w = grind arith

  own : s ≤ v.clock
  own = i.begun s Phase.Declared was

  not_own : (u d : ℕ) → HasStamp v u d → d ≢ c
  not_own u d e q = let p = i.stamped u d e in absurd (omega arith)

  complete_was : (u d : ℕ) → (with_stamp v s c).phase u ≡ Some (committed_at d) → v.phase u ≡ Some (committed_at d)
  complete_was u d e = elim (changed_or_before v.phase s (Some (stamped_at c)) u (Some (committed_at d)) e) [ inl p ↦ cc | inr q ↦ q.0 ]

  pub stamp_kept : IsSoundView (with_stamp v s c)
  stamp_kept = record {
    small = small;
    begun = λ u g e. elim (changed_or_before v.phase s (Some (stamped_at c)) u (Some g) e) [ inl p ↦ (let o = own in let q = p.0 in omega arith) | inr q ↦ (let o = i.begun u g q.0 in omega arith) ];
    stamped = λ u d e. elim (stamps_back u d e) [ inl p ↦ (let o = own in let a = p.0 in let b = p.1 in (omega arith, omega arith)) | inr q ↦ (let o = i.stamped u d q in (o.0, omega arith)) ];
    one_stamp = λ u w d a b. elim (stamps_back u d a) [
      | inl p ↦ elim (stamps_back w d b) [ inl q ↦ p.0 ∙ sym q.0 | inr q ↦ absurd (not_own w d q p.1) ]
      | inr p ↦ elim (stamps_back w d b) [ inl q ↦ absurd (not_own u d p q.1) | inr q ↦ i.one_stamp u w d p q ]
    ];
    was_declared = i.was_declared;
    past_reading = λ u x e. (grind (arith, changed_or_before, i.past_reading));
    primary_first = i.primary_first;
    all_prewritten = λ u d x k e g. grind (arith, changed_or_before, v.prewritten, v.content, i.all_prewritten);
    lock_prewritten = i.lock_prewritten;
    lock_data = i.lock_data;
    one_lock = i.one_lock;
    all_locked = i.all_locked;
    record_committed = grind arith;
    record_data = i.record_data;
    record_prewritten = i.record_prewritten;
    record_unlocked = i.record_unlocked;
    behind_lock = i.behind_lock;
    apart = i.apart;
    stands = λ u d x k e. i.stands u d x k (complete_was u d e);
    primary_stands = λ u d p e. i.primary_stands u d p (complete_was u d e);
    read_begun = λ u r e. let q = i.read_begun u r e in omega arith;
    tells = i.tells;
    settled = λ u r w d k e f l g. grind (arith, stamps_back, complete_was, i.read_begun, i.settled);
  }
