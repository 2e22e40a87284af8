-- A table without some of its observers is mirrored by itself where the whole one is, and where no lock stands a snapshot serves for it.
use Rattle.std.proofs.Common.{◌≡◌, ℕ, ◌<◌, ◌≤◌, Bool, true, false, List, length, Some, None, refl, sym, ap, subst, ◌∙◌, arith, inl, inr, ◌⊎◌}
use Rattle.std.proofs.lemmas.Option.{none-some}
use Rattle.std.specs.FinMap as map
use Rattle.pb_generations.specs.Words.{Cell, Content, Revision, ObserverOf, Entries, Marks, Sort, IsVersion, NoLock, NoVersion, data_at, data_of, lock_at, primary_of, start_of, write_at, StateOf, TransactionOf, Transactions, SoundHasData, IsSoundTable}
use Rattle.pb_history.proofs.JournalsAreSound.{legal_sound}
use Rattle.pb_history.proofs.Updates.{none_if}
use Rattle.pb_generations.specs.Mirrored.{IsMirroredBy, SameEntries, QuietMirrorsItself}
use Rattle.pb_generations.specs.Snapshots.{ServeAcknowledged, ShowsViewed}
use Rattle.pb_generations.specs.LeftOut.{OthersMayBeLeftOut, MirrorsWithoutOthers, SnapshotsServeWithoutOthers, is_known_cell, known_entries, without_others}
use Rattle.pb_generations.proofs.KnownEntries.{known_same, unknown_none}
use Rattle.pb_generations.proofs.QuietTables.{no_lock_ever, no_record_above}
use Rattle.pb_generations.proofs.ServingSnapshots.{Bounded, legal_bounded, mirrors_itself, shown_serves}

-- ---- the beginning

pub others_may_be_left_out : SoundHasData → OthersMayBeLeftOut
others_may_be_left_out law front gone whole marks sound unlocked os = record {
  observers = os;
  lean_is = refl;
  primaries = λ x s p known there. absurd (none-some p (sym (no_lock_ever whole sound x (unlocked x) s) ∙ there));
  declared = λ s t above there. absurd (omega (arith, above, (law whole sound).begun s t there));
  late = λ x s p there. absurd (none-some p (sym (no_lock_ever whole sound x (unlocked x) s) ∙ there));
}

-- ---- it mirrors itself

module _ (n : ℕ) (e : Entries) where
  abbrev f : Entries
  f = known_entries n e

  -- what stands there stands in the whole table
  pub lock_of : (x : Cell) (s : ℕ) (p : Cell) → lock_at f x s ≡ Some p → lock_at e x s ≡ Some p
  lock_of x s p there = by (is_known_cell n x) refl
    where
      by : (b : Bool) → is_known_cell n x ≡ b → lock_at e x s ≡ Some p
      by true known = sym (ap primary_of (known_same n e x Sort.Lock s known)) ∙ there
      by false not = absurd (none-some p (sym (ap primary_of (unknown_none n e x Sort.Lock s not)) ∙ there))

  pub record_of : (x : Cell) (c s : ℕ) → write_at f x c ≡ Some s → write_at e x c ≡ Some s
  record_of x c s there = by (is_known_cell n x) refl
    where
      by : (b : Bool) → is_known_cell n x ≡ b → write_at e x c ≡ Some s
      by true known = sym (ap start_of (known_same n e x Sort.Write c known)) ∙ there
      by false not = absurd (none-some s (sym (ap start_of (unknown_none n e x Sort.Write c not)) ∙ there))

  pub stored_of : (x : Cell) (s : ℕ) (k : Content) → data_at f x s ≡ Some k → data_at e x s ≡ Some k
  stored_of x s k there = by (is_known_cell n x) refl
    where
      by : (b : Bool) → is_known_cell n x ≡ b → data_at e x s ≡ Some k
      by true known = sym (ap data_of (known_same n e x Sort.Data s known)) ∙ there
      by false not = absurd (none-some k (sym (ap data_of (unknown_none n e x Sort.Data s not)) ∙ there))

  module _ (x : Cell) (known : is_known_cell n x ≡ true) where
    pub record_at : (d : ℕ) → write_at f x d ≡ write_at e x d
    record_at d = ap start_of (known_same n e x Sort.Write d known)

    stored_at : (s : ℕ) → data_at f x s ≡ data_at e x s
    stored_at s = ap data_of (known_same n e x Sort.Data s known)

    pub version_on : (c : ℕ) (v : Revision) → IsVersion e x c v → IsVersion f x c v
    version_on c v is = record { low = is.low; written = record_at v.commit.0 ∙ is.written; content = stored_at v.start.0 ∙ is.content; newest = λ d above low. record_at d ∙ is.newest d above low }

    pub version_back : (c : ℕ) (v : Revision) → IsVersion f x c v → IsVersion e x c v
    version_back c v is = record { low = is.low; written = sym (record_at v.commit.0) ∙ is.written; content = sym (stored_at v.start.0) ∙ is.content; newest = λ d above low. sym (record_at d) ∙ is.newest d above low }

  -- where each cell has a version at c or none, it has so there
  version_or_none : (c : ℕ) (x : Cell) → ((v : Revision) × IsVersion e x c v) ⊎ NoVersion e x c → ((v : Revision) × IsVersion f x c v) ⊎ NoVersion f x c
  version_or_none c x either = by (is_known_cell n x) refl either
    where
      by : (b : Bool) → is_known_cell n x ≡ b → ((v : Revision) × IsVersion e x c v) ⊎ NoVersion e x c → ((v : Revision) × IsVersion f x c v) ⊎ NoVersion f x c
      by true known (inl v) = inl (v.0, version_on x known c v.0 v.1)
      by true known (inr none) = inr (λ d low. record_at x known d ∙ none d low)
      by false not either = inr (λ d low. ap start_of (unknown_none n e x Sort.Write d not))

  mirrors_entries : (c : ℕ) → SameEntries c e e → SameEntries c f f
  mirrors_entries c m = record {
    versions = λ x. record { there = λ v. (λ is. is, λ is. is); none = (λ is. is, λ is. is) };
    either = λ x. version_or_none c x (m.either x);
    early = λ x d s low is. m.early x d s low (record_of x d s is);
    kept_early = λ x d s low is. m.early x d s low (record_of x d s is);
    records = λ x d above. refl;
    starts = λ x d s above is. m.starts x d s above (record_of x d s is);
    stored = λ x s above. refl;
    locks = λ x s. refl;
    late = λ x s p is. m.late x s p (lock_of x s p is);
  }

module _ (front : List ObserverOf) (whole : StateOf) (marks : Marks) where
  abbrev lean : StateOf
  lean = without_others front whole marks

  mirrors_lean : (c : ℕ) → IsMirroredBy c whole whole.entries whole.transactions → IsMirroredBy c lean lean.entries lean.transactions
  mirrors_lean c m = record {
    since = m.since;
    room = m.room;
    entries_are = mirrors_entries (length front) whole.entries c m.entries_are;
    transactions_are = record { same = λ s above. refl; phases = m.transactions_are.phases };
  }

pub mirrors_without_others : MirrorsWithoutOthers
mirrors_without_others c gone whole lean lacks m =
    subst (λ (z : StateOf). IsMirroredBy c z z.entries z.transactions) (sym lacks.lean_is) (mirrors_lean lean.observers whole lean.marks c m)

-- ---- what shows it serves

module _ (front : List ObserverOf) (whole : StateOf) (marks : Marks) (sound : IsSoundTable whole) (bound : Bounded whole) (unlocked : (x : Cell) → NoLock whole.entries x)
    (begun : (s : ℕ) (t : TransactionOf) → map.get whole.transactions s ≡ Some t → s ≤ whole.clock) (m : IsMirroredBy whole.clock whole whole.entries whole.transactions) where
  abbrev left : StateOf
  left = without_others front whole marks

  abbrev n : ℕ
  n = length front

  no_lock_left : (x : Cell) (s : ℕ) → lock_at left.entries x s ≡ None
  no_lock_left x s = none_if (lock_at left.entries x s) (λ p there. none-some p (sym (no_lock_ever whole sound x (unlocked x) s) ∙ lock_of n whole.entries x s p there))

  no_record_left : (x : Cell) (d : ℕ) → whole.clock < d → write_at left.entries x d ≡ None
  no_record_left x d above = none_if (write_at left.entries x d) (λ s there. none-some s (sym (no_record_above whole sound x d above) ∙ record_of n whole.entries x d s there))

  serves_left : (e : Entries) (ts : Transactions) → ShowsViewed left e → ((s : ℕ) → left.clock < s → map.get ts s ≡ None) → IsMirroredBy left.clock left e ts × ServeAcknowledged front left.clock left.entries e
  serves_left e ts is none = shown_serves left e ts no_lock_left no_record_left (λ x s k there. bound x s k (stored_of n whole.entries x s k there)) begun (mirrors_lean front whole marks whole.clock m) is none

pub shown_serves_without : SoundHasData → QuietMirrorsItself → SnapshotsServeWithoutOthers
shown_serves_without law mirror observers gone seats clock journal whole lean legal unlocked room lacks =
    let sound = legal_sound observers seats clock journal whole legal in
    let bound = legal_bounded law observers seats clock journal whole legal in
    subst (λ (z : StateOf). (e : Entries) (ts : Transactions) → ShowsViewed z e → ((s : ℕ) → z.clock < s → map.get ts s ≡ None) → IsMirroredBy z.clock z e ts × ServeAcknowledged z.observers z.clock z.entries e) (sym lacks.lean_is)
    (serves_left lean.observers whole lean.marks sound bound unlocked (law whole sound).begun (mirrors_itself mirror whole sound unlocked room))
