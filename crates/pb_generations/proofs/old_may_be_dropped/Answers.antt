use Rattle.std.proofs.Common.{◌≡◌, ◌≢◌, ℕ, ◌<◌, ◌≤◌, inl, inr, refl, sym, ◌∙◌, ap, subst, arith, Bool, false, cond, Option, Some, None, nat_eq}
use Rattle.std.proofs.lemmas.Option.{none-some}
use Rattle.std.specs.FinMap as map
use Rattle.std.specs.Ordering.{nat_cmp, eq_by_cmp}
use Rattle.std.specs.Cmp.{nat_cmp_total, unsigned_tied}
use Rattle.pb_generations.specs.Words.{Cell, Revision, Entries, slot_at, Sort, IsVersion, NoVersion, data_at, data_of, lock_at, primary_of, start_of, write_at, StateOf, TransactionOf, Transactions, SoundHasData}
use Rattle.pb_history.proofs.Updates.{set2, set2_there, set2_none, left_after_clearing as cleared, at_or_apart as decide}
use Rattle.pb_history.proofs.ViewsAfter.{remove_same, remove_other}
use Rattle.pb_generations.specs.Mirrored.{IsMirroredBy, OldMayBeDropped, QuietMirrorsItself, QuietCarriesOver}
use Rattle.pb_generations.proofs.Kept.{same_there}
use Rattle.pb_generations.proofs.NewestVersions.{newest_or_none}
use Rattle.pb_generations.proofs.QuietTables.{no_lock_at}
use Rattle.pb_generations.proofs.old_may_be_dropped.Goals as goal

-- ---- a quiet table

itself : SoundHasData → QuietMirrorsItself
itself law state sound quiet room =
    let keeps = law state sound in
    let timely : (x : Cell) (d s : ℕ) → write_at state.entries x d ≡ Some s → (s < d) × (d ≤ state.clock) = λ x d s is. sound.stamped s d (inr (sound.record_committed x d s is)) in
    record {
      since = omega arith;
      room = room;
      entries_are = record {
        versions = λ x. record { there = λ v. (λ is. is, λ is. is); none = (λ is. is, λ is. is) };
        either = λ x. newest_or_none state.entries keeps.whole x state.clock;
        early = λ x d s low is. omega (arith, (timely x d s is).0, low);
        kept_early = λ x d s low is. omega (arith, (timely x d s is).0, low);
        records = λ x d above. refl;
        starts = λ x d s above is. absurd (omega (arith, above, (timely x d s is).1));
        stored = λ x s above. refl;
        locks = λ x s. refl;
        late = λ x s p is. absurd (none-some p (sym (no_lock_at state sound x quiet s) ∙ is));
      };
      transactions_are = record { same = λ s above. refl; phases = λ s t above is. absurd (omega (arith, above, keeps.begun s t is)) };
    }

-- ---- what goes

module _ (c : ℕ) (whole : StateOf) (e : Entries) (ts : Transactions) (m : IsMirroredBy c whole e ts) where
  same_removed : (u s : ℕ) (o : Option TransactionOf) → c < u → s ≤ c → cond (eq_by_cmp nat_cmp u s) None o ≡ o
  same_removed u s o above low = ap (λ (b : Bool). cond b None o) (unsigned_tied u s ∙ differ u s (omega (arith, above, low)))
    where
      differ : (u s : ℕ) → s < u → nat_eq u s ≡ false
      differ u s under = grind (arith, under)

  transaction : (s : ℕ) → s ≤ c → IsMirroredBy c whole e (map.remove ts s)
  transaction s low = record {
    since = m.since;
    room = m.room;
    entries_are = m.entries_are;
    transactions_are = record { same = λ u above. map.get-remove nat_cmp_total ts s u ∙ same_removed u s (map.get ts u) above low ∙ m.transactions_are.same u above; phases = m.transactions_are.phases };
  }

  -- entries of which the versions at c, and all later, are those of e
  serves : (f : Entries) → ((x : Cell) (v : Revision) → IsVersion e x c v → IsVersion f x c v) → ((x : Cell) (d s : ℕ) → write_at f x d ≡ Some s → write_at e x d ≡ Some s) → ((x : Cell) → NoVersion e x c → NoVersion f x c)
      → ((x : Cell) (d : ℕ) → c < d → write_at f x d ≡ write_at e x d) → ((x : Cell) (s : ℕ) → c < s → data_at f x s ≡ data_at e x s) → ((x : Cell) (s : ℕ) → lock_at f x s ≡ lock_at e x s)
      → ((x : Cell) (w v : Revision) → IsVersion whole.entries x c w → IsVersion f x c v → IsVersion e x c v) → IsMirroredBy c whole f ts
  serves f on fewer none later store lock back = record {
    since = m.since;
    room = m.room;
    entries_are = record {
      versions = λ x. record {
        there = λ v. (
          λ is. on x v (((m.entries_are.versions x).there v).0 is),
          λ is. elim (m.entries_are.either x) [
            | inl w ↦ ((m.entries_are.versions x).there v).1 (back x w.0 v w.1 is)
            | inr lacks ↦ absurd (none-some v.start.0 (sym ((m.entries_are.versions x).none.0 lacks v.commit.0 is.low) ∙ fewer x v.commit.0 v.start.0 is.written))
          ],
        );
        none = (
          λ is. none x ((m.entries_are.versions x).none.0 is),
          λ is. elim (m.entries_are.either x) [
            | inl w ↦ let kept = on x w.0 (((m.entries_are.versions x).there w.0).0 w.1) in absurd (none-some w.0.start.0 (sym (is w.0.commit.0 kept.low) ∙ kept.written))
            | inr lacks ↦ lacks
          ],
        );
      };
      either = m.entries_are.either;
      early = m.entries_are.early;
      kept_early = λ x d s low is. m.entries_are.kept_early x d s low (fewer x d s is);
      records = λ x d above. later x d above ∙ m.entries_are.records x d above;
      starts = m.entries_are.starts;
      stored = λ x s above. store x s above ∙ m.entries_are.stored x s above;
      locks = λ x s. lock x s ∙ m.entries_are.locks x s;
      late = m.entries_are.late;
    };
    transactions_are = m.transactions_are;
  }

  -- a write record below the version goes
  module _ (x : Cell) (w : Revision) (d : ℕ) (there : IsVersion whole.entries x c w) (under : d < w.commit.0) where
    abbrev less : Entries
    less = map.remove e (slot_at x Sort.Write d)

    kept : IsVersion e x c w
    kept = ((m.entries_are.versions x).there w).0 there

    written_less : write_at less ≡ set2 (write_at e) x d None
    written_less = remove_same start_of e x d Sort.Write

    stored_less : data_at less ≡ data_at e
    stored_less = remove_other data_of e x d Sort.Write Sort.Data (λ q. cc)

    locked_less : lock_at less ≡ lock_at e
    locked_less = remove_other primary_of e x d Sort.Write Sort.Lock (λ q. cc)

    top_stays : write_at less x w.commit.0 ≡ Some w.start.0
    top_stays = same_there written_less x w.commit.0 ∙ set2_there (write_at e) x d None x w.commit.0 (λ same is. omega (arith, under, is)) ∙ kept.written

    on_less : (y : Cell) (v : Revision) → IsVersion e y c v → IsVersion less y c v
    on_less y v is = record {
      low = is.low;
      written = same_there written_less y v.commit.0 ∙ set2_there (write_at e) x d None y v.commit.0 (λ same here. absurd (none-some w.start.0 (sym (is.newest w.commit.0 (omega (arith, here, under)) kept.low) ∙ ap (λ (z : Cell). write_at e z w.commit.0) same ∙ kept.written))) ∙ is.written;
      content = same_there stored_less y v.start.0 ∙ is.content;
      newest = λ k above low. same_there written_less y k ∙ set2_none (write_at e) x d y k (is.newest k above low);
    }

    fewer : (y : Cell) (k s : ℕ) → write_at less y k ≡ Some s → write_at e y k ≡ Some s
    fewer y k s is = (cleared (write_at e) x d y k s (sym (same_there written_less y k) ∙ is)).0

    back_less : (y : Cell) (a v : Revision) → IsVersion whole.entries y c a → IsVersion less y c v → IsVersion e y c v
    back_less y a v _ is = record {
      low = is.low;
      written = fewer y v.commit.0 v.start.0 is.written;
      content = sym (same_there stored_less y v.start.0) ∙ is.content;
      newest = λ k above low. elim (decide y k x d) [
        | inl here ↦ absurd (none-some w.start.0 (sym (is.newest w.commit.0 (omega (arith, above, here.1, under)) kept.low) ∙ ap (λ (z : Cell). write_at less z w.commit.0) here.0 ∙ top_stays))
        | inr apart ↦ sym (set2_there (write_at e) x d None y k apart) ∙ sym (same_there written_less y k) ∙ is.newest k above low
      ];
    }

    record_goes : IsMirroredBy c whole less ts
    record_goes = serves less on_less fewer
        (λ y is k low. same_there written_less y k ∙ set2_none (write_at e) x d y k (is k low))
        (λ y k above. same_there written_less y k ∙ set2_there (write_at e) x d None y k (λ same here. omega (arith, above, here, under, kept.low)))
        (λ y s above. same_there stored_less y s)
        (λ y s. same_there locked_less y s)
        back_less

  -- data by c that isn't the version's goes
  module _ (x : Cell) (s : ℕ) (low : s ≤ c) (other : (v : Revision) → IsVersion whole.entries x c v → v.start.0 ≢ s) where
    abbrev without : Entries
    without = map.remove e (slot_at x Sort.Data s)

    written_without : write_at without ≡ write_at e
    written_without = remove_other start_of e x s Sort.Data Sort.Write (λ q. cc)

    stored_without : data_at without ≡ set2 (data_at e) x s None
    stored_without = remove_same data_of e x s Sort.Data

    locked_without : lock_at without ≡ lock_at e
    locked_without = remove_other primary_of e x s Sort.Data Sort.Lock (λ q. cc)

    data_goes : IsMirroredBy c whole without ts
    data_goes = serves without
        (λ y v is. record {
          low = is.low;
          written = same_there written_without y v.commit.0 ∙ is.written;
          content = same_there stored_without y v.start.0 ∙ set2_there (data_at e) x s None y v.start.0 (λ same here. other v (subst (λ (z : Cell). IsVersion whole.entries z c v) same (((m.entries_are.versions y).there v).1 is)) here) ∙ is.content;
          newest = λ k above by_then. same_there written_without y k ∙ is.newest k above by_then;
        })
        (λ y k u is. sym (same_there written_without y k) ∙ is)
        (λ y is k by_then. same_there written_without y k ∙ is k by_then)
        (λ y k above. same_there written_without y k)
        (λ y u above. same_there stored_without y u ∙ set2_there (data_at e) x s None y u (λ same here. omega (arith, above, here, low)))
        (λ y u. same_there locked_without y u)
        (λ y a v _ is. record {
          low = is.low;
          written = sym (same_there written_without y v.commit.0) ∙ is.written;
          content = (cleared (data_at e) x s y v.start.0 v.content (sym (same_there stored_without y v.start.0) ∙ is.content)).0;
          newest = λ k above by_then. sym (same_there written_without y k) ∙ is.newest k above by_then;
        })

dropped : OldMayBeDropped
dropped c whole e ts m = record {
  transaction = transaction c whole e ts m;
  record_of = λ x v d there under. record_goes c whole e ts m x v d there under;
  data_of = λ x s low other. data_goes c whole e ts m x s low other;
}

quiet_over : QuietCarriesOver
quiet_over c whole e ts m = (
  λ is. record { unmarked = is.unmarked; unlocked = λ x u fits. sym (m.entries_are.locks x u) ∙ is.unlocked x u fits },
  λ is. record { unmarked = is.unmarked; unlocked = λ x u fits. m.entries_are.locks x u ∙ is.unlocked x u fits },
)

pub returns-clause-itself : goal.returns-clause-itself
returns-clause-itself c = itself c.sound_has_data.ensures

pub returns-clause-old : goal.returns-clause-old
returns-clause-old c = dropped

pub returns-clause-quiet : goal.returns-clause-quiet
returns-clause-quiet c = quiet_over
