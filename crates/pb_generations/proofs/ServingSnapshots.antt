-- What a snapshot serves for: a table without locks, of which nothing is above its clock.
use Rattle.std.proofs.Common.{◌≡◌, ℕ, ◌<◌, ◌≤◌, inl, inr, refl, sym, ◌∙◌, ap, subst, arith, Bool, true, false, List, [], ◌∷◌, Some, None, is_some}
use Rattle.std.proofs.lemmas.Option.{none-some}
use Rattle.std.specs.FinMap as map
use Rattle.pb_generations.specs.Words.{cell_cmp, Cell, Content, ObserverOf, Entries, Marks, slot_at, slot_cmp, Sort, if_locked, commits, rolls_back, NoLock, data_at, data_of, last_timestamp, lock_at, write_at, StateOf, TransactionOf, Transactions, opening, TableStep, Answer, Step, IsLegal, JournalLeads, SoundHasData, StepsKeepSound, IsSoundTable, KeepsData, Entry}
use Rattle.pb_history.proofs.OpeningSound.{opening_sound}
use Rattle.pb_history.proofs.StepsKeepSound.{steps_keep}
use Rattle.pb_history.proofs.Updates.{placed_or_before as placed, left_after_clearing as cleared, none_if}
use Rattle.pb_history.proofs.ViewsAfter.{data_after_commit, data_after_back, data_after_put}
use Rattle.pb_generations.specs.Mirrored.{IsMirroredBy, IsUnlocked, QuietMirrorsItself, unmarked}
use Rattle.pb_generations.specs.Snapshots.{IsSnapshotOf, ServeAcknowledged, ShowsViewed}
use Rattle.pb_generations.proofs.Kept.{same_there}

-- ---- no data of a start above the clock

abbrev pub Bounded : StateOf → Type 0
Bounded state = (x : Cell) (s : ℕ) (k : Content) → data_at state.entries x s ≡ Some k → s ≤ state.clock

committed_stays : (old : StateOf) (x : Cell) (s d : ℕ) → Bounded old → Bounded (commits old x s d)
committed_stays old x s d bound y u k is = bound y u k (sym (same_there (data_after_commit old.entries x s d) y u) ∙ is)

back_stays : (old : StateOf) (x : Cell) (s : ℕ) → Bounded old → Bounded (rolls_back old x s)
back_stays old x s bound y u k is = bound y u k (cleared (data_at old.entries) x s y u k (sym (same_there (data_after_back old.entries x s) y u) ∙ is)).0

if_stays : (old : StateOf) (b : Bool) (x : Cell) (s d : ℕ) → Bounded old → Bounded (if_locked old b x s d)
if_stays old true x s d bound = committed_stays old x s d bound
if_stays old false x s d bound = bound

stays : (n new : StateOf) → new ≡ n → Bounded n → Bounded new
stays n new is bound = subst Bounded (sym is) bound

bounded : (old : StateOf) (seat : ℕ) (step : Step) (answer : Answer) (new : StateOf) → KeepsData old → Bounded old → TableStep old seat step answer new → Bounded new
bounded old seat (Step.Begin work) (Answer.At s) new keeps bound t = let is = t.taken in stays _ new is.new_is (λ y u k there. omega (arith, is.fresh, bound y u k there))
bounded old seat (Step.Read s x) (Answer.Locked start primary) new keeps bound t = stays _ new t.taken.new_is bound
bounded old seat (Step.Read s x) (Answer.Found start commit content) new keeps bound t = stays _ new t.taken.new_is bound
bounded old seat (Step.Read s x) Answer.Absent new keeps bound t = stays _ new t.taken.new_is bound
bounded old seat (Step.ReadAt s x u) (Answer.Locked start primary) new keeps bound t = stays _ new t.taken.new_is bound
bounded old seat (Step.ReadAt s x u) (Answer.Found start commit content) new keeps bound t = stays _ new t.taken.new_is bound
bounded old seat (Step.ReadAt s x u) Answer.Absent new keeps bound t = stays _ new t.taken.new_is bound
bounded old seat (Step.Declare s what) Answer.Done new keeps bound t = stays _ new t.taken.new_is bound
bounded old seat (Step.Prewrite s x) Answer.Done new keeps bound t =
    let is = t.taken in
    stays _ new is.new_is (λ y u k there. elim (placed (data_at old.entries) x s.0 is.content y u k (sym (same_there (data_after_put old.entries x s.0 is.content is.primary) y u) ∙ there)) [
      | inl here ↦ omega (arith, here.1, keeps.begun s.0 is.t is.own.there)
      | inr elsewhere ↦ bound y u k elsewhere.0
    ])
bounded old seat (Step.Prewrite s x) Answer.Conflict new keeps bound t = stays _ new t.taken.new_is bound
bounded old seat (Step.Stamp s) (Answer.At d) new keeps bound t = let is = t.taken in stays _ new is.new_is (λ y u k there. omega (arith, is.fresh, bound y u k there))
bounded old seat (Step.CommitPrimary s) Answer.Committed new keeps bound t = let is = t.taken in stays _ new is.new_is (committed_stays old is.primary s.0 is.c bound)
bounded old seat (Step.CommitPrimary s) Answer.Lost new keeps bound t = stays _ new t.taken.new_is bound
bounded old seat (Step.CommitSecondary s x) Answer.Done new keeps bound t = let is = t.taken in stays _ new is.new_is (if_stays old (is_some (lock_at old.entries x s.0)) x s.0 is.c bound)
bounded old seat (Step.Settle x) Answer.Absent new keeps bound t = stays _ new t.taken.new_is bound
bounded old seat (Step.Settle x) (Answer.Locked start primary) new keeps bound t = stays _ new t.taken.new_is bound
bounded old seat (Step.Settle x) Answer.RolledBack new keeps bound t = let is = t.taken in stays _ new is.new_is (back_stays old x is.start bound)
bounded old seat (Step.Clear x) Answer.Absent new keeps bound t = stays _ new t.taken.new_is bound
bounded old seat (Step.Clear x) Answer.Waits new keeps bound t = stays _ new t.taken.new_is bound
bounded old seat (Step.Clear x) (Answer.CommittedAt d) new keeps bound t = let is = t.taken in stays _ new is.new_is (committed_stays old x is.start d.0 bound)
bounded old seat (Step.Clear x) Answer.RolledBack new keeps bound t = let is = t.taken in stays _ new is.new_is (back_stays old x is.start bound)
bounded old seat (Step.NextMark after) (Answer.Marked x) new keeps bound t = stays _ new t.taken.new_is bound
bounded old seat (Step.NextMark after) Answer.NoMark new keeps bound t = stays _ new t.taken.new_is bound
bounded old seat (Step.Sweep x) Answer.NoMark new keeps bound t = stays _ new t.taken.new_is bound
bounded old seat (Step.Sweep x) Answer.StillBehind new keeps bound t = stays _ new t.taken.new_is bound
bounded old seat (Step.Sweep x) Answer.Done new keeps bound t = stays _ new t.taken.new_is bound
bounded old seat step answer new keeps bound t = absurd t.taken

-- nothing is above the clock as opened
opening_bounded : (observers : List ObserverOf) (seats clock : ℕ) → Bounded (opening observers seats clock)
opening_bounded observers seats clock x s k there = absurd (none-some k (sym (ap data_of (map.get-empty slot_cmp (slot_at x Sort.Data s))) ∙ there))

-- and a legal journal leads to a sound state of which that holds
led_bounded : StepsKeepSound → SoundHasData → (old new : StateOf) (js : List Entry) → IsSoundTable old → Bounded old → JournalLeads old js new → IsSoundTable new × Bounded new
led_bounded steps law old new [] sound bound leads = (subst IsSoundTable (sym leads) sound, subst Bounded (sym leads) bound)
led_bounded steps law old new (j ∷ js) sound bound leads =
    led_bounded steps law leads.0 new js (steps old j.seat j.step j.answer leads.0 sound leads.1) (bounded old j.seat j.step j.answer leads.0 (law old sound) bound leads.1) leads.2

-- ---- a legal journal leads to a table without anything above its clock

pub legal_bounded : SoundHasData → (observers : List ObserverOf) (seats clock : ℕ) (journal : List Entry) (whole : StateOf) → IsLegal observers seats clock journal whole → Bounded whole
legal_bounded law observers seats clock journal whole legal =
    (led_bounded steps_keep law (opening observers seats clock) whole journal (opening_sound observers seats clock legal.fits) (opening_bounded observers seats clock) legal.run).1

-- and no write record there has a later commit or start
pub record_by_clock : (whole : StateOf) → IsSoundTable whole → (x : Cell) (d s : ℕ) → write_at whole.entries x d ≡ Some s → (d ≤ whole.clock) × (s ≤ whole.clock)
record_by_clock whole sound x d s there =
    let b = sound.stamped s d (inr (sound.record_committed x d s there)) in
    (b.1, omega (arith, b.0, b.1))

-- a table without locks mirrors itself
pub mirrors_itself : QuietMirrorsItself → (whole : StateOf) → IsSoundTable whole → ((x : Cell) → NoLock whole.entries x) → whole.clock < last_timestamp → IsMirroredBy whole.clock whole whole.entries whole.transactions
mirrors_itself mirror whole sound unlocked room =
    let itself = mirror (unmarked whole) (but_marks whole map.empty sound) (record { unmarked = λ x. ap is_some (map.get-empty cell_cmp x); unlocked = unlocked }) room in
    record { since = itself.since; room = itself.room; entries_are = itself.entries_are; transactions_are = itself.transactions_are }
  where
    but_marks : (state : StateOf) (marks : Marks) → IsSoundTable state → IsSoundTable (record state { marks = marks })
    but_marks state marks sound = sound

-- ---- a snapshot serves

-- it shows all that may be viewed, of a table without anything above its clock
pub snapshot_shows : (old : StateOf) → ((x : Cell) (d s : ℕ) → write_at old.entries x d ≡ Some s → (d ≤ old.clock) × (s ≤ old.clock)) → Bounded old → (e : Entries) → IsSnapshotOf old e → ShowsViewed old e
snapshot_shows old records bound e is = record {
  viewed = is.viewed;
  by_then = λ x d s here. records x d s (is.within.records x d s here);
  stored_by_then = λ x s k here. bound x s k (is.within.stored x s k here);
  unlocked = is.unlocked;
}

-- and what shows that serves
module _ (whole : StateOf) (e : Entries) (ts : Transactions) (whole_lock : IsUnlocked whole) (whole_record : (x : Cell) (d : ℕ) → whole.clock < d → write_at whole.entries x d ≡ None)
    (bound : Bounded whole) (begun : (s : ℕ) (t : TransactionOf) → map.get whole.transactions s ≡ Some t → s ≤ whole.clock)
    (m : IsMirroredBy whole.clock whole whole.entries whole.transactions) (is : ShowsViewed whole e) (none : (s : ℕ) → whole.clock < s → map.get ts s ≡ None) where
  kept_record : (x : Cell) (d : ℕ) → whole.clock < d → write_at e x d ≡ None
  kept_record x d above = none_if (write_at e x d) (λ s there. omega (arith, above, (is.by_then x d s there).0))

  kept_data : (x : Cell) (s : ℕ) → whole.clock < s → data_at e x s ≡ None
  kept_data x s above = none_if (data_at e x s) (λ k there. omega (arith, above, is.stored_by_then x s k there))

  whole_data : (x : Cell) (s : ℕ) → whole.clock < s → data_at whole.entries x s ≡ None
  whole_data x s above = none_if (data_at whole.entries x s) (λ k there. omega (arith, above, bound x s k there))

  mirrors : IsMirroredBy whole.clock whole e ts
  mirrors = record {
    since = m.since;
    room = m.room;
    entries_are = record {
      versions = λ x. is.viewed x whole.clock (inl refl);
      either = m.entries_are.either;
      early = m.entries_are.early;
      kept_early = λ x d s low here. (is.by_then x d s here).1;
      records = λ x d above. kept_record x d above ∙ sym (whole_record x d above);
      starts = m.entries_are.starts;
      stored = λ x s above. kept_data x s above ∙ sym (whole_data x s above);
      locks = λ x s. is.unlocked x s ∙ sym (whole_lock x s);
      late = λ x s p there. absurd (none-some p (sym (whole_lock x s) ∙ there));
    };
    transactions_are = record {
      same = λ s above. none s above ∙ sym (none_if (map.get whole.transactions s) (λ t there. omega (arith, above, begun s t there)));
      phases = m.transactions_are.phases;
    };
  }

  pub shown_serves : IsMirroredBy whole.clock whole e ts × ServeAcknowledged whole.observers whole.clock whole.entries e
  shown_serves = (mirrors, λ x t acknowledged. inr (is.viewed x t (inr acknowledged)))
