-- Each step of the table keeps it sound.
use Rattle.std.proofs.Common.{◌≡◌, ◌≢◌, ℕ, ◌<◌, ◌≤◌, ◌^◌, Bool, true, false, ◌+◌, ◌⊎◌, List, [], ◌∷◌, ◌++◌, Option, Some, None, refl, sym, ap, ◌∙◌, subst, inl, inr, arith, ◌||◌, option_map, is_some, ◌==◌}
use Rattle.std.proofs.lemmas.Bool.{eq-eqb}
use Rattle.std.specs.List.{list_all}
use Rattle.std.specs.Ordering.{eq_by_cmp}
use Rattle.std.specs.FinMap as map
use Rattle.std.proofs.lemmas.List.Folds.{list_any-append}
use Rattle.pb_history.specs.Words.{Cell, Content, Ts, cell_cmp, Writes, content_in, primary_in, Work, Step, Answer, Phase, StateOf, TransactionOf, new_transaction, with_transaction, cells_of, is_in, read_up_to, lock_at, NoLockUpTo, is_out, Begins, ReadsFound, ReadsAbsent, with_read, Prewrites, is_before_primary, Stamps, commits, rolls_back, CommitsPrimary, CommitsSecondary, if_locked, Settles, ClearsCommitted, ClearsBack, StepCase, TableStep}
use Rattle.pb_history.specs.TableView.{TableView, declared_by, prewritten_by, reads_recorded, view_of}
use Rattle.pb_history.specs.Sound.{HasStamp, ReadTells, IsSoundView, IsSoundTable}
use Rattle.pb_history.proofs.Updates.{set1, set1_here, set1_same, none_if, same_cell}
use Rattle.pb_history.proofs.Agreement.{read_of}
use Rattle.pb_history.proofs.PhaseTests.{reading_is, declared_is}
use Rattle.pb_history.proofs.PhasesKeepSound.{IsPlain, with_phase, phase_kept, has_read, read_kept, with_declared, declared_kept, with_stamp, stamp_kept, stamped_at, committed_at}
use Rattle.pb_history.proofs.LocksKeepSound.{with_prewrite, prewrite_kept, without_lock, rolled_back_kept, with_record, record_kept}
use Rattle.pb_history.proofs.ViewsAfter.{field_after, field_same, lock_after_commit, data_after_commit, write_after_commit, lock_after_back, data_after_back, write_after_back, lock_after_put, data_after_put, write_after_put}
use Rattle.pb_base.proofs.Logic.{and_true as both_true, none_is, or_false}

-- ---- what the view has of a transaction

abbrev pub phase_by : Option TransactionOf → Option Phase
phase_by o = option_map (λ t. t.phase) o

abbrev content_by : Option TransactionOf → Cell → Option Content
content_by o = content_in (declared_by o)

abbrev pub primary_by : Option TransactionOf → Option Cell
primary_by o = primary_in (declared_by o)

abbrev cells_by : Option TransactionOf → Cell → Bool
cells_by o = is_in (prewritten_by o)

-- ---- phases without a commit

plain_reading : IsPlain Phase.Reading
plain_reading c = (λ e. cc, λ e. cc)

plain_declared : IsPlain Phase.Declared
plain_declared c = (λ e. cc, λ e. cc)

plain_failed : IsPlain Phase.Failed
plain_failed c = (λ e. cc, λ e. cc)

-- ---- options, tests and lists

pub some_is : {A : Type 0} (o : Option A) → is_some o ≡ true → (w : A) × (o ≡ Some w)
some_is o h = grind arith

-- the prewritten cells with one more
one_more : (xs : List Cell) (x y : Cell) → is_in (xs ++ x ∷ []) y ≡ (is_in xs y || same_cell x y)
unfolding same_cell
one_more xs x y = list_any-append (λ z. eq_by_cmp cell_cmp z y) xs (x ∷ []) ∙ ap (λ b. is_in xs y || b) (or_false (eq_by_cmp cell_cmp x y))

one_more_here : (xs : List Cell) (x : Cell) → ◌≡◌ {A = Cell → Bool} (is_in (xs ++ x ∷ [])) (λ y. is_in xs y || same_cell x y)
one_more_here xs x i y = one_more xs x y i

content_first : (w : Cell × Content) (ws : Writes) (x : Cell) (k : Content) (P : Type 0) → content_in (w ∷ ws) x ≡ Some k → (x ≡ w.0 → P) → (content_in ws x ≡ Some k → P) → P
content_first w ws x k P e here there = grind arith

-- where all are prewritten, each is
each_in : (ws : Writes) (xs : List Cell) (x : Cell) (k : Content) → list_all (λ w. is_in xs w.0) ws ≡ true → content_in ws x ≡ Some k → is_in xs x ≡ true
each_in [] xs x k all e = cc
each_in (w ∷ ws) xs x k all e =
    let b = both_true (is_in xs w.0) (list_all (λ v. is_in xs v.0) ws) all in
    content_first w ws x k (is_in xs x ≡ true) e (λ q. ap (is_in xs) q ∙ b.0) (λ h. each_in ws xs x k b.1 h)

-- ---- numbers and the order of prewriting

is_below : (c s : ℕ) → (s ≤ c → ⊥) → c < s
is_below c s n = grind arith

newest_at_most : (c d : ℕ) → (d < c → ⊥) → c ≤ d
newest_at_most c d n = grind arith

-- below the last timestamp there is one more
not_last : (clock : ℕ) → (clock == 18446744073709551615) ≡ false → clock ≢ 18446744073709551615
not_last clock left is = let z : (clock == 18446744073709551615) ≡ true = eq-eqb clock 18446744073709551615 is in cc

-- a cell that isn't too early is the primary, or comes when that is prewritten
primary_or_after : (x : Cell) (prewritten : List Cell) (p : Cell) (writes : Writes) → primary_in writes ≡ Some p → is_before_primary (primary_in writes) prewritten x ≡ false → (x ≡ p) ⊎ (is_in prewritten p ≡ true)
primary_or_after x prewritten p writes is order = grind arith

module _ (old : StateOf) (i : IsSoundTable old) (seat : ℕ) (new : StateOf) where
  to : (w : TableView) → view_of new ≡ w → IsSoundView w → IsSoundTable new
  to w e j = subst IsSoundView (sym e) j

  -- what stands in the table is of timestamps given out
  lock_small : (x : Cell) (s : ℕ) (p : Cell) → (view_of old).lock x s ≡ Some p → s < 2 ^ 64
  lock_small x s p e = grind arith

  write_small : (x : Cell) (c s : ℕ) → (view_of old).write x c ≡ Some s → c < 2 ^ 64
  write_small x c s e = let b = i.stamped s c (inr (i.record_committed x c s e)) in let k = i.small in omega arith

  -- a fresh timestamp has 64 bits
  fresh_small : (s : ℕ) → s ≡ old.clock + 1 → is_out old ≡ false → s < 2 ^ 64
  fresh_small s fresh left = let k = i.small in let n = not_last old.clock left in omega arith

  begins_keep : (work : Work) (s : ℕ) → Begins old seat work s new → IsSoundTable new
  begins_keep work s m =
      let unknown : map.get old.transactions s ≡ None = none_if _ (λ t e. let z = i.begun s t.phase (ap phase_by e) in let f = m.fresh in absurd (omega arith)) in
      let t : TransactionOf = new_transaction seat work in
      to (with_phase (view_of old) s Phase.Reading s) (ap view_of m.new_is ∙ λ j. record {
        clock = s;
        phase = field_after phase_by old.transactions s t j;
        content = field_same content_by old.transactions s t (ap content_by (sym unknown)) j;
        primary = field_same primary_by old.transactions s t (ap primary_by (sym unknown)) j;
        prewritten = field_same cells_by old.transactions s t (ap cells_by (sym unknown)) j;
        reads = field_same reads_recorded old.transactions s t (ap reads_recorded (sym unknown)) j;
        lock = (view_of old).lock;
        stored = (view_of old).stored;
        write = (view_of old).write;
      }) (phase_kept (view_of old) i s Phase.Reading plain_reading (λ c e. let z = ap phase_by unknown in cc) s (omega arith) (omega arith) (fresh_small s m.fresh m.left) (λ x e. absurd ((i.past_reading s x e).1 (ap phase_by unknown))))

  -- a read is recorded
  read_keeps : (s : ℕ) (x : Cell) (at : Option Ts) (answer : Answer) (was : TransactionOf) → map.get old.transactions s ≡ Some was → read_up_to s at ≤ s → NoLockUpTo old.entries x (read_up_to s at) → ReadTells (view_of old) (read_up_to s at) x answer → new ≡ with_transaction old s (with_read was x at answer) → IsSoundTable new
  read_keeps s x at answer was is in_time unlocked tells new_is =
      let t : TransactionOf = with_read was x at answer in
      to (has_read (view_of old) s (read_of x at answer)) (ap view_of new_is ∙ λ j. record {
        clock = old.clock;
        phase = field_same phase_by old.transactions s t (sym (ap phase_by is)) j;
        content = field_same content_by old.transactions s t (sym (ap content_by is)) j;
        primary = field_same primary_by old.transactions s t (sym (ap primary_by is)) j;
        prewritten = field_same cells_by old.transactions s t (sym (ap cells_by is)) j;
        reads = (field_after reads_recorded old.transactions s t ∙ ap (λ l. set1 (view_of old).reads s (l ++ read_of x at answer ∷ [])) (sym (ap reads_recorded is))) j;
        lock = (view_of old).lock;
        stored = (view_of old).stored;
        write = (view_of old).write;
      }) (read_kept (view_of old) i s x at answer (let low = i.begun s was.phase (ap phase_by is) in omega arith) unlocked tells)

  found_keep : (s : ℕ) (x : Cell) (at : Option Ts) (start commit : Ts) (content : Content) → ReadsFound old seat s x at (record { start = start; commit = commit; content = content }) new → IsSoundTable new
  found_keep s x at start commit content m = grind (arith, read_keeps, newest_at_most, m.version, m.t, m.own.there, m.in_time, m.unlocked, m.new_is)

  absent_keep : (s : ℕ) (x : Cell) (at : Option Ts) → ReadsAbsent old seat s x at new → IsSoundTable new
  absent_keep s x at m = read_keeps s x at Answer.Absent m.t m.own.there m.in_time m.unlocked (λ c u l e. let z = m.none c l in cc) m.new_is

  -- a phase alone changes, and no commit comes
  fails_keep : (s : ℕ) (was : TransactionOf) → map.get old.transactions s ≡ Some was → ((c : ℕ) → was.phase ≢ committed_at c) → new ≡ with_transaction old s (record was { phase = Phase.Failed }) → IsSoundTable new
  fails_keep s was is open_still new_is =
      let t : TransactionOf = record was { phase = Phase.Failed } in
      to (with_phase (view_of old) s Phase.Failed old.clock) (ap view_of new_is ∙ λ j. record {
        clock = old.clock;
        phase = field_after phase_by old.transactions s t j;
        content = field_same content_by old.transactions s t (sym (ap content_by is)) j;
        primary = field_same primary_by old.transactions s t (sym (ap primary_by is)) j;
        prewritten = field_same cells_by old.transactions s t (sym (ap cells_by is)) j;
        reads = field_same reads_recorded old.transactions s t (sym (ap reads_recorded is)) j;
        lock = (view_of old).lock;
        stored = (view_of old).stored;
        write = (view_of old).write;
      }) (phase_kept (view_of old) i s Phase.Failed plain_failed (λ c e. open_still c (let z = ap phase_by is in cc)) old.clock (omega arith) (i.begun s was.phase (ap phase_by is)) i.small (λ x e f. cc))

  declared_keep : (s : ℕ) (was : TransactionOf) (writes : Writes) → map.get old.transactions s ≡ Some was → was.phase ≡ Phase.Reading → new ≡ with_transaction old s (record was { phase = Phase.Declared; declared = writes }) → IsSoundTable new
  declared_keep s was writes is phase new_is =
      let reading : (view_of old).phase s ≡ Some Phase.Reading = ap phase_by is ∙ ap Some phase in
      let begun = phase_kept (view_of old) i s Phase.Declared plain_declared (λ c e. cc) old.clock (omega arith) (i.begun s Phase.Reading reading) i.small (λ x e f. cc) in
      let t : TransactionOf = record was { phase = Phase.Declared; declared = writes } in
      to (with_declared (with_phase (view_of old) s Phase.Declared old.clock) s (content_in writes) (primary_in writes)) (ap view_of new_is ∙ λ j. record {
        clock = old.clock;
        phase = field_after phase_by old.transactions s t j;
        content = field_after content_by old.transactions s t j;
        primary = field_after primary_by old.transactions s t j;
        prewritten = field_same cells_by old.transactions s t (sym (ap cells_by is)) j;
        reads = field_same reads_recorded old.transactions s t (sym (ap reads_recorded is)) j;
        lock = (view_of old).lock;
        stored = (view_of old).stored;
        write = (view_of old).write;
      }) (declared_kept (with_phase (view_of old) s Phase.Declared old.clock) begun s (content_in writes) (primary_in writes) (λ x e. (i.past_reading s x e).0 reading) (λ c e. not_stamped c e))
    where
      now : (with_phase (view_of old) s Phase.Declared old.clock).phase s ≡ Some Phase.Declared
      now = set1_here (view_of old).phase s (Some Phase.Declared)

      not_stamped : (c : ℕ) → HasStamp (with_phase (view_of old) s Phase.Declared old.clock) s c → ⊥
      not_stamped c w = grind arith

  prewrites_keep : (s : ℕ) (x : Cell) → Prewrites old seat s x new → IsSoundTable new
  prewrites_keep s x m =
      let is = m.own.there in
      let phase : m.t.phase ≡ Phase.Declared = declared_is m.t.phase m.phase in
      let t : TransactionOf = record m.t { prewritten = m.t.prewritten ++ x ∷ [] } in
      let no_later = m.no_later in
      to (with_prewrite (view_of old) s x m.primary m.content) (ap view_of m.new_is ∙ λ j. record {
        clock = old.clock;
        phase = field_same phase_by old.transactions s t (sym (ap phase_by is)) j;
        content = field_same content_by old.transactions s t (sym (ap content_by is)) j;
        primary = field_same primary_by old.transactions s t (sym (ap primary_by is)) j;
        prewritten = (field_after cells_by old.transactions s t ∙ ap (set1 (view_of old).prewritten s) (one_more_here m.t.prewritten x) ∙ ap (λ (f : Cell → Bool). set1 (view_of old).prewritten s (λ y. f y || same_cell x y)) (sym (ap cells_by is))) j;
        reads = field_same reads_recorded old.transactions s t (sym (ap reads_recorded is)) j;
        lock = lock_after_put old.entries x s m.content m.primary j;
        stored = data_after_put old.entries x s m.content m.primary j;
        write = write_after_put old.entries x s m.content m.primary j;
      }) (prewrite_kept (view_of old) i s x m.primary m.content (ap phase_by is ∙ ap Some phase) (ap primary_by is ∙ m.primary_is)
      (ap (λ (f : Cell → Option Content). f x) (ap content_by is) ∙ m.declares)
      (elim (primary_or_after x m.t.prewritten m.primary m.t.declared m.primary_is m.in_order) [ inl a ↦ inl a | inr b ↦ inr (ap (λ (f : Cell → Bool). f m.primary) (ap cells_by is) ∙ b) ])
      (λ e. let z = sym (ap (λ (f : Cell → Bool). f x) (ap cells_by is)) ∙ e in let n = m.once in cc)
      (λ u. none_if _ (λ q e. let z = m.unlocked u (lock_small x u q e) in cc))
      (λ c u e. is_below c s (λ at_least. let z = no_later c at_least (write_small x c u e) in cc)))

  stamps_keep : (s c : ℕ) → Stamps old seat s c new → IsSoundTable new
  stamps_keep s c m =
      let is = m.own.there in
      let t : TransactionOf = record m.t { phase = stamped_at c } in
      to (with_stamp (view_of old) s c) (ap view_of m.new_is ∙ λ j. record {
        clock = c;
        phase = field_after phase_by old.transactions s t j;
        content = field_same content_by old.transactions s t (sym (ap content_by is)) j;
        primary = field_same primary_by old.transactions s t (sym (ap primary_by is)) j;
        prewritten = field_same cells_by old.transactions s t (sym (ap cells_by is)) j;
        reads = field_same reads_recorded old.transactions s t (sym (ap reads_recorded is)) j;
        lock = (view_of old).lock;
        stored = (view_of old).stored;
        write = (view_of old).write;
      }) (stamp_kept (view_of old) i s c m.fresh (fresh_small c m.fresh m.left) (ap phase_by is ∙ ap Some (declared_is m.t.phase m.phase)) (λ x k e. ap (λ (f : Cell → Bool). f x) (ap cells_by is) ∙ each_in m.t.declared m.t.prewritten x k m.whole (sym (ap (λ (f : Cell → Option Content). f x) (ap content_by is)) ∙ e)))

  primary_keep : (s : ℕ) → CommitsPrimary old seat s new → IsSoundTable new
  primary_keep s m =
      let is = m.own.there in
      let t : TransactionOf = record m.t { phase = committed_at m.c } in
      let held = some_is (lock_at old.entries m.primary s) m.locked in
      let named = (i.lock_prewritten m.primary s held.0 held.1).1 in
      let same : held.0 ≡ m.primary = cc in
      to (with_record (view_of old) s m.primary m.c) (ap view_of m.new_is ∙ λ j. record {
        clock = old.clock;
        phase = field_after phase_by old.transactions s t j;
        content = field_same content_by old.transactions s t (sym (ap content_by is)) j;
        primary = field_same primary_by old.transactions s t (sym (ap primary_by is)) j;
        prewritten = field_same cells_by old.transactions s t (sym (ap cells_by is)) j;
        reads = field_same reads_recorded old.transactions s t (sym (ap reads_recorded is)) j;
        lock = lock_after_commit old.entries m.primary s m.c j;
        stored = data_after_commit old.entries m.primary s m.c j;
        write = write_after_commit old.entries m.primary s m.c j;
      }) (record_kept (view_of old) i s m.c m.primary m.primary (held.1 ∙ ap Some same) (inr (ap phase_by is ∙ ap Some m.stamped, refl)))

  -- the lock of a committed transaction becomes its write record
  lock_committed : (s c : ℕ) (x p : Cell) → (view_of old).phase s ≡ Some (committed_at c) → (view_of old).lock x s ≡ Some p → new ≡ commits old x s c → IsSoundTable new
  lock_committed s c x p done locked new_is =
      to (with_record (view_of old) s x c) (ap view_of new_is ∙ λ j. record {
        clock = old.clock;
        phase = sym (set1_same (view_of old).phase s (Some (committed_at c)) done) j;
        content = (view_of old).content;
        primary = (view_of old).primary;
        prewritten = (view_of old).prewritten;
        reads = (view_of old).reads;
        lock = lock_after_commit old.entries x s c j;
        stored = data_after_commit old.entries x s c j;
        write = write_after_commit old.entries x s c j;
      }) (record_kept (view_of old) i s c x p locked (inl done))

  -- the lock of one that isn't committed goes, with its data
  lock_erased : (s : ℕ) (x p : Cell) → (view_of old).lock x s ≡ Some p → ((c : ℕ) → (view_of old).phase s ≢ Some (committed_at c)) → (x ≡ p) ⊎ ((view_of old).lock p s ≡ None) → new ≡ rolls_back old x s → IsSoundTable new
  lock_erased s x p locked open_still dead new_is =
      to (without_lock (view_of old) s x) (ap view_of new_is ∙ λ j. record {
        clock = old.clock;
        phase = (view_of old).phase;
        content = (view_of old).content;
        primary = (view_of old).primary;
        prewritten = (view_of old).prewritten;
        reads = (view_of old).reads;
        lock = lock_after_back old.entries x s j;
        stored = data_after_back old.entries x s j;
        write = write_after_back old.entries x s j;
      }) (rolled_back_kept (view_of old) i s x p locked open_still dead)

  same_keep : new ≡ old → IsSoundTable new
  same_keep e = subst IsSoundTable (sym e) i

  secondary_keep : (s : ℕ) (x : Cell) → CommitsSecondary old seat s x new → IsSoundTable new
  secondary_keep s x m =
      elim (is_some (lock_at old.entries x s)) as (λ b. is_some (lock_at old.entries x s) ≡ b → new ≡ if_locked old b x s m.c → IsSoundTable new) [
        | true ↦ λ e is. let p = some_is (lock_at old.entries x s) e in lock_committed s m.c x p.0 (ap phase_by m.own.there ∙ ap Some m.committed) p.1 is
        | false ↦ λ e is. same_keep is
      ] refl m.new_is

  -- a transaction whose primary is locked by it is not committed
  settles_keep : (x : Cell) → Settles old x new → IsSoundTable new
  settles_keep x m =
      let on = m.locked.locked in
      let own = i.lock_prewritten x m.start x on in
      lock_erased m.start x x on (λ c e. let z = i.record_unlocked x c m.start (i.primary_stands m.start c x e own.1) in cc) (inl refl) m.new_is

  cleared_keep : (x : Cell) (c : ℕ) → ClearsCommitted old x c new → IsSoundTable new
  cleared_keep x c m = lock_committed m.start c x m.primary (i.record_committed m.primary c m.start m.written) m.locked.locked m.new_is

  back_keep : (x : Cell) → ClearsBack old x new → IsSoundTable new
  back_keep x m =
      let own = i.lock_prewritten x m.start m.primary m.locked.locked in
      lock_erased m.start x m.primary m.locked.locked (λ c e. let z = i.primary_stands m.start c m.primary e own.1 in m.none c (write_small m.primary c m.start z) z) (inr (none_is _ m.unlocked)) m.new_is

  case_keeps : (step : Step) (answer : Answer) → StepCase old seat step answer new → IsSoundTable new
  case_keeps (Step.Begin work) (Answer.At s) m = begins_keep work s.0 m
  case_keeps (Step.Read s x) (Answer.Locked start primary) m = same_keep m.new_is
  case_keeps (Step.Read s x) (Answer.Found start commit content) m = found_keep s.0 x None start commit content m
  case_keeps (Step.Read s x) Answer.Absent m = absent_keep s.0 x None m
  case_keeps (Step.ReadAt s x t) (Answer.Locked start primary) m = same_keep m.new_is
  case_keeps (Step.ReadAt s x t) (Answer.Found start commit content) m = found_keep s.0 x (Some t) start commit content m
  case_keeps (Step.ReadAt s x t) Answer.Absent m = absent_keep s.0 x (Some t) m
  case_keeps (Step.Declare s what) Answer.Done m = declared_keep s.0 m.t (cells_of old.observers m.t.work s.0 what) m.own.there (reading_is m.t.phase m.reading) m.new_is
  case_keeps (Step.Prewrite s x) Answer.Done m = prewrites_keep s.0 x m
  case_keeps (Step.Prewrite s x) Answer.Conflict m = fails_keep s.0 m.t m.own.there (λ c e. let z = declared_is m.t.phase m.phase in cc) m.new_is
  case_keeps (Step.Stamp s) (Answer.At c) m = stamps_keep s.0 c.0 m
  case_keeps (Step.CommitPrimary s) Answer.Committed m = primary_keep s.0 m
  case_keeps (Step.CommitPrimary s) Answer.Lost m = fails_keep s.0 m.t m.own.there (λ c e. let z = m.stamped in cc) m.new_is
  case_keeps (Step.CommitSecondary s x) Answer.Done m = secondary_keep s.0 x m
  case_keeps (Step.Settle x) Answer.Absent m = same_keep m.new_is
  case_keeps (Step.Settle x) (Answer.Locked start primary) m = same_keep m.new_is
  case_keeps (Step.Settle x) Answer.RolledBack m = settles_keep x m
  case_keeps (Step.Clear x) Answer.Absent m = same_keep m.new_is
  case_keeps (Step.Clear x) Answer.Waits m = same_keep m.new_is
  case_keeps (Step.Clear x) (Answer.CommittedAt c) m = cleared_keep x c.0 m
  case_keeps (Step.Clear x) Answer.RolledBack m = back_keep x m
  case_keeps (Step.NextMark after) (Answer.Marked x) m = same_keep m.new_is
  case_keeps (Step.NextMark after) Answer.NoMark m = same_keep m.new_is
  case_keeps (Step.Sweep x) Answer.NoMark m = same_keep m.new_is
  case_keeps (Step.Sweep x) Answer.StillBehind m = same_keep m.new_is
  case_keeps (Step.Sweep x) Answer.Done m = subst (λ v. IsSoundView v) (sym (ap view_of m.new_is)) i
  case_keeps _ _ m = absurd m

pub steps_keep : (old : StateOf) (seat : ℕ) (step : Step) (answer : Answer) (new : StateOf) → IsSoundTable old → TableStep old seat step answer new → IsSoundTable new
steps_keep old seat step answer new i m = case_keeps old i seat new step answer m.taken
