-- Whole conversations on a table without locks, of which only one seat knows: a transaction commits, and a run meets no lock.
use Rattle.std.proofs.Common.{arith, ◌≡◌, ℕ, ◌<◌, Bool, true, false, inr, List, [], ◌∷◌, ◌++◌, Option, Some, None, refl, sym, ap, subst, ◌∙◌}
use Rattle.std.proofs.lemmas.List.{append_assoc, append-nil}
use Rattle.std.proofs.lemmas.Bool.{true≢false}
use Rattle.pb_keeper.specs.Words.{Writes, Cell, Revision, Ts, Talk, Entries, Meant, Begins, read_step, lock_at, write_at, IsLockOn, StateOf, StepCase, Seen, Step, Work, Answer, Declared, JournalLeads, StepsKeepSound, IsSoundTable, Received, told, IsWhole, committed, conflicted_first, conflicted_later, lost, prewrites, secondaries, Outcome, entries_by, IsRound, cleared, settled, AreRounds, at_first, one_more, IsLooked, IsObserved, IsAcknowledged, IsRecalled, AreAsked, dirty, asked, its_begin, LooksFrom, at_cell, at_acknowledgment, at_old, at_ask, IsRunConversation, absent, clean, ran, conflicted, blocked, Watch, JobEnd, IsUnlocked}
use Rattle.pb_notify.specs.Forms.{lost as lost_run}
use Rattle.pb_history.proofs.Updates.{none_if}
use Rattle.pb_keeper.specs.Leads.{SaidLeads, IsEndedChange}
use Rattle.pb_keeper.specs.Stats.{starts_run}
use Rattle.pb_conversations.proofs.Joining.{Adds}
use Rattle.pb_keeper.proofs.EachStep.{AreEach, each_last, each_on}
use Rattle.pb_keeper.proofs.Alone.{IsAlone, AreLeft, declared_alone, prewritten_alone, meets_nothing, stamped_alone, loses_not, committed_alone, secondary_alone}

-- ---- parts of a seat's conversation

pub leads_parts : (m n : StateOf) (a b : List Received) → JournalLeads m (entries_by 0 (a ++ b)) n → (mid : StateOf) × JournalLeads m (entries_by 0 a) mid × JournalLeads mid (entries_by 0 b) n
leads_parts m n [] b r = (m, refl, r)
leads_parts m n (x ∷ a) b r = let p = leads_parts r.0 n a b r.2 in (p.0, (r.0, r.1, p.1), p.2)

-- it leaves a sound table sound
pub stays_sound : StepsKeepSound → (m n : StateOf) (said : List Received) → IsSoundTable m → JournalLeads m (entries_by 0 said) n → IsSoundTable n
stays_sound keeps m n [] sound r = subst IsSoundTable (sym r) sound
stays_sound keeps m n (x ∷ said) sound r = stays_sound keeps r.0 n said (keeps m 0 x.step x.answer r.0 sound r.1) r.2

-- where this holds of a sound table before the conversation, it holds of it afterwards
abbrev pub Preserves : (StateOf → Type 0) → List Received → Type 0
Preserves P said = (m n : StateOf) → IsSoundTable m → P m → JournalLeads m (entries_by 0 said) n → P n

pub preserves_adds : StepsKeepSound → (P : StateOf → Type 0) → Adds (Preserves P)
preserves_adds keeps P = record {
  nothing = λ m n sound is r. subst P (sym r) is;
  both = λ a b p q m n sound is r.
      let parts = leads_parts m n a b r in
      q parts.0 n (stays_sound keeps m parts.0 a sound parts.1) (p m parts.0 sound is parts.1) parts.2;
}

-- each write record is of a commit below this
abbrev pub AreBelow : ℕ → StateOf → Type 0
AreBelow s m = (x : Cell) (c u : ℕ) → write_at m.entries x c ≡ Some u → c < s

-- a start is above all commits so far
pub begun_below : (m n : StateOf) (work : Work) (s : ℕ) → IsSoundTable m → Begins m 0 work s n → AreBelow s n
begun_below m n work s sound b x c u e =
    let was : write_at m.entries x c ≡ Some u = sym (ap (λ (z : StateOf). write_at z.entries x c) b.new_is) ∙ e in
    let low = (sound.stamped u c (inr (sound.record_committed x c u was))).1 in
    let fresh = b.fresh in
    omega (arith, low, fresh)

pub begun_unlocked : (m n : StateOf) (work : Work) (s : ℕ) → IsUnlocked m → Begins m 0 work s n → IsUnlocked n
begun_unlocked m n work s free b x u = ap (λ (z : StateOf). lock_at z.entries x u) b.new_is ∙ free x u

-- ---- a transaction

module _ (keeps : StepsKeepSound) (start : Ts) where
  prewrites_walk : (xs : List Cell) (rest : List Received) (done : List Cell) (m n : StateOf) → IsAlone start.0 done m → JournalLeads m (entries_by 0 (prewrites start xs ++ rest)) n
      → (mid : StateOf) × IsAlone start.0 (done ++ xs) mid × JournalLeads mid (entries_by 0 rest) n
  prewrites_walk [] rest done m n a r = (m, subst (λ l. IsAlone start.0 l m) (sym (append-nil done)) a, r)
  prewrites_walk (x ∷ xs) rest done m n a r =
      let next = prewritten_alone start m r.0 done x a (keeps m 0 (Step.Prewrite start x) Answer.Done r.0 a.sound r.1) r.1.taken in
      let on = prewrites_walk xs rest (done ++ x ∷ []) r.0 n next r.2 in
      (on.0, subst (λ l. IsAlone start.0 l on.0) (append_assoc done (x ∷ []) xs) on.1, on.2)

  secondaries_walk : (left : List Cell) (m n : StateOf) → AreLeft start.0 left m → JournalLeads m (entries_by 0 (secondaries start left)) n → AreLeft start.0 [] n
  secondaries_walk [] m n a r = subst (AreLeft start.0 []) (sym r) a
  secondaries_walk (x ∷ left) m n a r = secondaries_walk left r.0 n (secondary_alone start m r.0 x left a r.1.taken) r.2

  -- it committed, and no lock stands
  abbrev pub HasCommitted : Outcome → StateOf → Type 0
  HasCommitted o n = ((c : Ts) × (o ≡ Outcome.Committed c)) × IsUnlocked n

  pub whole_commits : (what : Declared) (cells : List Cell) (said : List Received) (o : Outcome) (m n : StateOf) → IsWhole start what cells said o → IsSoundTable m → IsUnlocked m → AreBelow start.0 m
      → JournalLeads m (entries_by 0 said) n → HasCommitted o n
  whole_commits what cells said o m n (committed x others c) sound free below r =
      let a = declared_alone start m r.0 what sound free below (keeps m 0 (Step.Declare start what) Answer.Done r.0 sound r.1) r.1.taken in
      let w = prewrites_walk (x ∷ others) (told (Step.Stamp start) (Answer.At c) ∷ told (Step.CommitPrimary start) Answer.Committed ∷ secondaries start others) [] r.0 n a r.2 in
      let b = stamped_alone start w.0 w.2.0 (x ∷ others) c.0 w.1 (keeps w.0 0 (Step.Stamp start) (Answer.At c) w.2.0 w.1.sound w.2.1) w.2.1.taken in
      let left = committed_alone start w.2.0 w.2.2.0 x others b w.2.2.1.taken in
      let none = secondaries_walk others w.2.2.0 n left w.2.2.2 in
      ((c, refl), λ y u. none_if (lock_at n.entries y u) (λ p e. (none y u p e).1))
  whole_commits what cells said o m n (conflicted_first x after) sound free below r =
      let a = declared_alone start m r.0 what sound free below (keeps m 0 (Step.Declare start what) Answer.Done r.0 sound r.1) r.1.taken in
      absurd (meets_nothing start r.0 r.2.0 [] x a r.2.1.allowed r.2.1.taken)
  whole_commits what cells said o m n (conflicted_later x y before after z cs can are) sound free below r =
      let a = declared_alone start m r.0 what sound free below (keeps m 0 (Step.Declare start what) Answer.Done r.0 sound r.1) r.1.taken in
      let w = prewrites_walk (x ∷ before) (told (Step.Prewrite start y) Answer.Conflict ∷ told (Step.Settle x) z ∷ cs) [] r.0 n a r.2 in
      absurd (meets_nothing start w.0 w.2.0 (x ∷ before) y w.1 w.2.1.allowed w.2.1.taken)
  whole_commits what cells said o m n (lost x others c cs are) sound free below r =
      let a = declared_alone start m r.0 what sound free below (keeps m 0 (Step.Declare start what) Answer.Done r.0 sound r.1) r.1.taken in
      let w = prewrites_walk (x ∷ others) (told (Step.Stamp start) (Answer.At c) ∷ told (Step.CommitPrimary start) Answer.Lost ∷ cs) [] r.0 n a r.2 in
      let b = stamped_alone start w.0 w.2.0 (x ∷ others) c.0 w.1 (keeps w.0 0 (Step.Stamp start) (Answer.At c) w.2.0 w.1.sound w.2.1) w.2.1.taken in
      absurd (loses_not start w.2.0 w.2.2.0 (x ∷ others) b w.2.2.1.taken)

-- a change commits
pub change_commits : StepsKeepSound → (batch : Writes) (o : Outcome) (m n : StateOf) → IsSoundTable m → IsUnlocked m → SaidLeads (IsEndedChange batch o) m n → ((c : Ts) × (o ≡ Outcome.Committed c)) × IsUnlocked n
change_commits keeps batch o m n sound free g =
    let start = g.form.0 in
    let w = g.form.1 in
    let r = subst (λ l. JournalLeads m (entries_by 0 l) n) w.said_is g.leads in
    whole_commits keeps start (Declared.Script batch) _ w.rest o r.0 n w.whole (keeps m 0 (Step.Begin Work.Script) (Answer.At start) r.0 sound r.1) (begun_unlocked m r.0 Work.Script start.0 free r.1.taken) (begun_below m r.0 Work.Script start.0 sound r.1.taken) r.2

-- ---- looks

-- the step begins and stamps no transaction, and changes no entry where no lock stands
abbrev pub is_plain : Step → Bool
is_plain (Step.Begin work) = false
is_plain (Step.Stamp s) = false
is_plain (Step.Prewrite s x) = false
is_plain (Step.CommitPrimary s) = false
is_plain (Step.CommitSecondary s x) = false
is_plain _ = true

-- the answer names a lock
abbrev names_lock : Answer → Bool
names_lock (Answer.Locked start primary) = true
names_lock _ = false

no_lock_on : (e : Entries) (x : Cell) (u : ℕ) (p : Cell) → ((y : Cell) (w : ℕ) → lock_at e y w ≡ None) → IsLockOn e x u p → ⊥
no_lock_on e x u p free l = let none = free x u in let some = l.locked in grind (arith, none, some)

none_locked : (e : Entries) (x : Cell) (u : ℕ) (p : Cell) → ((y : Cell) (w : ℕ) → lock_at e y w ≡ None) → lock_at e x u ≡ Some p → ⊥
none_locked e x u p free some = let none = free x u in grind (arith, none, some)

plain_step : (old new : StateOf) (step : Step) (answer : Answer) → IsUnlocked old → is_plain step ≡ true → StepCase old 0 step answer new → (new.entries ≡ old.entries) × (names_lock answer ≡ false)
plain_step old new (Step.Settle x) Answer.RolledBack free p m = absurd (no_lock_on old.entries x m.start x free m.locked)
plain_step old new (Step.Settle x) (Answer.Locked s q) free p m = absurd (no_lock_on old.entries x s.0 q free m.locked)
plain_step old new (Step.Clear x) Answer.Waits free p m = absurd (no_lock_on old.entries x m.start m.primary free m.locked)
plain_step old new (Step.Clear x) (Answer.CommittedAt c) free p m = absurd (no_lock_on old.entries x m.start m.primary free m.locked)
plain_step old new (Step.Clear x) Answer.RolledBack free p m = absurd (no_lock_on old.entries x m.start m.primary free m.locked)
plain_step old new (Step.Read s x) (Answer.Locked t q) free p m = absurd (none_locked old.entries x t.0 q free m.locked)
plain_step old new (Step.ReadAt s x at) (Answer.Locked t q) free p m = absurd (none_locked old.entries x t.0 q free m.locked)
plain_step old new step answer free p m = grind arith

abbrev pub IsPlain : Received → Type 0
IsPlain r = is_plain r.step ≡ true

abbrev pub ArePlain : List Received → Type 0
ArePlain said = AreEach IsPlain said

abbrev IsLockless : Received → Type 0
IsLockless r = names_lock r.answer ≡ false

-- no answer names a lock
abbrev NameNoLock : List Received → Type 0
NameNoLock said = AreEach IsLockless said

pub plain_walk : (m n : StateOf) (said : List Received) → IsUnlocked m → ArePlain said → JournalLeads m (entries_by 0 said) n → (n.entries ≡ m.entries) × NameNoLock said
plain_walk m n [] free p r = (ap (λ (z : StateOf). z.entries) r, tt)
plain_walk m n (x ∷ said) free p r =
    let one = plain_step m r.0 x.step x.answer free p.0 r.1.taken in
    let on = plain_walk r.0 n said (λ y u. ap (λ (z : Entries). lock_at z y u) one.0 ∙ free y u) p.1 r.2 in
    (on.0 ∙ one.0, (one.1, on.1))

-- where the entries stay, so do the locks
pub free_after : (m n : StateOf) → IsUnlocked m → n.entries ≡ m.entries → IsUnlocked n
free_after m n free e y u = ap (λ (z : Entries). lock_at z y u) e ∙ free y u

-- a begin at this start, and then looks
pub record IsPlainFrom (s : Ts) (said : List Received) : Type 0 where
  pub work : Work
  pub is_run : starts_run (Step.Begin work) ≡ true
  pub rest : List Received
  pub said_is : said ≡ told (Step.Begin work) (Answer.At s) ∷ rest
  pub plain : ArePlain rest

-- what stands after it
record StandsAfter (s : Ts) (said : List Received) (n : StateOf) : Type 0 where
  pub free : IsUnlocked n
  pub below : AreBelow s.0 n
  pub none : NameNoLock said

plain_after : (s : Ts) (said : List Received) (m n : StateOf) → IsPlainFrom s said → IsSoundTable m → IsUnlocked m → JournalLeads m (entries_by 0 said) n → StandsAfter s said n
plain_after s said m n f sound free g =
    let r = subst (λ l. JournalLeads m (entries_by 0 l) n) f.said_is g in
    let b = begun_unlocked m r.0 f.work s.0 free r.1.taken in
    let w = plain_walk r.0 n f.rest b f.plain r.2 in
    record {
      free = λ y u. ap (λ (z : Entries). lock_at z y u) w.0 ∙ b y u;
      below = λ x c u e. begun_below m r.0 f.work s.0 sound r.1.taken x c u (sym (ap (λ (z : Entries). write_at z x c) w.0) ∙ e);
      none = subst NameNoLock (sym f.said_is) (refl, w.1);
    }

pub from_more : (s : Ts) (a b : List Received) → IsPlainFrom s a → ArePlain b → IsPlainFrom s (a ++ b)
from_more s a b f p = record { work = f.work; is_run = f.is_run; rest = f.rest ++ b; said_is = ap (λ l. l ++ b) f.said_is; plain = each_on IsPlain f.rest b f.plain p }

pub read_plain : (s : Ts) (x : Cell) (at : Option Ts) → is_plain (read_step s x at) ≡ true
read_plain s x None = refl
read_plain s x (Some t) = refl

module _ (s : Ts) where
  round_plain : (x : Cell) (at : Option Ts) (said : List Received) → IsRound s x at said → ArePlain said
  round_plain x at said (cleared t primary a can waits) = (read_plain s x at, (refl, tt))
  round_plain x at said (settled t primary a b can clears) = (read_plain s x at, (refl, (refl, (refl, tt))))

  pub rounds_from : (x : Cell) (at : Option Ts) (m : ℕ) (base : List Received) (n : ℕ) (said : List Received) → AreRounds s x at m base n said → IsPlainFrom s base → IsPlainFrom s said
  rounds_from x at m base n said at_first f = f
  rounds_from x at m base n said (one_more k before round rs one) f = from_more s before round (rounds_from x at m base k before rs f) (round_plain x at round one)

  pub looked_from : (x : Cell) (at : Option Ts) (m : ℕ) (base : List Received) (n : ℕ) (said : List Received) → IsLooked s x at m base n said → IsPlainFrom s base → IsPlainFrom s said
  looked_from x at m base n said l f = subst (IsPlainFrom s) (sym l.said_is) (from_more s l.before _ (rounds_from x at m base n l.before l.rounds f) (read_plain s x at, tt))

  module _ (o : Watch) where
    pub begin_from : IsPlainFrom s (its_begin o s)
    begin_from = record { work = Work.Run o.observer o.row; is_run = refl; rest = []; said_is = refl; plain = tt }

    observed_from : (found : Revision) (n : ℕ) (said : List Received) → IsObserved o s found n said → IsPlainFrom s said
    observed_from found n said i = looked_from _ None 0 (its_begin o s) n said i.look begin_from

    pub acknowledged_from : (seen : Seen) (n : ℕ) (said : List Received) → IsAcknowledged o s seen n said → IsPlainFrom s said
    acknowledged_from seen n said i = looked_from _ None i.met i.base n said i.look (observed_from seen.version i.met i.base i.observed)

    recalled_from : (seen : Seen) (at : Option Ts) (n : ℕ) (said : List Received) → IsRecalled o s seen at n said → IsPlainFrom s said
    recalled_from seen None n said i = acknowledged_from seen n said i.1
    recalled_from seen (Some t) n said i = looked_from _ (Some t) i.0 i.1 n said i.3 (acknowledged_from seen i.0 i.1 i.2)

    pub asked_from : (seen : Seen) (talk : Talk) (n : ℕ) (said : List Received) → AreAsked o s seen talk n said → IsPlainFrom s said
    asked_from seen talk n said (dirty k now i newer) = recalled_from seen _ n said i
    asked_from seen talk n said (asked before m base q k now was look) = looked_from _ None m base n said look (asked_from seen before m base was)

    pub base_from : (x : Cell) (at : Option Ts) (m : ℕ) (base : List Received) → LooksFrom o s x at m base → IsPlainFrom s base
    base_from x at m base at_cell = begin_from
    base_from x at m base (at_acknowledgment found n said i) = observed_from found m base i
    base_from x at m base (at_old seen t n said i newer is) = acknowledged_from seen m base i
    base_from x at m base (at_ask seen talk n said q i) = asked_from seen talk m base i

-- ---- a run

-- it committed, or found nothing to do
abbrev pub IsUndisturbed : JobEnd → Type 0
IsUndisturbed (JobEnd.Ran result) = Unit {0}
IsUndisturbed JobEnd.Clean = Unit {0}
IsUndisturbed _ = ⊥

-- a run on a table without locks meets none, commits if it declares, and leaves none
pub run_rests : StepsKeepSound → (o : Watch) (said : List Received) (end : JobEnd) (run : Option Meant) (m n : StateOf) → IsRunConversation o said end run → IsSoundTable m → IsUnlocked m → JournalLeads m (entries_by 0 said) n
    → IsUndisturbed end × IsUnlocked n
run_rests keeps o said end run m n (absent s k before w look none few can) sound free r = (tt, (plain_after s _ m n (from_more s before _ (looked_from s _ None 0 (its_begin o s) k before look (begin_from s o)) (refl, tt)) sound free r).free)
run_rests keeps o said end run m n (clean s seen k before w i late few can) sound free r = (tt, (plain_after s _ m n (from_more s before _ (acknowledged_from s o seen k before i) (refl, tt)) sound free r).free)
run_rests keeps o said end run m n (ran s seen talk k before plan f c w i few on whole can) sound free r =
    let p = leads_parts m n (before ++ plan) (told (Step.Sweep _) w ∷ []) r in
    let q = leads_parts m p.0 before plan p.1 in
    let a = plain_after s before m q.0 (asked_from s o seen talk k before i) sound free q.1 in
    let e = whole_commits keeps s (Declared.Run o.observer f) _ plan (Outcome.Committed c) q.0 p.0 whole (stays_sound keeps m q.0 before sound q.1) a.free a.below q.2 in
    let t = plain_walk p.0 n (told (Step.Sweep _) w ∷ []) e.1 (refl, tt) p.2 in
    (tt, λ y u. ap (λ (z : Entries). lock_at z y u) t.0 ∙ e.1 y u)
run_rests keeps o said end run m n (conflicted s seen talk k before plan f i few on whole) sound free r =
    let q = leads_parts m n before plan r in
    let a = plain_after s before m q.0 (asked_from s o seen talk k before i) sound free q.1 in
    let e = whole_commits keeps s (Declared.Run o.observer f) _ plan Outcome.Conflicted q.0 n whole (stays_sound keeps m q.0 before sound q.1) a.free a.below q.2 in
    absurd (let other : Outcome.Conflicted ≡ Outcome.Committed e.0.0 = e.0.1 in cc)
run_rests keeps o said end run m n (lost_run s seen talk k before plan f i few on whole) sound free r =
    let q = leads_parts m n before plan r in
    let a = plain_after s before m q.0 (asked_from s o seen talk k before i) sound free q.1 in
    let e = whole_commits keeps s (Declared.Run o.observer f) _ plan Outcome.Lost q.0 n whole (stays_sound keeps m q.0 before sound q.1) a.free a.below q.2 in
    absurd (let other : Outcome.Lost ≡ Outcome.Committed e.0.0 = e.0.1 in cc)
run_rests keeps o said end run m n (blocked s x at j base k before t primary from rounds last) sound free r =
    let a = plain_after s _ m n (from_more s before _ (rounds_from s x at j base k before rounds (base_from s o x at j base from)) (read_plain s x at, tt)) sound free r in
    absurd (true≢false (each_last IsLockless before (told (read_step s x at) (Answer.Locked t primary) ∷ []) a.none).0)
