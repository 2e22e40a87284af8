-- Journals that are the same but for steps of marks have one history, and the same reads, timestamps and transactions.
use Rattle.std.proofs.Common.{◌≡◌, ℕ, Bool, true, false, not, cond, List, [], ◌∷◌, ◌++◌, refl, sym, ap, subst, ◌∙◌, inl, inr, filter}
use Rattle.std.proofs.lemmas.List.Elements.{filter-append}
use Rattle.pb_generations.specs.Words.{Cell, Content, Row, ObserverOf, StateOf, Answer, Step, Handles, TellsOneHandler, Has, InHistory, IsSnapshot, Member, NoSnapshot, WroteAt, IsAcknowledgedAt, TellsSnapshot, TellsSnapshots, AreRising, TellsTimestamps, timestamps, with_timestamp, BeginsOnce, TellsTransactions, entries_naming, names_start, transaction_by, Entry}
use Rattle.pb_generations.specs.SameButMarks.{is_of_marks, without_marks, SameButMarks}

-- ---- entries

differ : ◌≡◌ {A = Bool} true false → ⊥
differ e = cc

module _ {A : Type 0} (test : A → Bool) (x : A) where
  -- an item of a list that passes a test is one of those that do
  here_still : (y : A) (ys : List A) (b : Bool) → test y ≡ b → test x ≡ true → y ≡ x → Has (cond b (y ∷ ys) ys) x
  here_still y ys true of passes is = inl is
  here_still y ys false of passes is = absurd (differ (sym passes ∙ ap test (sym is) ∙ of))

  later_still : (y : A) (ys : List A) (b : Bool) → Has ys x → Has (cond b (y ∷ ys) ys) x
  later_still y ys true has = inr has
  later_still y ys false has = has

  pub has_passed : (xs : List A) → test x ≡ true → Has xs x → Has (filter test xs) x
  has_passed [] passes has = absurd has
  has_passed (y ∷ ys) passes (inl is) = here_still y (filter test ys) (test y) refl passes is
  has_passed (y ∷ ys) passes (inr has) = later_still y (filter test ys) (test y) (has_passed ys passes has)

  either_of : (y : A) (ys zs : List A) (b : Bool) → (Has ys x → Has zs x) → Has (cond b (y ∷ ys) ys) x → Has (y ∷ zs) x
  either_of y ys zs true on (inl is) = inl is
  either_of y ys zs true on (inr has) = inr (on has)
  either_of y ys zs false on has = inr (on has)

  has_of_passed : (xs : List A) → Has (filter test xs) x → Has xs x
  has_of_passed [] has = absurd has
  has_of_passed (y ∷ ys) has = either_of y (filter test ys) ys (test y) (has_of_passed ys) has

-- an entry of the one journal is one of the other
pub same_entry : (e : Entry) → is_of_marks e.step ≡ false → (a b : List Entry) → SameButMarks a b → Has a e → Has b e
same_entry e other a b same has =
    let test : Entry → Bool = λ d. not (is_of_marks d.step) in
    has_of_passed test e b (subst (λ l. Has l e) same (has_passed test e a (ap not other) has))

-- so they are with the same steps after them
pub same_on : (a b more : List Entry) → SameButMarks a b → SameButMarks (a ++ more) (b ++ more)
same_on a b more same =
    let test : Entry → Bool = λ e. not (is_of_marks e.step) in
    filter-append test a more ∙ ap (λ l. l ++ without_marks more) same ∙ sym (filter-append test b more)

-- without them a second time it is as it was
pub without_twice : (journal : List Entry) → without_marks (without_marks journal) ≡ without_marks journal
without_twice [] = refl
without_twice (e ∷ es) = by (is_of_marks e.step) refl (without_twice es)
  where
    by : (b : Bool) → is_of_marks e.step ≡ b → without_marks (without_marks es) ≡ without_marks es → without_marks (cond (not b) (e ∷ without_marks es) (without_marks es)) ≡ cond (not b) (e ∷ without_marks es) (without_marks es)
    by true of rest = rest
    by false of rest = ap (λ b. cond (not b) (e ∷ without_marks (without_marks es)) (without_marks (without_marks es))) of ∙ ap (λ l. e ∷ l) rest

-- ---- what no step of marks is listed by

no_name : (s : ℕ) (step : Step) (answer : Answer) → is_of_marks step ≡ true → names_start s step answer ≡ false
no_name s (Step.NextMark after) answer of = refl
no_name s (Step.Sweep x) answer of = refl
no_name s (Step.Begin work) answer of = absurd (differ (sym of))
no_name s (Step.Read t x) answer of = absurd (differ (sym of))
no_name s (Step.ReadAt t x u) answer of = absurd (differ (sym of))
no_name s (Step.Declare t what) answer of = absurd (differ (sym of))
no_name s (Step.Prewrite t x) answer of = absurd (differ (sym of))
no_name s (Step.Stamp t) answer of = absurd (differ (sym of))
no_name s (Step.CommitPrimary t) answer of = absurd (differ (sym of))
no_name s (Step.CommitSecondary t x) answer of = absurd (differ (sym of))
no_name s (Step.Settle x) answer of = absurd (differ (sym of))
no_name s (Step.Clear x) answer of = absurd (differ (sym of))

-- the entries that name a start are among the others
pub naming_others : (s : ℕ) (journal : List Entry) → entries_naming s (without_marks journal) ≡ entries_naming s journal
naming_others s [] = refl
naming_others s (e ∷ es) = by (is_of_marks e.step) refl (naming_others s es)
  where
    by : (b : Bool) → is_of_marks e.step ≡ b → entries_naming s (without_marks es) ≡ entries_naming s es
        → entries_naming s (cond (not b) (e ∷ without_marks es) (without_marks es)) ≡ cond (names_start s e.step e.answer) (e ∷ entries_naming s es) (entries_naming s es)
    by true of rest = rest ∙ sym (ap (λ b. cond b (e ∷ entries_naming s es) (entries_naming s es)) (no_name s e.step e.answer of))
    by false of rest = ap (λ l. cond (names_start s e.step e.answer) (e ∷ l) l) rest

no_timestamp : (step : Step) (answer : Answer) (ts : List ℕ) → is_of_marks step ≡ true → with_timestamp step answer ts ≡ ts
no_timestamp (Step.NextMark after) answer ts of = refl
no_timestamp (Step.Sweep x) answer ts of = refl
no_timestamp (Step.Begin work) answer ts of = absurd (differ (sym of))
no_timestamp (Step.Read t x) answer ts of = refl
no_timestamp (Step.ReadAt t x u) answer ts of = refl
no_timestamp (Step.Declare t what) answer ts of = refl
no_timestamp (Step.Prewrite t x) answer ts of = refl
no_timestamp (Step.Stamp t) answer ts of = absurd (differ (sym of))
no_timestamp (Step.CommitPrimary t) answer ts of = refl
no_timestamp (Step.CommitSecondary t x) answer ts of = refl
no_timestamp (Step.Settle x) answer ts of = refl
no_timestamp (Step.Clear x) answer ts of = refl

timestamps_of_others : (journal : List Entry) → timestamps (without_marks journal) ≡ timestamps journal
timestamps_of_others [] = refl
timestamps_of_others (e ∷ es) = by (is_of_marks e.step) refl (timestamps_of_others es)
  where
    by : (b : Bool) → is_of_marks e.step ≡ b → timestamps (without_marks es) ≡ timestamps es → timestamps (cond (not b) (e ∷ without_marks es) (without_marks es)) ≡ with_timestamp e.step e.answer (timestamps es)
    by true of rest = rest ∙ sym (no_timestamp e.step e.answer (timestamps es) of)
    by false of rest = ap (with_timestamp e.step e.answer) rest

-- ---- two journals

pub same_naming : (a b : List Entry) → SameButMarks a b → (s : ℕ) → entries_naming s a ≡ entries_naming s b
same_naming a b same s = sym (naming_others s a) ∙ ap (entries_naming s) same ∙ naming_others s b

pub same_transactions : (a b : List Entry) (state : StateOf) → SameButMarks a b → TellsTransactions a state → TellsTransactions b state
same_transactions a b state same is = record {
  begins = λ s. subst BeginsOnce (same_naming a b same s) (is.begins s);
  one_seat = λ s d e p q. is.one_seat s d e (subst (λ l. Has l d) (sym (same_naming a b same s)) p) (subst (λ l. Has l e) (sym (same_naming a b same s)) q);
  each = λ s. is.each s ∙ ap (transaction_by state.observers) (same_naming a b same s);
}

pub same_member : (observers : List ObserverOf) (a b : List Entry) → SameButMarks a b → (m : Member) → InHistory observers a m → InHistory observers b m
same_member observers a b same m is = record {
  begun = same_entry _ refl a b same is.begun;
  what = is.what;
  declared = same_entry _ refl a b same is.declared;
  writes_are = is.writes_are;
  stamped = same_entry _ refl a b same is.stamped;
  committed = same_entry _ refl a b same is.committed;
}

module _ (observers : List ObserverOf) (a b : List Entry) (same : SameButMarks a b) where
  pub same_snapshot : (s : ℕ) (x : Cell) (start commit : ℕ) (k : Content) → IsSnapshot observers a s x start commit k → IsSnapshot observers b s x start commit k
  same_snapshot s x start commit k is = record {
    m = is.m;
    in_history = same_member observers a b same is.m is.in_history;
    start_is = is.start_is;
    commit_is = is.commit_is;
    writes = is.writes;
    seen = is.seen;
    greatest = λ n j there. is.greatest n j (same_member observers b a (sym same) n there);
  }

  pub same_absence : (s : ℕ) (x : Cell) → NoSnapshot observers a s x → NoSnapshot observers b s x
  same_absence s x is n k there = is n k (same_member observers b a (sym same) n there)

  pub same_writer : (x : Cell) (c s : ℕ) → WroteAt observers a x c s → WroteAt observers b x c s
  same_writer x c s is = record { m = is.m; in_history = same_member observers a b same is.m is.in_history; start_is = is.start_is; commit_is = is.commit_is; content = is.content; writes = is.writes }

  same_read : (s : ℕ) (x : Cell) (answer : Answer) → TellsSnapshot observers a s x answer → TellsSnapshot observers b s x answer
  same_read s x (Answer.Found start commit content) is = same_snapshot s x start.0 commit.0 content is
  same_read s x Answer.Absent is = same_absence s x is
  same_read s x _ is = tt

  same_acknowledged : (s : ℕ) (x : Cell) (t : ℕ) → IsAcknowledgedAt observers a s x t → IsAcknowledgedAt observers b s x t
  same_acknowledged s x t (inl none) = inl (same_absence s x none.0, none.1)
  same_acknowledged s x t (inr some) = inr (some.0, some.1, same_snapshot s x some.0 some.1 _ some.2)

  pub same_handled : (m : Member) (o : ℕ) (row : Row) (commit : ℕ) → Handles observers a m o row commit → Handles observers b m o row commit
  same_handled m o row commit is = record { run = is.run; acknowledged = is.acknowledged; acknowledges = same_acknowledged m.start _ is.acknowledged is.acknowledges; newer = is.newer; seen = is.seen }

module _ (a b : List Entry) (state : StateOf) (same : SameButMarks a b) where
  pub same_reads : TellsSnapshots a state → TellsSnapshots b state
  same_reads is = record {
    read = λ seat s x answer there. same_read state.observers a b same s.0 x answer (is.read seat s x answer (same_entry _ refl b a (sym same) there));
    read_at = λ seat s x t answer there. same_read state.observers a b same t.0 x answer (is.read_at seat s x t answer (same_entry _ refl b a (sym same) there));
    earlier = λ seat s x t answer there. is.earlier seat s x t answer (same_entry _ refl b a (sym same) there);
  }

  pub same_one_handler : TellsOneHandler a state → TellsOneHandler b state
  same_one_handler is m n first second o row commit p q =
      is m n (same_member state.observers b a (sym same) m first) (same_member state.observers b a (sym same) n second) o row commit (same_handled state.observers b a (sym same) m o row commit p) (same_handled state.observers b a (sym same) n o row commit q)

  pub same_timestamps : (clock : ℕ) → TellsTimestamps clock a state → TellsTimestamps clock b state
  same_timestamps clock is = record {
    rising = subst (AreRising clock state.clock) (sym (timestamps_of_others a) ∙ ap timestamps same ∙ timestamps_of_others b) is.rising;
    commits = λ m there. is.commits m (same_member state.observers b a (sym same) m there);
  }
