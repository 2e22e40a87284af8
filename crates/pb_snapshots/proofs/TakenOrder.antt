-- The versions of a snapshot of a kept table are in the order in which a state takes them over.
use Rattle.std.proofs.Common.{arith, ◌≡◌, ℕ, zero, suc, ◌<◌, ◌≤◌, ◌⊎◌, inl, inr, Bool, true, false, cond, ◌&&◌, ◌||◌, nat_lt, List, [], ◌∷◌, ◌++◌, length, map, take, Option, Some, None, slice_get, Ordering, Less, Equal, Greater, refl, sym, ap, subst, ◌∙◌}
use Rattle.std.specs.Cmp.{Equal-is}
use Rattle.std.specs.List.{AllByRecursion, list_all}
use Rattle.std.specs.List.Sorted.{IsStrictlySortedBy}
use Rattle.std.specs.FinMap.{nat_cmp-IsAntisymmetric}
use Rattle.std.specs.Ordering.{eq_by_cmp, is_lt, nat_cmp, ordering_then}
use Rattle.std.proofs.lemmas.Bool.{cases_Bool, cases_lt, eq-eqb}
use Rattle.std.proofs.lemmas.Option.{slice_get_cases}
use Rattle.pb_base.proofs.Logic.{and_true, below_true, same_some}
use Rattle.pb_snapshots.specs.Words.{Writes, content_in, is_batch, is_data_write, cell_cmp, cell_cmp-IsAntisymmetric, Cell, Content, Revision, Row, Ts, Entries, Sort, ObserverOf, acknowledgment, write_at, StateOf, phase_in, Phase, Work, Has, Member, OpeningIsSound, RunsAreTold, ScriptsWriteBatches, StepsKeepSound, IsObserverRun, IsCommittedAt, IsSoundTable, view_of, Entry, entries_by, AreChosen, ChosenAreSound, chosen_cell, KeptTablesAreWhole, is_known_cell, known_entries, LeftAreSound, AreInOrder, IsAmiss, MayFollow, comes_before, has_its_observer, is_content_of, is_of_column, is_stamp_of, CarryFault, Keeps, KeptFollowOneAnother, KeptIsWhole, KeptTable}
use Rattle.pb_history.proofs.DeclaredCells.{batch_plain, run_plain}
use Rattle.pb_history.proofs.JournalsAreSound.{legal_sound}
use Rattle.pb_history.proofs.SnapshotsTold.{content_in_view, written_by}
use Rattle.pb_history.proofs.StepsAgree.{legal_agrees}
use Rattle.pb_generations.proofs.KnownEntries.{unknown_none}
use Rattle.pb_generations.proofs.LeanTables.{whole_record, whole_stored}
use Rattle.pb_generations.proofs.LongerLists.{stay_in_front}
use Rattle.pb_keeper.proofs.Leading.{leads_observers}
use Rattle.pb_keeper.proofs.LedTables.{led_by}
use Rattle.pb_keeper.proofs.Resting.{kept_sound}
use Rattle.pb_snapshots.specs.Chosen.{ChosenAreAccepted, IsChosenFrom}
use Rattle.pb_snapshots.specs.Snapshot.{SnapshotOf}
use Rattle.pb_snapshots.specs.Taken.{IsSnapshotTaken, IsTakenOf}
use Rattle.pb_snapshots.specs.TakenOrder.{IsForMemory, TakenAreAccepted, TakenAreInOrder}
use Rattle.pb_snapshots.specs.VersionWalks.{commit_cmp, commit_of_version}
use Rattle.pb_snapshots.proofs.ChosenCells.{content_stays, observer_stays}

-- ---- an ordered list

all_at : {A B : Type 0} (P : B → Type 0) (f : A → B) (xs : List A) (n : ℕ) (c : A) → AllByRecursion P (map f xs) → slice_get xs n ≡ Some c → P (f c)
all_at P f [] n c all is = absurd cc
all_at P f (x ∷ xs) zero c all is = subst (λ z. P (f z)) (same_some x c is) all.0
all_at P f (x ∷ xs) (suc n) c all is = all_at P f xs n c all.1 is

pub has_got : {A : Type 0} (xs : List A) (n : ℕ) (c : A) → slice_get xs n ≡ Some c → Has xs c
has_got [] n c is = absurd cc
has_got (x ∷ xs) zero c is = inl (same_some x c is)
has_got (x ∷ xs) (suc n) c is = inr (has_got xs n c is)

has_taken : {A : Type 0} (xs : List A) (n : ℕ) (d : A) → Has (take n xs) d → Has xs d
has_taken [] zero d has = has
has_taken [] (suc n) d has = has
has_taken (x ∷ xs) zero d has = absurd has
has_taken (x ∷ xs) (suc n) d (inl e) = inl e
has_taken (x ∷ xs) (suc n) d (inr h) = inr (has_taken xs n d h)

-- what stands before another is below it
below_at : {A K : Type 0} (cmp : K → K → Ordering) (key : A → K) (xs : List A) (n : ℕ) (c d : A) → IsStrictlySortedBy cmp (map key xs) → slice_get xs n ≡ Some c → Has (take n xs) d → cmp (key d) (key c) ≡ Less
unfolding IsStrictlySortedBy
below_at cmp key [] n c d rising is has = absurd cc
below_at cmp key (x ∷ xs) zero c d rising is has = absurd has
below_at cmp key (x ∷ xs) (suc n) c d rising is (inl e) = subst (λ z. cmp (key z) (key c) ≡ Less) e (all_at (λ y. cmp (key x) y ≡ Less) key xs n c rising.0 is)
below_at cmp key (x ∷ xs) (suc n) c d rising is (inr h) = below_at cmp key xs n c d rising.1 is h

-- ---- the order of versions

less_parts : (a b : Ts × Cell) → commit_cmp a b ≡ Less → (a.0.0 < b.0.0) ⊎ ((a.0.0 ≡ b.0.0) × (cell_cmp a.1 b.1 ≡ Less))
less_parts a b e = elim (less_of _ _ e) [
  | inl less ↦ inl (below _ _ less)
  | inr p ↦ inr (nat_cmp-IsAntisymmetric _ _ p.0, p.1)
]
  where
    below : (m n : ℕ) → nat_cmp m n ≡ Less → m < n
    below m n less = grind arith

    less_of : (o p : Ordering) → ordering_then o p ≡ Less → (o ≡ Less) ⊎ ((o ≡ Equal) × (p ≡ Less))
    less_of Less p e = inl refl
    less_of Equal p e = inr (refl, e)
    less_of Greater p e = absurd cc

or_below : (b : Bool) (m n : ℕ) → m < n → (b || nat_lt m n) ≡ true
or_below b m n h = grind arith

one_commit : (c d : ℕ) (o : Option Phase) → o ≡ Some (Phase.Committed (record { 0 = c })) → o ≡ Some (Phase.Committed (record { 0 = d })) → c ≡ d
one_commit c d o p q = ap commit_in (sym p ∙ q)
  where
    commit_in : Option Phase → ℕ
    commit_in (Some (Phase.Committed e)) = e.0
    commit_in _ = 0

-- ---- contents

-- what plain writes hold
plain_at : (ws : Writes) (x : Cell) (k : Content) → list_all is_data_write ws ≡ true → content_in ws x ≡ Some k → is_data_write (x, k) ≡ true
plain_at [] x k plain is = absurd cc
plain_at (w ∷ ws) x k plain is =
    let p = and_true (is_data_write w) (list_all is_data_write ws) plain in
    elim (eq_by_cmp cell_cmp x w.0) as (λ b. eq_by_cmp cell_cmp x w.0 ≡ b → cond b (Some w.1) (content_in ws x) ≡ Some k → is_data_write (x, k) ≡ true) [
      | true ↦ λ e found. let same = cell_cmp-IsAntisymmetric x w.0 ((Equal-is (cell_cmp x w.0)).0 e) in subst (λ (y : Cell). is_data_write (y, k) ≡ true) (sym same) (subst (λ (z : Content). is_data_write (w.0, z) ≡ true) (same_some w.1 k found) p.0)
      | false ↦ λ e found. plain_at ws x k p.1 found
    ] refl is

-- the version has a content of its cell, of an observer that is there
abbrev IsOwnVersion : List ObserverOf → Cell → Revision → Type 0
IsOwnVersion observers x v = (is_content_of x v ≡ true) × (has_its_observer observers x ≡ true)

plain_own : (observers : List ObserverOf) (x : Cell) (v : Revision) → is_data_write (x, v.content) ≡ true → IsOwnVersion observers x v
plain_own observers (Cell.Data row column) v plain = (plain, refl)
plain_own observers (Cell.Ack o row column) v plain = absurd cc

stamp_own : (observers : List ObserverOf) (o : ℕ) (row : Row) (observer : ObserverOf) (s : ℕ) (x : Cell) (v : Revision) → slice_get observers o ≡ Some observer → x ≡ acknowledgment observers o row → s ≡ v.start.0
    → Content.Stamp (record { 0 = s }) ≡ v.content → IsOwnVersion observers x v
stamp_own observers o row observer s x v there is start content =
    let P : Cell → Type 0 = λ y. IsOwnVersion observers y v in
    subst P (sym is) (
      ap (is_stamp_of v.start) (sym content) ∙ eq-eqb s v.start.0 start,
      ap (λ z. is_of_column z (observed_of z)) there ∙ eq-eqb observer.column observer.column refl,
    )
  where
    observed_of : Option ObserverOf → ℕ
    observed_of None = 0
    observed_of (Some z) = z.column

module _ (observers : List ObserverOf) (journal : List Entry) (m : Member) (x : Cell) (v : Revision) (start : m.start ≡ v.start.0) (writes : content_in m.writes x ≡ Some v.content) where
  run_own : (o : ℕ) (row : Row) → IsObserverRun observers journal m o row → IsOwnVersion observers x v
  run_own o row r =
      let ack = acknowledgment observers o row in
      let its : Content = Content.Stamp (record { 0 = m.start }) in
      elim (eq_by_cmp cell_cmp x ack) as (λ b. eq_by_cmp cell_cmp x ack ≡ b → cond b (Some its) (content_in r.writes x) ≡ Some v.content → IsOwnVersion observers x v) [
        | true ↦ λ e found. stamp_own observers o row r.observer m.start x v r.observer_is (cell_cmp-IsAntisymmetric x ack ((Equal-is (cell_cmp x ack)).0 e)) start (same_some its v.content found)
        | false ↦ λ e found. plain_own observers x v (plain_at r.writes x v.content (run_plain r.writes r.few) found)
      ] refl (ap (λ ws. content_in ws x) (sym r.writes_are) ∙ writes)

  own : (work : Work) → m.work ≡ work → (m.work ≡ Work.Script → is_batch m.writes ≡ true) → ((o : ℕ) (row : Row) → m.work ≡ Work.Run o row → IsObserverRun observers journal m o row) → IsOwnVersion observers x v
  own Work.Script is scripts runs = plain_own observers x v (plain_at m.writes x v.content (batch_plain m.writes (scripts is)) writes)
  own (Work.Run o row) is scripts runs = run_own o row (runs o row is)

true_is_false : {b : Bool} → b ≡ true → b ≡ false → ⊥
true_is_false p q = cc

-- what may come next isn't amiss
none_amiss : (e : CarryFault) (observers : List ObserverOf) (last : ℕ) (before : List (Cell × Revision)) (next : Cell × Revision) → MayFollow observers last before next → IsAmiss observers last before next e → IsForMemory e
none_amiss (CarryFault.NoMemory m) observers last before next may amiss = tt
none_amiss CarryFault.NotAboveStart observers last before next may amiss = let above = may.above in omega (arith, above, amiss)
none_amiss CarryFault.AboveLast observers last before next may amiss = let low = may.by_then in omega (arith, low, amiss)
none_amiss CarryFault.OutOfOrder observers last before next may amiss = true_is_false (may.in_order amiss.0 amiss.1) amiss.2
none_amiss CarryFault.NotItsContent observers last before next may amiss = true_is_false may.its_content amiss
none_amiss CarryFault.NoItsObserver observers last before next may amiss = true_is_false may.observed amiss

-- what stands among the known cells is on one of them
known_if : (observers : List ObserverOf) (e : Entries) (x : Cell) (d s : ℕ) → write_at (known_entries (length observers) e) x d ≡ Some s → is_known_cell (length observers) x ≡ true
known_if observers e x d s written = elim (cases_Bool (is_known_cell (length observers) x)) [
  | inl known ↦ known
  | inr unknown ↦ let none = unknown_none (length observers) e x Sort.Write d unknown in absurd cc
]

-- an observer that is there is one of the first
own_of_first : (observers gone : List ObserverOf) (x : Cell) (v : Revision) → is_known_cell (length observers) x ≡ true → IsOwnVersion (observers ++ gone) x v → IsOwnVersion observers x v
own_of_first observers gone (Cell.Data row column) v known own = (own.0, refl)
own_of_first observers gone (Cell.Ack o row column) v known own =
    let low = below_true o (length observers) known in
    elim (slice_get_cases observers o).1 [
      | inl there ↦ (own.0, ap (λ z. is_of_column z column) (there.2 ∙ sym (stay_in_front observers gone o there.0 there.2)) ∙ own.1)
      | inr past ↦ absurd (omega (arith, past.0, low))
    ]

-- ---- a kept table

module _ (keeps : StepsKeepSound) (opens : OpeningIsSound) (left : LeftAreSound) (sound_chosen : ChosenAreSound) (follow : KeptFollowOneAnother) (whole : KeptIsWhole)
    (wholes : KeptTablesAreWhole) (runs : RunsAreTold) (scripts : ScriptsWriteBatches) where
  module _ (limit : ℕ) (first : KeptTable) (changes : List Writes) (table : KeptTable) (k : Keeps limit first changes table) where
    sound : IsSoundTable table.state
    sound = kept_sound keeps opens left sound_chosen limit first changes table k

    -- what is taken is of a committed transaction
    committed : (x : Cell) (v : Revision) → IsTakenOf table.state x v → IsCommittedAt (view_of table.state) v.start.0 v.commit.0
    committed x v is = sound.record_committed x v.commit.0 v.start.0 is.written

    above : (x : Cell) (v : Revision) → IsTakenOf table.state x v → v.start.0 < v.commit.0
    above x v is = (sound.stamped v.start.0 v.commit.0 (inr (committed x v is))).0

    -- it is a write of the whole history, and so one of its own cell
    is_own : (x : Cell) (v : Revision) → IsTakenOf table.state x v → IsOwnVersion first.state.observers x v
    is_own x v is =
        let observers = first.state.observers in
        let w = whole limit first changes table k in
        let all = observers ++ w.gone in
        let journal = entries_by 0 w.said in
        let stands = wholes observers w.gone 1 0 w.c journal table.state w.kept in
        let past = stands.legal.past in
        let agrees = legal_agrees all 1 0 past stands.whole stands.legal.legal in
        let its_sound = legal_sound all 1 0 past stands.whole stands.legal.legal in
        let in_lean = stands.within.records x v.commit.0 v.start.0 is.written in
        let record_there = whole_record w.c w.gone stands.whole stands.lean stands.lacks x v.commit.0 v.start.0 in_lean in
        let stored_there = whole_stored w.c w.gone stands.whole stands.lean stands.lacks x v.start.0 v.content (stands.within.stored x v.start.0 v.content is.content) in
        let same_front : stands.lean.observers ≡ observers = sym (ap (λ (z : StateOf). z.observers) stands.now_is) ∙ stands.observers_are in
        let known : is_known_cell (length observers) x ≡ true =
        subst (λ (l : List ObserverOf). is_known_cell (length l) x ≡ true) same_front
        (known_if stands.lean.observers stands.whole.entries x v.commit.0 v.start.0 (sym (ap (λ (z : StateOf). write_at z.entries x v.commit.0) stands.lacks.lean_is) ∙ in_lean)) in
        let write = written_by past stands.whole agrees its_sound x v.commit.0 v.start.0 record_there in
        let m = write.m in
        let writes : content_in m.writes x ≡ Some v.content =
        sym (content_in_view past stands.whole agrees its_sound m write.in_history x)
        ∙ ap (λ (n : ℕ). (view_of stands.whole).content n x) write.start_is
        ∙ sym (its_sound.record_data x v.commit.0 v.start.0 record_there)
        ∙ stored_there in
        let same : stands.whole.observers ≡ all = stands.lacks.observers ∙ ap (λ (l : List ObserverOf). l ++ w.gone) same_front in
        let one = own stands.whole.observers past m x v write.start_is writes m.work refl ((scripts all 1 0 past stands.whole stands.legal.legal).batch m write.in_history)
        (λ o row. (runs all 1 0 past stands.whole stands.legal.legal).run m o row write.in_history) in
        own_of_first observers w.gone x v known (subst (λ (l : List ObserverOf). IsOwnVersion l x v) same one)

    -- versions whose cells became these are in order
    module _ (becomes : Cell → Option Cell) (list : List ObserverOf)
        (stays_own : (x y : Cell) (v : Revision) → becomes x ≡ Some y → IsOwnVersion first.state.observers x v → IsOwnVersion list y v)
        (last : ℕ) (cells : List (Cell × Revision)) (clock : last ≡ table.state.clock) (each : (y : Cell) (v : Revision) → Has cells (y, v) → (x : Cell) × (becomes x ≡ Some y) × IsTakenOf table.state x v)
        (rising : IsStrictlySortedBy commit_cmp (map commit_of_version cells)) where
      comes : (d c : Cell × Revision) → Has cells d → Has cells c → (d.1.commit.0 < c.1.commit.0) ⊎ ((d.1.commit.0 ≡ c.1.commit.0) × (cell_cmp d.0 c.0 ≡ Less)) → comes_before d c ≡ true
      comes d c before its (inl low) =
          let x = each d.0 d.1 before in
          let y = each c.0 c.1 its in
          let first_is = committed x.0 d.1 x.2 in
          let second_is = committed y.0 c.1 y.2 in
          elim (cases_lt d.1.start.0 c.1.start.0) [
            | inl earlier ↦ or_below _ d.1.commit.0 c.1.start.0 (follow limit first changes table k d.1.start.0 d.1.commit.0 c.1.start.0 c.1.commit.0 first_is second_is earlier)
            | inr not_earlier ↦ elim (cases_lt c.1.start.0 d.1.start.0) [
              | inl later ↦
                  let after = follow limit first changes table k c.1.start.0 c.1.commit.0 d.1.start.0 d.1.commit.0 second_is first_is later in
                  let up = above x.0 d.1 x.2 in
                  absurd (omega (arith, after, up, low))
              | inr not_later ↦
                  let same : d.1.start.0 ≡ c.1.start.0 = omega (arith, not_earlier, not_later) in
                  let commits = one_commit d.1.commit.0 c.1.commit.0 (phase_in table.state c.1.start.0) (sym (ap (phase_in table.state) same) ∙ first_is) second_is in
                  absurd (omega (arith, commits, low))
            ]
          ]
      comes d c before its (inr same) =
          let x = each d.0 d.1 before in
          let y = each c.0 c.1 its in
          let commit : c.1.commit.0 ≡ d.1.commit.0 = sym same.0 in
          let starts = sound.one_stamp d.1.start.0 c.1.start.0 d.1.commit.0 (inr (committed x.0 d.1 x.2)) (inr (subst (IsCommittedAt (view_of table.state) c.1.start.0) commit (committed y.0 c.1 y.2))) in
          λ i. (eq-eqb d.1.start.0 c.1.start.0 starts i && (eq-eqb d.1.commit.0 c.1.commit.0 same.0 i && is_lt (same.1 i))) || nat_lt d.1.commit.0 c.1.start.0

      in_order : AreInOrder list last cells
      in_order n c is =
          let has = has_got cells n c is in
          let x = each c.0 c.1 has in
          let its = stays_own x.0 c.0 c.1 x.1 (is_own x.0 c.1 x.2) in
          record {
            above = above x.0 c.1 x.2;
            by_then = subst (λ (z : ℕ). c.1.commit.0 ≤ z) (sym clock) x.2.low;
            in_order = λ d before. comes d c (has_taken cells n d before) has (less_parts (commit_of_version d) (commit_of_version c) (below_at commit_cmp commit_of_version cells n c d rising is before));
            its_content = its.0;
            observed = its.1;
          }

  pub taken_are_in_order : TakenAreInOrder
  taken_are_in_order limit first changes table s k taken rising =
      let stays_own : (x y : Cell) (v : Revision) → Some x ≡ Some y → IsOwnVersion first.state.observers x v → IsOwnVersion first.state.observers y v = λ x y v same its. subst (λ (z : Cell). IsOwnVersion first.state.observers z v) (same_some x y same) its in
      in_order limit first changes table k Some first.state.observers stays_own s.clock s.cells taken.clock (λ y v has. (y, refl, taken.each y v has)) rising

  pub taken_are_accepted : TakenAreAccepted
  taken_are_accepted limit first changes table s k taken rising n e why = none_amiss e first.state.observers s.clock (take n s.cells) why.0 (taken_are_in_order limit first changes table s k taken rising n why.0 why.1) why.2

  chosen_are_in_order : (limit : ℕ) (first : KeptTable) (changes : List Writes) (table : KeptTable) (s u : SnapshotOf) (places : List ℕ) (front : List ObserverOf) → Keeps limit first changes table → AreChosen places table.state.observers front
      → IsSnapshotTaken table s → IsChosenFrom places s u → IsStrictlySortedBy commit_cmp (map commit_of_version u.cells) → AreInOrder front u.clock u.cells
  chosen_are_in_order limit first changes table s u places front k are taken from rising =
      let same : table.state.observers ≡ first.state.observers = leads_observers first.state table.state (led_by limit first changes table k.leads) in
      let chosen : AreChosen places first.state.observers front = subst (λ (l : List ObserverOf). AreChosen places l front) same are in
      let stays_own : (x y : Cell) (v : Revision) → chosen_cell places x ≡ Some y → IsOwnVersion first.state.observers x v → IsOwnVersion front y v =
      λ x y v stays its. (content_stays places first.state.observers front chosen x y v stays its.0, observer_stays places first.state.observers front chosen x y stays its.1) in
      in_order limit first changes table k (chosen_cell places) front stays_own u.clock u.cells (from.clock ∙ taken.clock)
      (λ y v has. let x = from.each y v has in (x.0, x.1, taken.each x.0 v x.2)) rising

  pub chosen_are_accepted : ChosenAreAccepted
  chosen_are_accepted limit first changes table s u places front k are taken from rising n e why =
      none_amiss e front u.clock (take n u.cells) why.0 (chosen_are_in_order limit first changes table s u places front k are taken from rising n why.0 why.1) why.2
