-- For each change of a worker that was committed, the worker's list records one start.
use Rattle.std.proofs.Common.{◌≡◌, ℕ, zero, suc, ◌+◌, ◌*◌, ◌<◌, ◌⊎◌, Bool, true, false, cond, eqb, List, [], ◌∷◌, ◌++◌, length, Option, Some, None, inl, inr, refl, sym, ap, subst, ◌∙◌, arith, slice_get, slice_index_or}
use Rattle.std.proofs.lemmas.Bool.{eq-eqb, ne_eqb}
use Rattle.pb_worker.specs.Words.{Ts, Refusal, Writes, Step, Answer, Work, ObserverOf, Received, Has, told, OpeningOf, AreTried, AreTriedThen, AreChangesBegun, no_part, one_part, share_of, IsWork, AreFilled}
use Rattle.pb_worker.proofs.Committing.{commit_of, HasCommitted, committed_within}
use Rattle.pb_worker.proofs.RunCommits.{HasBegunRun, CommitRuns, run_left, run_right, drain_commits_runs, begun_drain_commits_runs}
use Rattle.pb_worker.proofs.TryCommits.{TellsCommit, of_tries, of_cut}
use Rattle.pb_history.proofs.Updates.{has_before as has_left, has_right, has_which}

-- ---- twice in a list

-- at two places of the list there is this
abbrev pub HasTwice : {A : Type 0} → List A → A → Type 0
HasTwice [] x = ⊥
HasTwice (y ∷ ys) x = ((y ≡ x) × Has ys x) ⊎ HasTwice ys x

-- what stands twice in the first part stands twice in both together
twice_left : {A : Type 0} (xs ys : List A) (x : A) → HasTwice xs x → HasTwice (xs ++ ys) x
twice_left [] ys x t = absurd t
twice_left (y ∷ xs) ys x (inl h) = inl (h.0, has_left xs ys x h.1)
twice_left (y ∷ xs) ys x (inr t) = inr (twice_left xs ys x t)

-- or in the second
pub twice_right : {A : Type 0} (xs ys : List A) (x : A) → HasTwice ys x → HasTwice (xs ++ ys) x
twice_right [] ys x t = t
twice_right (y ∷ xs) ys x t = inr (twice_right xs ys x t)

-- what stands in both parts stands there twice
twice_across : {A : Type 0} (xs ys : List A) (x : A) → Has xs x → Has ys x → HasTwice (xs ++ ys) x
twice_across [] ys x h k = absurd h
twice_across (y ∷ xs) ys x (inl e) k = inl (e, has_right xs ys x k)
twice_across (y ∷ xs) ys x (inr h) k = inr (twice_across xs ys x h k)

-- ---- flags

is_below : (done : List Bool) (j : ℕ) → slice_index_or done j false ≡ true → j < length done
is_below [] zero e = cc
is_below [] (suc j) e = cc
is_below (d ∷ ds) zero e = omega arith
is_below (d ∷ ds) (suc j) e = let below = is_below ds j e in omega (arith, below)

flag_left : (done : List Bool) (b : Bool) (j : ℕ) → slice_index_or done j false ≡ true → slice_index_or (done ++ b ∷ []) j false ≡ true
flag_left [] b zero e = cc
flag_left [] b (suc j) e = cc
flag_left (d ∷ ds) b zero e = e
flag_left (d ∷ ds) b (suc j) e = flag_left ds b j e

flag_last : (done : List Bool) (b : Bool) → slice_index_or (done ++ b ∷ []) (length done) false ≡ b
flag_last [] b = refl
flag_last (d ∷ ds) b = flag_last ds b

-- a change that was done is an earlier one or the last
which_flag : (done : List Bool) (b : Bool) (j : ℕ) → slice_index_or (done ++ b ∷ []) j false ≡ true → (slice_index_or done j false ≡ true) ⊎ ((j ≡ length done) × (b ≡ true))
which_flag [] b zero e = inr (refl, e)
which_flag [] b (suc j) e = inl e
which_flag (d ∷ ds) b zero e = inl e
which_flag (d ∷ ds) b (suc j) e = elim (which_flag ds b j e) [ inl h ↦ inl h | inr h ↦ inr (ap suc h.0, h.1) ]

-- ---- starts

-- the worker's change of this place, counted from its first, was committed at this start
pub record HasMade (batches : List Writes) (n first j : ℕ) (said : List Received) (start : Ts) : Type 0 where
  pub batch : Writes
  pub at : slice_get batches (first + j * n) ≡ Some batch
  pub made : HasCommitted batch start said

-- the transaction of this start is that of one of its changes, of which a try committed
pub record IsStart (done : List Bool) (start : ℕ → Ts) (u : Ts) : Type 0 where
  pub j : ℕ
  pub flag : slice_index_or done j false ≡ true
  pub same : u ≡ start j

-- each change of which a try committed has a start, no other was committed but a run's, and no two have one
pub record AreStarts (batches : List Writes) (n first : ℕ) (done : List Bool) (said : List Received) (start : ℕ → Ts) : Type 0 where
  pub made : (j : ℕ) → slice_index_or done j false ≡ true → HasMade batches n first j said (start j)
  pub only : (u : Ts) → Has said (commit_of u) → IsStart done start u ⊎ HasBegunRun said u
  pub apart : (i j : ℕ) → i < j → slice_index_or done i false ≡ true → slice_index_or done j false ≡ true → start i ≡ start j → HasTwice said (told (Step.Begin Work.Script) (Answer.At (start i)))

module _ (batches : List Writes) (n first : ℕ) where
  made_left : (j : ℕ) (said more : List Received) (start : Ts) → HasMade batches n first j said start → HasMade batches n first j (said ++ more) start
  made_left j said more start m = record { batch = m.batch; at = m.at; made = committed_within m.batch start said (said ++ more) (λ r k. has_left said more r k) m.made }

  abbrev StartsOf : List Bool → List Received → Type 0
  StartsOf done said = (start : ℕ → Ts) × AreStarts batches n first done said start

  at_first : StartsOf [] []
  at_first = (λ j. record { 0 = 0 }, record { made = λ j e. absurd (no_flag j e); only = λ u h. absurd h; apart = λ i j lt e f same. absurd (no_flag i e) })
    where
      no_flag : (j : ℕ) → slice_index_or [] j false ≡ true → ⊥
      no_flag zero e = cc
      no_flag (suc j) e = cc

  -- after passes
  with_runs : (done : List Bool) (said more : List Received) → CommitRuns more → StartsOf done said → StartsOf done (said ++ more)
  with_runs done said more runs s = grind (arith, made_left, has_which, commit_of, run_left, run_right, twice_left, runs.each)

  -- after one more change
  module _ (done : List Bool) (said : List Received) (start : ℕ → Ts) (a : AreStarts batches n first done said start) (batch : Writes) (at : slice_get batches (first + length done * n) ≡ Some batch) (is : Bool) (last : Ts) (more : List Received) (t : TellsCommit batch is last more) where
    start' : ℕ → Ts
    start' j = cond (eqb j (length done)) last (start j)

    former : (j : ℕ) → slice_index_or done j false ≡ true → start' j ≡ start j
    unfolding start'
    former j e = grind (arith, is_below, ne_eqb)

    newest : (j : ℕ) → j ≡ length done → start' j ≡ last
    unfolding start'
    newest j is = ap (λ b. cond b last (start j)) (eq-eqb j (length done) is)

    its_made : (j : ℕ) → slice_index_or (done ++ is ∷ []) j false ≡ true → HasMade batches n first j (said ++ more) (start' j)
    its_made j e = elim (which_flag done is j e) [
      | inl h ↦ subst (HasMade batches n first j (said ++ more)) (sym (former j h)) (made_left j said more (start j) (a.made j h))
      | inr h ↦ subst (HasMade batches n first j (said ++ more)) (sym (newest j h.0)) (record {
        batch = batch;
        at = subst (λ k. slice_get batches (first + k * n) ≡ Some batch) (sym h.0) at;
        made = committed_within batch last more (said ++ more) (λ r k. has_right said more r k) (t.made h.1);
      })
    ]

    its_only : (u : Ts) → Has (said ++ more) (commit_of u) → IsStart (done ++ is ∷ []) start' u ⊎ HasBegunRun (said ++ more) u
    its_only u h = elim (has_which said more (commit_of u) h) [
      | inl k ↦ grind (arith, flag_left, former, run_left, a.only)
      | inr k ↦ let o = t.only u k in inl (record { j = length done; flag = flag_last done is ∙ o.0; same = o.1 ∙ sym (newest (length done) refl) })
    ]

    abbrev begin_of : Ts → Received
    begin_of s = told (Step.Begin Work.Script) (Answer.At s)

    its_apart : (i j : ℕ) → i < j → slice_index_or (done ++ is ∷ []) i false ≡ true → slice_index_or (done ++ is ∷ []) j false ≡ true → start' i ≡ start' j → HasTwice (said ++ more) (begin_of (start' i))
    its_apart i j lt e f same = grind (arith, which_flag, former, twice_left, start', newest, twice_across, is_below, a.apart, a.made, t.made)

    one_more : StartsOf (done ++ is ∷ []) (said ++ more)
    one_more = (start', record { made = its_made; only = its_only; apart = its_apart })

  of_tried : (done : List Bool) (said : List Received) → AreTried batches n first done said → StartsOf done said
  of_tried done said no_part = at_first
  of_tried done said (one_part flags now had more before t) =
      let s = of_tried flags had before in
      let k = of_tries t.batch t.committed more t.tries in
      subst (λ (fs : List Bool). StartsOf fs (had ++ more)) (sym t.now_is) (one_more flags had s.0 s.1 t.batch t.there t.committed k.0 more k.1)

  -- ---- whether it was stopped or not

  module _ (filled : AreFilled batches) (seat : ℕ) (observers : List ObserverOf) (done : List Bool) where
    of_changes_begun : (next : Option Step) (said : List Received) → AreChangesBegun batches n first done next said → StartsOf done said
    of_changes_begun next said c =
        let s = of_tried c.at c.before c.parts in
        let in_next = c.ends in
        let t = of_cut in_next.batch in_next.committed next c.last (filled _ in_next.batch in_next.there) in_next.tries in
        let after = one_more c.at c.before s.0 s.1 in_next.batch in_next.there in_next.committed t.0 c.last t.1 in
        subst (λ l. StartsOf done l) (sym c.said_is) (elim in_next.done_is [
          | inl is ↦ subst (λ (fs : List Bool). StartsOf fs (c.before ++ c.last)) (sym is) after
          | inr is ↦
              let none : CommitRuns c.last = record { each = λ u h. let o = t.1.only u h in absurd (neither in_next.committed o.0 is.1) } in
              subst (λ (fs : List Bool). StartsOf fs (c.before ++ c.last)) (sym is.0) (with_runs c.at c.before c.last none s)
        ])
      where
        neither : (b : Bool) → b ≡ true → b ≡ false → ⊥
        neither b p q = cc

    of_then : {Last : List Received → Type 0} → ((passes : List Received) → Last passes → CommitRuns passes) → (said : List Received) → AreTriedThen (share_of batches n first) done Last said → StartsOf done said
    of_then commits said w = subst (λ l. StartsOf done l) (sym w.said_is) (with_runs done w.before w.last (commits w.last w.ends.2) (subst (λ (fs : List Bool). StartsOf fs w.before) w.ends.0 (of_tried w.at w.before w.parts)))

    pub of_work : (opens : Option OpeningOf) (r : Option Refusal) (said : List Received) → IsWork opens seat observers (share_of batches n first) done r said → StartsOf done said
    of_work opens None said w = of_then (drain_commits_runs observers) said w
    of_work opens (Some r) said w = elim w.begun [ inl c ↦ of_changes_begun w.next said c | inr t ↦ of_then (begun_drain_commits_runs observers w.next) said t ]
