-- The committed script transactions of the journal are the changes of which a try committed, each once.
use Rattle.std.proofs.Common.{◌≡◌, ℕ, zero, suc, ◌+◌, ◌-◌, ◌*◌, ◌/◌, ◌%◌, ◌<◌, ◌⊎◌, Bool, true, false, cond, eqb, List, [], ◌∷◌, ◌++◌, length, Option, Some, None, inl, inr, refl, sym, ap, subst, ◌∙◌, add_comm, arith, slice_get, slice_index_or}
use Rattle.std.proofs.lemmas.Bool.{eqb-true, eqb-false, cases_lt, cases_order}
use Rattle.std.proofs.lemmas.Nat.{div-mul-add, mod-mul-add}
use Rattle.std.proofs.lemmas.Option.{slice_get_within}
use Rattle.std.proofs.Math.Nat.{mod-add-div', mod-lt}
use Rattle.pb_worker.specs.Words.{Row, Ts, Refusal, Writes, Step, Answer, Work, ObserverOf, opening, Entry, Received, entries_of, Has, IsEntry, Member, InHistory, TransactionsAreTold, TellsTransactions, SharedOf, SeatOf, AreSeats, AreSeatsFrom, IsLegalTable, told, Gains, OpeningOf, Spare, share_of, IsWork, IsLastDrain, WorkedOn, is_done, undone_below, Agree}
use Rattle.pb_worker.specs.Laws.{IsMadeChange, IsFinished, ChangesAreMade}
use Rattle.pb_threads.proofs.Joined.{seats_are_numbered}
use Rattle.pb_worker.proofs.Committing.{commit_of}
use Rattle.pb_worker.proofs.RunCommits.{HasBegunRun, of_last_drain}
use Rattle.pb_worker.proofs.Starts.{HasTwice, twice_right, AreStarts, IsStart, of_work}
use Rattle.pb_worker.proofs.SeatEntries.{in_journal, in_list, same_begin, begun_once, begun_by_seat}
use Rattle.pb_base.proofs.Logic.{same_some, not_both as neither}
use Rattle.pb_history.proofs.Updates.{has_before as has_left, has_right, has_which}

-- ---- unfinished changes

undone_at : (done : ℕ → Bool) (k i : ℕ) (same : Bool) → eqb i k ≡ same → done i ≡ false → i < suc k → (i < k → Has (undone_below done k) i) → (b : Bool) → done k ≡ b → Has (cond b (undone_below done k) (undone_below done k ++ k ∷ [])) i
undone_at done k i same s e lt more b d = grind (arith, eqb-true, has_right, eqb-false, has_left)

-- a change of which no try committed is named
has_undone : (done : ℕ → Bool) (n i : ℕ) → i < n → done i ≡ false → Has (undone_below done n) i
has_undone done zero i lt e = absurd (omega (arith, lt))
has_undone done (suc k) i lt e = undone_at done k i (eqb i k) refl e lt (λ less. has_undone done k i less e) (done k) refl

-- so of one that isn't named a try committed
flag_of : (done : ℕ → Bool) (n i : ℕ) (unfinished : List ℕ) → unfinished ≡ undone_below done n → i < n → (Has unfinished i → ⊥) → done i ≡ true
flag_of done n i unfinished is lt not = grind (arith, has_undone)

undone_in : (done : ℕ → Bool) (k i : ℕ) → (Has (undone_below done k) i → done i ≡ false) → (b : Bool) → done k ≡ b → Has (cond b (undone_below done k) (undone_below done k ++ k ∷ [])) i → done i ≡ false
undone_in done k i more b d h = grind (arith, has_which)

-- and of one that is named none did
not_done : (done : ℕ → Bool) (n i : ℕ) → Has (undone_below done n) i → done i ≡ false
not_done done zero i h = absurd h
not_done done (suc k) i h = undone_in done k i (not_done done k i) (done k) refl h

-- ---- seats

-- the lists with which seats come
listed : (from : ℕ) (journal : List Entry) (seats : List SeatOf) → AreSeatsFrom from journal seats → (k : ℕ) (d : SeatOf) → k < length seats → (slice_index_or seats k d).received ≡ entries_of (from + k) journal
listed from j [] a k d lt = absurd (omega (arith, lt))
listed from j (s ∷ ss) a zero d lt = let same : from ≡ from + 0 = omega arith in a.1 ∙ ap (λ m. entries_of m j) same
listed from j (s ∷ ss) a (suc k) d lt = grind (arith, listed (from + 1) j ss a.2 k d (omega arith))

-- the first, or that of a worker
main_or_worker : (k : ℕ) → (k ≡ 0) ⊎ ((w : ℕ) × (k ≡ w + 1))
main_or_worker zero = inl refl
main_or_worker (suc w) = inr (w, omega arith)

no_script : (o : ℕ) (row : Row) → Work.Script ≡ Work.Run o row → ⊥
no_script o row e = cc

abbrev ts : ℕ → Ts
ts s = record { 0 = s }

same_ts : (s t : Ts) → s.0 ≡ t.0 → s ≡ t
same_ts s t e = ap ts e

-- ---- all together

module _ {how : OpeningOf} (observers : List ObserverOf) (batches : List Writes) (spares : List Spare) (olds news : List SeatOf) (refusals : List (Option Refusal)) (unfinished : List ℕ) (before table : SharedOf) (are : AreSeats before olds) (some : 1 < length olds) (w : WorkedOn how observers batches spares olds news refusals unfinished) (legal : IsLegalTable table) (agree : Agree table news) (tells : TellsTransactions table.journal table.state) where
  abbrev n : ℕ
  n = length olds - 1

  abbrev nobody : SeatOf
  nobody = record { number = 0; received = [] }

  abbrev list_of : ℕ → List Received
  list_of seat = entries_of seat table.journal

  some_n : 0 < n
  some_n = omega (arith, some)

  -- this is how the seat's entries of the journal end, and all of them where the journal was empty before
  record EndsList (k : ℕ) (said : List Received) : Type 0 where
    front : List Received
    whole : list_of k ≡ front ++ said
    bare : before.journal ≡ [] → list_of k ≡ said

  -- so end its entries with what a seat gained
  gained : (P : List Received → Type 0) (k : ℕ) → k < length olds → Gains P (slice_index_or olds k nobody) (slice_index_or news k nobody) → (said : List Received) × EndsList k said × P said
  gained P k lt g =
      let old = slice_index_or olds k nobody in
      let new = slice_index_or news k nobody in
      let plain : 0 + k ≡ k = omega arith in
      let number : new.number ≡ k = g.number ∙ (seats_are_numbered 0 before.journal olds are.each k nobody lt ∙ plain) in
      let its = agree.told k nobody (subst (λ m. k < m) (sym w.seats) lt) in
      let whole : list_of k ≡ old.received ++ g.said = ap list_of (sym number) ∙ its.same ∙ g.received in (
        g.said,
        record {
          front = old.received;
          whole = whole;
          bare = λ empty.
              let none : old.received ≡ [] = listed 0 before.journal olds are.each k nobody lt ∙ ap (λ j. entries_of (0 + k) j) empty in
              whole ∙ ap (λ l. l ++ g.said) none;
        },
        g.are_such,
      )

  -- what stands in it stands among the seat's entries
  among : (k : ℕ) (said : List Received) → EndsList k said → (r : Received) → Has said r → Has (list_of k) r
  among k said e r h = subst (λ l. Has l r) (sym e.whole) (has_right e.front said r h)

  -- what a worker said, and the starts of its changes
  record StartsOf (wk : ℕ) (said : List Received) (start : ℕ → Ts) : Type 0 where
    ends : EndsList (wk + 1) said
    are_starts : AreStarts batches n wk (w.done wk) said start

  starts : (wk : ℕ) → (said : List Received) × (start : ℕ → Ts) × (wk < n → StartsOf wk said start)
  starts wk = elim (cases_lt wk n) [
    | inl lt ↦
        let within : wk + 1 < length olds = omega (arith, lt, some) in
        let refusal = slice_index_or refusals (wk + 1) None in
        let work = gained (IsWork (Some how) (wk + 1) observers (share_of batches n wk) (w.done wk) refusal) (wk + 1) within (w.workers wk nobody within) in
        let s = of_work batches n wk w.filled (wk + 1) observers (w.done wk) (Some how) refusal work.0 work.2 in
        (work.0, s.0, λ less. record { ends = work.1; are_starts = s.1 })
    | inr ge ↦ ([], λ j. ts 0, λ less. absurd (omega (arith, less, ge)))
  ]

  abbrev start_of : ℕ → Ts
  start_of i = (starts (i % n)).1 (i / n)

  small : (i : ℕ) → i % n < n
  small i = mod-lt i some_n

  flagged : (i : ℕ) (batch : Writes) → IsFinished batches unfinished i batch → slice_index_or (w.done (i % n)) (i / n) false ≡ true
  flagged i batch f = flag_of (is_done w.done n) (length batches) i unfinished w.unfinished_are (slice_get_within batches i batch f.there) f.not_named

  made : (i : ℕ) (batch : Writes) → IsFinished batches unfinished i batch → (m : Member) × IsMadeChange table n i batch m × (m.start ≡ (start_of i).0)
  made i batch f =
      let wk = i % n in
      let s = (starts wk).2 (small i) in
      let h = s.are_starts.made (i / n) (flagged i batch f) in
      let place : wk + i / n * n ≡ i = mod-add-div' i n in
      let same : h.batch ≡ batch = same_some h.batch batch (sym h.at ∙ ap (slice_get batches) place ∙ f.there) in
      let entered : (r : Received) → Has (starts wk).0 r → IsEntry table.journal (wk + 1) r.step r.answer = λ r k. in_journal (wk + 1) table.journal r (among (wk + 1) (starts wk).0 s.ends r k) in
      let c = h.made in (
        record { start = (start_of i).0; commit = c.commit.0; seat = wk + 1; work = Work.Script; writes = h.batch },
        record {
          there = grind arith;
          seat = refl;
          work = refl;
          writes = same;
        },
        refl,
      )

  -- ---- no others

  not_run : (k : ℕ) (u : Ts) → IsEntry table.journal k (Step.Begin Work.Script) (Answer.At u) → HasBegunRun (list_of k) u → ⊥
  not_run k u h r = grind (arith, in_journal, no_script, same_begin, table.journal, r.o, r.row, r.begun, table.state)

  abbrev IsChange : Ts → Type 0
  IsChange u = (i : ℕ) × (batch : Writes) × IsFinished batches unfinished i batch × (u.0 ≡ (start_of i).0)

  of_start : (wk : ℕ) (u : Ts) → wk < n → IsStart (w.done wk) (starts wk).1 u → IsChange u
  of_start wk u lt s =
      let i = wk + s.j * n in
      let turned : i ≡ s.j * n + wk = add_comm wk (s.j * n) in
      let worker : i % n ≡ wk = ap (λ k. k % n) turned ∙ mod-mul-add s.j n wk lt in
      let place : i / n ≡ s.j = ap (λ k. k / n) turned ∙ div-mul-add s.j n wk lt in
      let start : start_of i ≡ (starts wk).1 s.j = λ k. (starts (worker k)).1 (place k) in (grind (arith, neither, not_done, s.flag, w.done, w.unfinished_are, s.same))

  by_seat : before.journal ≡ [] → (k : ℕ) (u : Ts) → k < length olds → IsEntry table.journal k (Step.Begin Work.Script) (Answer.At u) → Has (list_of k) (commit_of u) → (k ≡ 0) ⊎ ((wk : ℕ) × (k ≡ wk + 1)) → IsChange u
  by_seat empty k u lt h c (inl is) =
      let first : 0 < length olds = omega (arith, some) in
      let refusal = slice_index_or refusals 0 None in
      let drain = gained (IsLastDrain (Some how) how.places spares 0 observers refusal) 0 first (w.main nobody) in
      let passes = of_last_drain how.places spares 0 observers refusal drain.0 drain.2 in
      let all : list_of 0 ≡ drain.0 = drain.1.bare empty in
      let run = passes.each u (subst (λ l. Has l (commit_of u)) all (subst (λ m. Has (list_of m) (commit_of u)) is c)) in
      absurd (not_run 0 u (subst (λ m. IsEntry table.journal m (Step.Begin Work.Script) (Answer.At u)) is h) (subst (λ l. HasBegunRun l u) (sym all) run))
  by_seat empty k u lt h c (inr p) =
      let wk = p.0 in
      let is = p.1 in
      let low : wk < n = omega (arith, lt, is, some) in
      let s = (starts wk).2 low in
      let all : list_of (wk + 1) ≡ (starts wk).0 = s.ends.bare empty in
      elim (s.are_starts.only u (subst (λ l. Has l (commit_of u)) all (subst (λ m. Has (list_of m) (commit_of u)) is c))) [
        | inl t ↦ of_start wk u low t
        | inr r ↦ absurd (not_run (wk + 1) u (subst (λ m. IsEntry table.journal m (Step.Begin Work.Script) (Answer.At u)) is h) (subst (λ l. HasBegunRun l u) (sym all) r))
      ]

  only : before.journal ≡ [] → (m : Member) → InHistory table.state.observers table.journal m → m.work ≡ Work.Script → IsChange (ts m.start)
  only empty m h script =
      let u : Ts = ts m.start in
      let begun : IsEntry table.journal m.seat (Step.Begin Work.Script) (Answer.At u) = subst (λ v. IsEntry table.journal m.seat (Step.Begin v) (Answer.At u)) script h.begun in
      let below : m.seat < table.state.seats = begun_by_seat (opening table.state.observers table.state.seats table.opened) table.journal table.state m.seat Work.Script u legal.run begun in
      let seats : table.state.seats ≡ length olds = sym agree.counted ∙ w.seats in
      by_seat empty m.seat u (subst (λ k. m.seat < k) seats below) begun (in_list m.seat table.journal (commit_of u) h.committed) (main_or_worker m.seat)

  -- ---- each once

  begins_at : (i : ℕ) (batch : Writes) → IsFinished batches unfinished i batch → IsEntry table.journal (i % n + 1) (Step.Begin Work.Script) (Answer.At (start_of i))
  begins_at i batch f =
      let s = (starts (i % n)).2 (small i) in
      let begin = told (Step.Begin Work.Script) (Answer.At (start_of i)) in
      in_journal (i % n + 1) table.journal begin (among (i % n + 1) (starts (i % n)).0 s.ends begin (s.are_starts.made (i / n) (flagged i batch f)).made.begun)

  -- not two of one worker
  not_both : (wk i j : ℕ) → wk < n → i < j → slice_index_or (w.done wk) i false ≡ true → slice_index_or (w.done wk) j false ≡ true → (starts wk).1 i ≡ (starts wk).1 j → ⊥
  not_both wk i j lt less e f same =
      let s = (starts wk).2 lt in
      let begin = told (Step.Begin Work.Script) (Answer.At ((starts wk).1 i)) in
      begun_once table.journal table.state tells ((starts wk).1 i) (wk + 1) Work.Script (subst (λ l. HasTwice l begin) (sym s.ends.whole) (twice_right s.ends.front (starts wk).0 begin (s.are_starts.apart i j less e f same)))

  one_place : (wk i j : ℕ) → wk < n → slice_index_or (w.done wk) i false ≡ true → slice_index_or (w.done wk) j false ≡ true → (starts wk).1 i ≡ (starts wk).1 j → i ≡ j
  one_place wk i j lt e f same = grind (arith, cases_order, not_both)

  once : (i j : ℕ) (a b : Writes) → IsFinished batches unfinished i a → IsFinished batches unfinished j b → (start_of i).0 ≡ (start_of j).0 → i ≡ j
  once i j a b f g e =
      let same : start_of i ≡ start_of j = same_ts (start_of i) (start_of j) e in
      let first : IsEntry table.journal (i % n + 1) (Step.Begin Work.Script) (Answer.At (start_of j)) = subst (λ s. IsEntry table.journal (i % n + 1) (Step.Begin Work.Script) (Answer.At s)) same (begins_at i a f) in
      let seats = (same_begin table.journal table.state tells (start_of j) (i % n + 1) (j % n + 1) Work.Script Work.Script first (begins_at j b g)).0 in
      let worker : j % n ≡ i % n = omega (arith, seats) in
      let its : (starts (j % n)).1 (j / n) ≡ (starts (i % n)).1 (j / n) = ap (λ k. (starts k).1 (j / n)) worker in
      let place : i / n ≡ j / n = one_place (i % n) (i / n) (j / n) (small i) (flagged i a f) (subst (λ k. slice_index_or (w.done k) (j / n) false ≡ true) worker (flagged j b g)) (same ∙ its) in
      let left : i % n + i / n * n ≡ i = mod-add-div' i n in
      let right : j % n + j / n * n ≡ j = mod-add-div' j n in
      let joined : j % n + j / n * n ≡ i % n + i / n * n = λ k. worker k + sym place k * n in
      sym left ∙ sym joined ∙ right

-- a change's start is the one that its worker's list records, and no other script's transaction is committed
pub changes_are_made : TransactionsAreTold → ChangesAreMade
changes_are_made tell how observers batches spares olds news refusals unfinished before table are some w legal agree =
    let tells = tell table.state.observers table.state.seats table.opened table.journal table.state legal in
    record {
      start = λ i. (start_of observers batches spares olds news refusals unfinished before table are some w legal agree tells i).0;
      made = made observers batches spares olds news refusals unfinished before table are some w legal agree tells;
      only = only observers batches spares olds news refusals unfinished before table are some w legal agree tells;
      once = once observers batches spares olds news refusals unfinished before table are some w legal agree tells;
    }
