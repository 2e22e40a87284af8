-- What is committed in passes are runs of observers that began there.
use Rattle.std.proofs.Common.{arith, ◌≡◌, ◌≢◌, ℕ, inl, inr, List, [], ◌∷◌, ◌++◌, Option, Some, None, refl, sym, ap, subst, ◌∙◌, append-nil}
use Rattle.pb_worker.specs.Words.{Cell, Row, Ts, Refusal, row_of, Work, Step, Answer, ObserverOf, Received, Has, told, watch_of, OpeningOf, IsRun, IsDrain, IsRunBegun, IsDrainBegun, Spare, IsDrainTo, IsLastDrain}
use Rattle.pb_passes.proofs.Drains.{HoldsOfRuns, of_drain, of_drain_begun}
use Rattle.pb_ending.proofs.Walks.{same_first_received}
use Rattle.pb_worker.proofs.Committing.{commit_of}
use Rattle.pb_worker.proofs.OneTransaction.{IsOneTransaction, of_run}
use Rattle.pb_history.proofs.Updates.{has_before as has_left, has_right, has_which}

-- a run of an observer began with this start
pub record HasBegunRun (said : List Received) (u : Ts) : Type 0 where
  pub o : ℕ
  pub row : Row
  pub begun : Has said (told (Step.Begin (Work.Run o row)) (Answer.At u))

-- each transaction that was committed is a run's, and began there
pub record CommitRuns (said : List Received) : Type 0 where
  pub each : (u : Ts) → Has said (commit_of u) → HasBegunRun said u

-- ---- lists

pub run_left : (xs ys : List Received) (u : Ts) → HasBegunRun xs u → HasBegunRun (xs ++ ys) u
run_left xs ys u b = record { o = b.o; row = b.row; begun = has_left xs ys _ b.begun }

pub run_right : (xs ys : List Received) (u : Ts) → HasBegunRun ys u → HasBegunRun (xs ++ ys) u
run_right xs ys u b = record { o = b.o; row = b.row; begun = has_right xs ys _ b.begun }

-- an empty conversation commits nothing
nothing : CommitRuns []
nothing = record { each = λ u h. absurd h }

-- what holds of two parts holds of both
both : (xs ys : List Received) → CommitRuns xs → CommitRuns ys → CommitRuns (xs ++ ys)
both xs ys h k = record { each = λ u has. elim (has_which xs ys (commit_of u) has) [ inl a ↦ run_left xs ys u (h.each u a) | inr b ↦ run_right xs ys u (k.each u b) ] }

and_first : (r : Received) (rs : List Received) → ((u : Ts) → r.step ≢ Step.CommitPrimary u) → CommitRuns rs → CommitRuns (r ∷ rs)
and_first r rs other more = grind arith

-- ---- a run, whole or cut off

-- the beginning of a run's conversation commits that run alone, which begins first
of_beginning : (o : ℕ) (row : Row) (s : Ts) (said rest : List Received) → IsOneTransaction (Work.Run o row) s (said ++ rest) → CommitRuns said
of_beginning o row s [] rest i = nothing
of_beginning o row s (r ∷ said) rest i = record {
  each = λ u h.
      let own : u ≡ s = i.own.each (commit_of u) (has_left (r ∷ said) rest (commit_of u) h) u refl in
      let first : r ≡ told (Step.Begin (Work.Run o row)) (Answer.At s) = same_first_received r (told (Step.Begin (Work.Run o row)) (Answer.At s)) (said ++ rest) i.rest i.said_is in
      record { o = o; row = row; begun = inl (first ∙ ap (λ (z : Ts). told (Step.Begin (Work.Run o row)) (Answer.At z)) (sym own)) };
}

-- so a whole run
run_commits : (observers : List ObserverOf) (n : ℕ) (x : Cell) (said : List Received) → IsRun observers n x said → CommitRuns said
run_commits observers n x said r =
    let k = of_run (watch_of n r.o (row_of x)) said r.end r.whole.run r.whole.talk in
    of_beginning n (row_of x) k.0 said [] (subst (IsOneTransaction (Work.Run n (row_of x)) k.0) (sym (append-nil said)) k.1)

-- and one that was cut off
run_begun : (observers : List ObserverOf) (next : Option Step) (i : ℕ) (x : Cell) (said : List Received) → IsRunBegun observers i x next said → CommitRuns said
run_begun observers next i x said s =
    let b = s.run.begins in
    let k = of_run (watch_of i s.o (row_of x)) (said ++ b.0) b.1.0 b.1.1 b.1.2 in
    of_beginning i (row_of x) k.0 said b.0 k.1

-- ---- passes

-- between the marks there are only runs, and to ask for a mark commits nothing
of_each : (observers : List ObserverOf) → HoldsOfRuns observers CommitRuns
of_each observers = record {
  adds = record { nothing = nothing; both = both };
  mark = λ after a. and_first (told (Step.NextMark after) a) [] (λ u e. cc) nothing;
  run = run_commits observers;
}

pub drain_commits_runs : (observers : List ObserverOf) (said : List Received) → IsDrain observers said → CommitRuns said
drain_commits_runs observers = of_drain observers (of_each observers)

-- so it is where they were cut off
pub begun_drain_commits_runs : (observers : List ObserverOf) (next : Option Step) (said : List Received) → IsDrainBegun observers next said → CommitRuns said
begun_drain_commits_runs observers next = of_drain_begun observers (of_each observers) next (run_begun observers next)

of_drain_to : (opens : Option OpeningOf) (seat : ℕ) (observers : List ObserverOf) (r : Option Refusal) (said : List Received) → IsDrainTo opens seat observers r said → CommitRuns said
of_drain_to opens seat observers None said d = drain_commits_runs observers said d
of_drain_to opens seat observers (Some r) said d = begun_drain_commits_runs observers d.next said d.begun

-- so the main seat commits no script's transaction
pub of_last_drain : {opens : Option OpeningOf} (places : ℕ) (spares : List Spare) (seat : ℕ) (observers : List ObserverOf) (r : Option Refusal) (said : List Received) → IsLastDrain opens places spares seat observers r said → CommitRuns said
of_last_drain {opens} places spares seat observers r said d = of_drain_to opens seat observers d.drained said d.drain
