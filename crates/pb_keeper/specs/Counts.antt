-- How many runs of observers were committed, read off what the only seat said.
use Rattle.std.specs.Prelude.{◌≡◌, ℕ, Bool, true, false, List, count_by}
use Rattle.std.specs.Io.Iter.{u64_saturate}
use Rattle.pb_keeper.specs.Words.{Cell, ObserverOf, Step, Answer, Received, JobEnd, IsRun}

-- the step commits a transaction, at its primary (OSDI 2010, section 2.2)
abbrev pub is_primary_commit : Step → Answer → Bool
is_primary_commit (Step.CommitPrimary start) Answer.Committed = true
is_primary_commit _ _ = false

-- how many transactions were committed
abbrev pub commit_count : List Received → ℕ
commit_count said = count_by (λ r. is_primary_commit r.step r.answer) said

-- the conversation is of this form, and so many transactions were committed in it, as far as 64 bits can say
pub record CountsCommits (P : List Received → Type 0) (n : ℕ) (said : List Received) : Type 0 where
  pub form : P said
  pub count : n ≡ u64_saturate (commit_count said)

-- how many transactions a run that ended so has committed
abbrev pub commits_of_end : JobEnd → ℕ
commits_of_end (JobEnd.Ran result) = 1
commits_of_end _ = 0

-- a run commits once if it ended so, and else not at all: so the commits in a drain are as many as its runs that ended so
abbrev pub RunsCommitOnce : Type 0
RunsCommitOnce = (observers : List ObserverOf) (n : ℕ) (x : Cell) (said : List Received) (run : IsRun observers n x said) → commit_count said ≡ commits_of_end run.end
