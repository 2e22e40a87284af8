-- How commits stand to starts (OSDI 2010, section 2.3).
use Rattle.std.specs.Prelude.{◌≡◌, ℕ, ◌<◌, List, ◌∷◌, ◌++◌}
use Rattle.pb_history.specs.Words.{Ts, Work, Step, Answer, StateOf}
use Rattle.pb_history.specs.declared.entry.Entry.{Entry}
use Rattle.pb_history.specs.History.{IsEntry, Member, InHistory}

-- the entry by which a transaction was answered `Committed`
abbrev pub commit_entry : Member → Entry
commit_entry m = record { seat = m.seat; step = Step.CommitPrimary (record { 0 = m.start }); answer = Answer.Committed }

-- A commit is above its start, and what begins after a transaction was answered `Committed` begins above its commit,
-- and so has it in its snapshot.
pub record TellsCommitOrder (journal : List Entry) (state : StateOf) : Type 0 where
  pub above : (m : Member) → InHistory state.observers journal m → m.start < m.commit
  pub seen : (m : Member) → InHistory state.observers journal m → (before after : List Entry) → journal ≡ before ++ commit_entry m ∷ after → (seat : ℕ) (work : Work) (s : Ts) → IsEntry after seat (Step.Begin work) (Answer.At s) → m.commit < s.0
