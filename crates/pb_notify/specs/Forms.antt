-- The conversations of a run of an observer on a cell (OSDI 2010, section 2.4). Each goes on from an earlier part, and
-- counts the reads that met a lock.
use Rattle.std.specs.Prelude.{◌≡◌, ◌≢◌, ℕ, suc, ◌<◌, ◌≤◌, List, [], ◌∷◌, ◌++◌, Option, Some, None}
use Rattle.pb_notify.specs.Words.{Cell, Ts, Revision, Talk, tells_old, record_by, Meant, IsMeant, Seen, Work, Declared, Step, Answer, CanAnswer, old_at, version_in, acknowledged_in, asked_cell, value_in, Received, Outcome, declared_cells, told, IsWhole, read_step, IsBeginningOf}
use Rattle.pb_isa.specs.Machine as machine
use Rattle.pb_notify.specs.declared.look.TheConstants.{MAX_LOCKED}
use Rattle.pb_notify.specs.declared.need.JobEnd.{JobEnd}
use Rattle.pb_notify.specs.Runs.{Watch, RunOf, fresh, need_of}
use Rattle.pb_notify.specs.declared.need.Need.{Need}
use Rattle.pb_notify.specs.Conversations.{Reaches}

-- ---- looks

-- a read that met a lock, and how the lock was cleared
pub data IsRound (s : Ts) (x : Cell) (at : Option Ts) : List Received → Type 0 where
  cleared : (t : Ts) (primary : Cell) (a : Answer) → CanAnswer (Step.Clear x) a → a ≢ Answer.Waits → IsRound s x at (told (read_step s x at) (Answer.Locked t primary) ∷ told (Step.Clear x) a ∷ [])
  settled : (t : Ts) (primary : Cell) (a b : Answer) → CanAnswer (Step.Settle primary) a → CanAnswer (Step.Clear x) b
      → IsRound s x at (told (read_step s x at) (Answer.Locked t primary) ∷ told (Step.Clear x) Answer.Waits ∷ told (Step.Settle primary) a ∷ told (Step.Clear x) b ∷ [])

-- any number of them, after a conversation with so many locks met
pub data AreRounds (s : Ts) (x : Cell) (at : Option Ts) (m : ℕ) (base : List Received) : ℕ → List Received → Type 0 where
  at_first : AreRounds s x at m base m base
  one_more : (n : ℕ) (said round : List Received) → AreRounds s x at m base n said → IsRound s x at round → AreRounds s x at m base (suc n) (said ++ round)

-- a read was answered, and no lock was in the way
abbrev pub IsHeld : Answer → Type 0
IsHeld (Answer.Found start commit content) = Unit {0}
IsHeld Answer.Absent = Unit {0}
IsHeld _ = ⊥

-- a look at a cell: rounds, and a read that was answered with what the cell holds
pub record IsLooked (s : Ts) (x : Cell) (at : Option Ts) (m : ℕ) (base : List Received) (n : ℕ) (said : List Received) : Type 0 where
  pub before : List Received
  pub rounds : AreRounds s x at m base n before
  pub answer : Answer
  pub held : IsHeld answer
  pub said_is : said ≡ before ++ told (read_step s x at) answer ∷ []

-- a look at a cell that isn't at its end: the conversation since is a beginning of one, and no more
pub record IsLooking (s : Ts) (x : Cell) (at : Option Ts) (m : ℕ) (base said : List Received) : Type 0 where
  pub since : List Received
  pub said_is : said ≡ base ++ since
  pub next : Received
  pub rest : List Received
  pub n : ℕ
  pub look : IsLooked s x at m base n (said ++ next ∷ rest)

-- ---- the parts of a run of this observer on its cell

-- the first step of the run, and its start
abbrev pub its_begin : Watch → Ts → List Received
its_begin o s = told (Step.Begin (Work.Run o.observer o.row)) (Answer.At s) ∷ []

-- the cell was looked at, and holds this version
pub record IsObserved (o : Watch) (s : Ts) (found : Revision) (n : ℕ) (said : List Received) : Type 0 where
  pub look : IsLooked s (Cell.Data o.row o.column) None 0 (its_begin o s) n said
  pub found_is : version_in look.answer ≡ Some found

-- then its acknowledgment
pub record IsAcknowledged (o : Watch) (s : Ts) (seen : Seen) (n : ℕ) (said : List Received) : Type 0 where
  pub met : ℕ
  pub base : List Received
  pub observed : IsObserved o s seen.version met base
  pub look : IsLooked s (Cell.Ack o.observer o.row o.column) None met base n said
  pub acknowledged : seen.acknowledged ≡ acknowledged_in look.answer

-- then the cell as of a timestamp, if it is looked at so
abbrev pub IsRecalled : Watch → Ts → Seen → Option Ts → ℕ → List Received → Type 0
IsRecalled o s seen None n said = (seen.old ≡ None) × IsAcknowledged o s seen n said
IsRecalled o s seen (Some t) n said =
    (m : ℕ) × (base : List Received) × IsAcknowledged o s seen m base × (look : IsLooked s (Cell.Data o.row o.column) (Some t) m base n said) × (seen.old ≡ value_in look.answer)

-- where the version is newer: the cell as of the acknowledged timestamp, if the program is given that, and a look at
-- each cell that its machine asked for, with these asks and replies
pub data AreAsked (o : Watch) (s : Ts) (seen : Seen) : Talk → ℕ → List Received → Type 0 where
  dirty : (n : ℕ) (said : List Received) → IsRecalled o s seen (old_at (tells_old o.judged) seen.acknowledged) n said → seen.acknowledged.0 < seen.version.commit.0 → AreAsked o s seen [] n said
  asked : (talk : Talk) (m : ℕ) (base : List Received) (q : machine.Ask) (n : ℕ) (said : List Received) → AreAsked o s seen talk m base
      → (look : IsLooked s (asked_cell q) None m base n said) → AreAsked o s seen (talk ++ (q, value_in look.answer) ∷ []) n said

-- a run of the program on the record of what was seen, with these asks and replies
pub record IsRunOn (o : Watch) (s : Ts) (seen : Seen) (talk : Talk) (f : Meant) : Type 0 where
  pub program : f.judged ≡ o.judged
  pub bytes : f.bytes ≡ record_by (tells_old o.judged) (Cell.Data o.row o.column) seen.version seen.acknowledged.0 seen.old
  pub start : f.start ≡ s.0
  pub talk_is : f.talk ≡ talk

-- where a look at a cell begins
pub data LooksFrom (o : Watch) (s : Ts) : Cell → Option Ts → ℕ → List Received → Type 0 where
  at_cell : LooksFrom o s (Cell.Data o.row o.column) None 0 (its_begin o s)
  at_acknowledgment : (found : Revision) (n : ℕ) (said : List Received) → IsObserved o s found n said → LooksFrom o s (Cell.Ack o.observer o.row o.column) None n said
  at_old : (seen : Seen) (t : Ts) (n : ℕ) (said : List Received) → IsAcknowledged o s seen n said → seen.acknowledged.0 < seen.version.commit.0 → old_at (tells_old o.judged) seen.acknowledged ≡ Some t
      → LooksFrom o s (Cell.Data o.row o.column) (Some t) n said
  at_ask : (seen : Seen) (talk : Talk) (n : ℕ) (said : List Received) (q : machine.Ask) → AreAsked o s seen talk n said → LooksFrom o s (asked_cell q) None n said

-- ---- whole conversations, with their ends and the run that they declared

-- a whole conversation, by how it ended: each but the last has met fewer locks than it may
pub data IsRunConversation (o : Watch) : List Received → JobEnd → Option Meant → Type 0 where
  -- the cell was absent
  absent : (s : Ts) (n : ℕ) (said : List Received) (w : Answer) (look : IsLooked s (Cell.Data o.row o.column) None 0 (its_begin o s) n said) → version_in look.answer ≡ None → n < MAX_LOCKED
      → CanAnswer (Step.Sweep (Cell.Data o.row o.column)) w → IsRunConversation o (said ++ told (Step.Sweep (Cell.Data o.row o.column)) w ∷ []) JobEnd.Clean None
  -- its version is acknowledged
  clean : (s : Ts) (seen : Seen) (n : ℕ) (said : List Received) (w : Answer) → IsAcknowledged o s seen n said → seen.version.commit.0 ≤ seen.acknowledged.0 → n < MAX_LOCKED
      → CanAnswer (Step.Sweep (Cell.Data o.row o.column)) w → IsRunConversation o (said ++ told (Step.Sweep (Cell.Data o.row o.column)) w ∷ []) JobEnd.Clean None
  -- the run was declared, and committed
  ran : (s : Ts) (seen : Seen) (talk : Talk) (n : ℕ) (said plan : List Received) (f : Meant) (c : Ts) (w : Answer) → AreAsked o s seen talk n said → n < MAX_LOCKED
      → IsRunOn o s seen talk f → IsWhole s (Declared.Run o.observer f) (declared_cells (Declared.Run o.observer f)) plan (Outcome.Committed c)
      → CanAnswer (Step.Sweep (Cell.Data o.row o.column)) w → IsRunConversation o ((said ++ plan) ++ told (Step.Sweep (Cell.Data o.row o.column)) w ∷ []) (JobEnd.Ran f.result) (Some f)
  conflicted : (s : Ts) (seen : Seen) (talk : Talk) (n : ℕ) (said plan : List Received) (f : Meant) → AreAsked o s seen talk n said → n < MAX_LOCKED
      → IsRunOn o s seen talk f → IsWhole s (Declared.Run o.observer f) (declared_cells (Declared.Run o.observer f)) plan Outcome.Conflicted
      → IsRunConversation o (said ++ plan) JobEnd.Conflicted (Some f)
  lost : (s : Ts) (seen : Seen) (talk : Talk) (n : ℕ) (said plan : List Received) (f : Meant) → AreAsked o s seen talk n said → n < MAX_LOCKED
      → IsRunOn o s seen talk f → IsWhole s (Declared.Run o.observer f) (declared_cells (Declared.Run o.observer f)) plan Outcome.Lost
      → IsRunConversation o (said ++ plan) JobEnd.Lost (Some f)
  -- a look met the last lock that its reads may meet
  blocked : (s : Ts) (x : Cell) (at : Option Ts) (m : ℕ) (base : List Received) (n : ℕ) (said : List Received) (t : Ts) (primary : Cell) → LooksFrom o s x at m base
      → AreRounds s x at m base n said → suc n ≡ MAX_LOCKED → IsRunConversation o (said ++ told (read_step s x at) (Answer.Locked t primary) ∷ []) JobEnd.Blocked None

-- a whole one, whatever its end and the run that it declared
abbrev pub IsSomeRun : Watch → List Received → Type 0
IsSomeRun o said = (end : JobEnd) × (run : Option Meant) × IsRunConversation o said end run

-- a beginning of one
abbrev pub BeginsRun : Watch → List Received → Type 0
BeginsRun o said = IsBeginningOf (IsSomeRun o) said

-- what a job has asked so far is such a beginning
abbrev pub JobsConverse : Type 0
JobsConverse = (o : Watch) (said : List Received) (k : RunOf) → Reaches (fresh o) said k → BeginsRun o said

-- a run that was declared is what its program means
abbrev pub WasMeant : Option Meant → Type 0
WasMeant None = Unit {0}
WasMeant (Some f) = IsMeant f

-- and where it is over, a whole one with its end
abbrev pub JobsEnd : Type 0
JobsEnd = (o : Watch) (said : List Received) (k : RunOf) (end : JobEnd) → Reaches (fresh o) said k → need_of k ≡ Need.Over end
    → (run : Option Meant) × IsRunConversation o said end run × WasMeant run

-- this job came to its end so by a whole conversation, and what it declared, if it did, is what its program means
pub record IsWholeRun (first : RunOf) (end : JobEnd) (said : List Received) : Type 0 where
  pub job : RunOf
  pub reaches : Reaches first said job
  pub over : need_of job ≡ Need.Over end
  pub run : Option Meant
  pub talk : IsRunConversation first.watch said end run
  pub meant : WasMeant run
