-- A log of which the first changes were made again: as many as may be, or those before one that was stopped.
use Rattle.std.specs.Prelude.{◌≡◌, ℕ, false, List, ◌++◌, length, Option}
use Rattle.pb_keep.specs.Words.{IsFirstTable, KeepsFrom, KeptTable, ObserverOf, StateOf, Writes}
use Rattle.pb_keep.specs.declared.fault.KeepFault.{KeepFault}
use Rattle.pb_keep.specs.declared.opened.Opened.{Opened}
use Rattle.pb_keep.specs.Again.{IsBrokenOff}
use Rattle.pb_keep.specs.Conversations.{KeeperView}
use Rattle.pb_keep.specs.First.{first_changes, is_full}
use Rattle.pb_keep.specs.Kept.{reported_count, kept_since, HasLog, IsLogOf}
use Rattle.pb_keep.specs.Left.{IsOfMaking, IsRightOf}

-- The log has all of its changes, and is at rest. The first of them were made, as many as may be, if such a table is one with which a
-- generation begins. So many are reported of so many.
pub record IsOpenedFirst (observers : List ObserverOf) (manifest file : List ℕ) (most : Option ℕ) (made all : ℕ) (k : KeeperView) : Type 0 where
  pub found : HasLog k.limit observers manifest file
  pub log : IsLogOf found.origin found.changes k.seen k.may_leave k.end
  pub since : k.since ≡ kept_since found.origin
  pub keeps : (past : List Writes) → IsFirstTable past found.first → KeepsFrom k.limit found.first (first_changes most found.changes) k.table
  pub made_is : made ≡ reported_count (length (first_changes most found.changes))
  pub all_is : all ≡ reported_count (length found.changes)

-- The change after these was stopped, of which a beginning may stand in the table: for want of memory, or since the last timestamp is
-- given out, if the table is one with which a generation begins.
pub record IsStoppedAfter (limit : ℕ) (observers : List ObserverOf) (manifest file : List ℕ) (new : StateOf) (made : ℕ) (why : KeepFault) : Type 0 where
  pub found : HasLog limit observers manifest file
  pub done : List Writes
  pub rest : List Writes
  pub parts : found.changes ≡ done ++ rest
  pub reached : KeptTable
  pub keeps : (past : List Writes) → IsFirstTable past found.first → KeepsFrom limit found.first done reached
  pub left : IsBrokenOff reached.state new
  pub made_is : made ≡ reported_count (length done)
  pub of_making : IsOfMaking why
  pub right : (past : List Writes) → IsFirstTable past found.first → IsRightOf new why

-- how far a log was opened
abbrev pub IsOpenedTo : List ObserverOf → List ℕ → List ℕ → Option ℕ → KeeperView → Opened → Type 0
IsOpenedTo observers manifest file most k (Opened.Made made all) = IsOpenedFirst observers manifest file most made all k
IsOpenedTo observers manifest file most k (Opened.Stopped made why) = IsStoppedAfter k.limit observers manifest file k.table.state made why

-- no change was stopped
abbrev pub IsNotStopped : Opened → Type 0
IsNotStopped (Opened.Made made all) = Unit {0}
IsNotStopped (Opened.Stopped made why) = ⊥

-- where a change was stopped, fewer were made than may be: so another try, of these alone, is of fewer
abbrev pub MakesFewer : Option ℕ → Opened → Type 0
MakesFewer most (Opened.Made made all) = Unit {0}
MakesFewer most (Opened.Stopped made why) = is_full most made ≡ false
