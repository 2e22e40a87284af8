-- A log that was opened: what it has, and the table that its changes led to.
use Rattle.std.specs.Prelude.{◌≡◌, ℕ, List, length}
use Rattle.pb_keep.specs.Words.{IsFirstTable, KeepsFrom, KeptTable, ObserverOf, Writes}
use Rattle.pb_keep.specs.Conversations.{KeeperView}
use Rattle.pb_keep.specs.Kept.{reported_count, kept_since, HasChanges, IsFirstOf, IsLogOf, Origin}

-- The file was a log of this manifest and of the limit that the keeper has, and is at rest now. It begins with an origin, and the table with what that has; then all changes
-- were made, if such a table is one with which a generation begins. So many are reported.
pub record IsOpenedLog (manifest file : List ℕ) (observers : List ObserverOf) (n : ℕ) (k : KeeperView) : Type 0 where
  pub origin : Origin
  pub limit_is : origin.limit ≡ k.limit
  pub manifest_is : origin.manifest ≡ manifest
  pub first : KeptTable
  pub first_is : IsFirstOf observers origin.snapshot first
  pub changes : List Writes
  pub had : HasChanges origin changes file
  pub log : IsLogOf origin changes k.seen k.may_leave k.end
  pub since : k.since ≡ kept_since origin
  pub keeps : (past : List Writes) → IsFirstTable past first → KeepsFrom k.limit first changes k.table
  pub count : n ≡ reported_count (length changes)
