-- A log that was replaced by one which begins with a snapshot of its table.
use Rattle.std.specs.Prelude.{◌≡◌, ℕ, List}
use Rattle.pb_keep.specs.Words.{KeptTable}
use Rattle.pb_keep.specs.Anew.{BeginsAnew}
use Rattle.pb_keep.specs.Conversations.{KeeperView}

-- a log begins with a snapshot of this table, wherever it ends
abbrev pub HasBegunAnew : ℕ → List ℕ → KeptTable → ℕ → List ℕ → (List ℕ → Type 0) → Type 0
HasBegunAnew limit manifest table n seen may_leave = (end : ℕ) × BeginsAnew limit manifest table n seen may_leave end

-- A keeper goes on with the log that has replaced that of this table: it begins with a snapshot of the table, and has no change. All writes
-- above the table's last timestamp will be there.
pub record IsReplacedBy (limit : ℕ) (manifest : List ℕ) (table : KeptTable) (n : ℕ) (k : KeeperView) : Type 0 where
  pub log : BeginsAnew limit manifest table n k.seen k.may_leave k.end
  pub since : k.since ≡ table.state.clock
