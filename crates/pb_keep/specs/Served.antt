-- The lines of an input, as they are served.
use Rattle.std.specs.Prelude.{◌≡◌, ◌≢◌, ◌≤◌, ℕ, Bool, false, true, List, [], ◌∷◌, ◌++◌, Option, Ok}
use Rattle.pb_keep.specs.Conversations.{Beginning, KeeperView, LeavesFirst, Serves}
use Rattle.pb_keep.specs.Words.{Request}
use Rattle.pb_keep.specs.declared.service.Paused.{Paused}
use Rattle.pb_keep.specs.declared.service.Went.{Went}
use Rattle.pb_keep.specs.declared.take.Took.{Took}
use Rattle.pb_keep.specs.declared.waiting.Waiting.{Waiting}
use Rattle.pb_keep.specs.Waits.{IsNoLine, IsOpenGroup}
use Rattle.pb_keep.specs.Held.{IsReadAs}
use Rattle.pb_keep.specs.Input.{AreLinesRead, HasNoLine, IsNextLine}

-- these lines and those that were read of the input are served
pub record ServesRead (b : Beginning) (lines : List (List ℕ)) (from to : Option (List ℕ)) (k : KeeperView) : Type 0 where
  pub more : List (List ℕ)
  pub read : AreLinesRead from more to
  pub serves : Serves b (lines ++ more) k

-- All lines of the input are served, and no line waits but those of a group without its end. All that came before its `begin` is
-- answered.
pub record ServesAll (b : Beginning) (lines : List (List ℕ)) (from : Option (List ℕ)) (k : KeeperView) : Type 0 where
  pub to : Option (List ℕ)
  pub read : ServesRead b lines from to k
  pub ended : HasNoLine to
  pub kept : k.waiting.is_group ≡ false → IsNoLine k.waiting
  pub open_group : k.waiting.is_group ≡ true → IsOpenGroup k.waiting.items.items

-- a crash leaves the changes of the first of these lines and of those that were read of the input
pub record LeavesRead (b : Beginning) (lines : List (List ℕ)) (from : Option (List ℕ)) (written : Option (List ℕ)) (file : List ℕ) : Type 0 where
  pub more : List (List ℕ)
  pub to : Option (List ℕ)
  pub read : AreLinesRead from more to
  pub leaves : LeavesFirst b (lines ++ more) written file

-- A line asks for this after these, which are all answered. It stands in no group, since one without its end isn't answered.
pub record IsAskedOfLog (b : Beginning) (lines : List (List ℕ)) (line : List ℕ) (request : Request) (k : KeeperView) : Type 0 where
  pub serves : Serves b lines k
  pub idle : IsNoLine k.waiting
  pub asks : IsReadAs line (Ok request)

-- a line more is served, or it asks for a compaction, or for a copy of the log
abbrev pub ServesLine : Beginning → List (List ℕ) → List ℕ → KeeperView → Took → Type 0
ServesLine b lines line k Took.Served = Serves b (lines ++ line ∷ []) k
ServesLine b lines line k Took.Asked = IsAskedOfLog b lines line Request.Compact k
ServesLine b lines line k (Took.Copy number) = IsAskedOfLog b lines line (Request.Copy number) k

-- a line was read, and is served or asks something of the log; or the input has no line left
abbrev pub ServesNext : Beginning → List (List ℕ) → Option (List ℕ) → Option (List ℕ) → KeeperView → Went → Type 0
ServesNext b lines from to k (Went.Line took) = (line : List ℕ) × IsNextLine line from to × ServesLine b lines line k took
ServesNext b lines from to k Went.End = HasNoLine from × Serves b lines k

-- where the input has ended, no line waits but those of a group without its end
abbrev pub IsKeptAtEnd : Went → Waiting → Type 0
IsKeptAtEnd (Went.Line took) waiting = Unit {0}
IsKeptAtEnd Went.End waiting = waiting.is_group ≡ false → IsNoLine waiting

-- ---- where a service pauses

-- why lines are taken no further after a turn, where the log is large or not
abbrev pub IsPauseAfter : Went → Bool → Paused → Type 0
IsPauseAfter went large Paused.Ended = went ≡ Went.End
IsPauseAfter went large Paused.Asked = went ≡ Went.Line Took.Asked
IsPauseAfter went large (Paused.Copy number) = went ≡ Went.Line (Took.Copy number)
IsPauseAfter went large Paused.Large = (went ≡ Went.Line Took.Served) × (large ≡ true)

-- some lines of the input are served, and then a line was read that asks for this of the log
pub record ServesToAsked (b : Beginning) (lines : List (List ℕ)) (request : Request) (from to : Option (List ℕ)) (k : KeeperView) : Type 0 where
  pub more : List (List ℕ)
  pub between : Option (List ℕ)
  pub read : AreLinesRead from more between
  pub line : List ℕ
  pub next : IsNextLine line between to
  pub asked : IsAskedOfLog b (lines ++ more) line request k

-- one line of the input at least is served, none waits, and the log has so many bytes
pub record ServesToLarge (b : Beginning) (lines : List (List ℕ)) (limit : ℕ) (from to : Option (List ℕ)) (k : KeeperView) : Type 0 where
  pub read : ServesRead b lines from to k
  pub some : read.more ≢ []
  pub idle : IsNoLine k.waiting
  pub large : limit ≤ k.end

-- what is served where a service with this limit of bytes pauses, and what is left of the input then
abbrev pub ServesUntil : Beginning → List (List ℕ) → ℕ → Option (List ℕ) → Option (List ℕ) → KeeperView → Paused → Type 0
ServesUntil b lines limit from to k Paused.Ended = ServesAll b lines from k
ServesUntil b lines limit from to k Paused.Asked = ServesToAsked b lines Request.Compact from to k
ServesUntil b lines limit from to k (Paused.Copy number) = ServesToAsked b lines (Request.Copy number) from to k
ServesUntil b lines limit from to k Paused.Large = ServesToLarge b lines limit from to k
