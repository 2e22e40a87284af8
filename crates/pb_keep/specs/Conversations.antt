-- What was answered to lines, and what a log and a table have of them: the lines as they came, one after the other.
use Rattle.std.specs.Prelude.{◌≡◌, ◌⊎◌, ◌==◌, ℕ, ◌+◌, ◌≤◌, List, [], ◌∷◌, ◌++◌, length, Option}
use Rattle.std.specs.Io.KnownBytes.{Appends}
use Rattle.pb_keeper.specs.declared.room.TheConstants.{MAX_CLOCK}
use Rattle.pb_keep.specs.Words.{AppendsPart, MAX_CHANGES, Keeps, KeptTable, StateOf, Writes, kept_table}
use Rattle.pb_keep.specs.declared.keeper.Keeper.{Keeper}
use Rattle.pb_keep.specs.declared.waiting.Waits.{Waits}
use Rattle.pb_keep.specs.declared.waiting.Waiting.{Waiting}
use Rattle.pb_keep.specs.Kept.{kept_since, HasChanges, IsLogOf, Origin}
use Rattle.pb_keep.specs.Waits.{changes_in, AreSomeAnswers, Group, group_after, group_of, IsAnswer}
use Rattle.pb_keep.specs.Held.{IsAsked, IsLineHeld}

-- Lines are answered one after the other, from this table on, which has all writes above `since`: these changes were made, and this
-- text is the answers. The group is that in which the next line stands, and the number that of the changes of its record so far, which are
-- few. A record ends outside of a group, and before a question. Its first change is refused where the table has no room for it.
pub data AreAnswered (since limit : ℕ) (start : KeptTable) : List (List ℕ) → List Writes → Group → ℕ → KeptTable → List ℕ → Type 0 where
  none_yet : AreAnswered since limit start [] [] Group.alone 0 start []
  one_answered : (lines : List (List ℕ)) (line : List ℕ) (made : List Writes) (group : Group) (n : ℕ) (item : Waits) (between new : KeptTable) (text more : List ℕ) → AreAnswered since limit start lines made group n between text
      → IsLineHeld limit (n == 0) group between.state line item → IsAnswer limit item between new more → n + length (changes_in (item ∷ [])) ≤ MAX_CHANGES
      → AreAnswered since limit start (lines ++ line ∷ []) (made ++ changes_in (item ∷ [])) (group_after group (length line) item) (n + length (changes_in (item ∷ []))) new (text ++ more)
  one_asked : (lines : List (List ℕ)) (line : List ℕ) (made : List Writes) (n : ℕ) (table : KeptTable) (text more : List ℕ) → AreAnswered since limit start lines made Group.alone n table text → IsAsked since table line more
      → AreAnswered since limit start (lines ++ line ∷ []) made Group.alone 0 table (text ++ more)
  record_ended : (lines : List (List ℕ)) (made : List Writes) (n : ℕ) (table : KeptTable) (text : List ℕ) → AreAnswered since limit start lines made Group.alone n table text → AreAnswered since limit start lines made Group.alone 0 table text

-- Lines wait as these, from this state on, on a table of this limit of entries. Only those before which no change waits may depend on the
-- state: the others wait so in each.
pub data AreHeld (limit : ℕ) (state : StateOf) : List (List ℕ) → List Waits → Group → Type 0 where
  none_held : AreHeld limit state [] [] Group.alone
  one_held : (lines : List (List ℕ)) (line : List ℕ) (items : List Waits) (item : Waits) (group : Group) → AreHeld limit state lines items group → ((s : StateOf) → (changes_in items ≡ [] → s ≡ state) → IsLineHeld limit (length (changes_in items) == 0) group s line item) → AreHeld limit state (lines ++ line ∷ []) (items ++ item ∷ []) (group_after group (length line) item)

-- where lines begin to be taken: a log of this origin, with these changes, the table before them, a table that keeps them, and what was
-- written by then
pub record Beginning : Type 0 where
  pub origin : Origin
  pub first : KeptTable
  pub changes : List Writes
  pub table : KeptTable
  pub written : Option (List ℕ)

abbrev pub beginning : Origin → KeptTable → List Writes → KeptTable → Option (List ℕ) → Beginning
beginning origin first changes table written = record { origin = origin; first = first; changes = changes; table = table; written = written }

-- a keeper and its output: what its disk has and what a crash may leave there, where its log ends, its table, the commit above which
-- all writes are there, the lines that wait, and what was written
pub record KeeperView : Type 1 where
  pub seen : List ℕ
  pub may_leave : List ℕ → Type 0
  pub end : ℕ
  pub table : KeptTable
  pub since : ℕ
  pub limit : ℕ
  pub waiting : Waiting
  pub written : Option (List ℕ)

abbrev pub keeper_view : {T D : Type 0} → (D → List ℕ) → (D → List ℕ → Type 0) → Keeper T D → Option (List ℕ) → KeeperView
keeper_view seen may_leave keeper written = record { seen = seen keeper.log.disk; may_leave = may_leave keeper.log.disk; end = keeper.log.end; table = kept_table keeper.state keeper.stats.items; since = keeper.since.0; limit = keeper.limit; waiting = keeper.waiting; written = written }

-- Of these lines the first are answered, and the others wait: the log and the table have the changes of those that are answered, and
-- nothing was written but the answers. Where a change waits, the table has timestamps enough for a record.
pub record Serves (b : Beginning) (lines : List (List ℕ)) (k : KeeperView) : Type 0 where
  pub answered : List (List ℕ)
  pub pending : List (List ℕ)
  pub parts : lines ≡ answered ++ pending
  pub made : List Writes
  pub text : List ℕ
  pub told : AreAnswered (kept_since b.origin) b.origin.limit b.table answered made Group.alone 0 k.table text
  pub is_written : Appends b.written k.written text
  pub since : k.since ≡ kept_since b.origin
  pub log : IsLogOf b.origin (b.changes ++ made) k.seen k.may_leave k.end
  pub limit : k.limit ≡ b.origin.limit
  pub keeps : Keeps k.limit b.first (b.changes ++ made) k.table
  pub in_time : (changes_in k.waiting.items.items ≡ [] → ⊥) → k.table.state.clock ≤ MAX_CLOCK
  pub held : AreHeld b.origin.limit k.table.state pending k.waiting.items.items (group_of k.waiting)

-- A crash leaves the changes of the first of these lines, with all that are answered. Either it leaves those of the lines that were
-- answered, and a beginning of these answers was written; or also those of the lines that waited, which end in no group, and some of their
-- answers may have been written too. So of a group all changes are left, or none.
pub record LeavesFirst (b : Beginning) (lines : List (List ℕ)) (written : Option (List ℕ)) (file : List ℕ) : Type 0 where
  pub answered : List (List ℕ)
  pub pending : List (List ℕ)
  pub rest : List (List ℕ)
  pub parts : lines ≡ answered ++ (pending ++ rest)
  pub made : List Writes
  pub table : KeptTable
  pub text : List ℕ
  pub told : AreAnswered (kept_since b.origin) b.origin.limit b.table answered made Group.alone 0 table text
  pub items : List Waits
  pub group : Group
  pub held : AreHeld b.origin.limit table.state pending items group
  pub has : (HasChanges b.origin (b.changes ++ made) file × AppendsPart b.written written text)
      ⊎ ((group ≡ Group.alone) × HasChanges b.origin ((b.changes ++ made) ++ changes_in items) file
      × ((more : List ℕ) × AreSomeAnswers b.origin.limit items table [] more × AppendsPart b.written written (text ++ more)))
