-- A declared cell is locked and its data written, the primary before the others (OSDI 2010, section 2.2). It fails where
-- another transaction has a lock on the cell, or wrote it since this one began.
use Rattle.std.specs.Prelude.{◌≡◌, ℕ, Bool, true, false, not, ◌&&◌, ◌||◌, ◌⊎◌, List, [], ◌∷◌, ◌++◌, Option, Some, None, is_none}
use Rattle.std.specs.Ordering.{eq_by_cmp}
use Rattle.std.specs.FinMap as map
use Rattle.pb_steps.specs.Words.{Cell, Content, Reason, cell_cmp, content_in, primary_in, Item, Sort, Entries, slot_at}
use Rattle.pb_steps.specs.declared.phase.Phase.{Phase}
use Rattle.pb_steps.specs.Phases.{is_declared}
use Rattle.pb_steps.specs.State.{StateOf, TransactionOf, with_transaction, is_in}
use Rattle.pb_steps.specs.Readings.{NoLock, SomeLock, NoWriteFrom, SomeWriteFrom}
use Rattle.pb_steps.specs.Reasons.{Reasons, IsOwn}

-- a cell that isn't the primary, while that isn't prewritten
abbrev pub is_before_primary : Option Cell → List Cell → Cell → Bool
is_before_primary None prewritten x = true
is_before_primary (Some p) prewritten x = not (eq_by_cmp cell_cmp x p) && not (is_in prewritten p)

-- another cell before the primary is locked: who cleared it would undo it, though all may still commit
abbrev pub is_early : TransactionOf → Cell → Bool
is_early t x = is_before_primary (primary_in t.declared) t.prewritten x

-- another phase or too early; a cell that it didn't declare; one that it has prewritten
abbrev pub prewrite_reasons : Cell → TransactionOf → Reasons
prewrite_reasons x t =
    (Reason.WrongPhase, not (is_declared t.phase) || is_early t x) ∷ (Reason.NotDeclared, is_none (content_in t.declared x)) ∷ (Reason.AlreadyPrewritten, is_in t.prewritten x) ∷ []

-- data and lock of s at x
abbrev pub put_lock : Entries → Cell → ℕ → Content → Cell → Entries
put_lock e x s content primary = map.insert (map.insert e (slot_at x Sort.Data s) (Item.Data content)) (slot_at x Sort.Lock s) (Item.Lock primary)

-- neither a lock nor a later write record stands on x: data and lock are put there
pub record Prewrites (old : StateOf) (seat s : ℕ) (x : Cell) (new : StateOf) : Type 0 where
  pub t : TransactionOf
  pub own : IsOwn old seat s t
  pub phase : is_declared t.phase ≡ true
  pub in_order : is_early t x ≡ false
  pub content : Content
  pub declares : content_in t.declared x ≡ Some content
  pub once : is_in t.prewritten x ≡ false
  pub primary : Cell
  pub primary_is : primary_in t.declared ≡ Some primary
  pub unlocked : NoLock old.entries x
  pub no_later : NoWriteFrom old.entries x s
  pub new_is : new ≡ record old {
    entries = put_lock old.entries x s content primary;
    transactions = map.insert old.transactions s (record t { prewritten = t.prewritten ++ x ∷ [] });
  }

-- one of them does: the transaction has failed
pub record Conflicts (old : StateOf) (seat s : ℕ) (x : Cell) (new : StateOf) : Type 0 where
  pub t : TransactionOf
  pub own : IsOwn old seat s t
  pub phase : is_declared t.phase ≡ true
  pub why : SomeLock old.entries x ⊎ SomeWriteFrom old.entries x s
  pub new_is : new ≡ with_transaction old s (record t { phase = Phase.Failed })
