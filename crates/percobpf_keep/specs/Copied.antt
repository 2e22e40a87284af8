-- What the copy of a log has, and the line that is printed of it.
use Rattle.std.specs.Prelude.{◌≡◌, ℕ, Bool, IsTrue, List, length}
use Rattle.pb_base.specs.Batch.{Writes}
use Rattle.pb_log.specs.declared.log.Log.{Log}
use Rattle.pb_keep.specs.Kept.{reported_count, IsLogOf, Origin}
use Rattle.percobpf_keep.specs.Printed.{printed_text, IsCopyLine}
use Rattle.percobpf_keep.specs.declared.printed.Printed.{Printed}

-- a log: what its disk has, what a crash may leave there, and where it ends
pub record LogView : Type 1 where
  pub seen : List ℕ
  pub may_leave : List ℕ → Type 0
  pub end : ℕ

abbrev pub log_view : {D : Type 0} → (D → List ℕ) → (D → List ℕ → Type 0) → Log D → LogView
log_view seen may_leave log = record { seen = seen log.disk; may_leave = may_leave log.disk; end = log.end }

-- the line that is printed of the copy of a log with these changes
abbrev pub IsLineOfCopy : List Writes → List ℕ → Type 0
IsLineOfCopy changes line = line ≡ printed_text (Printed.Copied (reported_count (length changes)))

-- The copy is a log of the origin of which the log was, with the changes that this had, and the line says how many these are.
abbrev pub IsCopied : LogView → LogView → List ℕ → Type 0
IsCopied old new line = (origin : Origin) (changes : List Writes) → IsLogOf origin changes old.seen old.may_leave old.end → IsLogOf origin changes new.seen new.may_leave new.end × IsLineOfCopy changes line

-- A log was copied, which is `new` since then, and this is the copy, with the line that is printed. What the copy has is known if no wrong
-- answer of either file was taken as true.
pub record IsCopyOf {D : Type 0} (seen : D → List ℕ) (may_leave : D → List ℕ → Type 0) (is_clean : D → Bool) (old new copy : Log D) (line : List ℕ) : Type 0 where
  pub is_printed : IsCopyLine line
  pub copied : IsTrue (is_clean new.disk) → IsTrue (is_clean copy.disk) → IsCopied (log_view seen may_leave old) (log_view seen may_leave copy) line

-- there was such a copy, which is closed by now
pub record HasCopy {D : Type 0} (seen : D → List ℕ) (may_leave : D → List ℕ → Type 0) (is_clean : D → Bool) (old new : Log D) (line : List ℕ) : Type 0 where
  pub copy : Log D
  pub is : IsCopyOf seen may_leave is_clean old new copy line
