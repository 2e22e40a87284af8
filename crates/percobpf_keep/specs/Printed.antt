-- The lines that are printed of a log, and what is answered to a line that asks something of it.
use Rattle.std.specs.Prelude.{◌≡◌, ◌⊎◌, ◌++◌, ℕ, Bool, true, false, List, Option, None, Some, Result, Ok, Err, codes, decimal}
use Rattle.std.specs.Io.KnownBytes.{Appends}
use Rattle.pb_keeper.specs.Stats.{KeptTable}
use Rattle.pb_keep.specs.Anew.{HasVersions}
use Rattle.pb_keep.specs.declared.compact.SnapshotFault.{SnapshotFault}
use Rattle.pb_keep.specs.declared.service.Paused.{Paused}
use Rattle.percobpf_keep.specs.Limits.{limit_after}
use Rattle.percobpf_keep.specs.declared.printed.Printed.{Printed}

-- the text of such a line
abbrev pub printed_text : Printed → List ℕ
printed_text (Printed.Opened found) = codes "open " ++ (decimal found ++ codes "\n")
printed_text (Printed.OpenedFirst made all) = codes "open " ++ (decimal made ++ (codes " of " ++ (decimal all ++ codes "\n")))
printed_text (Printed.Changed added runs gone) = codes "added " ++ (decimal added ++ (codes " runs " ++ (decimal runs ++ (codes " gone " ++ (decimal gone ++ codes "\n")))))
printed_text (Printed.Compacted versions) = codes "compacted " ++ (decimal versions ++ codes "\n")
printed_text (Printed.Copied count) = codes "copied " ++ (decimal count ++ codes "\n")

-- the answer to a line that asks for a compaction, where it was made or not
abbrev pub compact_answer : Result ℕ SnapshotFault → List ℕ
compact_answer (Ok versions) = printed_text (Printed.Compacted versions)
compact_answer (Err why) = codes "refused 78\n"

-- an answer to such a line over this table, and whether a compaction was made: it says how many versions a snapshot of the table has
abbrev pub IsCompactAnswer : KeptTable → Bool → List ℕ → Type 0
IsCompactAnswer table true text = (versions : ℕ) × HasVersions table versions × (text ≡ printed_text (Printed.Compacted versions))
IsCompactAnswer table false text = text ≡ codes "refused 78\n"

-- the line that is printed of a copy
abbrev pub IsCopyLine : List ℕ → Type 0
IsCopyLine text = (count : ℕ) × (text ≡ printed_text (Printed.Copied count))

-- an answer to a line that asks for a copy, where this is what a line of a copy is: none is made where there is no folder for copies
abbrev pub IsCopyAnswer : {F : Type 0} → (List ℕ → Type 0) → Option F → List ℕ → Type 0
IsCopyAnswer IsLine None text = text ≡ codes "refused 76\n"
IsCopyAnswer IsLine (Some folder) text = IsLine text ⊎ (text ≡ codes "refused 78\n")

-- What is written where lines over this table pause, and whether the limit of bytes changes then: it does where the log was compacted, and
-- where it is large and can't be.
abbrev pub IsPauseAnswered : {F : Type 0} → KeptTable → (List ℕ → Type 0) → Option F → Paused → Bool → Option (List ℕ) → Option (List ℕ) → Type 0
IsPauseAnswered table IsLine copies Paused.Ended is_done old new = new ≡ old
IsPauseAnswered table IsLine copies Paused.Asked is_done old new = (text : List ℕ) × IsCompactAnswer table is_done text × Appends old new text
IsPauseAnswered table IsLine copies (Paused.Copy number) is_done old new = (is_done ≡ false) × ((text : List ℕ) × IsCopyAnswer IsLine copies text × Appends old new text)
IsPauseAnswered table IsLine copies Paused.Large is_done old new = (is_done ≡ true) × (new ≡ old)

-- the limit of bytes for what is left of the input, if any is
abbrev pub next_limit_at : Paused → Bool → ℕ → ℕ → ℕ → Option ℕ
next_limit_at Paused.Ended is_done least end limit = None
next_limit_at _ is_done least end limit = Some (limit_after is_done least end limit)

-- the name of the copy of this number
abbrev pub copy_name : List ℕ → ℕ → List ℕ
copy_name folder number = folder ++ (codes "/" ++ (decimal number ++ codes ".log"))
