-- What holds of all logs.
use Rattle.std.specs.Prelude.{◌≡◌, ℕ, ◌+◌, ◌<◌, ◌^◌, List, ◌∷◌, ◌++◌, length}
use Rattle.pb_log.specs.Records.{AreShort, body, block, blocks, Hides, IsLog, IsReadable, IsShut}
use Rattle.pb_log.specs.Causes.{IsDamaged}

-- a file has one list of records
abbrev pub FilesHaveOneReading : Type 0
FilesHaveOneReading = (file : List ℕ) (rs ss : List (List ℕ)) → IsLog file rs → IsLog file ss → rs ≡ ss

-- these records, then one whose gate is closed, then another whose gate is open, and what follows
abbrev pub with_turned_gate : List (List ℕ) → List ℕ → List ℕ → List ℕ → List ℕ
with_turned_gate rs r s more =
    let at = length (blocks 0 rs) in
    blocks 0 rs ++ 0 ∷ (body at r ++ (block (at + 13 + length r) s ++ more))

-- such a file isn't opened
abbrev pub TurnedGatesShow : Type 0
TurnedGatesShow = (rs : List (List ℕ)) (r s more : List ℕ) → AreShort rs → length r < 2 ^ 32 → length s < 2 ^ 32
    → (ss : List (List ℕ)) → IsReadable (with_turned_gate rs r s more) ss → ⊥

-- A file that begins with records and a closed gate, as a put leaves it whenever the machine stops, is opened to these records, and never
-- reported as damaged. There is one exception: what stands after the gate may hide a record. Then it is a whole one of that place, and another
-- one with an open gate follows, both with their sums.
abbrev pub ShutLogsOpen : Type 0
ShutLogsOpen = (file : List ℕ) (rs : List (List ℕ)) (s : IsShut file rs) → (Hides (length (blocks 0 rs)) s.torn → ⊥)
    → IsReadable file rs × ((at : ℕ) → IsDamaged file at → ⊥)
