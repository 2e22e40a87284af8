-- What a program writes: nothing, or what a script's transaction could.
use Rattle.std.specs.Prelude.{◌≡◌, ◌⊎◌, ℕ, true, List, []}
use Rattle.pb_sound.specs.Words.{Writes, is_batch, JudgedOf, Talk, Means}

-- none, or 1 to 16 distinct data cells without stamps
abbrev pub AreRunWrites : Writes → Type 0
AreRunWrites ws = (ws ≡ []) ⊎ (is_batch ws ≡ true)

-- of every program that means something, with any helpers
abbrev pub RunsWriteBatches : Type 0
RunsWriteBatches = (j : JudgedOf) (bytes : List ℕ) (start : ℕ) (talk : Talk) (r : ℕ) (ws : Writes) → Means j bytes start talk r ws → AreRunWrites ws
