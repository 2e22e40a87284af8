-- A program that may call no helper asks nothing and writes nothing.
use Rattle.std.specs.Prelude.{◌≡◌, ℕ, List, []}
use Rattle.pb_sound.specs.Words.{Writes, no_helpers, JudgedOf, Talk, Means}

-- of every program that means something: a call of a helper that isn't declared is stuck
abbrev pub WithoutHelpersSilent : Type 0
WithoutHelpersSilent =
    (j : JudgedOf) (bytes : List ℕ) (start : ℕ) (talk : Talk) (r : ℕ) (ws : Writes) →
    j.helpers ≡ no_helpers → Means j bytes start talk r ws → (talk ≡ []) × (ws ≡ [])
