-- An accepted program does the same at every placement. A machine that has come to an end at the one placement of its
-- cells has so come to what the program means, which asks for an end at each.
use Rattle.std.specs.Prelude.{ℕ, List}
use Rattle.pb_sound.specs.Words.{Writes, JudgedOf, IsProgram, Placement, IsPlaced, Talk, environment_of, EndsWith, Means, Accepts}

-- what a run of an accepted program ends with at one placement, it ends with at each
abbrev pub EndIsMeaning : Type 0
EndIsMeaning =
    (j : JudgedOf) (bytes : List ℕ) (start : ℕ) (talk : Talk) (r : ℕ) (writes : Writes) (a : Placement) →
    IsProgram j.program → Accepts j → IsPlaced (environment_of j bytes start a) → EndsWith (environment_of j bytes start a) talk r writes → Means j bytes start talk r writes
