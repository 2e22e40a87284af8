-- A program has one meaning, accepted or not. By it the exit of a machine has one outcome, in `law_worlds`.
use Rattle.std.specs.Prelude.{◌≡◌, ℕ, List}
use Rattle.pb_sound.specs.Words.{Writes, JudgedOf, Talk, Means}

-- the same program, record, start timestamp, asks and replies mean one result and one list of writes
abbrev pub EachHasOneMeaning : Type 0
EachHasOneMeaning =
    (j : JudgedOf) (bytes : List ℕ) (start : ℕ) (talk : Talk) (r v : ℕ) (ws us : Writes) →
    Means j bytes start talk r ws → Means j bytes start talk v us → (r ≡ v) × (ws ≡ us)
