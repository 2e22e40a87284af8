-- The order in which reasons are listed, so that the first that applies has the lowest number.
use Rattle.std.specs.Prelude.{ℕ, ◌<◌, [], ◌∷◌}
use Rattle.pb_history.specs.Words.{reason_code, Reasons}

-- their numbers rise, from above this one
abbrev pub RiseAbove : ℕ → Reasons → Type 0
RiseAbove low [] = Unit {0}
RiseAbove low (r ∷ rs) = (low < reason_code r.0) × RiseAbove (reason_code r.0) rs
