-- What a crash leaves of a new log.
use Rattle.std.specs.Prelude.{◌≡◌, ◌⊎◌, ◌<◌, ◌+◌, ℕ, List, length, slice_index, codes}

-- if the bytes go as far as this place, this byte stands there, or 0, as before it was written
abbrev pub MayHave : List ℕ → ℕ → ℕ → Type 0
MayHave first at byte = at < length first → (slice_index first at ≡ 0) ⊎ (slice_index first at ≡ byte)

-- the first bytes of a log, as far as they were written: a gate, which is open, four bytes of a length and eight of a sum, which are
-- any, and the words with which a header begins
pub record IsBeginning (first : List ℕ) : Type 0 where
  pub gate : MayHave first 0 0xa5
  pub words : (at : ℕ) → at < 13 → MayHave first (13 + at) (slice_index (codes "percobpf log ") at)
