-- A caller's buffer, as C's `snprintf` leaves one, but for the byte 0 that this adds.
use Rattle.std.specs.Prelude.{ℕ, List, ◌++◌, length, take, drop}

-- what a buffer holds after bytes were written to it: as many of them as fit, and after them what stood there
abbrev pub filled : List ℕ → List ℕ → List ℕ
filled bytes old = take (length old) bytes ++ drop (length bytes) old
