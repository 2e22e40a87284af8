-- What the tests of a phase show of it.
use Rattle.std.proofs.Common.{arith, ◌≡◌, true}
use Rattle.pb_history.specs.Words.{Phase, is_reading, is_declared}

pub reading_is : (h : Phase) → is_reading h ≡ true → h ≡ Phase.Reading
reading_is h e = grind arith

pub declared_is : (h : Phase) → is_declared h ≡ true → h ≡ Phase.Declared
declared_is h e = grind arith
