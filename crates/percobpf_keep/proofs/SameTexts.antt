-- Texts that a test found to be the same.
use Rattle.std.proofs.Common.{◌≡◌, Bool, false, not, ℕ, List, arith}
use Rattle.std.proofs.lemmas.Slice.Eq.{bytes_eq-Decides}
use Rattle.std.specs.Str.{bytes_eq}

pub tested_same : (xs ys : List ℕ) (r : Bool) → r ≡ not (bytes_eq xs ys) → r ≡ false → xs ≡ ys
tested_same xs ys r is same = (bytes_eq-Decides xs ys).0 (grind (arith, is, same))
