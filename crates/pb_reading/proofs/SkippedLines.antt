-- Lines of a text that say something, and those that are skipped: the empty ones and the remarks.
use Rattle.std.proofs.Common.{◌≡◌, ℕ, Bool, false, not, cond, List, ◌∷◌, ap, filter}
use Rattle.pb_reading.specs.Reading.{is_skipped}

-- the lines that aren't skipped
abbrev pub kept : List (List ℕ) → List (List ℕ)
kept ls = filter (λ l. not (is_skipped l)) ls

-- any other is kept
pub kept_one : (l : List ℕ) (ls : List (List ℕ)) → is_skipped l ≡ false → kept (l ∷ ls) ≡ l ∷ kept ls
kept_one l ls is = ap (λ (b : Bool). cond (not b) (l ∷ kept ls) (kept ls)) is
