-- Texts cut at one character, as functions of bytes. The readers of operands are defined by them.
use Rattle.std.specs.Prelude.{ℕ, ◌-◌, ◌==◌, nat_lt, if◌then◌else◌, List, [], ◌∷◌, length, take, slice_index, Option, Some, None}
use Rattle.std.specs.List.{before_first, after_first, position_or_len}

-- what stands after this character, if the text begins with it
abbrev pub strip_prefix : ℕ → List ℕ → Option (List ℕ)
strip_prefix c [] = None
strip_prefix c (b ∷ bs) = if b == c then Some bs else None

-- what stands before this character, if the text ends with it
abbrev pub strip_suffix : ℕ → List ℕ → Option (List ℕ)
strip_suffix c text = if slice_index text (length text - 1) == c then Some (take (length text - 1) text) else None

-- what stands on both sides of the first such character
abbrev pub split_once : ℕ → List ℕ → Option (List ℕ × List ℕ)
split_once c text = if nat_lt (position_or_len (λ b. b == c) text) (length text) then Some (before_first (λ b. b == c) text, after_first (λ b. b == c) text) else None
