-- The text of a script, as it is written: its lines, of which some are empty or remarks.
use Rattle.std.specs.Prelude.{◌≡◌, ◌≢◌, ◌≤◌, ◌==◌, ℕ, Bool, false, not, List, [], ◌∷◌, length}
use Rattle.std.specs.List.{All, AllZip, filter, join_with_byte}
use Rattle.law_texts.specs.Words.{MAX_CHANGES, Batches}
use Rattle.law_texts.specs.LineTexts.{IsBatchLine}

-- neither empty nor a remark, which begins with `#`
abbrev pub is_transaction : List ℕ → Bool
is_transaction [] = false
is_transaction (b ∷ bs) = not (b == 35)

-- Lines with a newline between them. Those that are neither empty nor remarks are the lines of the transactions, in
-- their order, and these are at most 10,000.
pub record IsScriptOf (batches : Batches) (text : List ℕ) : Type 0 where
  pub lines : List (List ℕ)
  pub parted : All (λ line. All (λ b. b ≢ 10) line) lines
  pub joined : text ≡ join_with_byte 10 lines
  pub told : AllZip IsBatchLine batches (filter is_transaction lines)
  pub few : length batches ≤ MAX_CHANGES
