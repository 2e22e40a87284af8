-- The first part of a text that is cut at each byte of a kind, and the parts after it.
use Rattle.std.proofs.Common.{◌≡◌, ℕ, suc, ◌+◌, ◌<◌, ◌≤◌, Bool, true, cond, not, List, [], ◌∷◌, length, Option, Err, refl, arith, ◌==◌, is_some}
use Rattle.std.specs.List.{onto_first, slice_split, position_or_len, before_first, after_first}
use Rattle.std.proofs.lemmas.List.Splits.{length-slice_split, slice_split_first}
use Rattle.std.proofs.lemmas.List.Sums.{count_by-le-length}
use Rattle.pb_reading.specs.Reading.{lines_of, no_word, words_left, words_of}
use denote.Ref.{Bor}

module _ (byte : ℕ) where
  -- a text with such a byte is cut into what stands before the first one, and the parts of what stands after it
  pub first_and_rest : (text first after : List ℕ) → first ≡ before_first (λ b. b == byte) text → after ≡ after_first (λ b. b == byte) text → position_or_len (λ b. b == byte) text < length text
      → slice_split (λ b. b == byte) text ≡ first ∷ slice_split (λ b. b == byte) after
  first_and_rest text first after e f lt = rw (e, f) (slice_split_first (λ b. b == byte) text 0 lt)

  one_part_by : (x : ℕ) (xs : List ℕ) (b : Bool) → (position_or_len (λ b. b == byte) xs ≡ length xs → slice_split (λ b. b == byte) xs ≡ xs ∷ []) → cond (not b) (1 + position_or_len (λ b. b == byte) xs) 0 ≡ suc (length xs)
      → cond b ([] ∷ slice_split (λ b. b == byte) xs) (onto_first x (slice_split (λ b. b == byte) xs)) ≡ (x ∷ xs) ∷ []
  one_part_by x xs b shorter h = grind arith

  -- a text without one is one part, also an empty text
  pub one_part : (text : List ℕ) → position_or_len (λ b. b == byte) text ≡ length text → slice_split (λ b. b == byte) text ≡ text ∷ []
  one_part [] h = refl
  one_part (x ∷ xs) h = one_part_by x xs (x == byte) (one_part xs) h

-- a text has no more lines than bytes, and one
pub few_lines : (text : List ℕ) → length (lines_of text) ≤ length text + 1
few_lines text = omega (arith, length-slice_split (λ b. b == 10) text, count_by-le-length (λ b. b == 10) text)

-- ---- no word is left

has_word_by : {E : Type 0} (form : E) (x : ℕ) (xs : List ℕ) (b : Bool) → no_word form (cond b ([] ∷ words_of xs) (onto_first x (words_of xs))) ≡ Err form
has_word_by form x xs b = grind arith

-- a line has a word even if it is empty, so asking that none be left fails
has_word : {E : Type 0} (form : E) (text : List ℕ) → no_word form (words_of text) ≡ Err form
has_word form [] = refl
has_word form (x ∷ xs) = has_word_by form x xs (x == 32)

-- where anything is left of a line, a word is left
pub left_over : {E : Type 0} (form : E) (words : Option (Bor (List ℕ))) → is_some words ≡ true → no_word form (words_left words) ≡ Err form
left_over form words h = grind (arith, has_word)
