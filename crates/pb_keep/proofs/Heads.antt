-- What stands in the first record of a log.
use Rattle.std.proofs.Common.{arith, ◌≡◌, ℕ, ◌+◌, ◌-◌, ◌<◌, ◌≤◌, ◌^◌, ◌==◌, Bool, true, false, if◌then◌else◌, Option, None, Bor, ap, sym, ◌∙◌, List, [], ◌∷◌, ◌++◌, codes, decimal, length, refl, length-append}
use Rattle.std.proofs.lemmas.Fmt.{length-decimal-le}
use Rattle.std.proofs.lemmas.List.Elements.{All-from_recursion}
use Rattle.std.proofs.lemmas.List.Splits.{join_with_byte-slice_split, length-slice_split, slice_split_at}
use Rattle.std.specs.List.{join_with_byte}
use Rattle.pb_reading.specs.Reading.{lines_left, lines_of}
use Rattle.pb_reading.proofs.Parts.{Lacks, IsNoDigit, decimal_lacks}
use Rattle.pb_keep.specs.Kept.{head}

-- no limit has no line
pub no_limit : (manifest : List ℕ) → manifest ≡ head (2 ^ 64 - 1) manifest
unfolding head
no_limit manifest = refl

pub limit_line : (limit : ℕ) (manifest : List ℕ) → (limit == (2 ^ 64 - 1)) ≡ false → codes "limit " ++ (decimal limit ++ (10 ∷ manifest)) ≡ head limit manifest
unfolding head
limit_line limit manifest e = rw (e) refl

-- it is little more than the manifest
pub head_few : (limit : ℕ) (manifest : List ℕ) → limit < 2 ^ 64 → length (head limit manifest) ≤ length manifest + 27
unfolding head
head_few limit manifest fits = by (limit == (2 ^ 64 - 1)) where
  few : length (decimal limit) ≤ 20
  few = length-decimal-le 20 limit (omega arith) (omega (arith, fits)) fits

  line : length (codes "limit " ++ (decimal limit ++ (10 ∷ manifest))) ≤ length manifest + 27
  line = let all = length-append (decimal limit) (10 ∷ manifest) in omega (arith, all, few)

  by : (b : Bool) → length (if b then manifest else codes "limit " ++ (decimal limit ++ (10 ∷ manifest))) ≤ length manifest + 27
  by true = omega arith
  by false = line

-- ---- its lines

-- a first line, and others
cut_line : (line rest : List ℕ) → Lacks 10 line → lines_of (line ++ 10 ∷ rest) ≡ line ∷ lines_of rest
cut_line line rest lacks = slice_split_at (λ b. b == 10) line 10 rest (All-from_recursion (λ b. (b == 10) ≡ false) line lacks) refl

same_lines : (a b : List ℕ) → lines_of a ≡ lines_of b → a ≡ b
same_lines a b e = sym (join_with_byte-slice_split 10 a) ∙ (ap (join_with_byte 10) e ∙ join_with_byte-slice_split 10 b)

front : (a b : List ℕ) (xs ys : List (List ℕ)) → a ∷ xs ≡ b ∷ ys → (a ≡ b) × (xs ≡ ys)
front a b xs ys e = (cc, cc)

some_lines : (text : List ℕ) → lines_of text ≡ [] → ⊥
some_lines text e = let many = length-slice_split (λ b. b == 10) text in let none = ap length e in absurd (omega (arith, many, none))

no_newline : IsNoDigit 10
no_newline n lt = grind arith

-- what stands after `limit `
after_word : (a b : List ℕ) → codes "limit " ++ a ≡ codes "limit " ++ b → a ≡ b
after_word a b e = cc

-- where a limit stands in a text, it is that of its first line
pub limit_first : (text rest word : List ℕ) (after : Option (Bor (List ℕ))) (limit : ℕ) (manifest : List ℕ) → text ≡ codes "limit " ++ rest → lines_of rest ≡ word ∷ lines_left after → limit < 2 ^ 64 - 1 → text ≡ head limit manifest
    → (word ≡ decimal limit) × (lines_left after ≡ lines_of manifest)
limit_first text rest word after limit manifest parts lines low is =
    let here = after_word rest (decimal limit ++ 10 ∷ manifest) (sym parts ∙ (is ∙ sym (limit_line limit manifest (grind (arith, low))))) in
    let cut = cut_line (decimal limit) manifest (decimal_lacks 10 limit no_newline (omega (arith, low))) in
    front word (decimal limit) (lines_left after) (lines_of manifest) (sym lines ∙ (ap lines_of here ∙ cut))

-- the other way
pub limit_there : (text rest word manifest : List ℕ) (limit : ℕ) → text ≡ codes "limit " ++ rest → lines_of rest ≡ word ∷ lines_of manifest → word ≡ decimal limit → limit ≤ 2 ^ 64 - 2 → text ≡ head limit manifest
limit_there text rest word manifest limit parts lines word_is low =
    let cut = cut_line (decimal limit) manifest (decimal_lacks 10 limit no_newline (omega (arith, low))) in
    let here = same_lines rest (decimal limit ++ 10 ∷ manifest) (lines ∙ (ap (λ w. w ∷ lines_of manifest) word_is ∙ sym cut)) in
    parts ∙ (ap (λ l. codes "limit " ++ l) here ∙ limit_line limit manifest (grind (arith, low)))

pub same_manifest : (a b : List ℕ) → lines_of a ≡ lines_of b → a ≡ b
same_manifest a b e = same_lines a b e

pub some_manifest : (after : Option (Bor (List ℕ))) (manifest : List ℕ) → after ≡ None → lines_left after ≡ lines_of manifest → ⊥
some_manifest after manifest none e = some_lines manifest (sym e ∙ ap lines_left none)

-- it begins so
pub limits_begin : (text : List ℕ) (limit : ℕ) (manifest : List ℕ) → limit < 2 ^ 64 - 1 → text ≡ head limit manifest → (rest : List ℕ) × (text ≡ codes "limit " ++ rest)
limits_begin text limit manifest low is = (decimal limit ++ 10 ∷ manifest, is ∙ sym (limit_line limit manifest (grind (arith, low))))
