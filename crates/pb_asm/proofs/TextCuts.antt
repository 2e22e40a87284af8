-- What cutting a text at one character says.
use Rattle.std.proofs.Common.{◌≡◌, ◌≢◌, ℕ, suc, ◌+◌, ◌-◌, ◌<◌, List, [], ◌∷◌, ◌++◌, length, take, drop, Option, Some, None, refl, sym, ap, ◌∙◌, arith, inl, inr, ◌==◌, MatchOption, slice_index}
use Rattle.std.specs.List.{before_first, after_first, position_or_len}
use Rattle.std.specs.Str.Pattern.{FindsCharPrefix, FindsCharSuffix}
use denote.Ref.{Bor}
use Rattle.std.proofs.lemmas.Bool.{eqb-true, cases_Bool}
use Rattle.std.proofs.lemmas.List.{get_or_at, take_at, length-append}
use Rattle.std.proofs.lemmas.Str.Pattern.{strip_prefix_char, strip_suffix_char, split_once_first, IsSplitOnceResult}
use Rattle.pb_asm.specs.Cuts.{strip_prefix, strip_suffix, split_once}

behind_match : (c : ℕ) (bs : List ℕ) (r : Option (Bor (List ℕ))) → MatchOption r ((rest : List ℕ) → bs ≢ c ∷ rest) (λ x. bs ≡ c ∷ x.now) → MatchOption r (strip_prefix c bs ≡ None) (λ x. strip_prefix c bs ≡ Some x.now)
behind_match c bs r h = grind arith

-- the library's cut is the definition's
pub behind_is : (c : ℕ) (bs : List ℕ) (r : Option (Bor (List ℕ))) → MatchOption r (FindsCharPrefix c bs None) (λ x. (n : ℕ) × FindsCharPrefix c bs (Some n) × (x.now ≡ drop n bs) × (length x.now + n ≡ length bs)) → c < 128 → MatchOption r (strip_prefix c bs ≡ None) (λ x. strip_prefix c bs ≡ Some x.now)
behind_is c bs r h lt = behind_match c bs r (strip_prefix_char c bs r h lt)

-- ---- the end

-- the character is cut off the end of a text that ends with it
pub before_there : (c : ℕ) (front : List ℕ) → strip_suffix c (front ++ c ∷ []) ≡ Some front
before_there c front = grind (arith, length-append, get_or_at, take_at)

-- a list that ends with c, where c isn't the default
pub split_end : (c : ℕ) (bs : List ℕ) → 0 < c → slice_index bs (length bs - 1) ≡ c → bs ≡ take (length bs - 1) bs ++ c ∷ []
split_end c [] some e = let no : ⊥ = omega (arith, some, e) in absurd no
split_end c (b ∷ []) some e = ap (λ (x : ℕ). x ∷ []) e
split_end c (b ∷ d ∷ bs) some e =
    let k : length (b ∷ d ∷ bs) - 1 ≡ suc (length (d ∷ bs) - 1) = omega arith in
    let l : slice_index (d ∷ bs) (length (d ∷ bs) - 1) ≡ c = sym (ap (slice_index (b ∷ d ∷ bs)) k) ∙ e in
    ap (λ (xs : List ℕ). b ∷ xs) (split_end c (d ∷ bs) some l) ∙ ap (λ (n : ℕ). take n (b ∷ d ∷ bs) ++ c ∷ []) (sym k)

-- nothing is cut off a text that doesn't end with the character
end_none : (c : ℕ) (bs : List ℕ) → 0 < c → ((front : List ℕ) → bs ≢ front ++ c ∷ []) → strip_suffix c bs ≡ None
end_none c bs some none =
    elim (cases_Bool (slice_index bs (length bs - 1) == c)) [
      | inl same ↦ absurd (none (take (length bs - 1) bs) (split_end c bs some (eqb-true _ c same)))
      | inr other ↦ rw other refl
    ]

before_match : (c : ℕ) (bs : List ℕ) (r : Option (Bor (List ℕ))) → 0 < c → MatchOption r ((front : List ℕ) → bs ≢ front ++ (c ∷ [])) (λ x. bs ≡ x.now ++ (c ∷ [])) → MatchOption r (strip_suffix c bs ≡ None) (λ x. strip_suffix c bs ≡ Some x.now)
before_match c bs r some h = grind (arith, end_none, before_there)

-- the library's cut at the end is the definition's
pub before_is : (c : ℕ) (bs : List ℕ) (r : Option (Bor (List ℕ))) → MatchOption r (FindsCharSuffix c bs None) (λ x. (n : ℕ) × FindsCharSuffix c bs (Some n) × (x.now ≡ take (length bs - n) bs) × (length x.now + n ≡ length bs)) → 0 < c → c < 128 → MatchOption r (strip_suffix c bs ≡ None) (λ x. strip_suffix c bs ≡ Some x.now)
before_is c bs r h some lt = before_match c bs r some (strip_suffix_char c bs r h lt)

-- ---- both sides

around_match : (c : ℕ) (bs : List ℕ) (r : Option (Bor (List ℕ) × Bor (List ℕ))) → MatchOption r (position_or_len (λ b. b == c) bs ≡ length bs) (λ x. (position_or_len (λ b. b == c) bs < length bs) × (x.0.now ≡ before_first (λ b. b == c) bs) × (x.1.now ≡ after_first (λ b. b == c) bs))
    → MatchOption r (split_once c bs ≡ None) (λ x. split_once c bs ≡ Some (x.0.now, x.1.now))
around_match c bs r h = grind arith

-- the library's cut in two is the definition's
pub around_is : (c : ℕ) (bs : List ℕ) (r : Option (Bor (List ℕ) × Bor (List ℕ))) → IsSplitOnceResult c bs r → c < 128 → MatchOption r (split_once c bs ≡ None) (λ x. split_once c bs ≡ Some (x.0.now, x.1.now))
around_is c bs r h lt = around_match c bs r (split_once_first c bs r h lt)
