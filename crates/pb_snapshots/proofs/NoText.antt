-- No text begins with the byte 255.
use Rattle.std.proofs.Common.{◌≡◌, ℕ, ◌+◌, ◌/◌, ◌<◌, ◌≤◌, true, List, [], ◌∷◌, ◌++◌, get_or, refl, sym, ap, ◌∙◌, arith, inl, inr, IsUtf8}
use Rattle.std.proofs.lemmas.Bool.{and_parts, cases_lt, lt-ltb, le-ltb}
use Rattle.std.proofs.lemmas.Str.{encode_ascii}
use lib.Utf8.{scalar, scalars, encode, encodes, next, scalar_cases}

below_last : (c : ℕ) → scalar c ≡ true → c < 1114112
below_last c is = elim (scalar_cases c is) [ inl low ↦ omega (arith, low) | inr high ↦ high.1 ]

two_bytes : (c : ℕ) → 128 ≤ c → c < 2048 → encode c ≡ (192 + c / 64) ∷ next c ∷ []
unfolding encode
two_bytes c from to = rw (le-ltb c 128 from, lt-ltb c 2048 to) refl

three_bytes : (c : ℕ) → 2048 ≤ c → c < 65536 → encode c ≡ (224 + c / 4096) ∷ next (c / 64) ∷ next c ∷ []
unfolding encode
three_bytes c from to = rw (le-ltb c 128 (omega arith), le-ltb c 2048 from, lt-ltb c 65536 to) refl

four_bytes : (c : ℕ) → 65536 ≤ c → encode c ≡ (240 + c / 262144) ∷ next (c / 4096) ∷ next (c / 64) ∷ next c ∷ []
unfolding encode
four_bytes c from = rw (le-ltb c 128 (omega arith), le-ltb c 2048 (omega arith), le-ltb c 65536 from) refl

-- where the character's bytes begin so, the text does
begins : (c first : ℕ) (others rest bytes : List ℕ) → encode c ≡ first ∷ others → encode c ++ rest ≡ 255 ∷ bytes → first ≡ 255
begins c first others rest bytes is e = ap (λ (l : List ℕ). get_or l 0 0) (ap (λ (l : List ℕ). l ++ rest) (sym is) ∙ e)

no_character : (c : ℕ) (rest bytes : List ℕ) → scalar c ≡ true → encode c ++ rest ≡ 255 ∷ bytes → ⊥
no_character c rest bytes is e = elim (cases_lt c 128) [
  | inl low ↦ let b = begins c c [] rest bytes (encode_ascii c low) e in omega (arith, low, b)
  | inr from ↦ elim (cases_lt c 2048) [
    | inl two ↦ let b = begins c (192 + c / 64) (next c ∷ []) rest bytes (two_bytes c from two) e in omega (arith, two, b)
    | inr over ↦ elim (cases_lt c 65536) [
      | inl three ↦ let b = begins c (224 + c / 4096) (next (c / 64) ∷ next c ∷ []) rest bytes (three_bytes c over three) e in omega (arith, three, b)
      | inr four ↦ let b = begins c (240 + c / 262144) (next (c / 4096) ∷ next (c / 64) ∷ next c ∷ []) rest bytes (four_bytes c four) e in let last = below_last c is in omega (arith, last, b)
    ]
  ]
]

of_characters : (cs bytes : List ℕ) → scalars cs ≡ true → encodes cs ≡ 255 ∷ bytes → ⊥
of_characters [] bytes are e = absurd cc
of_characters (c ∷ cs) bytes are e = no_character c (encodes cs) bytes (and_parts (scalar c) (scalars cs) are).0 e

pub no_text : (bytes : List ℕ) → IsUtf8 (255 ∷ bytes) → ⊥
no_text bytes text = of_characters text.0 bytes text.1.0 text.1.1
