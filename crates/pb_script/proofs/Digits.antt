-- Hexadecimal digits are ASCII.
use Rattle.std.proofs.Common.{◌≡◌, ℕ, true, List, [], ◌∷◌, refl, arith, nat_lt, IsAscii}
use Rattle.std.specs.List.{list_all}
use Rattle.std.proofs.lemmas.Bool.{and_parts}
use Rattle.std.proofs.lemmas.Str.Ascii.{IsAscii-nil, IsAscii-cons}
use Rattle.hex.specs.Hex.{lower_digits, encode_lower}
use Rattle.hex.proofs.HexLemmas.{IsAscii-encode_with}

all_ascii : (xs : List ℕ) → list_all (λ b. nat_lt b 128) xs ≡ true → IsAscii xs
all_ascii [] h = IsAscii-nil
all_ascii (x ∷ xs) h = let p = and_parts (nat_lt x 128) (list_all (λ b. nat_lt b 128) xs) h in IsAscii-cons x xs (grind (arith, p.0)) (all_ascii xs p.1)

-- so they are UTF-8, and making a text of them can't fail
pub digits_are_ascii : (bytes : List ℕ) → IsAscii (encode_lower bytes)
digits_are_ascii bytes = IsAscii-encode_with lower_digits bytes (all_ascii lower_digits refl)
