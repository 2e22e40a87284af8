-- Parts without a byte, joined by that byte and cut there.
use Rattle.std.proofs.Common.{◌≡◌, ℕ, ◌+◌, ◌%◌, ◌^◌, ◌<◌, ◌≤◌, Bool, true, false, cond, List, [], ◌∷◌, ◌++◌, not, refl, arith, ◌==◌, decimal}
use Rattle.std.specs.List.{AllByRecursion, join_with_byte, list_all, onto_first, slice_split}
use Rattle.std.proofs.lemmas.Bool.{and_parts, eq-eqb}
use Rattle.pb_base.proofs.Logic.{false_if_not}
use Rattle.std.proofs.lemmas.Fmt.{decimal_by_steps}
use Rattle.std.proofs.lemmas.List.Elements.{All-from_recursion}
use Rattle.std.proofs.lemmas.List.Splits.{slice_split_at, slice_split_none}

-- the byte stands nowhere
abbrev pub Lacks : ℕ → List ℕ → Type 0
Lacks c text = AllByRecursion (λ b. (b == c) ≡ false) text

-- parts, in none of which the byte stands
abbrev pub AreParts : ℕ → List (List ℕ) → Type 0
AreParts c parts = AllByRecursion (Lacks c) parts

pub lacks_both : (c : ℕ) (xs ys : List ℕ) → Lacks c xs → Lacks c ys → Lacks c (xs ++ ys)
lacks_both c [] ys h k = k
lacks_both c (x ∷ xs) ys h k = (h.0, lacks_both c xs ys h.1 k)

-- as a test says it
pub lacks_if : (c : ℕ) (text : List ℕ) → list_all (λ b. not (b == c)) text ≡ true → Lacks c text
lacks_if c [] h = tt
lacks_if c (x ∷ xs) h = let p = and_parts (not (x == c)) (list_all (λ b. not (b == c)) xs) h in (false_if_not (x == c) p.0, lacks_if c xs p.1)

pub if_lacks : (c : ℕ) (text : List ℕ) → Lacks c text → list_all (λ b. not (b == c)) text ≡ true
if_lacks c [] h = refl
if_lacks c (x ∷ xs) h = rw (h.0, if_lacks c xs h.1) refl

-- ---- what is cut has none

cut_at : (c x : ℕ) (parts : List (List ℕ)) (b : Bool) → (x == c) ≡ b → AreParts c parts → AreParts c (cond b ([] ∷ parts) (onto_first x parts))
cut_at c x parts b is h = grind arith

-- what is cut at a byte hasn't that byte
pub parts_are : (c : ℕ) (text : List ℕ) → AreParts c (slice_split (λ b. b == c) text)
parts_are c [] = (tt, tt)
parts_are c (x ∷ xs) = cut_at c x (slice_split (λ b. b == c) xs) (x == c) refl (parts_are c xs)

-- ---- and what has none is cut there

-- parts without the byte are cut where they were joined
pub joined_parts : (c : ℕ) (part : List ℕ) (parts : List (List ℕ)) → Lacks c part → AreParts c parts → slice_split (λ b. b == c) (join_with_byte c (part ∷ parts)) ≡ part ∷ parts
joined_parts c part [] h k = slice_split_none (λ b. b == c) part (All-from_recursion (λ b. (b == c) ≡ false) part h)
joined_parts c part (next ∷ parts) h k = grind (arith, slice_split_at, All-from_recursion, eq-eqb, joined_parts c next parts k.0 k.1)

-- parts joined by another byte
pub lacks_joined : (c d : ℕ) (parts : List (List ℕ)) → (d == c) ≡ false → AreParts c parts → Lacks c (join_with_byte d parts)
lacks_joined c d [] other h = tt
lacks_joined c d (part ∷ []) other h = h.0
lacks_joined c d (part ∷ next ∷ parts) other h = lacks_both c part (d ∷ join_with_byte d (next ∷ parts)) h.0 (other, lacks_joined c d (next ∷ parts) other h.1)

-- ---- digits

-- no decimal digit
abbrev pub IsNoDigit : ℕ → Type 0
IsNoDigit c = (n : ℕ) → n < 10 → ((48 + n) == c) ≡ false

pub blank_no_digit : IsNoDigit 32
blank_no_digit n lt = grind arith

more_digits : (c : ℕ) → IsNoDigit c → (n : ℕ) (ds : List ℕ) → 10 ≤ n → Lacks c ds → Lacks c (ds ++ ((48 + n % 10) ∷ []))
more_digits c none n ds le h = lacks_both c ds ((48 + n % 10) ∷ []) h (none (n % 10) (omega arith), tt)

-- a number in decimal has nothing but digits
pub decimal_lacks : (c n : ℕ) → IsNoDigit c → n < 2 ^ 64 → Lacks c (decimal n)
decimal_lacks c n none lt = decimal_by_steps (λ m ds. Lacks c ds) (λ m less. (none m less, tt)) (more_digits c none) n lt
