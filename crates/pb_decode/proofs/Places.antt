-- The table of places, by which a form is found.
use Rattle.std.proofs.Common.{◌≡◌, ℕ, zero, suc, ◌+◌, ◌<◌, List, [], ◌∷◌, Option, None, length, get_or, refl, sym, ap, ◌∙◌, arith, slice_get}
use Rattle.pb_decode.specs.declared.forms.Form.{Form}
use Rattle.pb_decode.specs.Opcodes.{forms, with_opcode}

-- where the form of each opcode stands among the forms
abbrev pub places : List ℕ
places =
    255 ∷ 255 ∷ 255 ∷ 255 ∷ 0 ∷ 107 ∷ 255 ∷ 2 ∷ 255 ∷ 255 ∷ 255 ∷ 255 ∷ 1 ∷ 255 ∷ 255 ∷ 3 ∷
    255 ∷ 255 ∷ 255 ∷ 255 ∷ 4 ∷ 50 ∷ 48 ∷ 6 ∷ 106 ∷ 255 ∷ 255 ∷ 255 ∷ 5 ∷ 51 ∷ 49 ∷ 7 ∷
    255 ∷ 255 ∷ 255 ∷ 255 ∷ 8 ∷ 54 ∷ 52 ∷ 10 ∷ 255 ∷ 255 ∷ 255 ∷ 255 ∷ 9 ∷ 55 ∷ 53 ∷ 11 ∷
    255 ∷ 255 ∷ 255 ∷ 255 ∷ 12 ∷ 58 ∷ 56 ∷ 14 ∷ 255 ∷ 255 ∷ 255 ∷ 255 ∷ 13 ∷ 59 ∷ 57 ∷ 15 ∷
    255 ∷ 255 ∷ 255 ∷ 255 ∷ 16 ∷ 62 ∷ 60 ∷ 18 ∷ 255 ∷ 255 ∷ 255 ∷ 255 ∷ 17 ∷ 63 ∷ 61 ∷ 19 ∷
    255 ∷ 255 ∷ 255 ∷ 255 ∷ 20 ∷ 66 ∷ 64 ∷ 22 ∷ 255 ∷ 255 ∷ 255 ∷ 255 ∷ 21 ∷ 67 ∷ 65 ∷ 23 ∷
    255 ∷ 92 ∷ 96 ∷ 100 ∷ 24 ∷ 70 ∷ 68 ∷ 26 ∷ 255 ∷ 93 ∷ 97 ∷ 101 ∷ 25 ∷ 71 ∷ 69 ∷ 27 ∷
    255 ∷ 94 ∷ 98 ∷ 102 ∷ 28 ∷ 74 ∷ 72 ∷ 30 ∷ 255 ∷ 95 ∷ 99 ∷ 103 ∷ 29 ∷ 75 ∷ 73 ∷ 31 ∷
    255 ∷ 110 ∷ 255 ∷ 255 ∷ 104 ∷ 108 ∷ 255 ∷ 105 ∷ 255 ∷ 111 ∷ 255 ∷ 255 ∷ 255 ∷ 255 ∷ 255 ∷ 255 ∷
    255 ∷ 112 ∷ 255 ∷ 255 ∷ 32 ∷ 109 ∷ 255 ∷ 34 ∷ 255 ∷ 255 ∷ 255 ∷ 255 ∷ 33 ∷ 255 ∷ 255 ∷ 35 ∷
    255 ∷ 255 ∷ 255 ∷ 255 ∷ 36 ∷ 78 ∷ 76 ∷ 38 ∷ 255 ∷ 255 ∷ 255 ∷ 255 ∷ 37 ∷ 79 ∷ 77 ∷ 39 ∷
    255 ∷ 255 ∷ 255 ∷ 255 ∷ 40 ∷ 82 ∷ 80 ∷ 42 ∷ 255 ∷ 255 ∷ 255 ∷ 255 ∷ 41 ∷ 83 ∷ 81 ∷ 43 ∷
    255 ∷ 255 ∷ 255 ∷ 255 ∷ 44 ∷ 86 ∷ 84 ∷ 46 ∷ 255 ∷ 255 ∷ 255 ∷ 255 ∷ 45 ∷ 87 ∷ 85 ∷ 47 ∷
    255 ∷ 255 ∷ 255 ∷ 255 ∷ 255 ∷ 90 ∷ 88 ∷ 255 ∷ 255 ∷ 255 ∷ 255 ∷ 255 ∷ 255 ∷ 91 ∷ 89 ∷ 255 ∷
    255 ∷ 255 ∷ 255 ∷ 255 ∷ 255 ∷ 255 ∷ 255 ∷ 255 ∷ 255 ∷ 255 ∷ 255 ∷ 255 ∷ 255 ∷ 255 ∷ 255 ∷ 255 ∷
    255 ∷ 255 ∷ 255 ∷ 255 ∷ 255 ∷ 255 ∷ 255 ∷ 255 ∷ 255 ∷ 255 ∷ 255 ∷ 255 ∷ 255 ∷ 255 ∷ 255 ∷ 255 ∷
    []

-- the forms at these places
found : List ℕ → List (Option Form)
found [] = []
found (k ∷ ks) = slice_get forms k ∷ found ks

found_at : (ks : List ℕ) (i d : ℕ) → i < length ks → get_or (found ks) i None ≡ slice_get forms (get_or ks i d)
unfolding found
found_at [] i d h = absurd (omega (arith, h))
found_at (k ∷ ks) zero d h = refl
found_at (k ∷ ks) (suc i) d h = found_at ks i d (omega (arith, h))

-- the forms that the definition finds for k opcodes from n on
wanted : ℕ → ℕ → List (Option Form)
wanted n zero = []
wanted n (suc k) = with_opcode n forms ∷ wanted (n + 1) k

wanted_at : (n k i : ℕ) → i < k → get_or (wanted n k) i None ≡ with_opcode (n + i) forms
unfolding wanted
wanted_at n zero i h = absurd (omega (arith, h))
wanted_at n (suc k) zero h = let e : n + 0 ≡ n = omega arith in rw e refl
wanted_at n (suc k) (suc i) h = let e : n + suc i ≡ n + 1 + i = omega arith in rw e (wanted_at (n + 1) k i (omega (arith, h)))

-- both lists are the same, which is proved by computing them
all : found places ≡ wanted 0 256
unfolding forms wanted found
all = refl

-- so the table finds for each opcode what the definition finds
pub place_of : (n d : ℕ) → n < 256 → slice_get forms (get_or places n d) ≡ with_opcode n forms
place_of n d h =
    let e : 0 + n ≡ n = omega arith in
    let w = rw e at (wanted_at 0 256 n h) in
    sym (found_at places n d h) ∙ ap (λ xs. get_or xs n None) all ∙ w
