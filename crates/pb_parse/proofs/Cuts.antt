-- Where a line is cut: at each `; ` from the left, as the code finds it.
use Rattle.std.proofs.Common.{◌≡◌, ℕ, zero, suc, ◌<◌, ◌≤◌, false, List, [], ◌∷◌, length, take, drop, refl, ap, inl, inr, arith, ◌==◌, ◌&&◌}
use Rattle.std.specs.Str.Pattern.{LacksTextAt, FindsText}
use Rattle.std.specs.Str.Pattern.{SplitsAroundMatch}
use Rattle.std.proofs.lemmas.Bool.{eqb-true, and_parts, cases_Bool}
use Rattle.pb_parse.specs.ScriptLines.{cut}

-- what stands between two operations: a semicolon and a blank
abbrev pub joint : List ℕ
joint = 59 ∷ 32 ∷ []

-- no joint at the front
no_joint : (b c : ℕ) (bs : List ℕ) → LacksTextAt joint (b ∷ c ∷ bs) 0 → ((b == 59) && (c == 32)) ≡ false
no_joint b c bs none =
    elim (cases_Bool ((b == 59) && (c == 32))) [
      | inl both ↦ let p = and_parts (b == 59) (c == 32) both in
          let x : b ≡ 59 = eqb-true b 59 p.0 in let y : c ≡ 32 = eqb-true c 32 p.1 in
          absurd (none bs (rw (x, y) refl))
      | inr other ↦ other
    ]

drop_none : (k : ℕ) → drop {A = ℕ} k [] ≡ []
drop_none k = grind arith

-- a line is cut at its first joint, wherever that is
pub cut_at : (s : List ℕ) (k : ℕ) (r : List ℕ) → ((i : ℕ) → i < k → LacksTextAt joint s i) → drop k s ≡ 59 ∷ 32 ∷ r → cut s ≡ take k s ∷ cut r
cut_at s zero r none e = ap cut e
cut_at [] (suc k) r none e = absurd cc
cut_at (b ∷ []) (suc k) r none e = let z = drop_none k in absurd cc
cut_at (b ∷ c ∷ bs) (suc k) r none e =
    let later : (i : ℕ) → i < k → LacksTextAt joint (c ∷ bs) i = λ i lt. none (suc i) (omega arith) in
    rw (no_joint b c bs (none 0 (omega arith)), cut_at (c ∷ bs) k r later e) refl

-- a line without a joint is one operation
pub cut_none : (s : List ℕ) → ((i : ℕ) → i ≤ length s → LacksTextAt joint s i) → cut s ≡ s ∷ []
cut_none [] none = refl
cut_none (b ∷ []) none = refl
cut_none (b ∷ c ∷ bs) none =
    let later : (i : ℕ) → i ≤ length (c ∷ bs) → LacksTextAt joint (c ∷ bs) i = λ i le. none (suc i) (omega arith) in
    rw (no_joint b c bs (none 0 (omega arith)), cut_none (c ∷ bs) later) refl

-- what the code splits around the first joint is what the definition cuts there
pub cut_some : (s a b : List ℕ) → SplitsAroundMatch (FindsText joint) s a b → cut s ≡ a ∷ cut b
cut_some s a b h = grind (arith, cut_at)
