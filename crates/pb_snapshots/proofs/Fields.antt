-- A number that is read is the one that was written, and what was written is read again.
use Rattle.std.proofs.Common.{◌≡◌, ℕ, suc, ◌+◌, ◌^◌, ◌<◌, ◌≤◌, Bool, true, false, cond, ltb, List, [], ◌∷◌, ◌++◌, length, get_or, take, drop, Option, Some, None, refl, sym, ap, subst, ◌∙◌, append_assoc, arith, inl, inr}
use Rattle.std.specs.Int.{w64, from_le_bytes}
use Rattle.std.proofs.lemmas.Bool.{cases_lt, ltb-true, ltb-false, le-ltb, lt-ltb}
use Rattle.std.proofs.lemmas.List.{take-append-drop, length-take, get_or-drop, get_or-take, get_or_past}
use Rattle.std.proofs.lemmas.Nat.{le_bytes_8, from_le_bytes-to_le_bytes_8}
use Rattle.pb_snapshots.specs.Snapshot.{number_bytes}
use Rattle.pb_snapshots.specs.Reading.{◌>>=◌, u64_at, small_at}

abbrev pub IsBytes : List ℕ → Type 0
IsBytes bytes = (i : ℕ) → get_or bytes i 0 < 256

pub bytes-drop : (n : ℕ) (bytes : List ℕ) → IsBytes bytes → IsBytes (drop n bytes)
bytes-drop n bytes h i = rw get_or-drop (h (n + i))

bytes-take : (n : ℕ) (bytes : List ℕ) → IsBytes bytes → IsBytes (take n bytes)
bytes-take n bytes h i =
    elim (cases_lt i n) [
      | inl lt ↦ rw (get_or-take n bytes i 0 lt) (h i)
      | inr le ↦ rw (get_or_past (take n bytes) i 0 (omega (arith, length-take n bytes))) (omega arith)
    ]

pub bytes-rest : (b : ℕ) (bytes : List ℕ) → IsBytes (b ∷ bytes) → IsBytes bytes
bytes-rest b bytes h i = h (suc i)

-- the value of a step that found one
pub bind_some : {A B : Type 0} (o : Option A) (f : A → Option B) (y : B) → (o >>= f) ≡ Some y → (x : A) × (o ≡ Some x) × (f x ≡ Some y)
bind_some (Some x) f y e = (x, refl, e)
bind_some None f y e = absurd cc

-- a test that let something through
pub guard_some : {A : Type 0} (b : Bool) (x y : A) → cond b None (Some x) ≡ Some y → (b ≡ false) × (x ≡ y)
guard_some true x y e = absurd cc
guard_some false x y e = (refl, cc)

pub stopped_none : {A : Type 0} (b : Bool) (x : A) → cond b None (Some x) ≡ None → b ≡ true
stopped_none true x e = refl
stopped_none false x e = absurd cc

pub passed_some : {A : Type 0} (b : Bool) (x y : A) → cond b (Some x) None ≡ Some y → (b ≡ true) × (x ≡ y)
passed_some true x y e = (refl, cc)
passed_some false x y e = absurd cc

-- what a reader took from the front
pub record Takes (bytes text rest : List ℕ) : Type 0 where
  pub parts : bytes ≡ text ++ rest
  pub rest_fits : IsBytes rest

pub takes_then : (a x b y c : List ℕ) → Takes a x b → Takes b y c → Takes a (x ++ y) c
takes_then a x b y c p q = record { parts = p.parts ∙ ap (λ (t : List ℕ). x ++ t) q.parts ∙ sym (append_assoc x y c); rest_fits = q.rest_fits }

-- ---- numbers of eight bytes

below_64 : (bytes : List ℕ) → IsBytes bytes → from_le_bytes w64 bytes < 2 ^ 64
below_64 bytes fits = omega (arith, fits 0, fits 1, fits 2, fits 3, fits 4, fits 5, fits 6, fits 7)

pub number_takes : (bytes : List ℕ) (n : ℕ) (rest : List ℕ) → IsBytes bytes → u64_at bytes ≡ Some (n, rest) → Takes bytes (number_bytes n) rest × (n < 2 ^ 64)
number_takes bytes n rest fits e =
    let g = guard_some (ltb (length bytes) 8) (from_le_bytes w64 (take 8 bytes), drop 8 bytes) (n, rest) e in
    let long : 8 ≤ length bytes = ltb-false _ _ g.0 in
    let n-is : from_le_bytes w64 (take 8 bytes) ≡ n = ap (λ (p : ℕ × List ℕ). p.0) g.1 in
    let rest-is : drop 8 bytes ≡ rest = ap (λ (p : ℕ × List ℕ). p.1) g.1 in
    let front : number_bytes n ≡ take 8 bytes = le_bytes_8 (take 8 bytes) n (omega (arith, length-take 8 bytes)) (bytes-take 8 bytes fits) (sym n-is) in (
      record {
        parts = sym (take-append-drop 8 bytes) ∙ ap (λ (t : List ℕ). t ++ drop 8 bytes) (sym front) ∙ ap (λ (t : List ℕ). number_bytes n ++ t) rest-is;
        rest_fits = subst IsBytes rest-is (bytes-drop 8 bytes fits);
      },
      subst (λ (k : ℕ). k < 2 ^ 64) n-is (below_64 (take 8 bytes) (bytes-take 8 bytes fits)),
    )

pub number_again : (n : ℕ) (rest : List ℕ) → n < 2 ^ 64 → u64_at (number_bytes n ++ rest) ≡ Some (n, rest)
number_again n rest lt =
    let long : ltb (length (number_bytes n ++ rest)) 8 ≡ false = le-ltb _ _ (omega arith) in
    rw long (ap (λ (k : ℕ). Some (k, rest)) (from_le_bytes-to_le_bytes_8 n lt))

-- nothing is found only in less than eight bytes
pub number_none : (bytes : List ℕ) → u64_at bytes ≡ None → length bytes < 8
number_none bytes e = ltb-true _ _ (stopped_none (ltb (length bytes) 8) (from_le_bytes w64 (take 8 bytes), drop 8 bytes) e)

-- ---- numbers of one byte

pub small_takes : (limit : ℕ) (bytes : List ℕ) (n : ℕ) (rest : List ℕ) → IsBytes bytes → small_at limit bytes ≡ Some (n, rest) → Takes bytes (n ∷ []) rest × (n < limit)
small_takes limit [] n rest fits e = absurd cc
small_takes limit (b ∷ bytes) n rest fits e =
    let g = passed_some (ltb b limit) (b, bytes) (n, rest) e in
    subst (λ (p : ℕ × List ℕ). Takes (b ∷ bytes) (p.0 ∷ []) p.1 × (p.0 < limit)) g.1 (record { parts = refl; rest_fits = bytes-rest b bytes fits }, ltb-true _ _ g.0)

pub small_again : (limit n : ℕ) (rest : List ℕ) → n < limit → small_at limit (n ∷ rest) ≡ Some (n, rest)
small_again limit n rest lt = rw (lt-ltb n limit lt) refl
