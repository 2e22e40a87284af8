-- Maps with entries, and codes that are not listed.
use Rattle.std.proofs.Common.{◌≡◌, ◌≢◌, ℕ, zero, suc, ◌+◌, ◌<◌, ◌≤◌, Bool, true, false, not, if◌then◌else◌, List, [], ◌∷◌, length, get_or, Option, Some, refl, ◌∙◌, arith, add-zero, get_or-drop, ◌⊎◌, inl, inr}
use Rattle.std.proofs.lemmas.List.{length-replicate, get_or-append_right}
use Rattle.pb_sound.specs.Words.{Frame, has_byte, has_bytes, set_flags, RuleCode, when, Map, with_entry, with_list, entries, push_front}
use Rattle.pb_sound.specs.Fits.{HasValue}
use Rattle.pb_base.proofs.Logic.{and_true}

-- a code that isn't listed has its rule kept
pub when_not : (b : Bool) (c : RuleCode) → when b c ≡ [] → b ≡ false
when_not b c e = grind arith

pub cond_when : (a b : Bool) (c d : RuleCode) → (if a then when (not b) c else d ∷ []) ≡ [] → (a ≡ true) × (b ≡ true)
cond_when a b c d e = grind arith

with_same : (m : Map) (x v : ℕ) → with_entry m x v x ≡ Some v
with_same m x v = grind arith

pub with_at : (m : Map) (x v y : ℕ) → y ≡ x → with_entry m x v y ≡ Some v
with_at m x v y e = rw e (with_same m x v)

pub with_other : (m : Map) (x v y : ℕ) → y ≢ x → with_entry m x v y ≡ m y
with_other m x v y h = grind arith

-- n bytes, where there is each
pub record Bytes (m : Map) (x n : ℕ) : Type 0 where
  pub bytes : List ℕ
  pub are : entries m x n ≡ Some bytes
  pub long : length bytes ≡ n

push_both : {a : Option ℕ} {b : Option (List ℕ)} (x : ℕ) (xs : List ℕ) → a ≡ Some x → b ≡ Some xs → push_front a b ≡ Some (x ∷ xs)
push_both x xs e f = rw (e, f) refl

-- n places that all have a value are n bytes
pub entries_are : (m : Map) (x n : ℕ) → ((i : ℕ) → i < n → HasValue (m (x + i))) → Bytes m x n
entries_are m x zero h = record { bytes = []; are = refl; long = refl }
entries_are m x (suc n) h =
    let first = h 0 (omega arith) in
    let here : m x ≡ Some first.0 = rw add-zero at first.1 in
    let rest = entries_are m (x + 1) n (λ i k.
    let e : x + 1 + i ≡ x + suc i = omega arith in
    rw e (h (suc i) (omega arith))) in
    record { bytes = first.0 ∷ rest.bytes; are = push_both first.0 rest.bytes here rest.are; long = let l = rest.long in omega arith }

-- n written bytes are written one by one
pub true_at : (n : ℕ) (f : Frame) (j : ℕ) → has_bytes f j n ≡ true → (i : ℕ) → i < n → has_byte f (j + i) ≡ true
true_at zero f j h i k = absurd (omega arith)
true_at (suc n) f j h zero k = let e : j + 0 ≡ j = omega arith in rw e (and_true (has_byte f j) _ h).0
true_at (suc n) f j h (suc i) k =
    let e : j + suc i ≡ j + 1 + i = omega arith in
    rw e (true_at n f (j + 1) (and_true (has_byte f j) _ h).1 i (omega arith))

-- a flag that is set apart from those that are set from lo on was set before
pub flag_from : (w : List Bool) (lo n i : ℕ) → (i < lo) ⊎ (lo + n ≤ i) → get_or (set_flags w lo n) i false ≡ true → get_or w i false ≡ true
flag_from w zero n i (inl l) t = absurd (omega arith)
flag_from w zero n i (inr l) t = grind (arith, get_or-append_right, length-replicate, get_or-drop)
flag_from [] (suc lo) n zero k t = cc
flag_from [] (suc lo) n (suc i) (inl l) t = flag_from [] lo n i (inl (omega arith)) t
flag_from [] (suc lo) n (suc i) (inr l) t = flag_from [] lo n i (inr (omega arith)) t
flag_from (b ∷ w) (suc lo) n zero k t = t
flag_from (b ∷ w) (suc lo) n (suc i) (inl l) t = flag_from w lo n i (inl (omega arith)) t
flag_from (b ∷ w) (suc lo) n (suc i) (inr l) t = flag_from w lo n i (inr (omega arith)) t

pub with_list_below : (vs : List ℕ) (m : Map) (x y : ℕ) → y < x → with_list m x vs y ≡ m y
with_list_below [] m x y h = refl
with_list_below (v ∷ vs) m x y h = with_list_below vs (with_entry m x v) (x + 1) y (omega arith) ∙ with_other m x v y (omega arith)

pub with_list_above : (vs : List ℕ) (m : Map) (x y : ℕ) → x + length vs ≤ y → with_list m x vs y ≡ m y
with_list_above [] m x y h = refl
with_list_above (v ∷ vs) m x y h = with_list_above vs (with_entry m x v) (x + 1) y (omega arith) ∙ with_other m x v y (omega arith)

-- what was put from x on stands there
pub with_list_in : (vs : List ℕ) (m : Map) (x i : ℕ) → i < length vs → with_list m x vs (x + i) ≡ Some (get_or vs i 0)
with_list_in [] m x i h = absurd (omega arith)
with_list_in (v ∷ vs) m x zero h = rw add-zero (with_list_below vs (with_entry m x v) (x + 1) x (omega arith) ∙ with_same m x v)
with_list_in (v ∷ vs) m x (suc i) h = grind (arith, with_list_in vs (with_entry m x v) (x + 1) i (omega arith))
