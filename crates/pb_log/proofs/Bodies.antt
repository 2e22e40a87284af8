-- A record's body in its parts, and what stands at the front of bytes.
use Rattle.std.proofs.Common.{◌≡◌, ℕ, ◌+◌, ◌<◌, ◌^◌, List, ◌++◌, inl, inr, length, get_or, take, drop, refl, sym, ◌∙◌, ap, subst, arith, append_assoc, length-take, take-append-drop, Fits, w8}
use Rattle.std.proofs.lemmas.List.{take_at, drop_at, get_or-take, get_or-drop, get_or_past}
use Rattle.std.proofs.lemmas.Bool.{cases_lt}
use Rattle.std.proofs.lemmas.Nat.{from_le_bytes-to_le_bytes_4, from_le_bytes-to_le_bytes_8, le_bytes_4, le_bytes_8}
use Rattle.std.specs.Int.{w32, w64, to_le_bytes, from_le_bytes}
use Rattle.sqlite_disk.specs.Digest.{digest}
use Rattle.pb_log.specs.Records.{Stands, body, block}

-- put together again
parts_joined : (L S r rest rest1 rest2 rest3 : List ℕ) → take 4 rest1 ≡ L → drop 4 rest1 ≡ rest2 → take 8 rest2 ≡ S → drop 8 rest2 ≡ rest3 → rest3 ≡ r ++ rest → rest1 ≡ ((L ++ S) ++ r) ++ rest
parts_joined L S r rest rest1 rest2 rest3 l d s e f =
    sym (take-append-drop 4 rest1)
    ∙ ap (λ (x : List ℕ). x ++ drop 4 rest1) l
    ∙ ap (λ (x : List ℕ). L ++ x) (d ∙ sym (take-append-drop 8 rest2) ∙ ap (λ (x : List ℕ). x ++ drop 8 rest2) s ∙ ap (λ (x : List ℕ). S ++ x) (e ∙ f))
    ∙ sym (append_assoc L S (r ++ rest))
    ∙ sym (append_assoc (L ++ S) r rest)

-- and taken apart
parts_apart : (L S r rest rest1 : List ℕ) → rest1 ≡ ((L ++ S) ++ r) ++ rest → rest1 ≡ L ++ (S ++ (r ++ rest))
parts_apart L S r rest rest1 is = is ∙ append_assoc (L ++ S) r rest ∙ append_assoc L S (r ++ rest)

-- each byte of a part is one of the whole
small_part : (xs : List ℕ) → ((i : ℕ) → Fits w8 (get_or xs i 0)) → (a n i : ℕ) → get_or (take n (drop a xs)) i 0 < 256
small_part xs small a n i = elim (cases_lt i n) [
  | inl within ↦ subst (λ (k : ℕ). k < 256) (sym (get_or-take n (drop a xs) i 0 within ∙ get_or-drop a xs i 0)) (small (a + i)).fits
  | inr past ↦ subst (λ (k : ℕ). k < 256) (sym (get_or_past (take n (drop a xs)) i 0 (omega (arith, length-take n (drop a xs), past)))) (omega arith)
]

module _ (at : ℕ) (bytes rest2 rest3 len sum : List ℕ)
    (len_is : len ≡ take 4 bytes) (rest2_is : rest2 ≡ drop 4 bytes) (sum_is : sum ≡ take 8 rest2) (rest3_is : rest3 ≡ drop 8 rest2) where
  module _ (b : Stands at bytes) where
    all_of_it : bytes ≡ to_le_bytes w32 (length b.item) ++ (to_le_bytes w64 (digest at b.item) ++ (b.item ++ b.rest))
    all_of_it = parts_apart (to_le_bytes w32 (length b.item)) (to_le_bytes w64 (digest at b.item)) b.item b.rest bytes b.is

    len_of : len ≡ to_le_bytes w32 (length b.item)
    len_of = len_is ∙ ap (λ (x : List ℕ). take 4 x) all_of_it ∙ take_at (to_le_bytes w32 (length b.item)) (to_le_bytes w64 (digest at b.item) ++ (b.item ++ b.rest)) 4 refl

    after_len : rest2 ≡ to_le_bytes w64 (digest at b.item) ++ (b.item ++ b.rest)
    after_len = rest2_is ∙ ap (λ (x : List ℕ). drop 4 x) all_of_it ∙ drop_at (to_le_bytes w32 (length b.item)) (to_le_bytes w64 (digest at b.item) ++ (b.item ++ b.rest)) 4 refl

    sum_of : sum ≡ to_le_bytes w64 (digest at b.item)
    sum_of = sum_is ∙ ap (λ (x : List ℕ). take 8 x) after_len ∙ take_at (to_le_bytes w64 (digest at b.item)) (b.item ++ b.rest) 8 refl

    after_sum : rest3 ≡ b.item ++ b.rest
    after_sum = rest3_is ∙ ap (λ (x : List ℕ). drop 8 x) after_len ∙ drop_at (to_le_bytes w64 (digest at b.item)) (b.item ++ b.rest) 8 refl

    -- where a whole record stands there, its sum is right
    pub sum_agrees : (item : List ℕ) (n d : ℕ) → n ≡ from_le_bytes w32 len → item ≡ take n rest3 → d ≡ digest at item → d < 2 ^ 64 → d ≡ from_le_bytes w64 sum
    sum_agrees item n d n_is item_is d_is small =
        let size : n ≡ length b.item = n_is ∙ ap (λ (x : List ℕ). from_le_bytes w32 x) len_of ∙ from_le_bytes-to_le_bytes_4 (length b.item) b.short in
        let same : item ≡ b.item = item_is ∙ ap (λ (x : List ℕ). take n x) after_sum ∙ take_at b.item b.rest n (sym size) in
        let d_of : d ≡ digest at b.item = d_is ∙ ap (λ (x : List ℕ). digest at x) same in
        d_of ∙ sym (from_le_bytes-to_le_bytes_8 (digest at b.item) (subst (λ (x : ℕ). x < 2 ^ 64) d_of small)) ∙ ap (λ (x : List ℕ). from_le_bytes w64 x) (sym sum_of)

  -- what the code has found there is a whole record
  pub stands_whole : ((i : ℕ) → Fits w8 (get_or bytes i 0)) → length len ≡ 4 → length sum ≡ 8 → (item rest : List ℕ) (n d : ℕ) → n ≡ from_le_bytes w32 len → length item ≡ n → rest3 ≡ item ++ rest → d ≡ digest at item → d ≡ from_le_bytes w64 sum → bytes ≡ body at item ++ rest
  stands_whole small four eight item rest n d n_is size split d_is agrees =
      let sum_at : sum ≡ take 8 (drop 4 bytes) = sum_is ∙ ap (λ (x : List ℕ). take 8 x) rest2_is in
      let L : to_le_bytes w32 (length item) ≡ len = le_bytes_4 len (length item) four (λ i. subst (λ (x : List ℕ). get_or x i 0 < 256) (sym len_is) (small_part bytes small 0 4 i)) (size ∙ n_is) in
      let S : to_le_bytes w64 (digest at item) ≡ sum = le_bytes_8 sum (digest at item) eight (λ i. subst (λ (x : List ℕ). get_or x i 0 < 256) (sym sum_at) (small_part bytes small 4 8 i)) (sym d_is ∙ agrees) in
      parts_joined (to_le_bytes w32 (length item)) (to_le_bytes w64 (digest at item)) item rest bytes rest2 rest3 (sym len_is ∙ sym L) (sym rest2_is) (sym sum_is ∙ sym S) (sym rest3_is) split

-- two bodies at the front of the same bytes are one, and so is what follows
pub one_body : (at : ℕ) (r s x y : List ℕ) → length r < 2 ^ 32 → length s < 2 ^ 32 → body at r ++ x ≡ body at s ++ y → (r ≡ s) × (x ≡ y)
one_body at r s x y short_r short_s same =
    let L = λ (l : List ℕ). to_le_bytes w32 (length l) in
    let S = λ (l : List ℕ). to_le_bytes w64 (digest at l) in
    let parts : L r ++ (S r ++ (r ++ x)) ≡ L s ++ (S s ++ (s ++ y)) =
    sym (parts_apart (L r) (S r) r x (body at r ++ x) refl) ∙ same ∙ parts_apart (L s) (S s) s y (body at s ++ y) refl in
    let lens : L r ≡ L s = sym (take_at (L r) (S r ++ (r ++ x)) 4 refl) ∙ ap (λ (l : List ℕ). take 4 l) parts ∙ take_at (L s) (S s ++ (s ++ y)) 4 refl in
    let size : length r ≡ length s = sym (from_le_bytes-to_le_bytes_4 (length r) short_r) ∙ ap (λ (l : List ℕ). from_le_bytes w32 l) lens ∙ from_le_bytes-to_le_bytes_4 (length s) short_s in
    let then : S r ++ (r ++ x) ≡ S s ++ (s ++ y) = sym (drop_at (L r) (S r ++ (r ++ x)) 4 refl) ∙ ap (λ (l : List ℕ). drop 4 l) parts ∙ drop_at (L s) (S s ++ (s ++ y)) 4 refl in
    let last : r ++ x ≡ s ++ y = sym (drop_at (S r) (r ++ x) 8 refl) ∙ ap (λ (l : List ℕ). drop 8 l) then ∙ drop_at (S s) (s ++ y) 8 refl in (
      sym (take_at r x (length r) refl) ∙ ap (λ (l : List ℕ). take (length r) l) last ∙ take_at s y (length r) (sym size),
      sym (drop_at r x (length r) refl) ∙ ap (λ (l : List ℕ). drop (length r) l) last ∙ drop_at s y (length r) (sym size),
    )

pub one_block : (at : ℕ) (r s x y : List ℕ) → length r < 2 ^ 32 → length s < 2 ^ 32 → block at r ++ x ≡ block at s ++ y → (r ≡ s) × (x ≡ y)
one_block at r s x y short_r short_s same = one_body at r s x y short_r short_s (ap (λ (l : List ℕ). drop 1 l) same)
