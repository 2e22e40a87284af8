-- The chunks of a sorted list: what they are together after an edit, and which one a key belongs into.
use Rattle.std.proofs.Common.{◌≡◌, ℕ, ◌<◌, ◌≤◌, ◌+◌, ◌-◌, Bool, true, false, nat_lt, cond, List, [], ◌∷◌, ◌++◌, None, Some, refl, sym, ap, ◌∙◌, subst, arith, zero, suc, length, take, drop, get_or, set, T, append_assoc, length-append, length-set, slice_get, vec_len, ◌==◌, ◌*◌, Ordering, Vec}
use Rattle.std.specs.Cmp.{IsTotalOrder}
use Rattle.std.specs.List.{All, AllWithin, insert, remove, last_or}
use Rattle.std.proofs.lemmas.Bool.{cases_order}
use Rattle.std.proofs.lemmas.List.{get_or_read, take_all}
use Rattle.pb_memtablet.specs.Places.{IsCut, IsGap}
use Rattle.std.specs.List.Sorted.{IsPartitionedBy}
use Rattle.std.proofs.lemmas.List.Elements.{All-cons, All-append, All-take, All-drop, All-head, All-tail}
use Rattle.std.specs.FinMap.{find, put}
use Rattle.std.specs.FinMap.Entries.{is_sorted}
use Rattle.pb_memtablet.specs.declared.chunks.TheConstants.{CHUNK}
use Rattle.pb_memtablet.specs.Chunks.{chunk_entries, IsChunk, IsHome, AreBelow, AreAbove, starts_by, entries_up_to, entries_above}
use Rattle.pb_memtablet.proofs.Homes.{sorted_left, sorted_right, above_head, above_after, below_head, below_higher, at_most, is_above, above_parts, find-home, put-home, without, without-home, entries_up_to-home, entries_above-home, entries_up_to-cut, entries_above-cut, last_of_take, last_or-append, first_of_drop, drop_past}
use Rattle.pb_memtablet.proofs.Spots.{above_first, below_here, put-both}
use Rattle.pb_base.proofs.Logic.{empty_by_length}

pub All-insert : {X : Type 0} (P : X → Type 0) (xs : List X) (i : ℕ) (x : X) → P x → All P xs → All P (insert xs i x)
All-insert P xs i x p h = All-append P (take i xs) (x ∷ drop i xs) (All-take P i xs h) (All-cons P x (drop i xs) p (All-drop P i xs h))

pub All-remove : {X : Type 0} (P : X → Type 0) (xs : List X) (i : ℕ) → All P xs → All P (remove xs i)
All-remove P xs i h = All-append P (take i xs) (drop (suc i) xs) (All-take P i xs h) (All-drop P (suc i) xs h)

-- what is written at a place is read there
pub at_set : {X : Type 0} (xs : List X) (i : ℕ) (x d : X) → i < length xs → get_or (set xs i x) i d ≡ x
at_set [] i x d lt = absurd (omega (arith, lt))
at_set (y ∷ xs) zero x d lt = refl
at_set (y ∷ xs) (suc i) x d lt = at_set xs i x d (omega arith)

pub is_zero : (n : ℕ) → true ≡ (n == 0) → n ≡ 0
is_zero n e = grind arith

pub not_zero : (n : ℕ) → false ≡ (n == 0) → 0 < n
not_zero n e = grind arith

is_below : (i n : ℕ) → nat_lt i n ≡ true → i < n
is_below i n t = grind arith

is_past : (i n : ℕ) → nat_lt i n ≡ false → n ≤ i
is_past i n f = grind arith

-- a put makes at most one entry more
pub at_most_one : (b : Bool) → cond b 1 0 ≤ 1
at_most_one b = grind arith

-- whether or not a call did something, its list is sorted
pub sorted_if : {K X : Type 0} (R : K → K → Ordering) (b : Bool) (es fs : List (K × X)) → T (is_sorted R es) → T (is_sorted R fs) → T (is_sorted R (cond b es fs))
sorted_if x b es fs s t = grind arith

pub remove-set : {X : Type 0} (xs : List X) (i : ℕ) (x : X) → remove (set xs i x) i ≡ remove xs i
remove-set [] i x = refl
remove-set (y ∷ xs) zero x = refl
remove-set (y ∷ xs) (suc i) x = ap (λ l. y ∷ l) (remove-set xs i x)

module _ {E A : Type 0} where
  pub nothing_in : (c : Vec E A) → vec_len c ≡ 0 → c.items ≡ []
  nothing_in c n = empty_by_length c.items (omega (arith, c.ok.0, n))

  pub chunk_entries-split : (cs : List (Vec E A)) (i : ℕ) (d : Vec E A) → i < length cs → chunk_entries cs ≡ chunk_entries (take i cs) ++ ((get_or cs i d).items ++ chunk_entries (drop (suc i) cs))
  chunk_entries-split [] i d lt = absurd (omega (arith, lt))
  chunk_entries-split (c ∷ cs) zero d lt = refl
  chunk_entries-split (c ∷ cs) (suc i) d lt = ap (λ l. c.items ++ l) (chunk_entries-split cs i d (omega arith)) ∙ sym (append_assoc c.items _ _)

  pub chunk_entries-set : (cs : List (Vec E A)) (i : ℕ) (m : Vec E A) → i < length cs → chunk_entries (set cs i m) ≡ chunk_entries (take i cs) ++ (m.items ++ chunk_entries (drop (suc i) cs))
  chunk_entries-set [] i m lt = absurd (omega (arith, lt))
  chunk_entries-set (c ∷ cs) zero m lt = refl
  chunk_entries-set (c ∷ cs) (suc i) m lt = ap (λ l. c.items ++ l) (chunk_entries-set cs i m (omega arith)) ∙ sym (append_assoc c.items _ _)

  pub chunk_entries-from : (cs : List (Vec E A)) (i : ℕ) (m : Vec E A) → i < length cs → m ≡ get_or cs i m → chunk_entries (drop i cs) ≡ m.items ++ chunk_entries (drop (suc i) cs)
  chunk_entries-from [] i m lt e = absurd (omega (arith, lt))
  chunk_entries-from (c ∷ cs) zero m lt e = ap (λ (d : Vec E A). d.items ++ chunk_entries cs) (sym e)
  chunk_entries-from (c ∷ cs) (suc i) m lt e = chunk_entries-from cs i m (omega arith) e

  -- a chunk in two halves
  pub chunk_entries-parted : (cs : List (Vec E A)) (i : ℕ) (a b d : Vec E A) → i < length cs → a.items ++ b.items ≡ (get_or cs i d).items → chunk_entries (insert (set cs i a) (suc i) b) ≡ chunk_entries cs
  chunk_entries-parted [] i a b d lt e = absurd (omega (arith, lt))
  chunk_entries-parted (c ∷ cs) zero a b d lt e = sym (append_assoc a.items b.items (chunk_entries cs)) ∙ ap (λ l. l ++ chunk_entries cs) e
  chunk_entries-parted (c ∷ cs) (suc i) a b d lt e = ap (λ l. c.items ++ l) (chunk_entries-parted cs i a b d (omega arith) e)

  pub drop-parted : (cs : List (Vec E A)) (i : ℕ) (a b : Vec E A) → i < length cs → drop (suc (suc i)) (insert (set cs i a) (suc i) b) ≡ drop (suc i) cs
  drop-parted [] i a b lt = absurd (omega (arith, lt))
  drop-parted (c ∷ cs) zero a b lt = refl
  drop-parted (c ∷ cs) (suc i) a b lt = drop-parted cs i a b (omega arith)

  -- an empty chunk taken out
  pub chunk_entries-removed : (cs : List (Vec E A)) (i : ℕ) (d : Vec E A) → i < length cs → (get_or cs i d).items ≡ [] → chunk_entries (remove cs i) ≡ chunk_entries cs
  chunk_entries-removed [] i d lt e = absurd (omega (arith, lt))
  chunk_entries-removed (c ∷ cs) zero d lt e = sym (ap (λ l. l ++ chunk_entries cs) e)
  chunk_entries-removed (c ∷ cs) (suc i) d lt e = ap (λ l. c.items ++ l) (chunk_entries-removed cs i d (omega arith) e)

  pub length-chunk_entries : (cs : List (Vec E A)) → All IsChunk cs → length (chunk_entries cs) ≤ CHUNK * length cs
  length-chunk_entries [] h = omega arith
  length-chunk_entries (c ∷ cs) h = grind (arith, All-head, All-tail, length-append, c.items, length-chunk_entries cs (All-tail IsChunk c cs h))

  -- an entry more or less in one chunk is one more or less of all
  pub length-set_in : (cs : List (Vec E A)) (i : ℕ) (m n : Vec E A) (a b : ℕ) → i < length cs → m ≡ get_or cs i m → length n.items + b ≡ length m.items + a → length (chunk_entries (set cs i n)) + b ≡ length (chunk_entries cs) + a
  length-set_in [] i m n a b lt e l = absurd (omega (arith, lt))
  length-set_in (c ∷ cs) zero m n a b lt e l = grind (arith, length-append, c.items, m.items, n.items)
  length-set_in (c ∷ cs) (suc i) m n a b lt e l = grind (arith, length-append, c.items, length-set_in cs i m n a b (omega arith) e l)

  pub length-taken_from : (cs : List (Vec E A)) (i : ℕ) (m n : Vec E A) (b : Bool) → i < length cs → m ≡ get_or cs i m → vec_len n + cond b 1 0 ≡ vec_len m → length (chunk_entries (set cs i n)) + cond b 1 0 ≡ length (chunk_entries cs)
  length-taken_from cs i m n b lt e l =
      let less : length n.items + cond b 1 0 ≡ length m.items + 0 = omega (arith, m.ok.0, n.ok.0) in
      let all : length (chunk_entries (set cs i n)) + cond b 1 0 ≡ length (chunk_entries cs) + 0 = length-set_in cs i m n 0 (cond b 1 0) lt e less in
      omega arith

  -- a place in a chunk, read again
  pub long_here : (cs : List (Vec E A)) (i p : ℕ) (x d : Vec E A) → i < length cs → x ≡ get_or cs i x → p < vec_len x → length (get_or cs i d).items ≤ p → ⊥
  long_here cs i p x d lt x_is inside past =
      let same : length x.items ≡ length (get_or cs i d).items = ap (λ (v : Vec E A). length v.items) (get_or_read cs i x lt x_is d) in
      omega (arith, same, x.ok.0, inside, past)

  -- all after the first, as a slice has them
  pub rest_is : (cs : List (Vec E A)) → take (length cs - 1) (drop 1 cs) ≡ drop 1 cs
  rest_is [] = refl
  rest_is (c ∷ cs) = take_all (length (c ∷ cs) - 1) cs (omega arith)

  -- a chunk that became empty is taken out
  pub retired_chunk : (cs ds : List (Vec E A)) (i : ℕ) (n x : Vec E A) → i < length cs → ds ≡ remove (set cs i n) i → x ≡ get_or (set cs i n) i x → true ≡ (vec_len x == 0) → chunk_entries ds ≡ chunk_entries (set cs i n)
  retired_chunk cs ds i n x lt ds_is x_is empty =
      let same : x ≡ n = x_is ∙ at_set cs i n x lt in
      let none : vec_len n ≡ 0 = is_zero (vec_len n) (empty ∙ ap (λ (v : Vec E A). vec_len v == 0) same) in
      let within : i < length (set cs i n) = rw length-set lt in
      ap chunk_entries ds_is ∙ chunk_entries-removed (set cs i n) i n within (ap (λ (v : Vec E A). v.items) (at_set cs i n n lt) ∙ nothing_in n none)

  -- a chunk that is read twice
  pub read_again : (cs : List (Vec E A)) (i : ℕ) (m x : Vec E A) → i < length cs → m ≡ get_or cs i m → x ≡ get_or cs i x → vec_len x ≡ vec_len m
  read_again cs i m x lt m_is x_is = ap (λ (c : Vec E A). vec_len c) (get_or_read cs i x lt x_is m ∙ sym m_is)

  pub same_again : (cs : List (Vec E A)) (i : ℕ) (m x : Vec E A) → i < length cs → m ≡ get_or cs i m → x ≡ get_or cs i x → x ≡ m
  same_again cs i m x lt m_is x_is = get_or_read cs i x lt x_is m ∙ sym m_is

  pub still_filled : (cs : List (Vec E A)) (i : ℕ) (n x : Vec E A) → i < length cs → x ≡ get_or (set cs i n) i x → false ≡ (vec_len x == 0) → 0 < vec_len n
  still_filled cs i n x lt x_is some = not_zero (vec_len n) (some ∙ ap (λ (v : Vec E A). vec_len v == 0) (x_is ∙ at_set cs i n x lt))

module _ {K X : Type 0} (R : K → K → Ordering) (o : IsTotalOrder R) where
  above_from_first : (es ys : List (K × X)) (k : K) → 0 < length es → T (is_sorted R (es ++ ys)) → starts_by R k es ≡ false → AreAbove R k (es ++ ys)
  above_from_first es ys k some s f = grind (arith, above_head, is_above)

  below_to_first : (xs es ys : List (K × X)) (k : K) → T (is_sorted R (xs ++ (es ++ ys))) → starts_by R k es ≡ true → AreBelow R k xs
  below_to_first xs es ys k s t = grind (arith, below_head, at_most)

  not_above : (es ys : List (K × X)) (k : K) → AreAbove R k (es ++ ys) → starts_by R k es ≡ true → ⊥
  not_above es ys k a t = grind arith

  cut_not_started : (es : List (K × X)) (k : K) → IsCut R es k 0 → starts_by R k es ≡ true → ⊥
  cut_not_started es k c t = grind arith

  module _ {A : Type 0} where
    -- no chunk of a list above k starts by k
    none_starts : (cs : List (Vec (K × X) A)) (k : K) (j : ℕ) (d : Vec (K × X) A) → AreAbove R k (chunk_entries cs) → j < length cs → starts_by R k (get_or cs j d).items ≡ true → ⊥
    none_starts [] k j d a lt t = absurd (omega (arith, lt))
    none_starts (c ∷ cs) k zero d a lt t = not_above c.items (chunk_entries cs) k a t
    none_starts (c ∷ cs) k (suc j) d a lt t = none_starts cs k j d (above_parts R c.items (chunk_entries cs) k a).1 (omega arith) t

    pub chunk_is_filled : (c : Vec (K × X) A) → IsChunk c → 0 < length c.items
    chunk_is_filled c h = let n = c.ok.0 in let f = h.filled in omega (arith, n, f)

    chunks_are_partitioned : (cs : List (Vec (K × X) A)) (k : K) → T (is_sorted R (chunk_entries cs)) → All IsChunk cs → IsPartitionedBy (λ c. starts_by R k c.items) cs
    chunks_are_partitioned [] k s h i j d le lt t = absurd (omega (arith, lt))
    chunks_are_partitioned (c ∷ cs) k s h zero j d le lt t =
        elim (starts_by R k c.items) as (λ b. starts_by R k c.items ≡ b → b ≡ true) [
          | true ↦ λ e. refl
          | false ↦ λ e. absurd (none_starts (c ∷ cs) k j d (above_from_first c.items (chunk_entries cs) k (chunk_is_filled c (All-head IsChunk c cs h)) s e) lt t)
        ] refl
    chunks_are_partitioned (c ∷ cs) k s h (suc i) zero d le lt t = absurd (omega (arith, le))
    chunks_are_partitioned (c ∷ cs) k s h (suc i) (suc j) d le lt t = grind (arith, sorted_right, All-tail, c.items, chunks_are_partitioned cs k (sorted_right R c.items (chunk_entries cs) s) (All-tail IsChunk c cs h) i j d (omega arith) (omega arith) t)

    above_point : (cs : List (Vec (K × X) A)) (k : K) (p : ℕ) → T (is_sorted R (chunk_entries cs)) → All IsChunk cs → AllWithin (λ c. starts_by R k c.items ≡ false) cs p (length cs) → AreAbove R k (chunk_entries (drop p cs))
    above_point [] k zero s h f = tt
    above_point [] k (suc p) s h f = tt
    above_point (c ∷ cs) k zero s h f = above_from_first c.items (chunk_entries cs) k (chunk_is_filled c (All-head IsChunk c cs h)) s (f 0 c (omega arith) (omega arith))
    above_point (c ∷ cs) k (suc p) s h f =
        above_point cs k p (sorted_right R c.items (chunk_entries cs) s) (All-tail IsChunk c cs h) (λ j d a b. f (suc j) d (omega arith) (omega arith))

    -- so many chunks after the first start by k, and no more
    home_at_point : (cs : List (Vec (K × X) A)) (k : K) (p : ℕ) → 0 < length cs → p ≤ length (drop 1 cs) → T (is_sorted R (chunk_entries cs)) → All IsChunk cs
        → AllWithin (λ c. starts_by R k c.items ≡ true) (drop 1 cs) 0 p → AllWithin (λ c. starts_by R k c.items ≡ false) (drop 1 cs) p (length (drop 1 cs)) → IsHome R cs k p
    home_at_point [] k p some le s h t f = absurd (omega (arith, some))
    home_at_point (c ∷ cs) k zero some le s h t f = record { within = some; below = tt; above = above_point cs k 0 (sorted_right R c.items (chunk_entries cs) s) (All-tail IsChunk c cs h) f }
    home_at_point (c ∷ cs) k (suc p) some le s h t f =
        let all = c ∷ cs in
        let lt : suc p < length all = omega arith in
        record {
          within = lt;
          below = below_to_first (chunk_entries (take (suc p) all)) (get_or all (suc p) c).items (chunk_entries (drop (suc (suc p)) all)) k (subst (λ l. T (is_sorted R l)) (chunk_entries-split all (suc p) c lt) s) (t p c (omega arith) (omega arith));
          above = above_point cs k (suc p) (sorted_right R c.items (chunk_entries cs) s) (All-tail IsChunk c cs h) f;
        }

    started_at_point : (cs : List (Vec (K × X) A)) (k : K) (p : ℕ) (d : Vec (K × X) A) → 0 < p → AllWithin (λ c. starts_by R k c.items ≡ true) (drop 1 cs) 0 p → starts_by R k (get_or cs p d).items ≡ true
    started_at_point cs k zero d some t = absurd (omega (arith, some))
    started_at_point [] k (suc p) d some t = t p d (omega arith) (omega arith)
    started_at_point (c ∷ cs) k (suc p) d some t = t p d (omega arith) (omega arith)

    sorted_after_first : (cs : List (Vec (K × X) A)) → T (is_sorted R (chunk_entries cs)) → T (is_sorted R (chunk_entries (drop 1 cs)))
    sorted_after_first [] s = s
    sorted_after_first (c ∷ cs) s = sorted_right R c.items (chunk_entries cs) s

    module _ (cs xs : List (Vec (K × X) A)) (k : K) (e : xs ≡ drop 1 cs) where
      pub rest_is_partitioned : T (is_sorted R (chunk_entries cs)) → All IsChunk cs → IsPartitionedBy (λ c. starts_by R k c.items) xs
      rest_is_partitioned s h =
          subst (λ (ys : List (Vec (K × X) A)). IsPartitionedBy (λ c. starts_by R k c.items) ys) (sym e) (chunks_are_partitioned (drop 1 cs) k (sorted_after_first cs s) (All-drop IsChunk 1 cs h))

      pub home_at_rest : (p : ℕ) → 0 < length cs → p ≤ length xs → T (is_sorted R (chunk_entries cs)) → All IsChunk cs → AllWithin (λ c. starts_by R k c.items ≡ true) xs 0 p → AllWithin (λ c. starts_by R k c.items ≡ false) xs p (length xs) → IsHome R cs k p
      home_at_rest p some le s h t f =
          subst (λ (ys : List (Vec (K × X) A)). p ≤ length ys → AllWithin (λ c. starts_by R k c.items ≡ true) ys 0 p → AllWithin (λ c. starts_by R k c.items ≡ false) ys p (length ys) → IsHome R cs k p) (sym e)
          (λ le' t' f'. home_at_point cs k p some le' s h t' f') le t f

      pub started_at_rest : (p : ℕ) (d : Vec (K × X) A) → 0 < p → AllWithin (λ c. starts_by R k c.items ≡ true) xs 0 p → starts_by R k (get_or cs p d).items ≡ true
      started_at_rest p d some t = started_at_point cs k p d some (subst (λ (ys : List (Vec (K × X) A)). AllWithin (λ c. starts_by R k c.items ≡ true) ys 0 p) e t)

    -- what comes before a chunk that starts by k is below k
    pub below_start : (cs : List (Vec (K × X) A)) (k : K) (i : ℕ) (m : Vec (K × X) A) → i < length cs → m ≡ get_or cs i m → T (is_sorted R (chunk_entries cs)) → starts_by R k m.items ≡ true → AreBelow R k (chunk_entries (take i cs))
    below_start cs k i m lt e s t =
        below_to_first (chunk_entries (take i cs)) (get_or cs i m).items (chunk_entries (drop (suc i) cs)) k (subst (λ l. T (is_sorted R l)) (chunk_entries-split cs i m lt) s)
        (ap (λ (c : Vec (K × X) A). starts_by R k c.items) (sym e) ∙ t)

    -- what stands from a chunk on that doesn't start by k is above k
    pub above_start : (cs : List (Vec (K × X) A)) (k : K) (i : ℕ) (m : Vec (K × X) A) → i < length cs → m ≡ get_or cs i m → T (is_sorted R (chunk_entries cs)) → All IsChunk cs → starts_by R k m.items ≡ false → AreAbove R k (chunk_entries (drop i cs))
    above_start [] k i m lt e s h f = absurd (omega (arith, lt))
    above_start (c ∷ cs) k zero m lt e s h f = above_from_first c.items (chunk_entries cs) k (chunk_is_filled c (All-head IsChunk c cs h)) s (ap (λ (d : Vec (K × X) A). starts_by R k d.items) (sym e) ∙ f)
    above_start (c ∷ cs) k (suc i) m lt e s h f = above_start cs k i m (omega arith) e (sorted_right R c.items (chunk_entries cs) s) (All-tail IsChunk c cs h) f

    -- ---- the list around the home of k
    pub around_home : (cs : List (Vec (K × X) A)) (k : K) (i : ℕ) (m : Vec (K × X) A) → IsHome R cs k i → m ≡ get_or cs i m → chunk_entries cs ≡ chunk_entries (take i cs) ++ (m.items ++ chunk_entries (drop (suc i) cs))
    around_home cs k i m h e = chunk_entries-split cs i m h.within ∙ ap (λ (c : Vec (K × X) A). chunk_entries (take i cs) ++ (c.items ++ chunk_entries (drop (suc i) cs))) (sym e)

    pub home_sorted : (cs : List (Vec (K × X) A)) (k : K) (i : ℕ) (m : Vec (K × X) A) → IsHome R cs k i → m ≡ get_or cs i m → T (is_sorted R (chunk_entries cs)) → T (is_sorted R m.items)
    home_sorted cs k i m h e s =
        sorted_left R m.items (chunk_entries (drop (suc i) cs)) (sorted_right R (chunk_entries (take i cs)) _ (subst (λ l. T (is_sorted R l)) (around_home cs k i m h e) s))

    pub find-in_home : (cs : List (Vec (K × X) A)) (k : K) (i : ℕ) (m : Vec (K × X) A) → IsHome R cs k i → m ≡ get_or cs i m → find R k m.items ≡ find R k (chunk_entries cs)
    find-in_home cs k i m h e = sym (ap (find R k) (around_home cs k i m h e) ∙ find-home R (chunk_entries (take i cs)) m.items (chunk_entries (drop (suc i) cs)) k h.below h.above)

    pub put-in_home : (cs : List (Vec (K × X) A)) (k : K) (v : X) (i : ℕ) (m n : Vec (K × X) A) → IsHome R cs k i → m ≡ get_or cs i m → n.items ≡ put R k v m.items → chunk_entries (set cs i n) ≡ put R k v (chunk_entries cs)
    put-in_home cs k v i m n h e is =
        chunk_entries-set cs i n h.within
        ∙ ap (λ l. chunk_entries (take i cs) ++ (l ++ chunk_entries (drop (suc i) cs))) is
        ∙ sym (put-home R (chunk_entries (take i cs)) m.items (chunk_entries (drop (suc i) cs)) k v h.below h.above)
        ∙ ap (put R k v) (sym (around_home cs k i m h e))

    pub without-in_home : (cs : List (Vec (K × X) A)) (k : K) (i : ℕ) (m n : Vec (K × X) A) → IsHome R cs k i → m ≡ get_or cs i m → n.items ≡ without R k m.items → chunk_entries (set cs i n) ≡ without R k (chunk_entries cs)
    without-in_home cs k i m n h e is =
        chunk_entries-set cs i n h.within
        ∙ ap (λ l. chunk_entries (take i cs) ++ (l ++ chunk_entries (drop (suc i) cs))) is
        ∙ sym (without-home R (chunk_entries (take i cs)) m.items (chunk_entries (drop (suc i) cs)) k h.below h.above)
        ∙ ap (without R k) (sym (around_home cs k i m h e))

    -- a key that fits right after k, and before the next chunk, is at home where k is
    home-behind : (cs : List (Vec (K × X) A)) (k q : K) (v : X) (p i : ℕ) (m : Vec (K × X) A) → IsHome R cs k i → m ≡ get_or cs i m → T (is_sorted R (chunk_entries cs)) → IsGap R m.items k p → IsGap R (insert m.items p (k, v)) q (suc p)
        → (length m.items ≤ p → AreAbove R q (chunk_entries (drop (suc i) cs))) → IsHome R cs q i
    home-behind cs k q v p i m h e s gap behind last =
        let ys = chunk_entries (drop (suc i) cs) in
        let sorted : T (is_sorted R (m.items ++ ys)) = sorted_right R (chunk_entries (take i cs)) _ (subst (λ l. T (is_sorted R l)) (around_home cs k i m h e) s) in
        record {
          within = h.within;
          below = below_higher R o (chunk_entries (take i cs)) k q (above_first o m.items k q v p gap behind) h.below;
          above =
              elim (nat_lt p (length m.items)) as (λ b. nat_lt p (length m.items) ≡ b → AreAbove R q ys) [
                | true ↦ λ t. let lt : p < length m.items = is_below p (length m.items) t in above_after R o m.items ys q p (k, v) sorted lt (below_here o m.items k q v p (k, v) lt behind)
                | false ↦ λ f. last (is_past p (length m.items) f)
              ] refl;
        }

    -- ---- a change of one chunk alone
    changed_in : (cs : List (Vec (K × X) A)) (k : K) (i : ℕ) (m n : Vec (K × X) A) (f : List (K × X) → List (K × X)) → IsHome R cs k i → m ≡ get_or cs i m → n.items ≡ f m.items
        → f (chunk_entries (take i cs) ++ (m.items ++ chunk_entries (drop (suc i) cs))) ≡ chunk_entries (take i cs) ++ (f m.items ++ chunk_entries (drop (suc i) cs)) → chunk_entries (set cs i n) ≡ f (chunk_entries cs)
    changed_in cs k i m n f h e is local =
        chunk_entries-set cs i n h.within
        ∙ ap (λ l. chunk_entries (take i cs) ++ (l ++ chunk_entries (drop (suc i) cs))) is
        ∙ sym local
        ∙ ap f (sym (around_home cs k i m h e))

    both-in_home : (cs : List (Vec (K × X) A)) (k q : K) (v w : X) (b : Bool) (i : ℕ) (m n : Vec (K × X) A) → IsHome R cs k i → IsHome R cs q i → m ≡ get_or cs i m
        → n.items ≡ cond b (put R q w (put R k v m.items)) m.items → chunk_entries (set cs i n) ≡ cond b (put R q w (put R k v (chunk_entries cs))) (chunk_entries cs)
    both-in_home cs k q v w b i m n h j e is =
        let xs = chunk_entries (take i cs) in
        let ys = chunk_entries (drop (suc i) cs) in
        changed_in cs k i m n (λ l. cond b (put R q w (put R k v l)) l) h e is
        (elim b as (λ b. cond b (put R q w (put R k v (xs ++ (m.items ++ ys)))) (xs ++ (m.items ++ ys)) ≡ xs ++ (cond b (put R q w (put R k v m.items)) m.items ++ ys)) [
          | true ↦ ap (put R q w) (put-home R xs m.items ys k v h.below h.above) ∙ put-home R xs (put R k v m.items) ys q w j.below j.above
          | false ↦ refl
        ])

    -- two entries that come side by side where k belongs, before the next chunk
    pub pair-in_home : (cs : List (Vec (K × X) A)) (k q : K) (v w : X) (i p : ℕ) (m n : Vec (K × X) A) → IsHome R cs k i → m ≡ get_or cs i m → T (is_sorted R (chunk_entries cs)) → IsGap R m.items k p → IsGap R (insert m.items p (k, v)) q (p + 1)
        → ((d : Vec (K × X) A) → length (get_or cs i d).items ≤ p → AreAbove R q (chunk_entries (drop (i + 1) cs))) → n.items ≡ insert (insert m.items p (k, v)) (p + 1) (q, w) → chunk_entries (set cs i n) ≡ put R q w (put R k v (chunk_entries cs))
    pair-in_home cs k q v w i p m n h e s gap behind last made =
        let one : p + 1 ≡ suc p = omega arith in
        let next : i + 1 ≡ suc i = omega arith in
        let there : IsHome R cs q i =
        home-behind cs k q v p i m h e s gap (subst (λ j. IsGap R (insert m.items p (k, v)) q j) one behind)
        (λ past. subst (λ j. AreAbove R q (chunk_entries (drop j cs))) next (last m (subst (λ (c : Vec (K × X) A). length c.items ≤ p) e past))) in
        both-in_home cs k q v w true i m n h there e (put-both o m.items n.items k q v w p (p + 1) gap behind made)

    pub replaced-in_home : (cs : List (Vec (K × X) A)) (g k : K) (v : X) (b : Bool) (i : ℕ) (m n : Vec (K × X) A) → IsHome R cs g i → IsHome R cs k i → m ≡ get_or cs i m
        → n.items ≡ cond b (put R k v (without R g m.items)) m.items → chunk_entries (set cs i n) ≡ cond b (put R k v (without R g (chunk_entries cs))) (chunk_entries cs)
    replaced-in_home cs g k v b i m n h j e is =
        let xs = chunk_entries (take i cs) in
        let ys = chunk_entries (drop (suc i) cs) in
        changed_in cs g i m n (λ l. cond b (put R k v (without R g l)) l) h e is
        (elim b as (λ b. cond b (put R k v (without R g (xs ++ (m.items ++ ys)))) (xs ++ (m.items ++ ys)) ≡ xs ++ (cond b (put R k v (without R g m.items)) m.items ++ ys)) [
          | true ↦ ap (put R k v) (without-home R xs m.items ys g h.below h.above) ∙ put-home R xs (without R g m.items) ys k v j.below j.above
          | false ↦ refl
        ])

    -- ---- a key's home among chunks of which one was parted
    module _ (cs ds : List (Vec (K × X) A)) (k : K) (i : ℕ) (b : Vec (K × X) A) (h : IsHome R cs k i) (s : T (is_sorted R (chunk_entries ds))) (lt : suc i < length ds) (e : b ≡ get_or ds (suc i) b) where
      at_second : T (is_sorted R (chunk_entries (take (suc i) ds) ++ (b.items ++ chunk_entries (drop (suc (suc i)) ds))))
      at_second =
          let xs = chunk_entries (take (suc i) ds) in
          let ys = chunk_entries (drop (suc (suc i)) ds) in
          subst (λ (c : Vec (K × X) A). T (is_sorted R (xs ++ (c.items ++ ys)))) (sym e) (subst (λ l. T (is_sorted R l)) (chunk_entries-split ds (suc i) b lt) s)

      pub home-second : drop (suc (suc i)) ds ≡ drop (suc i) cs → starts_by R k b.items ≡ true → IsHome R ds k (suc i)
      home-second after t = grind (arith, below_to_first, at_second, b.items, h.above)

      pub home-first : take i ds ≡ take i cs → 0 < length b.items → starts_by R k b.items ≡ false → IsHome R ds k i
      home-first before some f = grind (arith, chunk_entries-from, above_from_first, sorted_right, at_second, h.below, b.items)

    -- ---- the keys up to k, and those above
    module _ (cs : List (Vec (K × X) A)) (k : K) (i : ℕ) (m : Vec (K × X) A) (h : IsHome R cs k i) (e : m ≡ get_or cs i m) (s : T (is_sorted R (chunk_entries cs))) where
      up_to_in_home : (p : ℕ) → IsCut R m.items k p → entries_up_to R k (chunk_entries cs) ≡ chunk_entries (take i cs) ++ take p m.items
      up_to_in_home p c =
          ap (entries_up_to R k) (around_home cs k i m h e)
          ∙ entries_up_to-home R (chunk_entries (take i cs)) m.items (chunk_entries (drop (suc i) cs)) k h.below h.above
          ∙ ap (λ l. chunk_entries (take i cs) ++ l) (entries_up_to-cut R o m.items k p (home_sorted cs k i m h e s) c)

      above_in_home : (p : ℕ) → IsCut R m.items k p → entries_above R k (chunk_entries cs) ≡ drop p m.items ++ chunk_entries (drop (suc i) cs)
      above_in_home p c =
          ap (entries_above R k) (around_home cs k i m h e)
          ∙ entries_above-home R (chunk_entries (take i cs)) m.items (chunk_entries (drop (suc i) cs)) k h.below h.above
          ∙ ap (λ l. l ++ chunk_entries (drop (suc i) cs)) (entries_above-cut R o m.items k p (home_sorted cs k i m h e s) c)

      pub last-in_home : (p q : ℕ) (x : K × X) → IsCut R m.items k p → p ≡ suc q → q < length m.items → x ≡ get_or m.items q x → Some x ≡ last_or None (entries_up_to R k (chunk_entries cs))
      last-in_home p q x c p_is lt x_is = grind (arith, last_of_take, last_or-append, up_to_in_home, m.items)

      pub last-none : (p : ℕ) → IsCut R m.items k p → p ≡ 0 → (0 < i → starts_by R k m.items ≡ true) → None ≡ last_or None (entries_up_to R k (chunk_entries cs))
      last-none p c p_is started = grind (arith, cases_order, cut_not_started, up_to_in_home, m.items)

      pub first-in_home : (p : ℕ) (x : K × X) → IsCut R m.items k p → p < length m.items → x ≡ get_or m.items p x → Some x ≡ slice_get (entries_above R k (chunk_entries cs)) 0
      first-in_home p x c lt x_is = grind (arith, first_of_drop, above_in_home, m.items)

      past_home : (p : ℕ) → IsCut R m.items k p → length m.items ≤ p → entries_above R k (chunk_entries cs) ≡ chunk_entries (drop (suc i) cs)
      past_home p c le = above_in_home p c ∙ ap (λ l. l ++ chunk_entries (drop (suc i) cs)) (drop_past m.items p le)

      pub first-in_next : (p n : ℕ) (next : Vec (K × X) A) (x : K × X) → IsCut R m.items k p → length m.items ≤ p → n ≡ suc i → n < length cs → next ≡ get_or cs n next → 0 < length next.items → x ≡ get_or next.items 0 x
          → Some x ≡ slice_get (entries_above R k (chunk_entries cs)) 0
      first-in_next p n next x c le n_is lt next_is some x_is =
          ap Some x_is
          ∙ sym (first_of_drop next.items (chunk_entries (drop (suc n) cs)) 0 x some)
          ∙ ap (λ l. slice_get l 0) (sym (chunk_entries-from cs n next lt next_is))
          ∙ ap (λ j. slice_get (chunk_entries (drop j cs)) 0) n_is
          ∙ ap (λ l. slice_get l 0) (sym (past_home p c le))

      pub first-none : (p : ℕ) → IsCut R m.items k p → length m.items ≤ p → length cs ≤ suc i → None ≡ slice_get (entries_above R k (chunk_entries cs)) 0
      first-none p c le last = grind (arith, drop_past, past_home)
