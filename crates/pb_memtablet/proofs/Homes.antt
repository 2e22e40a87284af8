-- Where a key belongs among the parts of a sorted list, and what an edit there does to the whole.
use Rattle.std.proofs.Common.{◌≡◌, ◌≢◌, ℕ, ◌<◌, ◌≤◌, ◌+◌, Bool, true, false, cond, not, List, [], ◌∷◌, ◌++◌, Option, None, Some, refl, sym, ap, ◌∙◌, arith, zero, suc, length, take, drop, get_or, slice_get, T, Ordering, Less, Greater}
use Rattle.std.specs.Ordering.{is_eq, is_lt, is_le, eq_by_cmp}
use Rattle.std.specs.Cmp.{IsTotalOrder}
use Rattle.std.specs.List.{filter, last_or}
use Rattle.std.proofs.Math.Seq.{take-append_seam, drop-append_seam}
use Rattle.std.proofs.lemmas.List.Elements.{filter-append}
use Rattle.std.proofs.lemmas.List.{append-nil}
use Rattle.std.specs.FinMap.{find, put}
use Rattle.std.specs.FinMap.Entries.{by_order, below_all, is_sorted, where_key}
use Rattle.pb_memtablet.specs.Places.{IsCut}
use Rattle.pb_memtablet.specs.Chunks.{AreBelow, AreAbove, entries_up_to, entries_above}
use Rattle.pb_base.proofs.Logic.{both_hold as both, first_holds as first, second_holds as second, less_if as less, turned_order}

not_lt : (r : Ordering) → r ≢ Less → is_lt r ≡ false
not_lt r n = grind arith

module _ {K : Type 0} {R : K → K → Ordering} (o : IsTotalOrder R) where
  behind : (x y k : K) → R x y ≡ Less → R k y ≢ Less → R k x ≡ Greater
  behind x y k lt ne = grind arith

  -- ---- the first key beside k
  pub at_most : (e k : K) → is_le (R e k) ≡ true → R k e ≢ Less
  at_most e k le lt = let turn : R e k ≡ Greater = turned_order o k e Less lt in cc (ap is_le turn)

  pub is_above : (e k : K) → is_le (R e k) ≡ false → R k e ≡ Less
  is_above e k not_le = grind arith

module _ {K X : Type 0} (R : K → K → Ordering) where
  -- ---- find
  find_after : (xs ys : List (K × X)) (k : K) → AreBelow R k xs → find R k (xs ++ ys) ≡ find R k ys
  find_after [] ys k b = refl
  find_after (x ∷ xs) ys k b = ap (λ r. cond (is_eq r) (Some x.1) (find R k (xs ++ ys))) b.0 ∙ find_after xs ys k b.1

  find_none : (ys : List (K × X)) (k : K) → AreAbove R k ys → find R k ys ≡ None
  find_none [] k a = refl
  find_none (y ∷ ys) k a = ap (λ r. cond (is_eq r) (Some y.1) (find R k ys)) a.0 ∙ find_none ys k a.1

  find_before : (ms ys : List (K × X)) (k : K) → AreAbove R k ys → find R k (ms ++ ys) ≡ find R k ms
  find_before [] ys k a = find_none ys k a
  find_before (m ∷ ms) ys k a = ap (cond (eq_by_cmp R k m.0) (Some m.1)) (find_before ms ys k a)

  -- a look-up in three parts goes to the middle one, where the others are below the key and above it
  pub find-home : (xs ms ys : List (K × X)) (k : K) → AreBelow R k xs → AreAbove R k ys → find R k (xs ++ (ms ++ ys)) ≡ find R k ms
  find-home xs ms ys k b a = find_after xs (ms ++ ys) k b ∙ find_before ms ys k a

  -- ---- put
  put_after : (xs ys : List (K × X)) (k : K) (v : X) → AreBelow R k xs → put R k v (xs ++ ys) ≡ xs ++ put R k v ys
  put_after [] ys k v b = refl
  put_after (x ∷ xs) ys k v b = grind (arith, put_after xs ys k v b.1)

  put_first : (ys : List (K × X)) (k : K) (v : X) → AreAbove R k ys → put R k v ys ≡ (k, v) ∷ ys
  put_first [] k v a = refl
  put_first (y ∷ ys) k v a = ap (λ r. by_order r ((k, v) ∷ y ∷ ys) ((y.0, v) ∷ ys) (y ∷ put R k v ys)) a.0

  put_before : (ms ys : List (K × X)) (k : K) (v : X) → AreAbove R k ys → put R k v (ms ++ ys) ≡ put R k v ms ++ ys
  put_before [] ys k v a = put_first ys k v a
  put_before (m ∷ ms) ys k v a = grind (arith, put_before ms ys k v a)

  -- and so does a put, since the parts around it keep what they have
  pub put-home : (xs ms ys : List (K × X)) (k : K) (v : X) → AreBelow R k xs → AreAbove R k ys → put R k v (xs ++ (ms ++ ys)) ≡ xs ++ (put R k v ms ++ ys)
  put-home xs ms ys k v b a = put_after xs (ms ++ ys) k v b ∙ ap (λ l. xs ++ l) (put_before ms ys k v a)

  -- ---- the entries whose keys don't tie with k
  abbrev pub without : K → List (K × X) → List (K × X)
  without k es = where_key R (λ x. not (eq_by_cmp R k x)) es

  without_below : (xs : List (K × X)) (k : K) → AreBelow R k xs → without k xs ≡ xs
  without_below [] k b = refl
  without_below (x ∷ xs) k b = ap (λ r. cond (not (is_eq r)) (x ∷ without k xs) (without k xs)) b.0 ∙ ap (λ l. x ∷ l) (without_below xs k b.1)

  without_above : (xs : List (K × X)) (k : K) → AreAbove R k xs → without k xs ≡ xs
  without_above [] k a = refl
  without_above (x ∷ xs) k a = ap (λ r. cond (not (is_eq r)) (x ∷ without k xs) (without k xs)) a.0 ∙ ap (λ l. x ∷ l) (without_above xs k a.1)

  -- a filter over three parts
  parts : (p : K × X → Bool) (xs ms ys xs' ys' : List (K × X)) → filter p xs ≡ xs' → filter p ys ≡ ys' → filter p (xs ++ (ms ++ ys)) ≡ xs' ++ (filter p ms ++ ys')
  parts p xs ms ys xs' ys' e f = grind (arith, filter-append)

  pub without-home : (xs ms ys : List (K × X)) (k : K) → AreBelow R k xs → AreAbove R k ys → without k (xs ++ (ms ++ ys)) ≡ xs ++ (without k ms ++ ys)
  without-home xs ms ys k b a = parts (λ e. not (eq_by_cmp R k e.0)) xs ms ys xs ys (without_below xs k b) (without_above ys k a)

  -- ---- up to k, and above
  up_to_below : (xs : List (K × X)) (k : K) → AreBelow R k xs → entries_up_to R k xs ≡ xs
  up_to_below [] k b = refl
  up_to_below (x ∷ xs) k b = ap (λ r. cond (not (is_lt r)) (x ∷ entries_up_to R k xs) (entries_up_to R k xs)) b.0 ∙ ap (λ l. x ∷ l) (up_to_below xs k b.1)

  up_to_above : (xs : List (K × X)) (k : K) → AreAbove R k xs → entries_up_to R k xs ≡ []
  up_to_above [] k a = refl
  up_to_above (x ∷ xs) k a = ap (λ r. cond (not (is_lt r)) (x ∷ entries_up_to R k xs) (entries_up_to R k xs)) a.0 ∙ up_to_above xs k a.1

  above_below : (xs : List (K × X)) (k : K) → AreBelow R k xs → entries_above R k xs ≡ []
  above_below [] k b = refl
  above_below (x ∷ xs) k b = ap (λ r. cond (is_lt r) (x ∷ entries_above R k xs) (entries_above R k xs)) b.0 ∙ above_below xs k b.1

  above_above : (xs : List (K × X)) (k : K) → AreAbove R k xs → entries_above R k xs ≡ xs
  above_above [] k a = refl
  above_above (x ∷ xs) k a = ap (λ r. cond (is_lt r) (x ∷ entries_above R k xs) (entries_above R k xs)) a.0 ∙ ap (λ l. x ∷ l) (above_above xs k a.1)

  pub entries_up_to-home : (xs ms ys : List (K × X)) (k : K) → AreBelow R k xs → AreAbove R k ys → entries_up_to R k (xs ++ (ms ++ ys)) ≡ xs ++ entries_up_to R k ms
  entries_up_to-home xs ms ys k b a = parts (λ e. not (is_lt (R k e.0))) xs ms ys xs [] (up_to_below xs k b) (up_to_above ys k a) ∙ ap (λ l. xs ++ l) (append-nil (entries_up_to R k ms))

  pub entries_above-home : (xs ms ys : List (K × X)) (k : K) → AreBelow R k xs → AreAbove R k ys → entries_above R k (xs ++ (ms ++ ys)) ≡ entries_above R k ms ++ ys
  entries_above-home xs ms ys k b a = parts (λ e. is_lt (R k e.0)) xs ms ys [] ys (above_below xs k b) (above_above ys k a)

  -- ---- parts of a sorted list
  below_left : (x : K) (xs ys : List (K × X)) → T (below_all R x (xs ++ ys)) → T (below_all R x xs)
  below_left x [] ys h = tt
  below_left x (e ∷ xs) ys h = both _ _ (first _ _ h) (below_left x xs ys (second _ _ h))

  pub sorted_left : (xs ys : List (K × X)) → T (is_sorted R (xs ++ ys)) → T (is_sorted R xs)
  sorted_left [] ys s = tt
  sorted_left (x ∷ xs) ys s = both _ _ (below_left x.0 xs ys (first _ _ s)) (sorted_left xs ys (second _ _ s))

  pub sorted_right : (xs ys : List (K × X)) → T (is_sorted R (xs ++ ys)) → T (is_sorted R ys)
  sorted_right [] ys s = s
  sorted_right (x ∷ xs) ys s = sorted_right xs ys (second _ _ s)

  below_seam : (x : K) (xs : List (K × X)) (y : K × X) (ys : List (K × X)) → T (below_all R x (xs ++ y ∷ ys)) → R x y.0 ≡ Less
  below_seam x [] y ys h = less _ (first _ _ h)
  below_seam x (e ∷ xs) y ys h = below_seam x xs y ys (second _ _ h)

  pub above_parts : (xs ys : List (K × X)) (k : K) → AreAbove R k (xs ++ ys) → AreAbove R k xs × AreAbove R k ys
  above_parts [] ys k a = (tt, a)
  above_parts (x ∷ xs) ys k a = let rest = above_parts xs ys k a.1 in ((a.0, rest.0), rest.1)

  module _ (o : IsTotalOrder R) where
    above_from : (es : List (K × X)) (k y : K) → R k y ≡ Less → T (below_all R y es) → AreAbove R k es
    above_from [] k y lt h = tt
    above_from (e ∷ es) k y lt h = (o.trans k y e.0 lt (less _ (first _ _ h)), above_from es k y lt (second _ _ h))

    pub above_head : (y : K × X) (ys : List (K × X)) (k : K) → T (is_sorted R (y ∷ ys)) → R k y.0 ≡ Less → AreAbove R k (y ∷ ys)
    above_head y ys k s lt = (lt, above_from ys k y.0 lt (first _ _ s))

    -- what is below a key is below all that come after its list
    pub above_after : (es ys : List (K × X)) (k : K) (i : ℕ) (d : K × X) → T (is_sorted R (es ++ ys)) → i < length es → R k (get_or es i d).0 ≡ Less → AreAbove R k ys
    above_after [] ys k i d s lt below = absurd (omega (arith, lt))
    above_after (e ∷ es) ys k zero d s lt below = (above_parts es ys k (above_from (es ++ ys) k e.0 below (first _ _ s))).1
    above_after (e ∷ es) ys k (suc i) d s lt below = above_after es ys k i d (second _ _ s) (omega arith) below

    -- what is below a key is below each higher one
    pub below_higher : (xs : List (K × X)) (k q : K) → R q k ≡ Greater → AreBelow R k xs → AreBelow R q xs
    below_higher [] k q above b = tt
    below_higher (x ∷ xs) k q above b =
        (turned_order o x.0 q Less (o.trans x.0 k q (turned_order o k x.0 Greater b.0) (turned_order o q k Greater above)), below_higher xs k q above b.1)

    -- what comes before a key that is at most k is below k
    pub below_head : (xs : List (K × X)) (y : K × X) (ys : List (K × X)) (k : K) → T (is_sorted R (xs ++ y ∷ ys)) → R k y.0 ≢ Less → AreBelow R k xs
    below_head [] y ys k s ne = tt
    below_head (x ∷ xs) y ys k s ne = (behind o x.0 y.0 k (below_seam x.0 xs y ys (first _ _ s)) ne, below_head xs y ys k (second _ _ s) ne)

    -- ---- a cut parts a sorted list
    pub entries_up_to-cut : (es : List (K × X)) (k : K) (i : ℕ) → T (is_sorted R es) → IsCut R es k i → entries_up_to R k es ≡ take i es
    entries_up_to-cut [] k zero s c = refl
    entries_up_to-cut [] k (suc i) s c = absurd c
    entries_up_to-cut (e ∷ es) k zero s c = up_to_above (e ∷ es) k (above_head e es k s c)
    entries_up_to-cut (e ∷ es) k (suc i) s c =
        ap (λ b. cond (not b) (e ∷ entries_up_to R k es) (entries_up_to R k es)) (not_lt _ c.0) ∙ ap (λ l. e ∷ l) (entries_up_to-cut es k i (second _ _ s) c.1)

    pub entries_above-cut : (es : List (K × X)) (k : K) (i : ℕ) → T (is_sorted R es) → IsCut R es k i → entries_above R k es ≡ drop i es
    entries_above-cut [] k zero s c = refl
    entries_above-cut [] k (suc i) s c = absurd c
    entries_above-cut (e ∷ es) k zero s c = above_above (e ∷ es) k (above_head e es k s c)
    entries_above-cut (e ∷ es) k (suc i) s c = ap (λ b. cond b (e ∷ entries_above R k es) (entries_above R k es)) (not_lt _ c.0) ∙ entries_above-cut es k i (second _ _ s) c.1

-- ---- the ends of parts
pub last_of_take : {E : Type 0} (o : Option E) (es : List E) (i : ℕ) (d : E) → i < length es → last_or o (take (suc i) es) ≡ Some (get_or es i d)
last_of_take o [] i d lt = absurd (omega (arith, lt))
last_of_take o (e ∷ es) zero d lt = refl
last_of_take o (e ∷ es) (suc i) d lt = last_of_take (Some e) es i d (omega arith)

pub last_or-append : {E : Type 0} (o : Option E) (xs ys : List E) → last_or o (xs ++ ys) ≡ last_or (last_or o xs) ys
last_or-append o [] ys = refl
last_or-append o (x ∷ xs) ys = last_or-append (Some x) xs ys

pub first_of_drop : {E : Type 0} (es ys : List E) (i : ℕ) (d : E) → i < length es → slice_get (drop i es ++ ys) 0 ≡ Some (get_or es i d)
first_of_drop [] ys i d lt = absurd (omega (arith, lt))
first_of_drop (e ∷ es) ys zero d lt = refl
first_of_drop (e ∷ es) ys (suc i) d lt = first_of_drop es ys i d (omega arith)

-- nothing is left past the end
pub drop_past : {E : Type 0} (es : List E) (i : ℕ) → length es ≤ i → drop i es ≡ []
drop_past [] zero le = refl
drop_past [] (suc i) le = refl
drop_past (e ∷ es) zero le = absurd (omega (arith, le))
drop_past (e ∷ es) (suc i) le = drop_past es i (omega arith)

-- what stands before a seam
pub front_of : {E : Type 0} (xs ys zs : List E) (n : ℕ) → xs ++ ys ≡ zs → n ≡ length xs → xs ≡ take n zs
front_of xs ys zs n e same = sym (ap (λ m. take m zs) same ∙ ap (take (length xs)) (sym e) ∙ take-append_seam xs ys)

-- what stands after it
pub back_of : {E : Type 0} (xs ys zs : List E) (n : ℕ) → xs ++ ys ≡ zs → n ≡ length xs → ys ≡ drop n zs
back_of xs ys zs n e same = sym (ap (λ m. drop m zs) same ∙ ap (drop (length xs)) (sym e) ∙ drop-append_seam xs ys)

-- what a call that succeeded made
pub made_on_success : {E : Type 0} (fs es old : List E) (b : Bool) → fs ≡ cond b es old → b ≡ true → fs ≡ es
made_on_success fs es old b e ok = e ∙ ap (λ c. cond c es old) ok

-- a place in the first part is one of the whole
pub get_here : {E : Type 0} (es ys : List E) (i : ℕ) (d : E) → i < length es → slice_get (es ++ ys) i ≡ Some (get_or es i d)
get_here [] ys i d lt = absurd (omega (arith, lt))
get_here (e ∷ es) ys zero d lt = refl
get_here (e ∷ es) ys (suc i) d lt = get_here es ys i d (omega arith)

-- a place past the first part is counted on in the second
pub get_later : {E : Type 0} (es ys : List E) (i n : ℕ) → i ≡ length es + n → slice_get (es ++ ys) i ≡ slice_get ys n
get_later [] ys i n e = let same : i ≡ n = omega arith in ap (slice_get ys) same
get_later (e ∷ es) ys zero n p = absurd (omega (arith, p))
get_later (e ∷ es) ys (suc i) n p = get_later es ys i n (omega arith)
