-- Where keys stand in sorted lists, and what a change there does.
use Rattle.std.proofs.Common.{◌≡◌, ◌≢◌, ℕ, ◌<◌, ◌≤◌, ◌-◌, Bool, true, cond, not, List, [], ◌∷◌, None, Some, refl, sym, ap, ◌∙◌, subst, arith, zero, suc, length, get_or, set, T, Ordering, Less, Equal, Greater, insert, remove, HoldsAt}
use Rattle.std.specs.Ordering.{is_eq, is_lt, is_gt, eq_by_cmp}
use Rattle.std.proofs.lemmas.List.{get_or_read}
use Rattle.std.specs.Cmp.{IsTotalOrder, tied_itself, alike_right, eq_by_cmp_equiv}
use Rattle.std.specs.FinMap as map
use Rattle.std.specs.FinMap.{find, put}
use Rattle.std.specs.FinMap.Entries.{by_order, below_all, is_sorted, where_key, find-put, find-where_key, is_sorted-put, is_sorted-where_key}
use Rattle.pb_memtablet.specs.Places.{IsFound, IsGap, IsCut}
use Rattle.pb_base.proofs.Logic.{less_if as less, first_holds as first, second_holds as second, turned_order}
use Rattle.pb_store.proofs.Copied.{below_at}

pub true_holds : (b : Bool) → b ≡ true → T b
true_holds b e = subst T (sym e) tt

pub is_less : (o : Ordering) (b : Bool) → b ≡ is_lt o → b ≡ true → o ≡ Less
is_less o b e t = grind arith

pub is_greater : (o : Ordering) (b : Bool) → b ≡ is_gt o → b ≡ true → o ≡ Greater
is_greater o b e t = grind arith

turned_choice : {A : Type 0} (b : Bool) (x y : A) → cond (not b) x y ≡ cond b y x
turned_choice b x y = grind arith

pub not_less : (o : Ordering) → o ≡ Greater → o ≢ Less
not_less o g l = cc

pub equal_not_less : (o : Ordering) → o ≡ Equal → o ≢ Less
equal_not_less o g l = cc

-- what is not above one key is below all that are above that key
pub not_above_is_below : {K : Type 0} {R : K → K → Ordering} → IsTotalOrder R → (k x q : K) → R k x ≢ Less → R k q ≡ Less → R q x ≡ Greater
not_above_is_below {R = R} o k x q above below = grind arith

module _ {K X : Type 0} {R : K → K → Ordering} (o : IsTotalOrder R) where
  pub found_at : (es : List (K × X)) (k : K) (i : ℕ) → T (is_sorted R es) → i < length es → HoldsAt (λ e. R e.0 k ≡ Equal) es i → IsFound R es k i
  found_at [] k i s lt h = absurd (omega (arith, lt))
  found_at (e ∷ es) k zero s lt h = turned_order o _ _ Equal (h e)
  found_at (e ∷ es) k (suc i) s lt h =
      let x = (get_or es i e).0 in
      (sym (o.congr x k e.0 (h e)) ∙ turned_order o e.0 x Less (below_at o e.0 es i e (first _ _ s) (omega arith)), found_at es k i (second _ _ s) (omega arith) h)

  -- ---- what is found
  pub find-found : (es : List (K × X)) (k : K) (i : ℕ) (d : K × X) → IsFound R es k i → find R k es ≡ Some (get_or es i d).1
  find-found [] k i d f = absurd f
  find-found (e ∷ es) k zero d f = ap (λ r. cond (is_eq r) (Some e.1) (find R k es)) f
  find-found (e ∷ es) k (suc i) d f = ap (λ r. cond (is_eq r) (Some e.1) (find R k es)) f.0 ∙ find-found es k i d f.1

  find_below : (es : List (K × X)) (k x : K) → R k x ≡ Less → T (below_all R x es) → find R k es ≡ None
  find_below [] k x lt h = refl
  find_below (e ∷ es) k x lt h =
      ap (λ r. cond (is_eq r) (Some e.1) (find R k es)) (o.trans k x e.0 lt (less _ (first _ _ h))) ∙ find_below es k x lt (second _ _ h)

  pub find-gap : (es : List (K × X)) (k : K) (i : ℕ) → T (is_sorted R es) → IsGap R es k i → find R k es ≡ None
  find-gap [] k i s g = refl
  find-gap (e ∷ es) k zero s g = ap (λ r. cond (is_eq r) (Some e.1) (find R k es)) g ∙ find_below es k e.0 g (first _ _ s)
  find-gap (e ∷ es) k (suc i) s g = ap (λ r. cond (is_eq r) (Some e.1) (find R k es)) g.0 ∙ find-gap es k i (second _ _ s) g.1

  -- ---- changes
  pub put-found : (es : List (K × X)) (k : K) (v : X) (i : ℕ) (d : K × X) → IsFound R es k i → put R k v es ≡ set es i ((get_or es i d).0, v)
  put-found [] k v i d f = absurd f
  put-found (e ∷ es) k v zero d f = ap (λ r. by_order r ((k, v) ∷ e ∷ es) ((e.0, v) ∷ es) (e ∷ put R k v es)) f
  put-found (e ∷ es) k v (suc i) d f = ap (λ r. by_order r ((k, v) ∷ e ∷ es) ((e.0, v) ∷ es) (e ∷ put R k v es)) f.0 ∙ ap (λ l. e ∷ l) (put-found es k v i d f.1)

  put-gap : (es : List (K × X)) (k : K) (v : X) (i : ℕ) → IsGap R es k i → put R k v es ≡ insert es i (k, v)
  put-gap [] k v zero g = refl
  put-gap [] k v (suc i) g = absurd g
  put-gap (e ∷ es) k v zero g = ap (λ r. by_order r ((k, v) ∷ e ∷ es) ((e.0, v) ∷ es) (e ∷ put R k v es)) g
  put-gap (e ∷ es) k v (suc i) g = ap (λ r. by_order r ((k, v) ∷ e ∷ es) ((e.0, v) ∷ es) (e ∷ put R k v es)) g.0 ∙ ap (λ l. e ∷ l) (put-gap es k v i g.1)

  pub put-inserted : (es fs : List (K × X)) (k : K) (v : X) (i : ℕ) (b : Bool) → IsGap R es k i → fs ≡ cond b (insert es i (k, v)) es → b ≡ true → fs ≡ put R k v es
  put-inserted es fs k v i b gap made ok = made ∙ ap (λ c. cond c (insert es i (k, v)) es) ok ∙ sym (put-gap es k v i gap)

  -- the entries whose keys don't tie with k
  abbrev without : K → List (K × X) → List (K × X)
  without k es = where_key R (λ x. not (eq_by_cmp R k x)) es

  without_above : (es : List (K × X)) (k x : K) → ((y : K) → R x y ≡ Less → R k y ≡ Less) → T (below_all R x es) → without k es ≡ es
  without_above [] k x f h = refl
  without_above (e ∷ es) k x f h =
      ap (λ r. cond (not (is_eq r)) (e ∷ without k es) (without k es)) (f e.0 (less _ (first _ _ h))) ∙ ap (λ l. e ∷ l) (without_above es k x f (second _ _ h))

  without-found : (es : List (K × X)) (k : K) (i : ℕ) → T (is_sorted R es) → IsFound R es k i → without k es ≡ remove es i
  without-found [] k i s f = absurd f
  without-found (e ∷ es) k zero s f = grind (arith, without_above, first, o.congr)
  without-found (e ∷ es) k (suc i) s f =
      ap (λ r. cond (not (is_eq r)) (e ∷ without k es) (without k es)) f.0 ∙ ap (λ l. e ∷ l) (without-found es k i (second _ _ s) f.1)

  pub without-removed : (es fs : List (K × X)) (k : K) (i : ℕ) → T (is_sorted R es) → IsFound R es k i → fs ≡ remove es i → fs ≡ without k es
  without-removed es fs k i s f made = made ∙ sym (without-found es k i s f)

  pub without-gap : (es : List (K × X)) (k : K) (i : ℕ) → T (is_sorted R es) → IsGap R es k i → without k es ≡ es
  without-gap [] k i s g = refl
  without-gap (e ∷ es) k zero s g = grind (arith, without_above, first, o.trans)
  without-gap (e ∷ es) k (suc i) s g =
      ap (λ r. cond (not (is_eq r)) (e ∷ without k es) (without k es)) g.0 ∙ ap (λ l. e ∷ l) (without-gap es k i (second _ _ s) g.1)

  -- ---- cuts
  pub cut_by_found : (es : List (K × X)) (k : K) (i : ℕ) → T (is_sorted R es) → IsFound R es k i → IsCut R es k (suc i)
  cut_by_found [] k i s f = absurd f
  cut_by_found (e ∷ []) k zero s f = (equal_not_less _ f, tt)
  cut_by_found (e ∷ next ∷ es) k zero s f = (equal_not_less _ f, o.congr k e.0 next.0 f ∙ below_at o e.0 (next ∷ es) 0 e (first _ _ s) (omega arith))
  cut_by_found (e ∷ es) k (suc i) s f = (not_less _ f.0, cut_by_found es k i (second _ _ s) f.1)

  pub cut_by_gap : (es : List (K × X)) (k : K) (i : ℕ) → IsGap R es k i → IsCut R es k i
  cut_by_gap [] k zero g = tt
  cut_by_gap [] k (suc i) g = absurd g
  cut_by_gap (e ∷ es) k zero g = g
  cut_by_gap (e ∷ es) k (suc i) g = (not_less _ g.0, cut_by_gap es k i g.1)

  pub cut_above : (es : List (K × X)) (k : K) (i : ℕ) (d : K × X) → IsCut R es k i → i < length es → R k (get_or es i d).0 ≡ Less
  cut_above [] k i d c lt = absurd (omega (arith, lt))
  cut_above (e ∷ es) k zero d c lt = c
  cut_above (e ∷ es) k (suc i) d c lt = cut_above es k i d c.1 (omega arith)

  pub cut_below : (es : List (K × X)) (k : K) (i : ℕ) (d : K × X) → IsCut R es k (suc i) → R k (get_or es i d).0 ≢ Less
  cut_below [] k i d c = absurd c
  cut_below (e ∷ es) k zero d c = c.0
  cut_below (e ∷ es) k (suc i) d c = cut_below es k i d c.1

  pub gap_first : (es : List (K × X)) (q : K) → ((d : K × X) → 0 < length es → R q (get_or es 0 d).0 ≡ Less) → IsGap R es q 0
  gap_first [] q above = tt
  gap_first (e ∷ es) q above = above e (omega arith)

  pub gap_after : (es : List (K × X)) (q : K) (i : ℕ) (d : K × X) → T (is_sorted R es) → i < length es → R q (get_or es i d).0 ≡ Greater
      → ((d : K × X) → suc i < length es → R q (get_or es (suc i) d).0 ≡ Less) → IsGap R es q (suc i)
  gap_after [] q i d s lt g above = absurd (omega (arith, lt))
  gap_after (e ∷ es) q zero d s lt g above = (g, gap_first es q (λ x more. above x (omega arith)))
  gap_after (e ∷ es) q (suc i) d s lt g above =
      let x = (get_or es i d).0 in (
        turned_order o e.0 q Less (o.trans e.0 x q (below_at o e.0 es i d (first _ _ s) (omega arith)) (turned_order o q x Greater g)),
        gap_after es q i d (second _ _ s) (omega arith) g (λ y more. above y (omega arith)),
      )

  -- ---- two changes side by side
  pub as_read : (es : List (K × X)) (f : K → Ordering) (i : ℕ) (x : K × X) (r p : Ordering) → i < length es → x ≡ get_or es i x → r ≡ f (get_or es i x).0 → r ≡ p → (d : K × X) → f (get_or es i d).0 ≡ p
  as_read es f i x r p lt x_is r_is r_p d = ap (λ (y : K × X). f y.0) (sym (get_or_read es i x lt x_is d) ∙ x_is) ∙ sym r_is ∙ r_p

  pub gap_between : (es : List (K × X)) (q : K) (i : ℕ) → T (is_sorted R es) → i ≤ length es → (0 < i → HoldsAt (λ e. R q e.0 ≡ Greater) es (i - 1)) → ((d : K × X) → i < length es → R q (get_or es i d).0 ≡ Less) → IsGap R es q i
  gap_between es q zero s le low high = gap_first es q high
  gap_between [] q (suc j) s le low high = absurd (omega (arith, le))
  gap_between (e ∷ es) q (suc j) s le low high =
      let previous : suc j - 1 ≡ j = omega arith in
      gap_after (e ∷ es) q j e s (omega arith) (subst (λ n. R q (get_or (e ∷ es) n e).0 ≡ Greater) previous (low (omega arith) e)) high

  pub gap_in_place : (es : List (K × X)) (q : K) (i : ℕ) → T (is_sorted R es) → i < length es → (0 < i → HoldsAt (λ e. R q e.0 ≡ Greater) es (i - 1))
      → ((d : K × X) → suc i < length es → R q (get_or es (suc i) d).0 ≡ Less) → IsGap R (remove es i) q i
  gap_in_place [] q i s lt low high = absurd (omega (arith, lt))
  gap_in_place (e ∷ es) q zero s lt low high = gap_first es q (λ d some. high d (omega arith))
  gap_in_place (e ∷ es) q (suc zero) s lt low high =
      (low (omega arith) e, gap_in_place es q 0 (second _ _ s) (omega arith) (λ some. absurd (omega (arith, some))) (λ d more. high d (omega arith)))
  gap_in_place (e ∷ es) q (suc (suc i)) s lt low high =
      let previous : suc (suc i) - 1 ≡ suc i = omega arith in
      let above : HoldsAt (λ x. R q x.0 ≡ Greater) es i = λ d. subst (λ n. R q (get_or (e ∷ es) n d).0 ≡ Greater) previous (low (omega arith) d) in
      let same : suc i - 1 ≡ i = omega arith in
      let x = (get_or es i e).0 in (
        turned_order o e.0 q Less (o.trans e.0 x q (below_at o e.0 es i e (first _ _ s) (omega arith)) (turned_order o q x Greater (above e))),
        gap_in_place es q (suc i) (second _ _ s) (omega arith) (λ some. subst (HoldsAt (λ x. R q x.0 ≡ Greater) es) (sym same) above) (λ d more. high d (omega arith)),
      )

  remove-insert : (es : List (K × X)) (i : ℕ) (x : K × X) → i < length es → insert (remove es i) i x ≡ set es i x
  remove-insert [] i x lt = absurd (omega (arith, lt))
  remove-insert (e ∷ es) zero x lt = refl
  remove-insert (e ∷ es) (suc i) x lt = ap (λ l. e ∷ l) (remove-insert es i x (omega arith))

  -- one key goes where it stands, and another comes
  pub replaced_in_order : (es fs : List (K × X)) (g k : K) (v : X) (i : ℕ) → T (is_sorted R es) → i < length es → IsFound R es g i → IsGap R (remove es i) k i → fs ≡ set es i (k, v) → fs ≡ put R k v (without g es)
  replaced_in_order es fs g k v i s lt found gap made =
      made ∙ sym (remove-insert es i (k, v) lt) ∙ sym (put-gap (remove es i) k v i gap) ∙ ap (put R k v) (sym (without-found es g i s found))

  pub gap_behind : (es : List (K × X)) (k q : K) (v : X) (i : ℕ) → IsGap R es k i → R q k ≡ Greater → ((d : K × X) → i < length es → R q (get_or es i d).0 ≡ Less) → IsGap R (insert es i (k, v)) q (suc i)
  gap_behind [] k q v zero gap above high = (above, tt)
  gap_behind [] k q v (suc i) gap above high = absurd gap
  gap_behind (e ∷ es) k q v zero gap above high = (above, high e (omega arith))
  gap_behind (e ∷ es) k q v (suc i) gap above high = (
    turned_order o e.0 q Less (o.trans e.0 k q (turned_order o k e.0 Greater gap.0) (turned_order o q k Greater above)),
    gap_behind es k q v i gap.1 above (λ d lt. high d (omega arith)),
  )

  -- the second of two keys that fit side by side is above the first
  pub above_first : (es : List (K × X)) (k q : K) (v : X) (i : ℕ) → IsGap R es k i → IsGap R (insert es i (k, v)) q (suc i) → R q k ≡ Greater
  above_first [] k q v zero gap behind = behind.0
  above_first [] k q v (suc i) gap behind = absurd gap
  above_first (e ∷ es) k q v zero gap behind = behind.0
  above_first (e ∷ es) k q v (suc i) gap behind = above_first es k q v i gap.1 behind.1

  -- and below what stands at their place
  pub below_here : (es : List (K × X)) (k q : K) (v : X) (i : ℕ) (d : K × X) → i < length es → IsGap R (insert es i (k, v)) q (suc i) → R q (get_or es i d).0 ≡ Less
  below_here [] k q v i d lt behind = absurd (omega (arith, lt))
  below_here (e ∷ es) k q v zero d lt behind = behind.1
  below_here (e ∷ es) k q v (suc i) d lt behind = below_here es k q v i d (omega arith) behind.1

  -- two keys come side by side
  pub put-both : (es hs : List (K × X)) (k q : K) (v w : X) (i j : ℕ) → IsGap R es k i → IsGap R (insert es i (k, v)) q j → hs ≡ insert (insert es i (k, v)) j (q, w) → hs ≡ put R q w (put R k v es)
  put-both es hs k q v w i j gap behind hs_is = grind (arith, put-gap)

  -- each entry is found at its place by its own key
  pub found_self : (es : List (K × X)) (i : ℕ) (d : K × X) → T (is_sorted R es) → i < length es → IsFound R es (get_or es i d).0 i
  found_self [] i d s lt = absurd (omega (arith, lt))
  found_self (e ∷ es) zero d s lt = tied_itself o e.0
  found_self (e ∷ es) (suc i) d s lt =
      (turned_order o e.0 _ Less (below_at o e.0 es i d (first _ _ s) (omega arith)), found_self es i d (second _ _ s) (omega arith))

  module _ (exact : map.IsAntisymmetric R) where
    pub put_inserts : (es : List (K × X)) (k : K) (v : X) → T (is_sorted R es) → map.from_sorted {R = R} (put R k v es) ≡ map.insert (map.from_sorted es) k v
    put_inserts es k v s = map.same_map o exact _ _ (λ q.
        map.get-from_sorted R _ q (is_sorted-put R o k v es s)
        ∙ find-put R o q k v es
        ∙ ap (cond (eq_by_cmp R q k) (Some v)) (sym (map.get-from_sorted R es q s))
        ∙ sym (map.get-insert o _ k v q))

    pub without_removes : (es : List (K × X)) (k : K) → T (is_sorted R es) → map.from_sorted {R = R} (without k es) ≡ map.remove (map.from_sorted es) k
    without_removes es k s = map.same_map o exact _ _ (λ q.
        map.get-from_sorted R _ q (is_sorted-where_key R _ es s)
        ∙ find-where_key R (λ x. not (eq_by_cmp R k x)) q (λ x t. ap (λ r. not (is_eq r)) (sym (alike_right o q x k t))) es
        ∙ turned_choice (eq_by_cmp R k q) _ _
        ∙ ap (λ b. cond b None (find R q es)) ((eq_by_cmp_equiv o).symm k q)
        ∙ ap (cond (eq_by_cmp R q k) None) (sym (map.get-from_sorted R es q s))
        ∙ sym (map.get-remove o _ k q))
