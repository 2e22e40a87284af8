-- Look-ups and changes in pairs that rise by their numbers.
use Rattle.std.proofs.Common.{◌≡◌, ◌≢◌, ℕ, ◌+◌, ◌<◌, ◌≤◌, T, Bool, true, false, cond, zero, suc, List, [], ◌∷◌, ◌++◌, length, length-set, get_or, set, Option, Some, None, slice_get, refl, sym, ap, ◌∙◌, arith, Less}
use Rattle.std.specs.Ordering.{nat_cmp, eq_by_cmp}
use Rattle.std.specs.Cmp.{unsigned_tied, nat_cmp_total, nat_cmp_is}
use Rattle.std.specs.FinMap as map
use Rattle.std.proofs.lemmas.Bool.{eqb-true, eq-eqb, ne_eqb, cases_lt}
use Rattle.std.proofs.lemmas.Option.{slice_get_within, get_or_from_slice_get, slice_get_read}
use Rattle.std.proofs.lemmas.List.{get_or_default, get_or_append_left, length_push, get_or_push}
use Rattle.pb_base.proofs.Logic.{first_holds, both_hold, less_holds}
use Rattle.pb_state.specs.Starts.{StartsRise, IsStartAt, IsNoStart}

other_number : (q k : ℕ) → q ≢ k → eq_by_cmp nat_cmp q k ≡ false
other_number q k h = unsigned_tied q k ∙ ne_eqb q k h

same_number : (q k : ℕ) → q ≡ k → eq_by_cmp nat_cmp q k ≡ true
same_number q k h = unsigned_tied q k ∙ eq-eqb q k h

module _ {X : Type 0} where
  -- the number at a place is one, whatever stands past the end
  any_default : (es : List (ℕ × X)) (m : ℕ) (d e : ℕ × X) → m < length es → (get_or es m d).0 ≡ (get_or es m e).0
  any_default es m d e lt = ap (λ (p : ℕ × X). p.0) (get_or_default es m d e lt)

  -- numbers up to one that is below
  pub below_here : (es : List (ℕ × X)) (m k : ℕ) (here : ℕ × X) → StartsRise es → m < length es → (get_or es m here).0 < k → (i : ℕ) (d : ℕ × X) → i < m + 1 → (get_or es i d).0 < k
  below_here es m k here r lt below i d up =
      let same = any_default es m d here lt in
      grind (arith, cases_lt, r.at)

  -- numbers from one that is above on
  pub above_here : (es : List (ℕ × X)) (m k : ℕ) (here : ℕ × X) → StartsRise es → m < length es → k < (get_or es m here).0 → (i : ℕ) (d : ℕ × X) → m ≤ i → i < length es → k < (get_or es i d).0
  above_here es m k here r lt above i d up within =
      let same = any_default es m d here lt in
      grind (arith, cases_lt, r.at)

  tail_rises : (e : ℕ × X) (es : List (ℕ × X)) → StartsRise (e ∷ es) → StartsRise es
  tail_rises e es r = record { at = λ i j d lt within. r.at (suc i) (suc j) d (omega arith) (omega arith) }

  pub find_at : (es : List (ℕ × X)) (k i : ℕ) (d : ℕ × X) → StartsRise es → IsStartAt es k i → map.find nat_cmp k es ≡ Some (get_or es i d).1
  find_at [] k i d r h = let lt = h.within in absurd (omega arith)
  find_at (e ∷ es) k zero d r h = ap (λ b. cond b (Some e.1) (map.find nat_cmp k es)) (same_number k e.0 (sym (h.here d)))
  find_at (e ∷ es) k (suc i) d r h =
      let within = h.within in
      let lt = r.at 0 (suc i) d (omega arith) within in
      let is = h.here d in
      ap (λ b. cond b (Some e.1) (map.find nat_cmp k es)) (other_number k e.0 (λ s. omega (arith, lt, is, s)))
      ∙ find_at es k i d (tail_rises e es r) (record { within = omega arith; here = h.here })

  pub find_nowhere : (es : List (ℕ × X)) (k : ℕ) → IsNoStart es k → map.find nat_cmp k es ≡ None
  find_nowhere [] k h = refl
  find_nowhere (e ∷ es) k h =
      ap (λ b. cond b (Some e.1) (map.find nat_cmp k es)) (other_number k e.0 (λ s. h.none 0 e (omega arith) (sym s)))
      ∙ find_nowhere es k (record { none = λ i d lt is. h.none (suc i) d (omega arith) is })

  either : (a b : Bool) (v x rest : Option X) → (a ≡ true → b ≡ true → ⊥) → cond a x (cond b v rest) ≡ cond b v (cond a x rest)
  either a b v x rest h = grind arith

  skipped : (a b : Bool) (v x rest : Option X) → a ≡ b → cond a v rest ≡ cond a v (cond b x rest)
  skipped a b v x rest e = grind arith

  find_set : (es : List (ℕ × X)) (k i : ℕ) (v : X) (q : ℕ) → StartsRise es → IsStartAt es k i → map.find nat_cmp q (set es i (k, v)) ≡ cond (eq_by_cmp nat_cmp q k) (Some v) (map.find nat_cmp q es)
  find_set [] k i v q r h = let lt = h.within in absurd (omega arith)
  find_set (e ∷ es) k zero v q r h = skipped _ _ (Some v) (Some e.1) (map.find nat_cmp q es) (ap (λ n. eq_by_cmp nat_cmp q n) (sym (h.here e)))
  find_set (e ∷ es) k (suc i) v q r h =
      let within = h.within in
      let lt = r.at 0 (suc i) e (omega arith) within in
      let is = h.here e in
      let apart : eq_by_cmp nat_cmp q e.0 ≡ true → eq_by_cmp nat_cmp q k ≡ true → ⊥ =
      (grind (arith, eqb-true)) in
      ap (cond (eq_by_cmp nat_cmp q e.0) (Some e.1)) (find_set es k i v q (tail_rises e es r) (record { within = omega arith; here = h.here }))
      ∙ either _ _ (Some v) (Some e.1) (map.find nat_cmp q es) apart

  pub set_inserts : (es : List (ℕ × X)) (k i : ℕ) (v : X) → StartsRise es → IsStartAt es k i → map.from_entries {R = nat_cmp} (set es i (k, v)) ≡ map.insert (map.from_entries es) k v
  set_inserts es k i v r h = map.same_map nat_cmp_total map.nat_cmp-IsAntisymmetric _ _ (λ q.
      map.get-from_entries nat_cmp_total (set es i (k, v)) q
      ∙ find_set es k i v q r h
      ∙ ap (cond (eq_by_cmp nat_cmp q k) (Some v)) (sym (map.get-from_entries nat_cmp_total es q))
      ∙ sym (map.get-insert nat_cmp_total (map.from_entries es) k v q))

  -- ---- one more pair at the end

  pub push_rises : (es : List (ℕ × X)) (p : ℕ × X) → StartsRise es → ((i : ℕ) (d : ℕ × X) → i < length es → (get_or es i d).0 < p.0) → StartsRise (es ++ p ∷ [])
  push_rises es p r all = grind (arith, cases_lt, get_or_append_left, length_push, get_or_push, r.at)

  pub nowhere_above : (es : List (ℕ × X)) (k : ℕ) → ((i : ℕ) (d : ℕ × X) → i < length es → (get_or es i d).0 < k) → IsNoStart es k
  nowhere_above es k all = record { none = λ i d lt is. let h = all i d lt in omega (arith, h, is) }

  -- a bound on the numbers that the map has is one on those in the list
  pub all_below : (es : List (ℕ × X)) (k : ℕ) → StartsRise es → ((q : ℕ) (v : X) → map.get (map.from_entries {R = nat_cmp} es) q ≡ Some v → q < k) → (i : ℕ) (d : ℕ × X) → i < length es → (get_or es i d).0 < k
  all_below es k r low i d lt =
      let q = (get_or es i d).0 in
      low q (get_or es i d).1 (map.get-from_entries nat_cmp_total es q ∙ find_at es q i d r (record { within = lt; here = λ e. any_default es i e d lt }))

  pub push_inserts : (es : List (ℕ × X)) (k : ℕ) (v : X) → IsNoStart es k → map.from_entries {R = nat_cmp} (es ++ (k, v) ∷ []) ≡ map.insert (map.from_entries es) k v
  push_inserts es k v h = map.from_entries_push nat_cmp_total map.nat_cmp-IsAntisymmetric es k v (find_nowhere es k h)

  -- ---- the same of the map that they are

  sorted_over : (p : ℕ × X) (es : List (ℕ × X)) → ((i : ℕ) (d : ℕ × X) → i < length es → p.0 < (get_or es i d).0) → StartsRise es → T (map.is_sorted nat_cmp (p ∷ es))
  sorted_over p [] over r = tt
  sorted_over p (e ∷ es) over r =
      let rest = tail_rises e es r in
      both_hold _ _ (both_hold _ _ (less_holds _ (sym (nat_cmp_is p.0 e.0 Less (over 0 e (omega arith))))) (first_holds _ _ (sorted_over p es (λ i d lt. over (suc i) d (omega arith)) rest)))
      (sorted_over e es (λ i d lt. r.at 0 (suc i) d (omega arith) (omega arith)) rest)

  sorted : (es : List (ℕ × X)) → StartsRise es → T (map.is_sorted nat_cmp es)
  sorted [] r = tt
  sorted (e ∷ es) r = sorted_over e es (λ i d lt. r.at 0 (suc i) d (omega arith) (omega arith)) (tail_rises e es r)

  -- pairs that rise are the entries of the map that they are
  entries_are : (es : List (ℕ × X)) (m : map.FinMap nat_cmp X) → StartsRise es → map.from_entries es ≡ m → map.entries m ≡ es
  entries_are es m r is =
      let s = sorted es r in
      ap map.entries (sym is ∙ map.same_map nat_cmp_total map.nat_cmp-IsAntisymmetric _ _ (λ q. map.get-from_entries nat_cmp_total es q ∙ sym (map.get-from_sorted nat_cmp es q s)))
      ∙ map.entries-from_sorted nat_cmp es s

  module _ (es : List (ℕ × X)) (m : map.FinMap nat_cmp X) (k i : ℕ) (r : StartsRise es) (is : map.from_entries es ≡ m) where
    -- what was found in the list stands at that place of the map
    pub found_in_map : (e : ℕ × X) → IsStartAt es k i → e ≡ get_or es i e → (map.get m k ≡ Some e.1) × (slice_get (map.entries m) i ≡ Some (k, e.1))
    found_in_map e at here =
        let number : e.0 ≡ k = ap (λ (p : ℕ × X). p.0) here ∙ at.here e in (
          ap (λ n. map.get n k) (sym is) ∙ map.get-from_entries nat_cmp_total es k ∙ find_at es k i e r at ∙ ap (λ (p : ℕ × X). Some p.1) (sym here),
          ap (λ ps. slice_get ps i) (entries_are es m r is) ∙ slice_get_read es _ i e refl at.within here ∙ ap (λ n. Some (n, e.1)) number,
        )

    -- and the other way round
    pub start_at : (t : X) → slice_get (map.entries m) i ≡ Some (k, t) → IsStartAt es k i
    start_at t there = grind (arith, entries_are, slice_get_within, get_or_from_slice_get)

    -- another value there is put under its number
    pub change_inserts : (e : ℕ × X) (w : X) → IsStartAt es k i → e ≡ get_or es i e → map.from_entries {R = nat_cmp} (set es i (e.0, w)) ≡ map.insert m k w
    change_inserts e w at here = grind (arith, set_inserts, at.here)

  set_number : (es : List (ℕ × X)) (i : ℕ) (v : ℕ × X) → ((d : ℕ × X) → (get_or es i d).0 ≡ v.0) → (j : ℕ) (d : ℕ × X) → (get_or (set es i v) j d).0 ≡ (get_or es j d).0
  set_number [] i v h j d = refl
  set_number (e ∷ es) zero v h zero d = sym (h d)
  set_number (e ∷ es) zero v h (suc j) d = refl
  set_number (e ∷ es) (suc i) v h zero d = refl
  set_number (e ∷ es) (suc i) v h (suc j) d = set_number es i v h j d

  -- and the numbers rise as before
  pub set_rises : (es : List (ℕ × X)) (k i : ℕ) (e : ℕ × X) (w : X) → StartsRise es → IsStartAt es k i → e ≡ get_or es i e → StartsRise (set es i (e.0, w))
  set_rises es k i e w r at here = grind (arith, length-set, set_number, at.here)

  pub not_held : (es : List (ℕ × X)) (m : map.FinMap nat_cmp X) (k : ℕ) → map.from_entries es ≡ m → IsNoStart es k → map.get m k ≡ None
  not_held es m k is none = ap (λ n. map.get n k) (sym is) ∙ map.get-from_entries nat_cmp_total es k ∙ find_nowhere es k none

  pub last_inserts : (es : List (ℕ × X)) (m : map.FinMap nat_cmp X) (k : ℕ) (v : X) → StartsRise es → map.from_entries es ≡ m → ((q : ℕ) (x : X) → map.get m q ≡ Some x → q < k) → map.from_entries {R = nat_cmp} (es ++ (k, v) ∷ []) ≡ map.insert m k v
  last_inserts es m k v r is low = grind (arith, all_below, push_inserts, nowhere_above)

  pub added_rises : (es : List (ℕ × X)) (m : map.FinMap nat_cmp X) (k : ℕ) (v : X) → StartsRise es → map.from_entries es ≡ m → ((q : ℕ) (x : X) → map.get m q ≡ Some x → q < k) → StartsRise (es ++ (k, v) ∷ [])
  added_rises es m k v r is low = push_rises es (k, v) r (all_below es k r (λ q x g. low q x (ap (λ n. map.get n q) (sym is) ∙ g)))

  same_if : (b : Bool) (o p : Option X) → (b ≡ true → p ≡ o) → cond b o p ≡ p
  same_if b o p h = grind arith

  -- what stands there put once more
  pub put_again : (m : map.FinMap nat_cmp X) (k : ℕ) (v : X) → map.get m k ≡ Some v → map.insert m k v ≡ m
  put_again m k v there = map.same_map nat_cmp_total map.nat_cmp-IsAntisymmetric _ _ (λ q.
      map.get-insert nat_cmp_total m k v q
      ∙ same_if (eq_by_cmp nat_cmp q k) (Some v) (map.get m q) (λ e. ap (λ n. map.get m n) (eqb-true q k (sym (unsigned_tied q k) ∙ e)) ∙ there))
