-- The writes above a commit, in a map by commits and cells.
use Rattle.std.specs.BTreeMap as tree
use Rattle.std.specs.BTreeMap.{BTreeMap}
use Rattle.std.proofs.Common.{◌≡◌, ℕ, ◌<◌, ◌⊎◌, inl, inr, Bool, true, false, cond, List, [], ◌∷◌, Some, None, nat_lt, ◌&&◌, sym, ap, ◌∙◌, subst, arith, Equal}
use Rattle.std.specs.Cmp.{IsTotalOrder, nat_cmp_total, tied_itself, Equal-is}
use Rattle.std.proofs.lemmas.Cmp.{on_total, then_total}
use Rattle.std.proofs.lemmas.Bool.{cases_Bool, ltb-true}
use Rattle.std.proofs.lemmas.Map.Views.{btree_map_get_iff}
use Rattle.std.specs.FinMap as map
use Rattle.std.specs.FinMap.{nat_cmp-IsAntisymmetric}
use Rattle.std.specs.Map.{lookup}
use Rattle.std.specs.Ordering.{is_eq}
use Rattle.pb_base.specs.Cell.{both_equal}
use Rattle.pb_base.proofs.Logic.{and_true}
use Rattle.pb_answers.specs.Words.{Content, Slot, Item, Entries, Put, cell_cmp_total, cell_cmp-IsAntisymmetric, is_data}
use Rattle.pb_answers.specs.Writes.{WriteKey, key_cmp, IsWriteSince, AreWritesSince}
use Rattle.pb_answers.specs.Records.{put_in, IsPutIn, is_since, HasPut, HasWritesSince, key_of}
use Rattle.pb_answers.proofs.Gathering.{all_left, put_is, passed_over, one_taken}

key_total : IsTotalOrder key_cmp
key_total = then_total (on_total (λ k. k.0.0) nat_cmp_total) (on_total (λ k. k.1) cell_cmp_total)

-- keys that tie are one
key_exact : (x y : WriteKey) → key_cmp x y ≡ Equal → x ≡ y
key_exact x y e =
    let b = both_equal _ _ e in
    let t = nat_cmp-IsAntisymmetric _ _ b.0 in
    let c = cell_cmp-IsAntisymmetric _ _ b.1 in
    λ i. (record { 0 = t i }, c i)

key_is : (x y : WriteKey) → tree.is_at (key_cmp x) y ≡ true → x ≡ y
key_is x y h = key_exact x y ((Equal-is (key_cmp x y)).0 h)

key_tied : (x : WriteKey) → tree.is_at (key_cmp x) x ≡ true
key_tied x = ap is_eq (tied_itself key_total x)

tests_hold : (a b : ℕ) (d : Bool) → a < b → d ≡ true → (nat_lt a b && d) ≡ true
tests_hold a b d lt is = grind arith

-- ---- a walk

module _ (e : Entries) (above : ℕ) where
  -- before it nothing is noted
  pub none_noted : (m : BTreeMap WriteKey Content) → m.entries ≡ [] → tree.IsOrdered key_cmp m → HasWritesSince e above (map.entries e) m
  none_noted m empty rising = record {
    gathered = record {
      sound = λ p g. let none : tree.get key_cmp m (key_of p) ≡ None = ap (λ es. lookup (tree.is_at (key_cmp (key_of p))) es) empty in absurd cc;
      whole = λ p w _. inr (all_left e p w);
    };
    rising = rising;
  }

  module _ (slot : Slot) (item : Item) (stands : map.get e slot ≡ Some item) (rest : List (Slot × Item)) (old : BTreeMap WriteKey Content) (so : HasWritesSince e above ((slot, item) ∷ rest) old) where
    pub no_put : put_in e slot item ≡ None → HasWritesSince e above rest old
    no_put none = record {
      gathered = passed_over e slot item stands (is_since above) rest (HasPut old) so.gathered (λ p is. absurd cc);
      rising = so.rising;
    }

    pub not_since : (p : Put) → put_in e slot item ≡ Some p → is_since above p ≡ false → HasWritesSince e above rest old
    not_since p is late = record {
      gathered = passed_over e slot item stands (is_since above) rest (HasPut old) so.gathered (λ q h. let both : Some p ≡ Some q = sym is ∙ h in let same : p ≡ q = cc in subst (λ (r : Put). is_since above r ≡ false) same late);
      rising = so.rising;
    }

    module _ (p : Put) (is : put_in e slot item ≡ Some p) (ok : is_since above p ≡ true) (new : BTreeMap WriteKey Content)
        (updates : (q : WriteKey) → tree.get key_cmp new q ≡ cond (tree.is_at (key_cmp (key_of p)) q) (Some p.content) (tree.get key_cmp old q)) where
      at_key : (q : WriteKey) (b : Bool) → tree.is_at (key_cmp (key_of p)) q ≡ b → tree.get key_cmp new q ≡ cond b (Some p.content) (tree.get key_cmp old q)
      at_key q b h = updates q ∙ ap (λ t. cond t (Some p.content) (tree.get key_cmp old q)) h

      same_put : (q : Put) → key_of p ≡ key_of q → p.content ≡ q.content → p ≡ q
      same_put q k c i = record { cell = (k i).1; commit = (k i).0; content = c i }

      now : HasPut new p
      now = at_key (key_of p) true (key_tied (key_of p))

      back : (q : Put) → HasPut new q → HasPut old q ⊎ (p ≡ q)
      back q g = elim (cases_Bool (tree.is_at (key_cmp (key_of p)) (key_of q))) [
        | inl here ↦ let both : Some p.content ≡ Some q.content = sym (at_key (key_of q) true here) ∙ g in
            let content : p.content ≡ q.content = cc in
            inr (same_put q (key_is (key_of p) (key_of q) here) content)
        | inr there ↦ inl (sym (at_key (key_of q) false there) ∙ g)
      ]

      -- what one commit wrote to a cell is one content
      one_content : (q : Put) → IsPutIn e q → key_of p ≡ key_of q → p.content ≡ q.content
      one_content q w k =
          let mine : IsPutIn e (record { cell = q.cell; commit = q.commit; content = p.content }) = subst (λ (x : WriteKey). IsPutIn e (record { cell = x.1; commit = x.0; content = p.content })) k (put_is e slot item stands p is).0 in
          let both : Some p.content ≡ Some q.content = sym mine ∙ w in
          cc

      keeps : (q : Put) → IsPutIn e q → HasPut old q → HasPut new q
      keeps q w g = elim (cases_Bool (tree.is_at (key_cmp (key_of p)) (key_of q))) [
        | inl here ↦ at_key (key_of q) true here ∙ ap Some (one_content q w (key_is (key_of p) (key_of q) here))
        | inr there ↦ at_key (key_of q) false there ∙ g
      ]

      pub one_noted : tree.IsOrdered key_cmp new → HasWritesSince e above rest new
      one_noted rising = record {
        gathered = one_taken e slot item stands (is_since above) rest (HasPut old) so.gathered (HasPut new) p is ok now back keeps;
        rising = rising;
      }

  -- ---- at its end

  tested : (k : WriteKey) (v : Content) → IsWriteSince e above k v → is_since above (record { cell = k.1; commit = k.0; content = v }) ≡ true
  tested k v w = tests_hold above k.0.0 (is_data k.1) w.later w.of_data

  since_of : (k : WriteKey) (v : Content) → IsPutIn e (record { cell = k.1; commit = k.0; content = v }) → is_since above (record { cell = k.1; commit = k.0; content = v }) ≡ true → IsWriteSince e above k v
  since_of k v w is = let b = and_true (nat_lt above k.0.0) (is_data k.1) is in record { of_data = b.1; later = ltb-true _ _ b.0; written = w }

  found_or_left : {A : Type 0} → A ⊎ (false ≡ true) → A
  found_or_left (inl a) = a
  found_or_left (inr h) = absurd cc

  -- a map that has them all lists them, each once
  pub all_noted : (m : BTreeMap WriteKey Content) → HasWritesSince e above [] m → AreWritesSince e above m.entries
  all_noted m h = record {
    rising = h.rising;
    sound = λ k v c.
        let g = (btree_map_get_iff key_total key_exact m h.rising k v).1 c in
        let s = h.gathered.sound (record { cell = k.1; commit = k.0; content = v }) g in
        since_of k v s.0 s.1;
    whole = λ k v w.
        (btree_map_get_iff key_total key_exact m h.rising k v).0 (found_or_left (h.gathered.whole (record { cell = k.1; commit = k.0; content = v }) w.written (tested k v w)));
  }
