-- The newest writes up to a timestamp, and their report.
use Rattle.std.specs.BTreeMap as tree
use Rattle.std.specs.BTreeMap.{BTreeMap}
use Rattle.std.proofs.Common.{◌≡◌, ℕ, ◌<◌, ◌≤◌, ◌⊎◌, inl, inr, true, false, List, [], ◌∷◌, ◌++◌, Option, Some, None, nat_le, refl, sym, ap, ◌∙◌, subst, arith, Contains}
use Rattle.std.proofs.lemmas.List.Elements.{Contains-append_left, Contains-push, Contains-push_cases}
use Rattle.std.specs.FinMap as map
use Rattle.std.specs.Map.{lookup}
use Rattle.pb_answers.specs.Words.{Cell, Content, Slot, Item, Entries, Newest, Put, cell_cmp, Tallies, AreNewest, IsNewestPut, IsReport, IsReportOf, IsTold}
use Rattle.pb_answers.specs.Seen.{written_at, IsSeenIn}
use Rattle.pb_answers.specs.Records.{put_in, HasGathered, is_up_to, HasNewestUpTo}
use Rattle.pb_answers.proofs.Gathering.{all_left, passed_over, one_taken}

-- ---- a walk

none_reported : (x : Cell) → IsTold (IsNewestPut []) x None
none_reported (Cell.Data row column) = λ p c. absurd (let lt = c.1 in omega (arith, lt))
none_reported (Cell.Ack o row column) = refl

module _ (e : Entries) (last : ℕ) where
  pub none_noted : (m : BTreeMap Cell Newest) → m.entries ≡ [] → tree.IsOrdered cell_cmp m → HasNewestUpTo e last (map.entries e) m
  none_noted m empty rising = record {
    puts = [];
    gathered = record { sound = λ p c. absurd (let lt = c.1 in omega (arith, lt)); whole = λ p w _. inr (all_left e p w) };
    newest = record {
      told = λ x. subst (IsTold (IsNewestPut []) x) (ap (λ es. lookup (tree.is_at (cell_cmp x)) es) (sym empty)) (none_reported x);
      rising = rising;
    };
  }

  module _ (slot : Slot) (item : Item) (stands : map.get e slot ≡ Some item) (rest : List (Slot × Item)) (old : BTreeMap Cell Newest) (so : HasNewestUpTo e last ((slot, item) ∷ rest) old) where
    pub no_put : put_in e slot item ≡ None → HasNewestUpTo e last rest old
    no_put none = record {
      puts = so.puts;
      gathered = passed_over e slot item stands (is_up_to last) rest (Contains so.puts) so.gathered (λ p is. absurd cc);
      newest = so.newest;
    }

    pub too_late : (p : Put) → put_in e slot item ≡ Some p → is_up_to last p ≡ false → HasNewestUpTo e last rest old
    too_late p is late = record {
      puts = so.puts;
      gathered = passed_over e slot item stands (is_up_to last) rest (Contains so.puts) so.gathered (λ q h. let both : Some p ≡ Some q = sym is ∙ h in let same : p ≡ q = cc in subst (λ (r : Put). is_up_to last r ≡ false) same late);
      newest = so.newest;
    }

    pub one_noted : (p : Put) → put_in e slot item ≡ Some p → is_up_to last p ≡ true → (new : BTreeMap Cell Newest) → ((puts : List Put) → AreNewest puts old → AreNewest (puts ++ p ∷ []) new) → HasNewestUpTo e last rest new
    one_noted p is ok new noted = record {
      puts = so.puts ++ p ∷ [];
      gathered = one_taken e slot item stands (is_up_to last) rest (Contains so.puts) so.gathered (Contains (so.puts ++ p ∷ [])) p is ok (Contains-push so.puts p) (λ q c. Contains-push_cases so.puts p q c)
          (λ q _ c. Contains-append_left so.puts (p ∷ []) q c);
      newest = noted so.puts so.newest;
    }

  -- ---- at its end

  up_to : (c : ℕ) → c ≤ last → nat_le c last ≡ true
  up_to c le = grind arith

  within : (c : ℕ) → nat_le c last ≡ true → c ≤ last
  within c h = grind arith

  found_or_left : {A : Type 0} → A ⊎ (false ≡ true) → A
  found_or_left (inl a) = a
  found_or_left (inr h) = absurd cc

  module _ (puts : List Put) (g : HasGathered e (is_up_to last) [] (Contains puts)) where
    has : (x : Cell) (c : ℕ) (k : Content) → written_at e x c ≡ Some k → c ≤ last → Contains puts (record { cell = x; commit = record { 0 = c }; content = k })
    has x c k w le = found_or_left (g.whole (record { cell = x; commit = record { 0 = c }; content = k }) w (up_to c le))

    not_there : (x : Cell) (c : ℕ) → c ≤ last → ((p : Put) → Contains puts p → p.cell ≡ x → ⊥) → (o : Option Content) → written_at e x c ≡ o → o ≡ None
    not_there x c le none None w = refl
    not_there x c le none (Some k) w = absurd (none _ (has x c k w le) refl)

    none_after : (x : Cell) (c d : ℕ) → d < c → c ≤ last → ((p : Put) → Contains puts p → p.cell ≡ x → p.commit.0 ≤ d) → (o : Option Content) → written_at e x c ≡ o → o ≡ None
    none_after x c d lt le most None w = refl
    none_after x c d lt le most (Some k) w = let low : c ≤ d = most _ (has x c k w le) refl in absurd (omega (arith, lt, low))

    seen_in : (x : Cell) (r : Option Newest) → IsNewestPut puts x r → IsSeenIn e last x r
    seen_in x None h = λ c le. not_there x c le h (written_at e x c) refl
    seen_in x (Some n) h =
        let s = g.sound (record { cell = x; commit = n.commit; content = n.content }) h.0 in
        (within n.commit.0 s.1, s.0, λ c lt le. none_after x c n.commit.0 lt le h.1 (written_at e x c) refl)

    reported_in : (x : Cell) (r : Option Newest) → IsTold (IsNewestPut puts) x r → IsTold (IsSeenIn e last) x r
    reported_in (Cell.Data row column) r h = seen_in (Cell.Data row column) r h
    reported_in (Cell.Ack o row column) r h = h

    -- the report of the writes that were gathered is that of the snapshot
    pub seen_reported : (runs : Tallies) (marks locks : ℕ) (text : List ℕ) → IsReport puts runs marks locks text → IsReportOf (IsSeenIn e last) runs marks locks text
    seen_reported runs marks locks text h = record { entries = h.entries; rising = h.rising; told = λ x. reported_in x _ (h.told x); lines = h.lines }
