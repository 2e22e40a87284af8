-- One report: where one thing is newest at each cell, the text is settled.
use Rattle.std.specs.BTreeMap as tree
use Rattle.std.proofs.Common.{◌≡◌, ℕ, ◌≤◌, cond, T, List, [], ◌∷◌, map, Option, Some, None, refl, sym, ap, ◌∙◌, arith, Less}
use Rattle.std.specs.List.{AllByRecursion}
use Rattle.std.specs.List.Sorted.{IsStrictlySortedBy}
use Rattle.std.specs.Map.{lookup}
use Rattle.std.specs.FinMap.Entries.{find, is_sorted, below_all, same_entries}
use Rattle.pb_script.specs.Words.{Cell, cell_cmp, cell_cmp_total, cell_cmp-IsAntisymmetric}
use Rattle.pb_script.specs.declared.reports.lines.Newest.{Newest}
use Rattle.pb_script.specs.declared.reports.newest.Put.{Put}
use Rattle.pb_script.specs.ReportLines.{Tallies}
use Rattle.pb_script.specs.Reports.{IsNewestPut, IsTold, IsReportOf, IsReport, AreApart}
use Rattle.pb_base.proofs.Logic.{both_hold as both, less_holds as less}

abbrev Entries : Type 0
Entries = List (Cell × Newest)

below : (x : Cell) (es : Entries) → AllByRecursion (λ y. cell_cmp x y ≡ Less) (map (λ e. e.0) es) → T (below_all cell_cmp x es)
below x [] h = tt
below x (e ∷ es) h = both _ _ (less (cell_cmp x e.0) h.0) (below x es h.1)

sorted : (es : Entries) → IsStrictlySortedBy cell_cmp (map (λ e. e.0) es) → T (is_sorted cell_cmp es)
unfolding IsStrictlySortedBy
sorted [] h = tt
sorted (e ∷ es) h = both _ _ (below e.0 es h.0) (sorted es h.1)

found : (x : Cell) (es : Entries) → find cell_cmp x es ≡ lookup (tree.is_at (cell_cmp x)) es
found x [] = refl
found x (e ∷ es) = ap (λ (r : Option Newest). cond (tree.is_at (cell_cmp x) e.0) (Some e.1) r) (found x es)

-- what stands at each cell says which entries there are
pub same_by_lookup : (es fs : Entries) → IsStrictlySortedBy cell_cmp (map (λ e. e.0) es) → IsStrictlySortedBy cell_cmp (map (λ e. e.0) fs)
    → ((x : Cell) → lookup (tree.is_at (cell_cmp x)) es ≡ lookup (tree.is_at (cell_cmp x)) fs) → es ≡ fs
same_by_lookup es fs g h is = same_entries cell_cmp cell_cmp_total cell_cmp-IsAntisymmetric es fs (sorted es g) (sorted fs h) (λ x. found x es ∙ is x ∙ sym (found x fs))

-- of no cell two different things are newest
abbrev IsOne : (Cell → Option Newest → Type 0) → Type 0
IsOne newest = (x : Cell) (r s : Option Newest) → newest x r → newest x s → r ≡ s

-- and then no cell has two reported
told_one : (newest : Cell → Option Newest → Type 0) → IsOne newest → IsOne (IsTold newest)
told_one newest one (Cell.Data row column) r s g h = one (Cell.Data row column) r s g h
told_one newest one (Cell.Ack observer row column) r s g h = g ∙ sym h

-- where one thing is newest at each cell, there is one report
pub same_report : (newest : Cell → Option Newest → Type 0) (runs : Tallies) (marks locks : ℕ) (s t : List ℕ) → IsOne newest → IsReportOf newest runs marks locks s → IsReportOf newest runs marks locks t → s ≡ t
same_report newest runs marks locks s t one g h = grind (arith, same_by_lookup, told_one, one, g.entries, h.entries, g.rising, h.rising, g.told, h.told, g.lines, h.lines)

same_number : (a b : ℕ) → a ≤ b → b ≤ a → a ≡ b
same_number a b g h = omega arith

-- where no cell has two writes of one commit, one of them is the greatest
one_newest : (puts : List Put) → AreApart puts → IsOne (IsNewestPut puts)
one_newest puts apart x None None g h = refl
one_newest puts apart x None (Some n) g h = absurd (g _ h.0 refl)
one_newest puts apart x (Some m) None g h = absurd (h _ g.0 refl)
one_newest puts apart x (Some m) (Some n) g h =
    let c : m.commit.0 ≡ n.commit.0 = same_number _ _ (h.1 _ g.0 refl) (g.1 _ h.0 refl) in
    let commits : m.commit ≡ n.commit = ap (λ k. record { 0 = k }) c in
    let e = apart (record { cell = x; commit = m.commit; content = m.content }) (record { cell = x; commit = n.commit; content = n.content }) g.0 h.0 refl commits in
    ap (λ (p : Put). Some (record { commit = p.commit; content = p.content })) e

-- so there is one report of such writes
pub one_text_reported : (puts : List Put) (runs : Tallies) (marks locks : ℕ) (s t : List ℕ) → AreApart puts → IsReport puts runs marks locks s → IsReport puts runs marks locks t → s ≡ t
one_text_reported puts runs marks locks s t apart g h = same_report (IsNewestPut puts) runs marks locks s t (one_newest puts apart) g h
