-- The report of the gathered writes is the report of the table.
use Rattle.std.proofs.Common.{ℕ, ◌+◌, ◌≤◌, List, [], ◌∷◌, ◌++◌, length, Option, None, Some, refl, subst, arith}
use Rattle.pb_script.specs.Words.{Cell, Entry, Row, ObserverOf}
use Rattle.pb_script.specs.declared.reports.lines.Newest.{Newest}
use Rattle.pb_script.specs.declared.reports.newest.Put.{Put}
use Rattle.pb_script.specs.ReportLines.{Tallies}
use Rattle.pb_script.specs.Reports.{IsNewestPut, IsTold, IsReport, IsReportOf}
use Rattle.pb_script.specs.Committed.{AreSeen, Gathers, IsSeenAt}
use Rattle.pb_script.specs.Tallies.{AreTallies, IsTally}

module _ (observers : List ObserverOf) (journal : List Entry) (clock : ℕ) (puts : List Put) (g : Gathers observers journal puts) (low : AreSeen observers journal clock) where
  seen_in : (row : Row) (column : ℕ) (r : Option Newest) → IsNewestPut puts (Cell.Data row column) r → IsSeenAt observers journal clock (Cell.Data row column) r
  seen_in row column None h = λ m content i w. absurd (h _ (g.whole row column m.commit content (record { m = m; in_history = i; commit_is = refl; writes = w })) refl)
  seen_in row column (Some n) h =
      let it = g.sound _ h.0 in (
        it.m.start,
        record {
          m = it.m;
          in_history = it.in_history;
          start_is = refl;
          commit_is = it.commit_is;
          writes = it.writes;
          seen = subst (λ c. c ≤ clock) it.commit_is (low it.m it.in_history);
          greatest = λ m content i w le. h.1 _ (g.whole row column m.commit content (record { m = m; in_history = i; commit_is = refl; writes = w })) refl;
        },
      )

  told_in : (x : Cell) (r : Option Newest) → IsTold (IsNewestPut puts) x r → IsTold (IsSeenAt observers journal clock) x r
  told_in x r h = grind (arith, seen_in)

  pub report_in : (runs : Tallies) (marks locks : ℕ) (text : List ℕ) → IsReport puts runs marks locks text → IsReportOf (IsSeenAt observers journal clock) runs marks locks text
  report_in runs marks locks text h = record { entries = h.entries; rising = h.rising; told = λ x. told_in x _ (h.told x); lines = h.lines }

-- one observer more
pub tallies_push : (observers : List ObserverOf) (journal : List Entry) (o : ℕ) (xs : List ObserverOf) (rs : Tallies) (x : ObserverOf) (r : List ℕ × ℕ)
    → AreTallies observers journal o xs rs → IsTally observers journal (o + length xs) x r → AreTallies observers journal o (xs ++ x ∷ []) (rs ++ r ∷ [])
tallies_push observers journal o [] [] x r a t = (subst (λ n. IsTally observers journal n x r) (omega arith) t, refl)
tallies_push observers journal o [] (q ∷ rs) x r a t = cc
tallies_push observers journal o (y ∷ ys) [] x r a t = absurd a
tallies_push observers journal o (y ∷ ys) (q ∷ rs) x r a t = (a.0, tallies_push observers journal (o + 1) ys rs x r a.1 (subst (λ n. IsTally observers journal n x r) (omega arith) t))
