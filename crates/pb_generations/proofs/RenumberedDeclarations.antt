-- What a transaction may declare, it may declare under other numbers of the observers too.
use Rattle.std.proofs.Common.{◌≡◌, ℕ, Bool, true, not, nat_lt, ◌<◌, arith, false, length, List, [], ◌∷◌, Option, Some, None, slice_get, refl, sym, ap, subst, ◌∙◌, inl, inr, map}
use Rattle.std.proofs.lemmas.Option.{slice_get_within, slice_get_cases}
use Rattle.pb_generations.specs.Words.{Cell, Content, Row, Ts, record_by, tells_old, ObserverOf, acknowledgment, column_or_zero, observed_cell, is_unknown, AreReplies, IsKnown, IsReadOf, MayDeclare, WasOld, WasSeen, is_its, old_at, acknowledged_in, asked_cell, value_in, version_in, cells_of, RecordedRead, Seen, Answer, Declared, Work, Reply, Talk}
use Rattle.pb_history.proofs.DeclaredCells.{batch_plain, run_plain}
use Rattle.pb_notify.proofs.ItsRun.{its_run}
use Rattle.pb_generations.specs.Renumbered.{AreNumberedBy, renumbered_answer, renumbered_cell, renumbered_declaration, renumbered_read, renumbered_work, renumbered_writes}
use Rattle.pb_generations.proofs.RenumberedCells.{plain_stay}

-- what a transaction may declare passes the test
pub its_by_test : (observers : List ObserverOf) (work : Work) (s : ℕ) (reads : List RecordedRead) (what : Declared) → MayDeclare observers work s reads what → is_its observers work s reads what ≡ true
its_by_test observers Work.Script s reads (Declared.Script batch) may = refl
its_by_test observers (Work.Run p row) s reads (Declared.Run o f) may = ap (λ q. is_its observers (Work.Run p row) s reads (Declared.Run q f)) may.0 ∙ its_run observers p row s reads f may.1
its_by_test observers Work.Script s reads (Declared.Run o f) may = absurd may
its_by_test observers (Work.Run p row) s reads (Declared.Script batch) may = absurd may

module _ (number : ℕ → ℕ) where
  abbrev to_read : RecordedRead → RecordedRead
  to_read = renumbered_read number

  -- ---- what was read

  same_version : (a : Answer) → version_in (renumbered_answer number a) ≡ version_in a
  same_version a = grind arith

  same_stamp : (a : Answer) → acknowledged_in (renumbered_answer number a) ≡ acknowledged_in a
  same_stamp a = grind arith

  same_value : (a : Answer) → value_in (renumbered_answer number a) ≡ value_in a
  same_value a = grind arith

  read_moved : (r : RecordedRead) (x : Cell) (named : Option Ts) → IsReadOf r x named → IsReadOf (to_read r) (renumbered_cell number x) named
  read_moved r x named is = record { cell = ap (renumbered_cell number) is.cell; at = is.at }

  old_moved : (at : Option Ts) (x : Cell) (reads : List RecordedRead) (old : Reply) (asked : List RecordedRead) → WasOld at x reads old asked → WasOld at (renumbered_cell number x) (map to_read reads) old (map to_read asked)
  old_moved None x reads old asked w = (w.0, ap (map to_read) w.1)
  old_moved (Some a) x reads old asked w = (to_read w.0, read_moved w.0 x (Some a) w.1, w.2 ∙ sym (same_value w.0.answer), ap (map to_read) w.3)

  seen_moved : (x ack : Cell) (second : Bool) (reads : List RecordedRead) (seen : Seen) (asked : List RecordedRead) → WasSeen x ack second reads seen asked
      → WasSeen (renumbered_cell number x) (renumbered_cell number ack) second (map to_read reads) seen (map to_read asked)
  seen_moved x ack second reads seen asked w = record {
    found_by = to_read w.found_by;
    acknowledged_by = to_read w.acknowledged_by;
    rest = map to_read w.rest;
    reads_are = ap (map to_read) w.reads_are;
    observed = read_moved w.found_by x None w.observed;
    found = same_version w.found_by.answer ∙ w.found;
    acknowledgment = read_moved w.acknowledged_by ack None w.acknowledgment;
    acknowledged = w.acknowledged ∙ sym (same_stamp w.acknowledged_by.answer);
    old = old_moved (old_at second seen.acknowledged) x w.rest seen.old asked w.old;
  }

  replies_moved : (asked : List RecordedRead) (talk : Talk) → AreReplies asked talk → AreReplies (map to_read asked) talk
  replies_moved [] [] h = tt
  replies_moved (r ∷ rs) (a ∷ talk) h = (read_moved r (asked_cell a.0) None h.0, h.1 ∙ sym (same_value r.answer), replies_moved rs talk h.2)
  replies_moved [] (a ∷ talk) h = absurd h
  replies_moved (r ∷ rs) [] h = absurd h

  pub still_known : (what : Declared) → IsKnown what → IsKnown (renumbered_declaration number what)
  still_known (Declared.Script batch) is = is
  still_known (Declared.Run o f) is = is

module _ (number : ℕ → ℕ) (few many : List ObserverOf) (by : AreNumberedBy number few many) where
  -- ---- the observers

  below : (p : ℕ) (os : List ObserverOf) → not (nat_lt p (length os)) ≡ false → p < length os
  below p os e = grind (arith, e)

  known : (p : ℕ) (os : List ObserverOf) → p < length os → not (nat_lt p (length os)) ≡ false
  known p os e = grind (arith, e)

  pub known_renumbered : (work : Work) → is_unknown few work ≡ false → is_unknown many (renumbered_work number work) ≡ false
  known_renumbered Work.Script e = refl
  known_renumbered (Work.Run p row) e = elim (slice_get_cases few p).1 [
    | inl there ↦ known (number p) many (slice_get_within many (number p) there.0 (by p there.0 there.2))
    | inr past ↦ absurd (omega (arith, past.0, below p few e))
  ]

  module _ (p : ℕ) (o : ObserverOf) (there : slice_get few p ≡ Some o) (row : Row) where
    observer_moved : slice_get many (number p) ≡ slice_get few p
    observer_moved = by p o there ∙ sym there

    acknowledgment_moved : acknowledgment many (number p) row ≡ renumbered_cell number (acknowledgment few p row)
    acknowledgment_moved = ap (λ (z : Option ObserverOf). Cell.Ack (number p) row (column_or_zero z)) observer_moved

    observed_stays : observed_cell many (number p) row ≡ observed_cell few p row
    observed_stays = ap (λ (z : Option ObserverOf). Cell.Data row (column_or_zero z)) observer_moved

  -- ---- the declaration

  pub may_renumbered : (work : Work) (s : ℕ) (reads : List RecordedRead) (what : Declared) → MayDeclare few work s reads what
      → MayDeclare many (renumbered_work number work) s (map (renumbered_read number) reads) (renumbered_declaration number what)
  may_renumbered Work.Script s reads (Declared.Script batch) may = tt
  may_renumbered (Work.Run p row) s reads (Declared.Run o f) may =
      let r = may.1 in
      let x = observed_stays p r.observer r.observer_is row in
      let ack = acknowledgment_moved p r.observer r.observer_is row in
      let second = tells_old r.observer.program in
      let all = map (renumbered_read number) reads in
      let rest = map (renumbered_read number) r.asked in (
        ap number may.0,
        record {
          observer = r.observer;
          observer_is = by p r.observer r.observer_is;
          seen = r.seen;
          asked = rest;
          was = subst (λ (y : Cell). WasSeen y (acknowledgment many (number p) row) second all r.seen rest) (sym x)
              (subst (λ (y : Cell). WasSeen (observed_cell few p row) y second all r.seen rest) (sym ack) (seen_moved number (observed_cell few p row) (acknowledgment few p row) second reads r.seen r.asked r.was));
          newer = r.newer;
          program = r.program;
          bytes = r.bytes ∙ ap (λ (y : Cell). record_by second y r.seen.version r.seen.acknowledged.0 r.seen.old) (sym x);
          start = r.start;
          replied = replies_moved number r.asked f.talk r.replied;
        },
      )
  may_renumbered Work.Script s reads (Declared.Run o f) may = absurd may
  may_renumbered (Work.Run p row) s reads (Declared.Script batch) may = absurd may

  pub cells_renumbered : (work : Work) (s : ℕ) (reads : List RecordedRead) (what : Declared) → IsKnown what → MayDeclare few work s reads what
      → cells_of many (renumbered_work number work) s (renumbered_declaration number what) ≡ renumbered_writes number (cells_of few work s what)
  cells_renumbered Work.Script s reads (Declared.Script batch) is may = sym (plain_stay number batch (batch_plain batch is))
  cells_renumbered (Work.Run p row) s reads (Declared.Run o f) is may =
      λ i. (acknowledgment_moved p may.1.observer may.1.observer_is row i, Content.Stamp (record { 0 = s })) ∷ sym (plain_stay number f.writes (run_plain f.writes is.1)) i
  cells_renumbered Work.Script s reads (Declared.Run o f) is may = absurd may
  cells_renumbered (Work.Run p row) s reads (Declared.Script batch) is may = absurd may
