-- What is known of the observers of a table holds where there are more of them.
use Rattle.std.proofs.Common.{◌≡◌, ℕ, ◌<◌, Bool, true, false, not, nat_lt, ◌==◌, ◌&&◌, ◌++◌, arith, List, [], ◌∷◌, length, Option, Some, None, slice_get, refl, sym, ap, subst, ◌∙◌, inl, inr, ◌⊎◌, zero, suc}
use Rattle.std.proofs.lemmas.Option.{none-some, slice_get_within, slice_get_cases}
use Rattle.pb_generations.specs.Words.{Cell, Content, Row, record_by, tells_old, ObserverOf, acknowledgment, column_or_zero, observed_cell, Meant, is_unknown, MayDeclare, WasSeen, is_its, is_run_by, is_run_of, cells_of, RecordedRead, Declared, Work}

-- each observer of the first list stands at its place in the second
abbrev pub Stay : List ObserverOf → List ObserverOf → Type 0
Stay few many = (p : ℕ) (o : ObserverOf) → slice_get few p ≡ Some o → slice_get many p ≡ Some o

pub stay_in_front : (few more : List ObserverOf) → Stay few (few ++ more)
stay_in_front [] more p o e = absurd (none-some o e)
stay_in_front (x ∷ few) more zero o e = e
stay_in_front (x ∷ few) more (suc p) o e = stay_in_front few more p o e

-- an observer of the longer list is one of the first, or one of the second
pub either_list : (few more : List ObserverOf) (p : ℕ) (o : ObserverOf) → slice_get (few ++ more) p ≡ Some o → (slice_get few p ≡ Some o) ⊎ ((slice_get few p ≡ None) × (q : ℕ) × (slice_get more q ≡ Some o))
either_list [] more p o e = inr (refl, p, e)
either_list (x ∷ few) more zero o e = inl e
either_list (x ∷ few) more (suc p) o e = either_list few more p o e

known_below : (p : ℕ) (os : List ObserverOf) → not (nat_lt p (length os)) ≡ false → p < length os
known_below p os e = grind (arith, e)

below_known : (p : ℕ) (os : List ObserverOf) → p < length os → not (nat_lt p (length os)) ≡ false
below_known p os e = grind (arith, e)

module _ (few many : List ObserverOf) (stay : Stay few many) where
  -- a run of a known observer is one
  pub known_stays : (work : Work) → is_unknown few work ≡ false → is_unknown many work ≡ false
  known_stays Work.Script e = refl
  known_stays (Work.Run p row) e = elim (slice_get_cases few p).1 [
    | inl there ↦ below_known p many (slice_get_within many p there.0 (stay p there.0 there.2))
    | inr past ↦ absurd (omega (arith, past.0, known_below p few e))
  ]

  module _ (p : ℕ) (o : ObserverOf) (there : slice_get few p ≡ Some o) where
    pub same_observer : slice_get many p ≡ slice_get few p
    same_observer = stay p o there ∙ sym there

    pub same_acknowledgment : (row : Row) → acknowledgment many p row ≡ acknowledgment few p row
    same_acknowledgment row = ap (λ (z : Option ObserverOf). Cell.Ack p row (column_or_zero z)) same_observer

    pub same_observed : (row : Row) → observed_cell many p row ≡ observed_cell few p row
    same_observed row = ap (λ (z : Option ObserverOf). Cell.Data row (column_or_zero z)) same_observer

    same_run : (row : Row) (s : ℕ) (reads : List RecordedRead) (f : Meant) → is_run_of many p row s reads f ≡ is_run_of few p row s reads f
    same_run row s reads f = ap (λ (z : Option ObserverOf). is_run_by z (Cell.Data row (column_or_zero z)) (Cell.Ack p row (column_or_zero z)) s reads f) same_observer

  run_stays : (p : ℕ) (row : Row) (s : ℕ) (reads : List RecordedRead) (f : Meant) → is_run_of few p row s reads f ≡ true → is_run_of many p row s reads f ≡ true
  run_stays p row s reads f e = elim (slice_get_cases few p).1 [
    | inl there ↦ same_run p there.0 there.2 row s reads f ∙ e
    | inr past ↦ absurd (none_runs (sym (ap (λ (z : Option ObserverOf). is_run_by z (observed_cell few p row) (acknowledgment few p row) s reads f) past.1) ∙ e))
  ]
    where
      none_runs : ◌≡◌ {A = Bool} false true → ⊥
      none_runs e = cc

  -- what a run of one may declare it may declare where there are more
  pub its_stays : (work : Work) (s : ℕ) (reads : List RecordedRead) (what : Declared) → not (is_its few work s reads what) ≡ false → not (is_its many work s reads what) ≡ false
  its_stays Work.Script s reads (Declared.Script batch) e = e
  its_stays (Work.Run p row) s reads (Declared.Run o f) e = both (o == p) (is_run_of few p row s reads f) (is_run_of many p row s reads f) (run_stays p row s reads f) e
    where
      both : (a b c : Bool) → (b ≡ true → c ≡ true) → not (a && b) ≡ false → not (a && c) ≡ false
      both a b c on e = grind (arith, on, e)
  its_stays Work.Script s reads (Declared.Run o f) e = e
  its_stays (Work.Run p row) s reads (Declared.Script batch) e = e

  pub may_stays : (work : Work) (s : ℕ) (reads : List RecordedRead) (what : Declared) → MayDeclare few work s reads what → MayDeclare many work s reads what
  may_stays Work.Script s reads (Declared.Script batch) may = tt
  may_stays (Work.Run p row) s reads (Declared.Run o f) may =
      let r = may.1 in
      let x = same_observed p r.observer r.observer_is row in
      let ack = same_acknowledgment p r.observer r.observer_is row in (
        may.0,
        record {
          observer = r.observer;
          observer_is = stay p r.observer r.observer_is;
          seen = r.seen;
          asked = r.asked;
          was = subst (λ (y : Cell). WasSeen y (acknowledgment many p row) (tells_old r.observer.program) reads r.seen r.asked) (sym x) (subst (λ (y : Cell). WasSeen (observed_cell few p row) y (tells_old r.observer.program) reads r.seen r.asked) (sym ack) r.was);
          newer = r.newer;
          program = r.program;
          bytes = r.bytes ∙ ap (λ (y : Cell). record_by (tells_old r.observer.program) y r.seen.version r.seen.acknowledged.0 r.seen.old) (sym x);
          start = r.start;
          replied = r.replied;
        },
      )
  may_stays Work.Script s reads (Declared.Run o f) may = absurd may
  may_stays (Work.Run p row) s reads (Declared.Script batch) may = absurd may

  -- and it writes the same
  pub cells_stay : (work : Work) (s : ℕ) (reads : List RecordedRead) (what : Declared) → MayDeclare few work s reads what → cells_of many work s what ≡ cells_of few work s what
  cells_stay Work.Script s reads (Declared.Script batch) may = refl
  cells_stay (Work.Run p row) s reads (Declared.Run o f) may = ap (λ (y : Cell). (y, Content.Stamp (record { 0 = s })) ∷ f.writes) (same_acknowledgment p may.1.observer may.1.observer_is row)
  cells_stay Work.Script s reads (Declared.Run o f) may = absurd may
  cells_stay (Work.Run p row) s reads (Declared.Script batch) may = absurd may
