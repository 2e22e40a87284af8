-- A step that names known cells is refused by a table without the others as by the whole one.
use Rattle.std.proofs.Common.{◌≡◌, ℕ, ◌<◌, Bool, true, false, not, nat_lt, ◌==◌, ◌&&◌, ◌++◌, arith, List, [], ◌∷◌, length, Option, slice_get, refl, sym, ap, subst, ◌∙◌, inl, inr}
use Rattle.std.proofs.lemmas.Bool.{eqb-true}
use Rattle.std.proofs.lemmas.Option.{slice_get_cases, slice_get_within}
use Rattle.pb_generations.specs.Words.{Cell, Row, Reason, ObserverOf, column_or_zero, Meant, Marks, is_unknown, is_its, is_run_by, is_run_of, declare_reasons, is_reading, Reasons, first_reason, is_out, no_seat, own_reasons, StateOf, TransactionOf, step_reason, RecordedRead, Declared, Step, Work}
use Rattle.pb_generations.specs.LeftOut.{NamesKnown, SameRefusals, without_others}
use Rattle.pb_generations.proofs.LongerLists.{stay_in_front}

module _ (front gone : List ObserverOf) where
  abbrev all : List ObserverOf
  all = front ++ gone

  known_there : (p : ℕ) → p < length front → slice_get front p ≡ slice_get all p
  known_there p low = elim (slice_get_cases front p).1 [
    | inl there ↦ there.2 ∙ sym (stay_in_front front gone p there.0 there.2)
    | inr past ↦ absurd (omega (arith, past.0, low))
  ]

  below : (p : ℕ) (os : List ObserverOf) → p < length os → not (nat_lt p (length os)) ≡ false
  below p os low = grind (arith, low)

  below_all : (p : ℕ) → p < length front → p < length all
  below_all p low = elim (slice_get_cases front p).1 [
    | inl there ↦ slice_get_within all p there.0 (stay_in_front front gone p there.0 there.2)
    | inr past ↦ absurd (omega (arith, past.0, low))
  ]

  same_unknown : (p : ℕ) (row : Row) → p < length front → is_unknown front (Work.Run p row) ≡ is_unknown all (Work.Run p row)
  same_unknown p row low = below p front low ∙ sym (below p all (below_all p low))

  same_run_of : (p : ℕ) (row : Row) (s : ℕ) (reads : List RecordedRead) (f : Meant) → p < length front → is_run_of front p row s reads f ≡ is_run_of all p row s reads f
  same_run_of p row s reads f low = ap (λ (z : Option ObserverOf). is_run_by z (Cell.Data row (column_or_zero z)) (Cell.Ack p row (column_or_zero z)) s reads f) (known_there p low)

  same_its_run : (o p : ℕ) (row : Row) (s : ℕ) (reads : List RecordedRead) (f : Meant) → o < length front → (b : Bool) → (o == p) ≡ b → (b && is_run_of front p row s reads f) ≡ (b && is_run_of all p row s reads f)
  same_its_run o p row s reads f low true same = same_run_of p row s reads f (subst (λ (k : ℕ). k < length front) (eqb-true o p same) low)
  same_its_run o p row s reads f low false same = refl

  same_its : (work : Work) (s : ℕ) (reads : List RecordedRead) (o : ℕ) (f : Meant) → o < length front → is_its front work s reads (Declared.Run o f) ≡ is_its all work s reads (Declared.Run o f)
  same_its Work.Script s reads o f low = refl
  same_its (Work.Run p row) s reads o f low = same_its_run o p row s reads f low (o == p) refl

  same_batch : (work : Work) (s : ℕ) (reads : List RecordedRead) (what : Declared) → NamesKnown (length front) (Step.Declare (record { 0 = s }) what) → is_its front work s reads what ≡ is_its all work s reads what
  same_batch Work.Script s reads (Declared.Script batch) known = refl
  same_batch (Work.Run p row) s reads (Declared.Script batch) known = refl
  same_batch work s reads (Declared.Run o f) known = same_its work s reads o f known

  same_declare : (s : ℕ) (what : Declared) → NamesKnown (length front) (Step.Declare (record { 0 = s }) what) → declare_reasons front s what ≡ declare_reasons all s what
  same_declare s what known i t = (Reason.WrongPhase, not (is_reading t.phase)) ∷ (Reason.NotItsDeclaration, not (same_batch t.work s t.reads what known i)) ∷ []

module _ (front gone : List ObserverOf) (whole : StateOf) (is : whole.observers ≡ front ++ gone) (marks : Marks) where
  abbrev lean : StateOf
  lean = without_others front whole marks

  pub refused_alike : (seat : ℕ) (step : Step) → NamesKnown (length front) step → step_reason lean seat step ≡ step_reason whole seat step
  refused_alike seat (Step.Begin Work.Script) known = refl
  refused_alike seat (Step.Begin (Work.Run p row)) known =
      ap (λ (b : Bool). first_reason ((Reason.OutOfTimestamps, is_out whole) ∷ (Reason.NotOfSeat, no_seat whole seat) ∷ (Reason.NoSuchObserver, b) ∷ []))
      (same_unknown front gone p row known ∙ ap (λ (os : List ObserverOf). is_unknown os (Work.Run p row)) (sym is))
  refused_alike seat (Step.Read s x) known = refl
  refused_alike seat (Step.ReadAt s x t) known = refl
  refused_alike seat (Step.Declare s what) known =
      ap (λ (why : TransactionOf → Reasons). first_reason (own_reasons whole seat s.0 why))
      (same_declare front gone s.0 what known ∙ ap (λ (os : List ObserverOf). declare_reasons os s.0 what) (sym is))
  refused_alike seat (Step.Prewrite s x) known = refl
  refused_alike seat (Step.Stamp s) known = refl
  refused_alike seat (Step.CommitPrimary s) known = refl
  refused_alike seat (Step.CommitSecondary s x) known = refl
  refused_alike seat (Step.Settle x) known = refl
  refused_alike seat (Step.Clear x) known = refl
  refused_alike seat (Step.NextMark after) known = refl
  refused_alike seat (Step.Sweep x) known = refl

pub same_refusals : SameRefusals
same_refusals c gone whole lean seat step lacks known =
    ap (λ (z : StateOf). step_reason z seat step) lacks.lean_is
    ∙ refused_alike lean.observers gone whole lacks.observers lean.marks seat step known
