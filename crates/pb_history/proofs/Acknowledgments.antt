-- An acknowledgment is written by a run of its observer alone, with the run's start as its stamp.
use Rattle.std.proofs.Common.{arith, ◌≡◌, ℕ, Bool, true, false, cond, List, ◌∷◌, Some, refl, sym, ap, subst, ◌∙◌}
use Rattle.std.specs.Ordering.{eq_by_cmp}
use Rattle.std.specs.Cmp.{Equal-is}
use Rattle.pb_history.specs.Words.{Cell, Row, Content, cell_cmp, cell_cmp-IsAntisymmetric, Writes, content_in, AreRunWrites, RecordedRead, Work, Declared, ObserverOf, observed_column, acknowledgment, is_reading, IsKnown, MayDeclare, StateOf, cells_of, data_at, write_at}
use Rattle.pb_history.specs.declared.entry.Entry.{Entry}
use Rattle.pb_history.specs.History.{Member, InHistory}
use Rattle.pb_history.specs.Sound.{IsSoundTable}
use Rattle.pb_history.proofs.Agreement.{ts, Agrees}
use Rattle.pb_history.proofs.HistoryTold.{is_committed}
use Rattle.pb_history.proofs.SnapshotsTold.{content_in_view, written_by}
use Rattle.pb_history.proofs.DeclaredCells.{no_ack, batch_plain, run_plain}

-- who writes it, where, and with which stamp
pub record Acknowledges (observers : List ObserverOf) (work : Work) (s : ℕ) (o : ℕ) (row : Row) (column : ℕ) (k : Content) : Type 0 where
  pub run : work ≡ Work.Run o row
  pub place : column ≡ observed_column observers o
  pub stamp : k ≡ Content.Stamp (ts s)

-- an acknowledgment that a run writes is its own, with its start as the stamp
own_ack : (observers : List ObserverOf) (p : ℕ) (r : Row) (s o : ℕ) (row : Row) (column : ℕ) (k : Content) → Cell.Ack o row column ≡ acknowledgment observers p r → Content.Stamp (ts s) ≡ k → Acknowledges observers (Work.Run p r) s o row column k
own_ack observers p r s o row column k e stamp = grind arith

-- a run writes no acknowledgment but that, since its program's writes are data cells
run_acks : (observers : List ObserverOf) (p : ℕ) (r : Row) (s : ℕ) (ws : Writes) (o : ℕ) (row : Row) (column : ℕ) (k : Content) → AreRunWrites ws
    → content_in ((acknowledgment observers p r, Content.Stamp (ts s)) ∷ ws) (Cell.Ack o row column) ≡ Some k → Acknowledges observers (Work.Run p r) s o row column k
run_acks observers p r s ws o row column k few e =
    let x = Cell.Ack o row column in
    let own = acknowledgment observers p r in
    let P : Bool → Type 0 = λ b. eq_by_cmp cell_cmp x own ≡ b → cond b (Some (Content.Stamp (ts s))) (content_in ws x) ≡ Some k → Acknowledges observers (Work.Run p r) s o row column k in
    elim (eq_by_cmp cell_cmp x own) as P [
      | true ↦ λ t f. own_ack observers p r s o row column k (cell_cmp-IsAntisymmetric x own ((Equal-is (cell_cmp x own)).0 t)) cc
      | false ↦ λ t f. let none = no_ack ws o row column (run_plain ws few) in absurd cc
    ] refl e

-- so whoever declares an acknowledgment is a run of its observer
ack_declared : (observers : List ObserverOf) (work : Work) (s : ℕ) (reads : List RecordedRead) (what : Declared) → MayDeclare observers work s reads what → IsKnown what
    → (o : ℕ) (row : Row) (column : ℕ) (k : Content) → content_in (cells_of observers work s what) (Cell.Ack o row column) ≡ Some k → Acknowledges observers work s o row column k
ack_declared observers Work.Script s reads (Declared.Script batch) may known o row column k e = let none = no_ack batch o row column (batch_plain batch known) in absurd cc
ack_declared observers (Work.Run p r) s reads (Declared.Run q f) may known o row column k e = run_acks observers p r s f.writes o row column k known.1 e
ack_declared observers Work.Script s reads (Declared.Run q f) may known o row column k e = absurd may
ack_declared observers (Work.Run p r) s reads (Declared.Script batch) may known o row column k e = absurd may

module _ (journal : List Entry) (state : StateOf) (a : Agrees journal state) (i : IsSoundTable state) where
  pub acknowledged_by : (m : Member) → InHistory state.observers journal m → (o : ℕ) (row : Row) (column : ℕ) (k : Content) → content_in m.writes (Cell.Ack o row column) ≡ Some k → Acknowledges state.observers m.work m.start o row column k
  acknowledged_by m h o row column k e =
      let c = is_committed journal state a m h in
      let past : is_reading c.t.phase ≡ false = ap is_reading c.phase in
      let d = (a.logged m.start c.t c.there).declared past in
      subst (λ w. Acknowledges state.observers w m.start o row column k) (sym c.work)
      (ack_declared state.observers c.t.work m.start c.t.reads d.0 d.4 d.3 o row column k (ap (λ ws. content_in ws (Cell.Ack o row column)) (sym (c.writes ∙ d.2)) ∙ e))

  -- the data of an acknowledgment's write record are the stamp of its start
  pub stamp_stands : (o : ℕ) (row : Row) (column c s : ℕ) → write_at state.entries (Cell.Ack o row column) c ≡ Some s → data_at state.entries (Cell.Ack o row column) s ≡ Some (Content.Stamp (ts s))
  stamp_stands o row column c s e =
      let w = written_by journal state a i (Cell.Ack o row column) c s e in
      let ack = acknowledged_by w.m w.in_history o row column w.content w.writes in
      grind (arith, content_in_view, ts, i.record_data)
