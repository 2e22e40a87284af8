-- What holds at what observers have acknowledged holds at what is read there later.
use Rattle.std.proofs.Common.{◌≡◌, ℕ, ◌<◌, ◌≤◌, inl, inr, arith, List, Some, None, slice_get, sym, ap, subst}
use Rattle.std.proofs.lemmas.Bool.{cases_lt}
use Rattle.pb_generations.specs.Words.{Cell, Content, Revision, Row, Ts, ObserverOf, Entries, IsVersion, data_at, write_at, acknowledged_in, stamp_of, StateOf, Answer, Step, Has, IsEntry, IsSoundTable, reads_recorded, Entry, IsHeld}
use Rattle.pb_base.proofs.Logic.{one_value}
use Rattle.pb_history.proofs.Updates.{none_if}
use Rattle.pb_history.proofs.Acknowledgments.{stamp_stands}
use Rattle.pb_history.proofs.Agreement.{Agrees, read_of, ts}
use Rattle.pb_generations.specs.KeptTables.{ReadsAcknowledged}

-- ---- what is read later

-- what was acknowledged later was so by a later start
abbrev pub AcknowledgeLate : List ObserverOf → ℕ → Entries → Type 0
AcknowledgeLate observers c e =
    (o : ℕ) (row : Row) (observer : ObserverOf) → slice_get observers o ≡ Some observer → (d s : ℕ) → c < d → write_at e (Cell.Ack o row observer.column) d ≡ Some s → c < s

-- What holds of each cell at timestamps above c, and at what each observer had acknowledged of it at c, holds at what is read as
-- acknowledged by a later start.
module _ (observers : List ObserverOf) (journal : List Entry) (whole : StateOf) (g : Agrees journal whole) (i : IsSoundTable whole) (c : ℕ) (starts : AcknowledgeLate observers c whole.entries) (P : Cell → ℕ → Type 0) (above : (x : Cell) (t : ℕ) → c < t → P x t)
    (known : (o : ℕ) (row : Row) (observer : ObserverOf) → slice_get observers o ≡ Some observer → (w : Revision) → IsVersion whole.entries (Cell.Ack o row observer.column) c w → P (Cell.Data row observer.column) (stamp_of w.content).0) where
  module _ (s : ℕ) (late : c < s) (o : ℕ) (row : Row) (observer : ObserverOf) (there : slice_get observers o ≡ Some observer) where
    abbrev ack : Cell
    ack = Cell.Ack o row observer.column

    abbrev x : Cell
    x = Cell.Data row observer.column

    -- what was acknowledged later is above c, and else it is what was at c
    module _ (start commit : Ts) (content : Content) (written : write_at whole.entries ack commit.0 ≡ Some start.0) (stored : data_at whole.entries ack start.0 ≡ Some content) (low : commit.0 ≤ s)
        (last : (d u : ℕ) → d ≤ s → write_at whole.entries ack d ≡ Some u → d ≤ commit.0) where
      is_later : c < commit.0 → P x (stamp_of content).0
      is_later later =
          let begun = starts o row observer there commit.0 start.0 later written in
          let stamp : content ≡ Content.Stamp (ts start.0) = one_value _ content (Content.Stamp (ts start.0)) stored (stamp_stands journal whole g i o row observer.column commit.0 start.0 written) in
          above x (stamp_of content).0 (omega (arith, ap (λ k. (stamp_of k).0) stamp, begun))

      is_kept : commit.0 ≤ c → P x (stamp_of content).0
      is_kept early =
          known o row observer there (record { start = start; commit = commit; content = content })
          (record { low = early; written = written; content = stored; newest = λ d after by_then. none_if (write_at whole.entries ack d) (λ u there. omega (arith, after, last d u (omega (arith, by_then, late)) there)) })

      at_stamp : P x (stamp_of content).0
      at_stamp = elim (cases_lt c commit.0) [ inl later ↦ is_later later | inr early ↦ is_kept early ]

    by_answer : (seat : ℕ) (answer : Answer) → IsHeld answer → 0 < (acknowledged_in answer).0 → IsEntry journal seat (Step.Read (ts s) ack) answer → P x (acknowledged_in answer).0
    by_answer seat (Answer.Found start commit content) held some entry =
        let told = g.told _ entry in
        let shows = i.tells s (read_of ack None (Answer.Found start commit content)) (subst (λ r. Has (reads_recorded r) (read_of ack None (Answer.Found start commit content))) (sym told.1) told.2) in
        at_stamp start commit content shows.1 shows.2 shows.0 shows.3
    by_answer seat Answer.Absent held some entry = absurd (omega (arith, some))
    by_answer seat _ held some entry = absurd held

  pub acknowledged_at : (s : ℕ) (y : Cell) (t : ℕ) → c < s → ReadsAcknowledged observers journal s y t → P y t
  acknowledged_at s y t late r =
      let its = by_answer s late r.o r.row r.observer r.observer_is r.seat r.answer r.held (omega (arith, r.some, r.acknowledged)) r.read in
      subst (λ (z : Cell). P z t) (sym r.cell) (subst (λ (n : ℕ). P (Cell.Data r.row r.observer.column) n) r.acknowledged its)
