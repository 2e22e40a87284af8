-- The acknowledged timestamp that a read returns is the start of a run committed up to the start of the reader.
use Rattle.std.proofs.Common.{◌≡◌, ℕ, ◌≤◌, inr, List, ap, arith}
use Rattle.pb_history.specs.Words.{Cell, Row, Answer, ObserverOf, stamp_of, acknowledged_in, StateOf}
use Rattle.pb_history.specs.declared.entry.Entry.{Entry}
use Rattle.pb_history.specs.Journals.{IsLegal}
use Rattle.pb_history.specs.SnapshotsTold.{TellsSnapshot}
use Rattle.pb_history.specs.Sound.{IsSoundTable}
use Rattle.pb_history.specs.AcknowledgedTold.{TellsAcknowledged}
use Rattle.pb_history.proofs.Agreement.{Agrees}
use Rattle.pb_history.proofs.StepsAgree.{legal_agrees}
use Rattle.pb_history.proofs.JournalsAreSound.{legal_sound}
use Rattle.pb_history.proofs.SnapshotsTold.{phase_in_view, tells_snapshots}
use Rattle.pb_history.proofs.Acknowledgments.{acknowledged_by}

module _ (journal : List Entry) (state : StateOf) (a : Agrees journal state) (i : IsSoundTable state) where
  earlier : (s : ℕ) (o : ℕ) (row : Row) (column : ℕ) (answer : Answer) → TellsSnapshot state.observers journal s (Cell.Ack o row column) answer → (acknowledged_in answer).0 ≤ s
  earlier s o row column (Answer.Found start commit content) h =
      let k = acknowledged_by journal state a i h.m h.in_history o row column content h.writes in
      let is : (stamp_of content).0 ≡ h.m.start = ap (λ z. (stamp_of z).0) k.stamp in
      let above = (i.stamped h.m.start h.m.commit (inr (phase_in_view journal state a i h.m h.in_history))).0 in
      omega arith
  earlier s o row column _ h = omega arith

-- an acknowledgment in a snapshot is of a run committed up to there, whose start is lower still
pub tells_acknowledged : (observers : List ObserverOf) (seats clock : ℕ) (journal : List Entry) (state : StateOf) → IsLegal observers seats clock journal state → TellsAcknowledged journal
tells_acknowledged observers seats clock journal state l seat s o row column answer e = grind (arith, earlier, legal_agrees, legal_sound, tells_snapshots)
