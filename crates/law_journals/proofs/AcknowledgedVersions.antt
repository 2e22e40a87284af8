-- An observer's acknowledgment was written by a run that found its cell, so that the cell has a version there; and above the
-- newer version that stands, a lock is later than both.
use Rattle.std.proofs.Common.{◌≡◌, ℕ, ◌<◌, ◌≤◌, inl, inr, List, Some, None, refl, sym, ap, subst, arith}
use Rattle.law_journals.specs.Words.{Cell, Content, Row, Ts, observed_cell, observed_column, acknowledgment, Answer, Step, write_at, stamp_of, StateOf, StepCase, Entry, Has, Member, InHistory, WritesTo, IsSnapshot, IsSoundTable, reads_recorded}
use Rattle.pb_history.proofs.Agreement.{read_of, Agrees}
use Rattle.pb_history.proofs.StepsAgree.{legal_agrees}
use Rattle.pb_history.proofs.JournalsAreSound.{legal_sound}
use Rattle.pb_history.proofs.SnapshotsTold.{phase_in_view, stands_at, tells_snapshots}
use Rattle.pb_history.proofs.Acknowledgments.{acknowledged_by}
use Rattle.pb_history.proofs.RunsTold.{run_of_member}
use Rattle.law_journals.specs.AcknowledgedVersions.{IsVersionAnswer, AcknowledgedVersionsAreFound}

module _ (journal : List Entry) (state : StateOf) (g : Agrees journal state) (i : IsSoundTable state) where
  -- the write record that a read found still stands
  still_written : (seat : ℕ) (s : Ts) (x : Cell) (start c : Ts) (content : Content) → Has journal (record { seat = seat; step = Step.Read s x; answer = Answer.Found start c content }) → write_at state.entries x c.0 ≡ Some start.0
  still_written seat s x start c content e =
      let told = g.told _ e in
      (i.tells s.0 (read_of x None (Answer.Found start c content)) (subst (λ o. Has (reads_recorded o) (read_of x None (Answer.Found start c content))) (sym told.1) told.2)).1

  -- a version of a cell, up to an acknowledgment of it in a snapshot: a run found it, and wrote the acknowledgment
  pub record HasVersionUpTo (x : Cell) (a : ℕ) : Type 0 where
    pub n : Member
    pub in_history : InHistory state.observers journal n
    pub content : Content
    pub writes : WritesTo n x content
    pub low : n.commit ≤ a

  has_version : (s : ℕ) (o : ℕ) (row : Row) (by at : ℕ) (a : Ts) → IsSnapshot state.observers journal s (acknowledgment state.observers o row) by at (Content.Stamp a) → HasVersionUpTo (observed_cell state.observers o row) a.0
  has_version s o row by at a h =
      let k = acknowledged_by journal state g i h.m h.in_history o row (observed_column state.observers o) (Content.Stamp a) h.writes in
      let r = run_of_member journal state g i h.m o row h.in_history k.run in
      let stamp : a.0 ≡ h.m.start = ap (λ z. (stamp_of z).0) k.stamp in
      let commit : r.found.m.commit ≡ r.version.commit.0 = r.found.commit_is in
      let seen : r.version.commit.0 ≤ h.m.start = r.found.seen in
      record { n = r.found.m; in_history = r.found.in_history; content = r.version.content; writes = r.found.writes; low = omega arith }

  module _ (x : Cell) (start c : ℕ) (a : ℕ) (written : write_at state.entries x c ≡ Some start) (newer : a < c) (v : HasVersionUpTo x a) where
    -- its write record stands, since a lock in its place would be above that of c
    version_written : write_at state.entries x v.n.commit ≡ Some v.n.start
    version_written = elim (stands_at journal state g i v.n v.in_history x v.content v.writes) [
      | inl w ↦ w
      | inr p ↦
          (let above = i.behind_lock x v.n.start p.0 c start p.1 written in
          let committed = (i.stamped v.n.start v.n.commit (inr (phase_in_view journal state g i v.n v.in_history))).0 in
          let low = v.low in
          absurd (omega (arith, above, committed, low)))
    ]

    finds : (seat : ℕ) (s : Ts) (at : Ts) → at.0 ≡ a → (answer : Answer) (new : StateOf) → StepCase state seat (Step.ReadAt s x at) answer new → IsVersionAnswer answer
    finds seat s at is (Answer.Found b e content) new step = tt
    finds seat s at is (Answer.Locked lock primary) new step =
        let above = i.behind_lock x lock.0 primary c start step.locked written in
        let low = step.low in
        absurd (omega (arith, above, low))
    finds seat s at is Answer.Absent new step =
        let none = step.none v.n.commit (let low = v.low in omega (arith, low)) in
        let there = version_written in
        absurd cc
    finds seat s at is _ new step = absurd step

pub finds_acknowledged : AcknowledgedVersionsAreFound
finds_acknowledged observers seats clock journal state l s o row c a both newer seat answer new step =
    let g = legal_agrees observers seats clock journal state l in
    let i = legal_sound observers seats clock journal state l in
    let x = observed_cell state.observers o row in
    let snapshot = (tells_snapshots observers seats clock journal state l).read both.seat s (acknowledgment state.observers o row) (Answer.Found both.by both.at (Content.Stamp a)) both.acknowledged in
    finds journal state g i x both.start.0 c.0 a.0 (still_written journal state g i both.seat s x both.start c both.content both.found) newer (has_version journal state g i s.0 o row both.by.0 both.at.0 a snapshot) seat s a refl answer new step.taken
