use Rattle.std.proofs.Common.{arith, ◌≡◌, refl, ap, subst, ◌∙◌}
use Rattle.std.specs.FinMap as map
use Rattle.pb_state.specs.Words.{StateOf, TransactionOf, with_read, NoLockUpTo, NoVersion}
use Rattle.pb_state.proofs.Outcomes.{err_always}
use Rattle.pb_state.proofs.Rising.{put_again}
use Rattle.pb_state.proofs.NewState.{same_marks, new_state}
use Rattle.pb_state.proofs.ReadsTaken.{found_is_taken, absent_is_taken}
use Rattle.pb_state.proofs.parts.Parts.read.Goals as goal
use Rattle.pb_state.proofs.parts.Parts.read.Goals.{in-Some-version_of, in-None}

pub returns-in_err-record_read-clause-same : goal.returns-in_err-record_read-clause-same
returns-in_err-record_read-clause-same g c = grind (arith, put_again, err_always, c.self.inside.transactions, c.record_read.new.self, c.at_mut.ensures.there, c.in_err-record_read.ensures.err, c.from_residual.result)

pub returns-clause-taken : goal.returns-clause-taken
returns-clause-taken g c =
    let start = c.args.by.start in
    let f = c.requires.admitted.found in
    let held = ap (λ (s : StateOf). map.get s.transactions start.0) c.self.view_is ∙ f.1.own.there in
    let there = c.at_mut.ensures.there in
    let same : c.at_mut.result.now ≡ f.0 = cc in
    let read = c.in_ok-record_read.ensures.ok ∙ ap (λ (t : TransactionOf). with_read t c.args.cell.now c.args.at c.match-version_of.answer) same in
    let put = new_state c.self.inside.table c.self.inside.table c.self.inside.observers.items c.self.inside.clock c.self.inside.seats c.self.inside.transactions _ start.0 _ (λ m. m) same_marks refl (ap (map.insert c.self.inside.transactions start.0) read) c.args.self.now c.self.view_is in
    let e : c.self.inside.table.contents.entries ≡ c.args.self.now.entries = ap (λ (s : StateOf). s.entries) c.self.view_is in
    let up_to = c.read_up_to-high.ensures in
    let unlocked = subst (λ n. NoLockUpTo c.args.self.now.entries c.args.cell.now n) up_to (subst (λ m. NoLockUpTo m c.args.cell.now c.read_up_to-high.result.0) e c.in_default.ensures) in
    elim c.match-version_of.branch [
      | in-Some-version_of w ↦ grind (arith, found_is_taken, c.args.cell.now, c.args.at, c.match-version_of.answer, c.args.self.now, c.args.self.now.entries, c.args.seat, c.requires.admitted.allowed)
      | in-None w ↦ absent_is_taken c.args.self.now _ c.args.seat start c.args.cell.now c.args.at f.0 c.requires.admitted.allowed f.1.own unlocked c.match-version_of.answer put
          w.answer-is (subst (λ n. NoVersion c.args.self.now.entries c.args.cell.now n) up_to (subst (λ m. NoVersion m c.args.cell.now c.read_up_to-high.result.0) e w.in-None.ensures))
    ]
