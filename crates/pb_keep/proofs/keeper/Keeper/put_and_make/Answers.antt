use Rattle.std.proofs.Common.{[], ◌++◌, refl, ap, subst, sym, ◌∙◌}
use Rattle.std.specs.Prelude.{string_bytes}
use Rattle.pb_keep.specs.Words.{Keeps, kept_table}
use Rattle.pb_keep.specs.Causes.{IsOfPut}
use Rattle.pb_keep.specs.Conversations.{KeeperView}
use Rattle.pb_keep.specs.declared.waiting.Waiting.{Waiting}
use Rattle.pb_keep.specs.Left.{AreInTime, IsOfLog}
use Rattle.pb_keep.specs.Waits.{changes_in, AreSomeAnswers}
use Rattle.pb_keep.proofs.Causing.{not_both, not_made, not_put, not_written, of_put}
use Rattle.pb_keep.proofs.Leaving.{all_are_some, left_in_log, left_in_making, left_in_writing, left_made, some_are_some}
use Rattle.pb_keep.proofs.Mapping.{both_err, both_errs, if_err, of_both, on_ok, passed_on}
use Rattle.pb_keep.proofs.Serving.{all_appended}
use Rattle.pb_keep.proofs.keeper.Keeper.put_and_make.Goals as goal

pub returns-clause-kept : goal.returns-clause-kept
returns-clause-kept g c = λ origin first changes log k.
    let same = ap (λ w. changes ++ changes_in w.items.items) c.replace-items.ensures.value in
    on_ok c.make_and_answer-done.result
    (λ h. (c.in_ok-put_script.ensures.put origin changes log, subst (λ l. Keeps c.args.self.now.limit first l (kept_table c.make_and_answer-done.new.state c.make_and_answer-done.new.stats.items)) same h))
    (c.make_and_answer-done.ensures.keeps first changes k)

pub returns-in_err-put_script-clause-err : goal.returns-in_err-put_script-clause-err
returns-in_err-put_script-clause-err g c = λ origin changes log.
    let old = c.args.self.now in
    let table = kept_table old.state old.stats.items in
    let written = g.S.Sink.taken c.args.out.now in
    passed_on c.from_residual.result c.from_residual.ensures.1
    (λ e is. left_in_log c.args.self.now.limit origin changes old.waiting.items.items table table written written (g.D.Disk.may_leave c.put_script.new.log.disk) e
    (subst IsOfLog (sym is) (of_put (g.D.Disk.faults old.log.disk) (g.D.Disk.faults c.put_script.new.log.disk) c.put_script.new.log.end c.in_err-put_script.field-0.0 c.in_err-put_script.ensures.cause))
    (record { table = refl; unwritten = refl; crash = c.in_err-put_script.ensures.crash origin changes log }))

pub returns-in_err-put_script-clause-cause : goal.returns-in_err-put_script-clause-cause
returns-in_err-put_script-clause-cause g c = λ first changes k room.
    let old = c.args.self.now in
    let log = c.put_script.new.log in
    let faults = g.D.Disk.faults in
    let now : KeeperView = record { seen = g.D.Disk.seen log.disk; may_leave = g.D.Disk.may_leave log.disk; end = log.end; table = kept_table old.state old.stats.items; since = old.since.0; limit = old.limit; waiting = old.waiting; written = g.S.Sink.taken c.args.out.now } in
    passed_on c.from_residual.result c.from_residual.ensures.1
    (λ e is. not_put (faults old.log.disk) (faults log.disk) (g.S.Sink.failed c.args.out.now) now e (subst (IsOfPut (faults old.log.disk) (faults log.disk) log.end) (sym is) c.in_err-put_script.ensures.cause))

pub returns-in_err-write-clause-err : goal.returns-in_err-write-clause-err
returns-in_err-write-clause-err g c = λ origin changes log.
    let old = c.args.self.now in
    let table = kept_table old.state old.stats.items in
    let disk = c.put_script.new.log.disk in
    let done = c.make_and_answer-done in
    let new = kept_table done.new.state done.new.stats.items in
    let same = ap (λ w. w.items.items) c.replace-items.ensures.value in
    let some : AreSomeAnswers c.args.self.now.limit c.replace-items.result.items.items table [] (string_bytes done.new.text) =
    of_both done.result done.ensures.answers done.ensures.some
    (λ a. all_are_some c.args.self.now.limit c.replace-items.result.items.items table new (string_bytes c.new-text.result) (string_bytes done.new.text) a.0 c.new-text.ensures.bytes a.1 a.2)
    (λ a. some_are_some c.args.self.now.limit c.replace-items.result.items.items table (string_bytes c.new-text.result) (string_bytes done.new.text) c.new-text.ensures.bytes a) in
    passed_on c.from_residual-in_err-write.result c.from_residual-in_err-write.ensures.1
    (λ e is. left_in_writing c.args.self.now.limit origin changes old.waiting.items.items table new (g.S.Sink.taken c.args.out.now) (g.S.Sink.taken c.write.new.out) (g.D.Disk.may_leave disk) e
    (is ∙ c.in_err-write.ensures.why)
    (left_made c.args.self.now.limit origin changes old.waiting.items.items table new (g.S.Sink.taken c.args.out.now) (g.S.Sink.taken c.write.new.out) (g.D.Disk.may_leave disk)
    (g.D.Disk.seen disk) c.put_script.new.log.end c.as_str.result.now
    (c.in_ok-put_script.ensures.put origin changes log) (subst (λ l. AreSomeAnswers c.args.self.now.limit l table [] c.as_str.result.now) same (subst (λ t. AreSomeAnswers c.args.self.now.limit c.replace-items.result.items.items table [] t) (sym c.as_str.ensures.value) some)) c.in_err-write.ensures.err))

pub returns-in_err-write-clause-cause : goal.returns-in_err-write-clause-cause
returns-in_err-write-clause-cause g c = λ first changes k room.
    let old = c.args.self.now in
    let log = c.put_script.new.log in
    let done = c.make_and_answer-done in
    let failed = g.S.Sink.failed c.write.new.out in
    let now : KeeperView = record { seen = g.D.Disk.seen log.disk; may_leave = g.D.Disk.may_leave log.disk; end = log.end; table = kept_table done.new.state done.new.stats.items; since = old.since.0; limit = old.limit; waiting = c.replace-items.new.dest; written = g.S.Sink.taken c.write.new.out } in
    passed_on c.from_residual-in_err-write.result c.from_residual-in_err-write.ensures.1
    (λ e is. not_written (g.D.Disk.faults old.log.disk) (g.D.Disk.faults log.disk) failed now e (is ∙ c.in_err-write.ensures.why) c.in_err-write.ensures.failed)

pub returns-clause-err : goal.returns-clause-err
returns-clause-err g c = λ origin changes log.
    let old = c.args.self.now in
    let table = kept_table old.state old.stats.items in
    let disk = c.put_script.new.log.disk in
    let done = c.make_and_answer-done in
    let new = kept_table done.new.state done.new.stats.items in
    let same = ap (λ w. w.items.items) c.replace-items.ensures.value in
    both_err done.result done.ensures.some done.ensures.why
    (λ e a making. left_in_making c.args.self.now.limit origin changes old.waiting.items.items table new (g.S.Sink.taken c.args.out.now) (g.S.Sink.taken c.write.new.out) (g.D.Disk.may_leave disk) e making
    (left_made c.args.self.now.limit origin changes old.waiting.items.items table new (g.S.Sink.taken c.args.out.now) (g.S.Sink.taken c.write.new.out) (g.D.Disk.may_leave disk)
    (g.D.Disk.seen disk) c.put_script.new.log.end c.as_str.result.now
    (c.in_ok-put_script.ensures.put origin changes log)
    (subst (λ l. AreSomeAnswers c.args.self.now.limit l table [] c.as_str.result.now) same
    (subst (λ t. AreSomeAnswers c.args.self.now.limit c.replace-items.result.items.items table [] t) (sym c.as_str.ensures.value)
    (some_are_some c.args.self.now.limit c.replace-items.result.items.items table (string_bytes c.new-text.result) (string_bytes done.new.text) c.new-text.ensures.bytes a)))
    (all_appended (g.S.Sink.taken c.args.out.now) (g.S.Sink.taken c.write.new.out) c.as_str.result.now c.in_ok-write.ensures.ok)))

pub returns-clause-cause : goal.returns-clause-cause
returns-clause-cause g c = λ first changes k room.
    let old = c.args.self.now in
    let log = c.put_script.new.log in
    let done = c.make_and_answer-done in
    let now : KeeperView = record { seen = g.D.Disk.seen log.disk; may_leave = g.D.Disk.may_leave log.disk; end = log.end; table = kept_table done.new.state done.new.stats.items; since = old.since.0; limit = old.limit; waiting = c.replace-items.new.dest; written = g.S.Sink.taken c.write.new.out } in
    both_errs done.result (λ e making right. not_made (g.D.Disk.faults old.log.disk) (g.D.Disk.faults log.disk) (g.S.Sink.failed c.write.new.out) now e making right) done.ensures.why
    (done.ensures.in_time first changes k (subst (λ (w : Waiting). AreInTime w.items.items old.state) (sym c.replace-items.ensures.value) room))

pub returns-clause-unmade : goal.returns-clause-unmade
returns-clause-unmade g c = if_err c.make_and_answer-done.result (λ e making of. absurd (not_both e making of)) c.make_and_answer-done.ensures.why

pub returns-in_err-put_script-clause-shut : goal.returns-in_err-put_script-clause-shut
returns-in_err-put_script-clause-shut g c = λ mixes origin changes log file left. c.put_script.ensures.shut mixes origin changes log file left

pub returns-in_err-write-clause-shut : goal.returns-in_err-write-clause-shut
returns-in_err-write-clause-shut g c = λ mixes origin changes log file left. c.put_script.ensures.shut mixes origin changes log file left

pub returns-clause-shut : goal.returns-clause-shut
returns-clause-shut g c = λ mixes origin changes log file left. c.put_script.ensures.shut mixes origin changes log file left
