use Rattle.std.proofs.Common.{refl, subst, sym}
use Rattle.pb_keep.specs.Words.{kept_table}
use Rattle.pb_keep.specs.Waits.{made_line, IsAnswer}
use Rattle.pb_keep.specs.Left.{IsRefusedMemory}
use Rattle.pb_keep.proofs.Causing.{stopped_for_memory}
use Rattle.pb_keep.proofs.InTime.{one_in_time}
use Rattle.pb_keep.proofs.Mapping.{passed_on}
use Rattle.pb_keep.proofs.made.answer.Goals as goal

pub returns-in_ok-push_made-in-Change-clause-answer : goal.returns-in_ok-push_made-in-Change-clause-answer
returns-in_ok-push_made-in-Change-clause-answer g c =
    let made = c.in_ok-made-in-Change.made in
    let line = made_line made in (
      line,
      c.in_ok-push_made-in-Change.ensures.line,
      subst (λ i. IsAnswer c.args.limit i (kept_table c.args.state.now c.args.stats.now.items) (kept_table c.make_counted.new.state c.make_counted.new.stats.items) line) (sym c.in-Change.is)
          (record { made = made; leads = c.in_ok-made-in-Change.ensures.ok.0; runs = c.in_ok-made-in-Change.ensures.ok.1; rests = c.in_ok-made-in-Change.ensures.ok.2; quiet = c.in_ok-made-in-Change.ensures.quiet; line = refl }),
    )

pub returns-in_err-made-in-Change-clause-in_time : goal.returns-in_err-made-in-Change-clause-in_time
returns-in_err-made-in-Change-clause-in_time g c = λ first changes k room.
    passed_on c.from_residual.result c.from_residual.ensures.1
    (λ e is. subst IsRefusedMemory (sym is) (stopped_for_memory c.in_err-made-in-Change.field-0.0 (c.in_err-made-in-Change.ensures.in_time first changes k (one_in_time c.args.state.now c.in-Change.is room))))
