use Rattle.std.proofs.Common.{Ok, ap, subst, sym, ◌∙◌, length}
use Rattle.pb_keep.specs.Held.{unless_full}
use Rattle.pb_keep.specs.Taken.{IsReadyFor}
use Rattle.pb_keep.specs.Waits.{FitsIn}
use Rattle.pb_keep.proofs.Holding.{fits_alone}
use Rattle.pb_keep.proofs.take.hold_request.Goals as goal

pub push-requires-clause-fits : goal.push-requires-clause-fits
push-requires-clause-fits g c =
    let line = c.args.line.now in
    let full = c.refuses_changes-is_full.result in
    subst (λ i. FitsIn c.args.waiting.now line i) (sym (c.unless_full.ensures ∙ ap (unless_full full) c.in_ok-item-in-Change.ensures))
    (fits_alone c.args.waiting.now line full (subst (λ r. IsReadyFor c.args.waiting.now (length line) r) c.in-Change.is c.requires.ready))

pub hold_if-requires-clause-read : goal.hold_if-requires-clause-read
hold_if-requires-clause-read g c = c.requires.read ∙ ap (λ r. Ok r) c.in-ChangeIf.is
