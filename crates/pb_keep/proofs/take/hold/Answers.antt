use Rattle.std.proofs.Common.{subst, sym}
use Rattle.pb_keep.specs.Waits.{FitsIn}
use Rattle.pb_keep.proofs.Holding.{fits_within}
use Rattle.pb_keep.proofs.take.hold.Goals as goal

pub push-requires-2-clause-fits : goal.push-requires-2-clause-fits
push-requires-2-clause-fits g c =
    subst (λ i. FitsIn c.args.waiting.now c.args.line.now i) (sym c.in_ok-item.ensures) (fits_within c.refuses_changes-is_full.result c.args.waiting.now c.args.line.now c.in-Ok.request)
