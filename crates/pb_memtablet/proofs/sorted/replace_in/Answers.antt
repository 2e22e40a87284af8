use Rattle.std.proofs.Common.{subst, refl, length, ◌<◌, remove}
use Rattle.pb_memtablet.specs.Places.{IsFound, IsGap}
use Rattle.pb_memtablet.proofs.Spots.{true_holds, replaced_in_order}
use Rattle.pb_memtablet.proofs.sorted.replace_in.Goals as goal

pub returns-clause-items : goal.returns-clause-items
returns-clause-items g c =
    let found = subst (λ es. IsFound g.K.Ord.cmp es c.args.gone.now c.in-Ok.i) c.deref.ensures.value c.in-Ok.ensures.found in
    let gap = subst (λ es. IsGap g.K.Ord.cmp (remove es c.in-Ok.i) c.args.key c.in-Ok.i) c.deref-2.ensures.value (c.fits_at.ensures c.if-not-fits_at.false) in
    replaced_in_order g.met.K.Ord.total c.args.entries.now.items _ c.args.gone.now c.args.key c.args.value c.in-Ok.i (true_holds _ c.requires) (subst (λ es. c.in-Ok.i < length es) c.deref.ensures.value c.in-Ok.ensures.inside) found gap refl
