use Rattle.std.proofs.Common.{◌≡◌, ◌+◌, subst, arith, suc, get_or, Less}
use Rattle.pb_memtablet.proofs.Spots.{true_holds, is_less, as_read, gap_in_place}
use Rattle.pb_memtablet.proofs.sorted.fits_at.Goals as goal

pub returns-then-place-entries : goal.returns-then-place-entries
returns-then-place-entries g c t =
    gap_in_place g.met.K.Ord.total c.args.entries.now c.args.key.now c.args.place (true_holds _ c.requires.sorted) c.requires.within (c.is_above_previous.ensures c.if-not-is_above_previous.false)
    (λ d more. absurd (omega (arith, more, c.if-place-entries.true)))

pub returns : goal.returns
returns g c t =
    let next : c.args.place + 1 ≡ suc c.args.place = omega arith in
    gap_in_place g.met.K.Ord.total c.args.entries.now c.args.key.now c.args.place (true_holds _ c.requires.sorted) c.requires.within (c.is_above_previous.ensures c.if-not-is_above_previous.false)
    (λ d more.
    subst (λ n. g.K.Ord.cmp c.args.key.now (get_or c.args.entries.now n d).0 ≡ Less) next
    (as_read g.met.K.Ord.total c.args.entries.now (g.K.Ord.cmp c.args.key.now) (c.args.place + 1) c.index-entries-place.result c.cmp.result Less (omega (arith, more)) c.index-entries-place.is c.cmp.ensures (is_less c.cmp.result c.is_lt.result c.is_lt.ensures t) d))
