use Rattle.std.proofs.Common.{sym, ◌∙◌, arith, add-one, Less}
use Rattle.pb_memtablet.proofs.Spots.{is_less, is_greater, as_read, gap_behind}
use Rattle.pb_memtablet.proofs.sorted.fits_behind.Goals as goal

pub returns-then-place-entries : goal.returns-then-place-entries
returns-then-place-entries g c t =
    rw add-one
    (gap_behind g.met.K.Ord.total c.args.entries.now c.args.key.now c.args.next.now c.args.value.now c.args.place c.requires
    (sym c.cmp.ensures ∙ is_greater c.cmp.result c.is_gt.result c.is_gt.ensures c.if-not-is_gt.false)
    (λ d more. absurd (omega (arith, more, c.if-place-entries.true))))

pub returns : goal.returns
returns g c t =
    rw add-one
    (gap_behind g.met.K.Ord.total c.args.entries.now c.args.key.now c.args.next.now c.args.value.now c.args.place c.requires
    (sym c.cmp.ensures ∙ is_greater c.cmp.result c.is_gt.result c.is_gt.ensures c.if-not-is_gt.false)
    (λ d more. as_read g.met.K.Ord.total c.args.entries.now (g.K.Ord.cmp c.args.next.now) c.args.place c.index-entries-place.result c.cmp-2.result Less more c.index-entries-place.is c.cmp-2.ensures (is_less c.cmp-2.result c.is_lt.result c.is_lt.ensures t) d))
