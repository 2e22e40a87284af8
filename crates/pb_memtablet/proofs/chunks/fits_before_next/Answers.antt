use Rattle.std.proofs.Common.{arith}
use Rattle.pb_memtablet.proofs.Pieces.{long_here}
use Rattle.pb_memtablet.proofs.chunks.fits_before_next.Goals as goal

pub returns-then-place-len : goal.returns-then-place-len
returns-then-place-len g c t d past =
    absurd (long_here c.args.chunks.now c.args.home c.args.place c.index-chunks-home.result d c.requires.within c.index-chunks-home.is (omega (arith, c.if-place-len.true, c.len.ensures)) past)

pub returns : goal.returns
returns g c t d past = c.is_below_next.ensures t
