use Rattle.pb_memtablet.proofs.sorted.gap_for_both.Goals as goal

pub returns-clause-second : goal.returns-clause-second
returns-clause-second g c = c.fits_behind.ensures c.if-not-fits_behind.false
