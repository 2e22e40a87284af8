use Rattle.std.proofs.Common.{length-set, arith}
use Rattle.pb_ending.proofs.Cursors.{one_place}
use Rattle.pb_ending.proofs.ending.places_of.Goals as goal

pub loop-k-preserved : goal.loop-k-preserved
loop-k-preserved c = grind (arith, length-set, one_place, c.loop-k, c.index-seats-k.result, c.number.result, c.number.ensures, c.index-seats-k.is, c.requires.few, c.loop-k-test.true, c.args.seats.now, c.requires.distinct)
