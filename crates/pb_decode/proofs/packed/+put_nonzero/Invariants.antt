use Rattle.std.proofs.Common.{length}
use Rattle.pb_decode.proofs.packed.+put_nonzero.Given as goal

abbrev pub decreases-put_nonzero : goal.decreases-put_nonzero
decreases-put_nonzero l = length l.bytes.now
