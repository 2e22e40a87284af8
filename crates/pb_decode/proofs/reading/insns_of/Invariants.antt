use Rattle.std.proofs.Common.{◌≡◌, ◌++◌, ◌%◌, length}
use Rattle.std.specs.List.{AllByRecursion}
use Rattle.pb_decode.specs.Words.{Fits, IsOf}
use Rattle.pb_decode.specs.Encoding.{encoding}
use Rattle.pb_decode.proofs.reading.insns_of.Given as goal

abbrev pub invariant-loop-rest : goal.invariant-loop-rest
invariant-loop-rest l = (l.bytes ≡ encoding l.insns.items ++ l.rest) × (AllByRecursion Fits l.insns.items × AllByRecursion (IsOf l.profile) l.insns.items) × (length l.rest % 8 ≡ 0)

abbrev pub decreases-loop-rest : goal.decreases-loop-rest
decreases-loop-rest l = length l.rest
