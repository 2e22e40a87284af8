use Rattle.std.proofs.Common.{◌≡◌, take}
use Rattle.pb_decode.specs.Packing.{packing}
use Rattle.pb_decode.proofs.packed.packed_of.Given as goal

abbrev pub invariant-loop-insn : goal.invariant-loop-insn
invariant-loop-insn l = l.packed.items ≡ packing (take l.insn-index l.insns)
