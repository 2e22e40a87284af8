use Rattle.std.proofs.Common.{◌≡◌, take}
use Rattle.pb_decode.specs.Encoding.{encoding}
use Rattle.pb_decode.proofs.writing.encode.Given as goal

abbrev pub invariant-loop-insn : goal.invariant-loop-insn
invariant-loop-insn l = l.bytes.items ≡ encoding (take l.insn-index l.insn-items)
