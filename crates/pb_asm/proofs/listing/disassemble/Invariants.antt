use Rattle.std.proofs.Common.{◌≡◌, take, string_bytes}
use Rattle.pb_asm.specs.Listing.{listing}
use Rattle.pb_asm.proofs.listing.disassemble.Given as goal

abbrev pub invariant-loop-insn : goal.invariant-loop-insn
invariant-loop-insn l = string_bytes l.text ≡ listing (take l.insn-index l.insn-items)
