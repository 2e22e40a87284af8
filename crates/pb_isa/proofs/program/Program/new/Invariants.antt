use Rattle.std.proofs.Common.{◌≡◌, ◌++◌, drop, take}
use Rattle.std.specs.List.{AllByRecursion}
use Rattle.pb_isa.specs.Bounds.{Fits}
use Rattle.pb_isa.specs.Slots.{layout}
use Rattle.pb_isa.proofs.program.Program.new.Given as goal

abbrev pub invariant-loop-insn : goal.invariant-loop-insn
invariant-loop-insn l = (l.places.items ++ layout (drop l.insn-index l.insn-items) ≡ layout l.insn-items) × AllByRecursion Fits (take l.insn-index l.insn-items)
