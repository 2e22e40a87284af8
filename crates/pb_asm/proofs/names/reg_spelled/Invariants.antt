use Rattle.std.proofs.Common.{◌≡◌, drop}
use Rattle.pb_asm.specs.Names.{reg_spelled}
use Rattle.pb_asm.proofs.names.reg_spelled.Given as goal

abbrev pub invariant-loop-reg : goal.invariant-loop-reg
invariant-loop-reg l = reg_spelled l.text (drop l.reg-index l.registers) ≡ reg_spelled l.text l.registers
