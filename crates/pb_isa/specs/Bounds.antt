-- What the numbers of an instruction can be: an offset has 16 bits and a sign, an immediate 32 bits and a sign, and the
-- 64-bit immediate 64 bits.
use Rattle.std.specs.Prelude.{◌<◌, ◌^◌, FitsSigned}
use Rattle.std.specs.Int.{w16, w32}
use Rattle.pb_isa.specs.declared.insn.Insn.{Insn}
use Rattle.pb_isa.specs.declared.insn.Operand.{Operand}

-- a register always does, and an immediate has 32 bits and a sign
abbrev pub OperandFits : Operand → Type 0
OperandFits (Operand.Imm imm) = FitsSigned w32 imm
OperandFits (Operand.Reg src) = Unit {0}

-- each number is one that its field holds: such an instruction has an encoding, and is read back from it
abbrev pub Fits : Insn → Type 0
Fits (Insn.Alu op w dst src) = OperandFits src
Fits (Insn.MovSx w z dst src) = Unit {0}
Fits (Insn.Neg w dst) = Unit {0}
Fits (Insn.LoadImm dst imm) = imm < 2 ^ 64
Fits (Insn.Load z x dst src offset) = FitsSigned w16 offset
Fits (Insn.StoreImm z dst offset imm) = FitsSigned w16 offset × FitsSigned w32 imm
Fits (Insn.Store z dst src offset) = FitsSigned w16 offset
Fits (Insn.Jump offset) = FitsSigned w16 offset
Fits (Insn.JumpIf c w dst src offset) = OperandFits src × FitsSigned w16 offset
Fits (Insn.Call imm) = FitsSigned w32 imm
Fits Insn.Exit = Unit {0}
