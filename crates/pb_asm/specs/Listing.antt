-- The listing of a program: a line for each instruction. Reading is held against it: a line is an instruction's exactly
-- where it is this text, so that whatever reading lets through shows here.
use Rattle.std.specs.Prelude.{ℕ, suc, ℤ, pos, negsuc, List, [], ◌∷◌, ◌++◌, codes, flat_map}
use Rattle.std.specs.Fmt.{decimal, signed_decimal}
use Rattle.pb_asm.specs.Words.{Insn, Operand}
use Rattle.pb_isa.specs.declared.insn.Reg as register
use Rattle.pb_asm.specs.declared.names.Word.{Word}
use Rattle.pb_asm.specs.Names.{name, reg_name, size_bits}

-- an immediate with a minus where it is negative, or the name of a register
abbrev pub operand_text : Operand → List ℕ
operand_text (Operand.Imm imm) = signed_decimal imm
operand_text (Operand.Reg src) = reg_name src

-- an offset has its sign always
abbrev pub offset_text : ℤ → List ℕ
offset_text (pos n) = 43 ∷ decimal n
offset_text (negsuc n) = 45 ∷ decimal (suc n)

-- a register and an offset in brackets
abbrev pub place_text : register.Reg → ℤ → List ℕ
place_text base offset = 91 ∷ (reg_name base ++ (offset_text offset ++ codes "]"))

-- the instruction's word, and its operands with a comma and a blank between them
abbrev pub insn_text : Insn → List ℕ
insn_text (Insn.Alu op w dst src) = name (Word.Alu op w) ++ (codes " " ++ (reg_name dst ++ (codes ", " ++ operand_text src)))
insn_text (Insn.MovSx w z dst src) = name (Word.MovSx w) ++ (codes " " ++ (reg_name dst ++ (codes ", " ++ (reg_name src ++ (codes ", " ++ decimal (size_bits z))))))
insn_text (Insn.Neg w dst) = name (Word.Neg w) ++ (codes " " ++ reg_name dst)
insn_text (Insn.LoadImm dst imm) = name Word.LoadImm ++ (codes " " ++ (reg_name dst ++ (codes ", " ++ decimal imm)))
insn_text (Insn.Load z x dst src offset) = name (Word.Load z x) ++ (codes " " ++ (reg_name dst ++ (codes ", " ++ place_text src offset)))
insn_text (Insn.StoreImm z dst offset imm) = name (Word.StoreImm z) ++ (codes " " ++ (place_text dst offset ++ (codes ", " ++ signed_decimal imm)))
insn_text (Insn.Store z dst src offset) = name (Word.Store z) ++ (codes " " ++ (place_text dst offset ++ (codes ", " ++ reg_name src)))
insn_text (Insn.Jump offset) = name Word.Jump ++ (codes " " ++ offset_text offset)
insn_text (Insn.JumpIf c w dst src offset) = name (Word.JumpIf c w) ++ (codes " " ++ (reg_name dst ++ (codes ", " ++ (operand_text src ++ (codes ", " ++ offset_text offset)))))
insn_text (Insn.Call imm) = name Word.Call ++ (codes " " ++ signed_decimal imm)
insn_text Insn.Exit = name Word.Exit

-- each line ends with a newline
abbrev pub listing : List Insn → List ℕ
listing is = flat_map (λ i. insn_text i ++ 10 ∷ []) is
