-- The words of the assembler text. RFC 9669 has none: these are the project's own. Each has one name and no two the
-- same, so that looking through the list finds a word by its name.
use Rattle.std.specs.Prelude.{ℕ, Bool, true, false, IsTrue, if◌then◌else◌, List, [], ◌∷◌, ◌++◌, map, codes, Option, Some, None, flat_map, bytes_eq}
use mir.Val.{bits}
use Rattle.pb_asm.specs.Words.{Profile, Reg, AluOp, Cmp, Width, Size, Extension, is_narrower, width}
use Rattle.pb_asm.specs.declared.names.Word.{Word}

-- the name of an operation, as RFC 9669 has it in small letters
abbrev pub op_name : AluOp → List ℕ
op_name AluOp.Add = codes "add"
op_name AluOp.Sub = codes "sub"
op_name AluOp.Mul = codes "mul"
op_name AluOp.Div = codes "div"
op_name AluOp.Or = codes "or"
op_name AluOp.And = codes "and"
op_name AluOp.Lsh = codes "lsh"
op_name AluOp.Rsh = codes "rsh"
op_name AluOp.Mod = codes "mod"
op_name AluOp.Xor = codes "xor"
op_name AluOp.Mov = codes "mov"
op_name AluOp.Arsh = codes "arsh"

-- that of a conditional jump
abbrev pub cmp_name : Cmp → List ℕ
cmp_name Cmp.Eq = codes "jeq"
cmp_name Cmp.Gt = codes "jgt"
cmp_name Cmp.Ge = codes "jge"
cmp_name Cmp.Set = codes "jset"
cmp_name Cmp.Ne = codes "jne"
cmp_name Cmp.Sgt = codes "jsgt"
cmp_name Cmp.Sge = codes "jsge"
cmp_name Cmp.Lt = codes "jlt"
cmp_name Cmp.Le = codes "jle"
cmp_name Cmp.Slt = codes "jslt"
cmp_name Cmp.Sle = codes "jsle"

-- a byte, a half word, a word, and a double word
abbrev pub size_name : Size → List ℕ
size_name Size.B = codes "b"
size_name Size.H = codes "h"
size_name Size.W = codes "w"
size_name Size.Dw = codes "dw"

-- on how many bits the instruction works
abbrev pub width_name : Width → List ℕ
width_name Width.Bits32 = codes "32"
width_name Width.Bits64 = codes "64"

-- a load that extends the sign has an s before its size
abbrev pub extension_name : Extension → List ℕ
extension_name Extension.Zeros = []
extension_name Extension.Sign = codes "s"

-- the first word of a line
abbrev pub name : Word → List ℕ
name (Word.Alu op w) = op_name op ++ width_name w
name (Word.MovSx w) = codes "movsx" ++ width_name w
name (Word.Neg w) = codes "neg" ++ width_name w
name Word.LoadImm = codes "lddw"
name (Word.Load z x) = codes "ldx" ++ (extension_name x ++ size_name z)
name (Word.StoreImm z) = codes "st" ++ size_name z
name (Word.Store z) = codes "stx" ++ size_name z
name Word.Jump = codes "ja"
name (Word.JumpIf c w) = cmp_name c ++ width_name w
name Word.Call = codes "call"
name Word.Exit = codes "exit"

-- every size
abbrev pub sizes : List Size
sizes = Size.B ∷ Size.H ∷ Size.W ∷ Size.Dw ∷ []

-- how many bits a size has
abbrev pub size_bits : Size → ℕ
size_bits z = bits (width z)

-- every word that there is
unfoldable pub words : List Word
words =
    flat_map (λ op. Word.Alu op Width.Bits32 ∷ Word.Alu op Width.Bits64 ∷ []) (AluOp.Add ∷ AluOp.Sub ∷ AluOp.Mul ∷ AluOp.Div ∷ AluOp.Or ∷ AluOp.And ∷ AluOp.Lsh ∷ AluOp.Rsh ∷ AluOp.Mod ∷ AluOp.Xor ∷ AluOp.Mov ∷ AluOp.Arsh ∷ [])
    ++ flat_map (λ c. Word.JumpIf c Width.Bits32 ∷ Word.JumpIf c Width.Bits64 ∷ []) (Cmp.Eq ∷ Cmp.Gt ∷ Cmp.Ge ∷ Cmp.Set ∷ Cmp.Ne ∷ Cmp.Sgt ∷ Cmp.Sge ∷ Cmp.Lt ∷ Cmp.Le ∷ Cmp.Slt ∷ Cmp.Sle ∷ [])
    ++ map (λ z. Word.Load z Extension.Zeros) sizes ++ map (λ z. Word.Load z Extension.Sign) sizes ++ map Word.StoreImm sizes ++ map Word.Store sizes
    ++ Word.MovSx Width.Bits32 ∷ Word.MovSx Width.Bits64 ∷ Word.Neg Width.Bits32 ∷ Word.Neg Width.Bits64 ∷ Word.LoadImm ∷ Word.Jump ∷ Word.Call ∷ Word.Exit ∷ []

-- Whether a profile has instructions with this word: profile 1 has none that extend the sign, and a load of 64 bits has no
-- sign to extend.
abbrev pub is_word_of : Profile → Word → Bool
is_word_of Profile.One (Word.MovSx w) = false
is_word_of Profile.One (Word.Load z Extension.Sign) = false
is_word_of Profile.Two (Word.Load z Extension.Sign) = is_narrower z Width.Bits64
is_word_of p w = true

-- the profile has instructions with this word
abbrev pub IsWordOf : Profile → Word → Type 0
IsWordOf p w = IsTrue (is_word_of p w)

-- the first of these words whose name is the text
abbrev pub word_in : List ℕ → List Word → Option Word
word_in text [] = None
word_in text (w ∷ ws) = if bytes_eq text (name w) then Some w else word_in text ws

-- a word that the profile doesn't have is as none
abbrev pub if_word_of : Profile → Option Word → Option Word
if_word_of p None = None
if_word_of p (Some w) = if is_word_of p w then Some w else None

-- the profile's word of this name, if it has one
abbrev pub word_named : Profile → List ℕ → Option Word
word_named p text = if_word_of p (word_in text words)

-- the name of a register, its number after an r
abbrev pub reg_name : Reg → List ℕ
reg_name Reg.R0 = codes "r0"
reg_name Reg.R1 = codes "r1"
reg_name Reg.R2 = codes "r2"
reg_name Reg.R3 = codes "r3"
reg_name Reg.R4 = codes "r4"
reg_name Reg.R5 = codes "r5"
reg_name Reg.R6 = codes "r6"
reg_name Reg.R7 = codes "r7"
reg_name Reg.R8 = codes "r8"
reg_name Reg.R9 = codes "r9"
reg_name Reg.R10 = codes "r10"

-- every register
unfoldable pub registers : List Reg
registers = Reg.R0 ∷ Reg.R1 ∷ Reg.R2 ∷ Reg.R3 ∷ Reg.R4 ∷ Reg.R5 ∷ Reg.R6 ∷ Reg.R7 ∷ Reg.R8 ∷ Reg.R9 ∷ Reg.R10 ∷ []

-- the first of these registers whose name is the text
abbrev pub reg_spelled : List ℕ → List Reg → Option Reg
reg_spelled text [] = None
reg_spelled text (r ∷ rs) = if bytes_eq text (reg_name r) then Some r else reg_spelled text rs

-- the register of this name, if there is one
abbrev pub reg_named : List ℕ → Option Reg
reg_named text = reg_spelled text registers
