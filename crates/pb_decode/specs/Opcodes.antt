-- The opcodes of the profiles (RFC 9669, sections 3.1, 3.3, 4.1, 4.3 and 5). `opcode` says each by its parts, for
-- encoding and decoding alike, so that no table stands twice; decoding searches the forms for the one that has it.
use Rattle.std.specs.Prelude.{ℕ, ◌+◌, ◌*◌, Bool, true, false, IsTrue, ◌==◌, if◌then◌else◌, List, [], ◌∷◌, ◌++◌, map, Option, Some, None, flat_map}
use Rattle.pb_decode.specs.Words.{AluOp, Cmp, Width, Size, Extension, Profile, is_narrower}
use Rattle.pb_decode.specs.declared.forms.Form.{Form}
use Rattle.pb_decode.specs.declared.forms.Source.{Source}

-- the high four bits of an arithmetic opcode
abbrev pub alu_code : AluOp → ℕ
alu_code AluOp.Add = 0
alu_code AluOp.Sub = 1
alu_code AluOp.Mul = 2
alu_code AluOp.Div = 3
alu_code AluOp.Or = 4
alu_code AluOp.And = 5
alu_code AluOp.Lsh = 6
alu_code AluOp.Rsh = 7
alu_code AluOp.Mod = 9
alu_code AluOp.Xor = 10
alu_code AluOp.Mov = 11
alu_code AluOp.Arsh = 12

-- those of a conditional jump
abbrev pub jump_code : Cmp → ℕ
jump_code Cmp.Eq = 1
jump_code Cmp.Gt = 2
jump_code Cmp.Ge = 3
jump_code Cmp.Set = 4
jump_code Cmp.Ne = 5
jump_code Cmp.Sgt = 6
jump_code Cmp.Sge = 7
jump_code Cmp.Lt = 10
jump_code Cmp.Le = 11
jump_code Cmp.Slt = 12
jump_code Cmp.Sle = 13

-- bits 3 and 4 of a load or a store
abbrev pub size_code : Size → ℕ
size_code Size.W = 0
size_code Size.H = 1
size_code Size.B = 2
size_code Size.Dw = 3

-- bit 3, which says where the second operand comes from
abbrev pub source_bit : Source → ℕ
source_bit Source.K = 0
source_bit Source.X = 8

-- the high three bits of a load from an address in a register, the mode: MEM (section 5.1) and MEMSX (section 5.2)
abbrev pub mode_code : Extension → ℕ
mode_code Extension.Zeros = 3
mode_code Extension.Sign = 4

-- the low three bits, the class: ALU and ALU64
abbrev pub alu_class : Width → ℕ
alu_class Width.Bits32 = 4
alu_class Width.Bits64 = 7

-- JMP32 and JMP
abbrev pub jump_class : Width → ℕ
jump_class Width.Bits32 = 6
jump_class Width.Bits64 = 5

-- The opcode. Negation is code 8, a call 8 and an exit 9; the 64-bit immediate has class LD, mode IMM and size DW, and
-- the stores have mode MEM.
abbrev pub opcode : Form → ℕ
opcode (Form.Alu op w s) = alu_class w + source_bit s + 16 * alu_code op
opcode (Form.Neg w) = alu_class w + 16 * 8
opcode Form.LoadImm = 8 * 3
opcode (Form.Load z x) = 1 + 8 * size_code z + 32 * mode_code x
opcode (Form.StoreImm z) = 2 + 8 * size_code z + 32 * mode_code Extension.Zeros
opcode (Form.Store z) = 3 + 8 * size_code z + 32 * mode_code Extension.Zeros
opcode Form.Jump = 5
opcode (Form.JumpIf c w s) = jump_class w + source_bit s + 16 * jump_code c
opcode Form.Call = 5 + 16 * 8
opcode Form.Exit = 5 + 16 * 9

-- each width with each source
abbrev pub each : (Width → Source → Form) → List Form
each f = f Width.Bits32 Source.K ∷ f Width.Bits32 Source.X ∷ f Width.Bits64 Source.K ∷ f Width.Bits64 Source.X ∷ []

-- by their codes
abbrev pub sizes_by_code : List Size
sizes_by_code = Size.W ∷ Size.H ∷ Size.B ∷ Size.Dw ∷ []

-- every form that a profile has
unfoldable pub forms : List Form
forms =
    flat_map (λ op. each (Form.Alu op)) (AluOp.Add ∷ AluOp.Sub ∷ AluOp.Mul ∷ AluOp.Div ∷ AluOp.Or ∷ AluOp.And ∷ AluOp.Lsh ∷ AluOp.Rsh ∷ AluOp.Mod ∷ AluOp.Xor ∷ AluOp.Mov ∷ AluOp.Arsh ∷ [])
    ++ flat_map (λ c. each (Form.JumpIf c)) (Cmp.Eq ∷ Cmp.Gt ∷ Cmp.Ge ∷ Cmp.Set ∷ Cmp.Ne ∷ Cmp.Sgt ∷ Cmp.Sge ∷ Cmp.Lt ∷ Cmp.Le ∷ Cmp.Slt ∷ Cmp.Sle ∷ [])
    ++ map (λ z. Form.Load z Extension.Zeros) sizes_by_code ++ map Form.StoreImm sizes_by_code ++ map Form.Store sizes_by_code
    ++ Form.Neg Width.Bits32 ∷ Form.Neg Width.Bits64 ∷ Form.LoadImm ∷ Form.Jump ∷ Form.Call ∷ Form.Exit ∷ []
    ++ map (λ z. Form.Load z Extension.Sign) (Size.W ∷ Size.H ∷ Size.B ∷ [])

-- the first of these forms that has the opcode
abbrev pub with_opcode : ℕ → List Form → Option Form
with_opcode n [] = None
with_opcode n (f ∷ fs) = if opcode f == n then Some f else with_opcode n fs

-- profile 1 has no load that extends the sign; profile 2 has those of fewer bits than a register has
abbrev pub is_form_of : Profile → Form → Bool
is_form_of Profile.One (Form.Load z Extension.Sign) = false
is_form_of Profile.Two (Form.Load z Extension.Sign) = is_narrower z Width.Bits64
is_form_of p f = true

-- the profile has the form
abbrev pub IsFormOf : Profile → Form → Type 0
IsFormOf p f = IsTrue (is_form_of p f)

-- the form that was found, if it is one of the profile
abbrev pub only_of : Profile → Option Form → Option Form
only_of p None = None
only_of p (Some f) = if is_form_of p f then Some f else None

-- the form that has this opcode, if it is one of the profile
abbrev pub form_of : Profile → ℕ → Option Form
form_of p n = only_of p (with_opcode n forms)
