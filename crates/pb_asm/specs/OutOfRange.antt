-- Lines that are an instruction's, but that one number goes beyond its field or isn't in its list. Exactly these are refused with
-- code 82. They are defined by the listing with a number in it, and not by a reader, which would let a looseness pass.
use Rattle.std.specs.Prelude.{◌≡◌, ◌≢◌, ◌⊎◌, ◌<◌, ℕ, ◌-◌, ◌^◌, ℤ, List, [], ◌∷◌, ◌++◌, codes, true, IsTrue, FitsSigned}
use Rattle.std.specs.Int.{w16}
use Rattle.std.specs.Str.Parse.{digits_value}
use Rattle.pb_asm.specs.Words.{is_numeral, AluOp, Cmp, Width, Size, Extension, Operand, Reg, Profile, is_narrower, OperandFits}
use Rattle.pb_asm.specs.declared.names.Word.{Word}
use Rattle.pb_asm.specs.Names.{name, IsWordOf, reg_name, size_bits}
use Rattle.pb_asm.specs.Listing.{operand_text, place_text}

-- digits of any length, with no zero before another, whose value is above this
pub record IsAbove (most : ℕ) (digits : List ℕ) : Type 0 where
  pub numeral : is_numeral digits ≡ true
  pub above : most < digits_value 10 digits

-- this sign, and after it such digits
abbrev pub IsSignedAbove : ℕ → ℕ → List ℕ → Type 0
IsSignedAbove sign most text = (digits : List ℕ) × (text ≡ sign ∷ digits) × IsAbove most digits

-- above 2 ^ 31 - 1, or with a minus below - 2 ^ 31
abbrev pub IsImmBeyond : List ℕ → Type 0
IsImmBeyond text = IsAbove (2 ^ 31 - 1) text ⊎ IsSignedAbove 45 (2 ^ 31) text

-- with a plus above 2 ^ 15 - 1, or with a minus below - 2 ^ 15
abbrev pub IsOffsetBeyond : List ℕ → Type 0
IsOffsetBeyond text = IsSignedAbove 43 (2 ^ 15 - 1) text ⊎ IsSignedAbove 45 (2 ^ 15) text

-- digits of any length, with no zero before another, whose value is the bits of no size that is narrower than the width
pub record IsUnlisted (w : Width) (digits : List ℕ) : Type 0 where
  pub numeral : is_numeral digits ≡ true
  pub unlisted : (z : Size) → IsTrue (is_narrower z w) → digits_value 10 digits ≢ size_bits z

-- which number of which instruction, with all that stands before it
pub data NumberPlace : Type 0 where
  AluImm : AluOp → Width → Reg → NumberPlace
  MovSxBits : Width → Reg → Reg → NumberPlace
  LoadImmImm : Reg → NumberPlace
  LoadOffset : Size → Extension → Reg → Reg → NumberPlace
  StoreImmOffset : Size → Reg → NumberPlace
  StoreImmImm : Size → Reg → ℤ → NumberPlace
  StoreOffset : Size → Reg → NumberPlace
  JumpOffset : NumberPlace
  JumpIfImm : Cmp → Width → Reg → NumberPlace
  JumpIfOffset : Cmp → Width → Reg → Operand → NumberPlace
  CallImm : NumberPlace

-- a register and this text in brackets
abbrev pub place_with : Reg → List ℕ → List ℕ
place_with base number = 91 ∷ (reg_name base ++ (number ++ codes "]"))

-- the instruction's word
abbrev pub place_word : NumberPlace → Word
place_word (AluImm op w dst) = Word.Alu op w
place_word (MovSxBits w dst src) = Word.MovSx w
place_word (LoadImmImm dst) = Word.LoadImm
place_word (LoadOffset z x dst src) = Word.Load z x
place_word (StoreImmOffset z dst) = Word.StoreImm z
place_word (StoreImmImm z dst offset) = Word.StoreImm z
place_word (StoreOffset z dst) = Word.Store z
place_word JumpOffset = Word.Jump
place_word (JumpIfImm c w dst) = Word.JumpIf c w
place_word (JumpIfOffset c w dst src) = Word.JumpIf c w
place_word CallImm = Word.Call

-- the operands up to the number and the sign that ends its word, as a listing has them; then the rest
abbrev pub operands_with : NumberPlace → List ℕ → List ℕ → List ℕ
operands_with (AluImm op w dst) number rest = reg_name dst ++ (codes ", " ++ (number ++ rest))
operands_with (MovSxBits w dst src) number rest = reg_name dst ++ (codes ", " ++ (reg_name src ++ (codes ", " ++ (number ++ rest))))
operands_with (LoadImmImm dst) number rest = reg_name dst ++ (codes ", " ++ (number ++ rest))
operands_with (LoadOffset z x dst src) number rest = reg_name dst ++ (codes ", " ++ (place_with src number ++ rest))
operands_with (StoreImmOffset z dst) number rest = (place_with dst number ++ codes ",") ++ rest
operands_with (StoreImmImm z dst offset) number rest = place_text dst offset ++ (codes ", " ++ (number ++ rest))
operands_with (StoreOffset z dst) number rest = (place_with dst number ++ codes ",") ++ rest
operands_with JumpOffset number rest = number ++ rest
operands_with (JumpIfImm c w dst) number rest = reg_name dst ++ (codes ", " ++ ((number ++ codes ",") ++ rest))
operands_with (JumpIfOffset c w dst src) number rest = reg_name dst ++ (codes ", " ++ (operand_text src ++ (codes ", " ++ (number ++ rest))))
operands_with CallImm number rest = number ++ rest

-- the line of an instruction up to this number, and then the rest
abbrev pub line_with : NumberPlace → List ℕ → List ℕ → List ℕ
line_with place number rest = name (place_word place) ++ (codes " " ++ operands_with place number rest)

-- the numbers before it fit their fields
abbrev pub FitsBefore : NumberPlace → Type 0
FitsBefore (StoreImmImm z dst offset) = FitsSigned w16 offset
FitsBefore (JumpIfOffset c w dst src) = OperandFits src
FitsBefore _ = Unit {0}

-- a number of the form that is wanted there goes beyond the field, or isn't in the list
abbrev pub IsBeyond : NumberPlace → List ℕ → Type 0
IsBeyond (AluImm op w dst) number = IsImmBeyond number
IsBeyond (MovSxBits w dst src) number = IsUnlisted w number
IsBeyond (LoadImmImm dst) number = IsAbove (2 ^ 64 - 1) number
IsBeyond (LoadOffset z x dst src) number = IsOffsetBeyond number
IsBeyond (StoreImmOffset z dst) number = IsOffsetBeyond number
IsBeyond (StoreImmImm z dst offset) number = IsImmBeyond number
IsBeyond (StoreOffset z dst) number = IsOffsetBeyond number
IsBeyond JumpOffset number = IsOffsetBeyond number
IsBeyond (JumpIfImm c w dst) number = IsImmBeyond number
IsBeyond (JumpIfOffset c w dst src) number = IsOffsetBeyond number
IsBeyond CallImm number = IsImmBeyond number

-- the line ends here, or a blank comes and then anything, since what stands after the fault isn't looked at
abbrev pub EndsWord : List ℕ → Type 0
EndsWord rest = (rest ≡ []) ⊎ ((more : List ℕ) × (rest ≡ 32 ∷ more))

-- a line of one of the profile's instructions, up to a number that has its form and goes beyond its field, and after that
-- number's word anything
pub record IsOutOfRange (p : Profile) (line : List ℕ) : Type 0 where
  pub place : NumberPlace
  pub number : List ℕ
  pub rest : List ℕ
  pub of_profile : IsWordOf p (place_word place)
  pub fits : FitsBefore place
  pub beyond : IsBeyond place number
  pub ends : EndsWord rest
  pub parts : line ≡ line_with place number rest
