-- Programs assembled and listed, as C gets them: what `asm` and `dis` answer, with numbers for a fault.
use Rattle.std.specs.Prelude.{◌≡◌, ◌⊎◌, ℕ, List, Option, Some, None, Ok, Err, IsUtf8}
use Rattle.pb_isa.specs.declared.profile.Profile.{Profile}
use Rattle.pb_isa.specs.Programs.{ProgramOf}
use Rattle.pb_asm.specs.Texts.{program_of_text}
use Rattle.pb_asm.specs.Listing.{listing}
use Rattle.pb_decode.specs.Encoding.{Encodes, encoding}
use Rattle.pb_decode.specs.Faults.{AreRefusedAs}
use Rattle.pb_api.specs.declared.kind.AnswerKind.{AnswerKind}
use Rattle.pb_api.specs.Answers.{BufferCall, GivesText, GivesNone, LacksMemory}

-- the text is a program's of this profile, whose bytes are given
pub record GivesProgram (profile : Profile) (text : List ℕ) (c : BufferCall) : Type 0 where
  pub program : ProgramOf
  pub utf8 : IsUtf8 text
  pub read : program_of_text profile text ≡ Ok program
  pub bytes : GivesText AnswerKind.Done (encoding program.insns) c

-- the text is no program's of this profile, and the line and the code of its first fault are given
pub record GivesFault (profile : Profile) (text : List ℕ) (c : BufferCall) : Type 0 where
  pub line : ℕ
  pub code : ℕ
  pub utf8 : IsUtf8 text
  pub read : program_of_text profile text ≡ Err (line, code)
  pub fault : GivesNone AnswerKind.Refused code line c

-- the bytes are no text
pub record GivesNotText (text : List ℕ) (c : BufferCall) : Type 0 where
  pub utf8 : IsUtf8 text → ⊥
  pub fault : GivesNone AnswerKind.NotText 0 0 c

-- a text assembled in a profile
abbrev pub IsAssembled : List ℕ → Profile → BufferCall → Type 0
IsAssembled text profile c = GivesProgram profile text c ⊎ (GivesFault profile text c ⊎ (GivesNotText text c ⊎ LacksMemory c))

-- the bytes are a program's of this profile, whose listing is given
pub record GivesListing (profile : Profile) (bytes : List ℕ) (c : BufferCall) : Type 0 where
  pub program : ProgramOf
  pub profile_is : program.profile ≡ profile
  pub encodes : Encodes bytes program
  pub text : GivesText AnswerKind.Done (listing program.insns) c

-- the bytes are no program's of this profile, and the first slot at fault and its lowest code are given
pub record GivesSlot (profile : Profile) (bytes : List ℕ) (c : BufferCall) : Type 0 where
  pub slot : ℕ
  pub code : ℕ
  pub refused : AreRefusedAs profile bytes slot code
  pub fault : GivesNone AnswerKind.Refused code slot c

-- bytes listed in a profile
abbrev pub IsListed : List ℕ → Profile → BufferCall → Type 0
IsListed bytes profile c = GivesListing profile bytes c ⊎ (GivesSlot profile bytes c ⊎ LacksMemory c)

-- the number of a profile has to be one's
abbrev pub InProfile : (Profile → BufferCall → Type 0) → Option Profile → BufferCall → Type 0
InProfile leaves (Some profile) c = leaves profile c
InProfile leaves None c = GivesNone AnswerKind.BadArgument 0 0 c
