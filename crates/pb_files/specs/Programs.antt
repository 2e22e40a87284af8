-- What is left where a program is assembled, listed or checked. `dis` and `check` have one shape, a verdict and its
-- text on standard output, so they share one definition; `asm` writes a file, and a refused text of it is a fault.
use Rattle.std.specs.Prelude.{◌≡◌, ◌≢◌, ℕ, ◌⊎◌, true, List, ◌++◌, codes, Option, Result, Ok, Err, decimal}
use Rattle.pb_isa.specs.Slots.{slots}
use Rattle.pb_isa.specs.declared.insn.Insn.{Insn}
use Rattle.pb_isa.specs.declared.profile.Profile.{Profile}
use Rattle.pb_isa.specs.Programs.{ProgramOf, JudgedOf}
use Rattle.pb_helpers.specs.declared.change.Version.{Version}
use Rattle.pb_helpers.specs.Table.{all_helpers}
use Rattle.pb_registry.specs.Accepting.{IsAcceptedCode, IsRefusedCode}
use Rattle.pb_decode.specs.Encoding.{Encodes}
use Rattle.pb_decode.specs.Faults.{AreRefusedAs}
use Rattle.pb_reading.specs.Faults.{IsFaultOf}
use Rattle.pb_reading.specs.declared.fault.TextFault.{TextFault}
use Rattle.pb_asm.specs.Texts.{program_of_text}
use Rattle.pb_base.specs.Refusals.{slot_and_code}
use Rattle.pb_base.specs.Taking.{Taking, TookAll, TookPart, TookNothing}
use Rattle.pb_files.specs.declared.answer.Verdict.{Verdict}
use Rattle.pb_files.specs.declared.fault.FileFault.{FileFault}
use Rattle.pb_files.specs.Files.{PathBytes, ReadAnswer, Filing, IsKnownAs, KeepsOthers, KeepsFiles}
use Rattle.pb_files.specs.PathFaults.{memory_fault, IsUnreadAt, IsNoText}

-- ---- assembling

-- the bytes are those of the program of the profile whose text the path holds
pub record Assembles (profile : Profile) (input : Option ReadAnswer) (bytes : List ℕ) : Type 0 where
  pub text : List ℕ
  pub program : ProgramOf
  pub text_held : IsKnownAs input (Ok text)
  pub read : program_of_text profile text ≡ Ok program
  pub encoded : Encodes bytes program

-- the program's bytes stand at the path for the output
pub record Assembled (profile : Profile) (files : Filing) (input output : PathBytes) : Type 0 where
  pub bytes : List ℕ
  pub assembles : Assembles profile (files.before input) bytes
  pub written : IsKnownAs (files.after output) (Ok bytes)
  pub others : KeepsOthers files.before files.after output

-- the text is a program's, whose bytes could not be written
pub record Unwritten (profile : Profile) (files : Filing) (input output : PathBytes) : Type 0 where
  pub bytes : List ℕ
  pub assembles : Assembles profile (files.before input) bytes
  pub others : KeepsOthers files.before files.after output
  pub failed : files.failed ≡ true

-- the text that the path holds is no program's, and this is its first fault
pub record IsFaultyText (profile : Profile) (held : Option ReadAnswer) (f : TextFault) : Type 0 where
  pub text : List ℕ
  pub text_held : IsKnownAs held (Ok text)
  pub fault : IsFaultOf (program_of_text profile text) f

-- the file at the path isn't read, or is no program's text, and this is its fault
abbrev pub IsNoProgramText : Profile → Option ReadAnswer → PathBytes → FileFault → Type 0
IsNoProgramText profile held path (FileFault.Text f) = IsFaultyText profile held f
IsNoProgramText profile held path (FileFault.NotText p) = IsNoText held path (FileFault.NotText p)
IsNoProgramText profile held path f = IsUnreadAt held path f

-- Why nothing was assembled, and whether a write to a path has failed: only if one did does the fault name the output.
abbrev pub AsmFails : Profile → Filing → PathBytes → PathBytes → FileFault → Type 0
AsmFails profile files input output (FileFault.Unwritable p) = (p.now ≡ output) × Unwritten profile files input output
AsmFails profile files input output (FileFault.NoMemory refused) = KeepsFiles files ⊎ Unwritten profile files input output
AsmFails profile files input output f = KeepsFiles files × IsNoProgramText profile (files.before input) input f

-- what `asm` leaves: OUT with the bytes, or a fault; a text is refused as a fault and no answer
abbrev pub AsmLeaves : Profile → Filing → PathBytes → PathBytes → Result Verdict FileFault → Type 0
AsmLeaves profile files input output (Ok Verdict.Accepted) = Assembled profile files input output × (files.failed ≡ files.was)
AsmLeaves profile files input output (Ok Verdict.Refused) = ⊥
AsmLeaves profile files input output (Err f) = AsmFails profile files input output f

-- ---- answers on bytes

-- the line that reports where bytes are refused
abbrev pub refusal_line : ℕ → ℕ → List ℕ
refusal_line slot code = slot_and_code slot code ++ codes "\n"

-- how bytes are judged, and the text that states it
abbrev pub Judges : Type 1
Judges = List ℕ → Verdict → List ℕ → Type 0

-- this text of the program of the profile that the bytes encode; or the first slot at fault, with its lowest code
abbrev pub TellsProgram : (List Insn → List ℕ) → Profile → Judges
TellsProgram text_of profile bytes Verdict.Accepted text = (p : ProgramOf) × (p.profile ≡ profile) × Encodes bytes p × (text ≡ text_of p.insns)
TellsProgram text_of profile bytes Verdict.Refused text = (slot code : ℕ) × AreRefusedAs profile bytes slot code × (text ≡ refusal_line slot code)

-- the line that reports that a program is accepted
abbrev pub acceptance_line : ℕ → List ℕ
acceptance_line n = codes "accepted " ++ (decimal n ++ codes " slots\n")

-- whether the rules accept the program of the profile that the bytes encode, for records of this version, if it may call
-- all helpers; else the first slot at fault
abbrev pub Checks : Profile → Version → Judges
Checks profile version bytes Verdict.Accepted text = (j : JudgedOf) × IsAcceptedCode profile version bytes all_helpers j × (text ≡ acceptance_line (slots j.program.insns))
Checks profile version bytes Verdict.Refused text = (slot code : ℕ) × IsRefusedCode profile version bytes all_helpers slot code × (text ≡ refusal_line slot code)

-- the bytes at a path were judged so, and the whole text was written
pub record WroteVerdict (judges : Judges) (held : Option ReadAnswer) (out : Taking) (verdict : Verdict) : Type 0 where
  pub bytes : List ℕ
  pub text : List ℕ
  pub bytes_held : IsKnownAs held (Ok bytes)
  pub judged : judges bytes verdict text
  pub taken : TookAll out text

-- the bytes at a path were judged, and a write failed, with a beginning of the text written
pub record BeganVerdict (judges : Judges) (held : Option ReadAnswer) (out : Taking) : Type 0 where
  pub bytes : List ℕ
  pub text : List ℕ
  pub verdict : Verdict
  pub bytes_held : IsKnownAs held (Ok bytes)
  pub judged : judges bytes verdict text
  pub taken : TookPart out text

-- why no whole answer was written: a write failed, or nothing was read and so nothing written
abbrev pub AnswerFails : Judges → Option ReadAnswer → PathBytes → Taking → FileFault → Type 0
AnswerFails judges held path out FileFault.Output = BeganVerdict judges held out
AnswerFails judges held path out f = TookNothing out × IsUnreadAt held path f

-- what a command on a program's bytes leaves, whichever way it judges
abbrev pub AnswerLeaves : Judges → Option ReadAnswer → PathBytes → Taking → Result Verdict FileFault → Type 0
AnswerLeaves judges held path out (Ok verdict) = WroteVerdict judges held out verdict
AnswerLeaves judges held path out (Err f) = AnswerFails judges held path out f

-- the fault is one of a text that was read
abbrev pub IsTextFault : TextFault → FileFault → Type 0
IsTextFault (TextFault.NoMemory refused) f = f ≡ memory_fault
IsTextFault (TextFault.At line code) f = f ≡ FileFault.Text (TextFault.At line code)

-- memory was refused
abbrev pub IsMemoryFault : FileFault → Type 0
IsMemoryFault f = f ≡ memory_fault
