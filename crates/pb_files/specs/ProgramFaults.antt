-- If it is known what reading a program's file answers, its own fault is reported: the statements of the law
-- `known_programs_are_judged`.
use Rattle.std.specs.Prelude.{◌≡◌, ◌⊎◌, ℕ, Some, Ok, Err, IsUtf8}
use Rattle.pb_isa.specs.declared.profile.Profile.{Profile}
use Rattle.pb_helpers.specs.declared.change.Version.{Version}
use Rattle.pb_reading.specs.declared.fault.TextFault.{TextFault}
use Rattle.pb_asm.specs.Texts.{program_of_text}
use Rattle.pb_asm.specs.Listing.{listing}
use Rattle.pb_base.specs.Taking.{Taking}
use Rattle.pb_files.specs.declared.fault.FileFault.{FileFault}
use Rattle.pb_files.specs.Files.{PathBytes, Filing}
use Rattle.pb_files.specs.PathFaults.{memory_fault}
use Rattle.pb_files.specs.Programs.{AsmFails, AnswerFails, TellsProgram, Checks}

-- this fault states the place of a text's fault, or that memory was refused
abbrev pub TellsPlace : ℕ → ℕ → FileFault → Type 0
TellsPlace line code (FileFault.Text f) = f ≡ TextFault.At line code
TellsPlace line code (FileFault.NoMemory refused) = Unit {0}
TellsPlace line code _ = ⊥

-- if a text is known and is no program's, the place where it is at fault is reported
abbrev pub FaultyTextIsTold : Type 0
FaultyTextIsTold = (profile : Profile) (files : Filing) (input output text : PathBytes) (line code : ℕ) (f : FileFault) →
    files.before input ≡ Some (Ok text) → IsUtf8 text → program_of_text profile text ≡ Err (line, code) →
    AsmFails profile files input output f → TellsPlace line code f

-- if bytes are known, nothing but the output or memory fails when they are listed or checked
abbrev pub KnownBytesAreAnswered : Type 0
KnownBytesAreAnswered = (profile : Profile) (version : Version) (bytes path : PathBytes) (out : Taking) (f : FileFault) →
    AnswerFails (TellsProgram listing profile) (Some (Ok bytes)) path out f ⊎
    AnswerFails (Checks profile version) (Some (Ok bytes)) path out f →
    (f ≡ FileFault.Output) ⊎ (f ≡ memory_fault)
