-- The program that an observer's code is: its bytes are read in a profile, and the rules accept what they encode. It
-- is a relation, since decoder and verifier speak of programs by relations; that there is one program follows from
-- their laws. `accept_in` cites it, and through it each manifest and `check`.
use Rattle.std.specs.Prelude.{◌≡◌, ◌⊎◌, ℕ, List}
use Rattle.pb_registry.specs.Words.{Profile, ProgramOf, JudgedOf, HelperSet, RuleCode, Version, code_number, Encodes, AreRefusedAs, Accepts, Refuses, judged_by, VerifyFault}

-- the bytes encode this program of the profile, and the rules accept it with these helpers, for records of this version
pub record IsAcceptedCode (profile : Profile) (version : Version) (bytes : List ℕ) (helpers : HelperSet) (judged : JudgedOf) : Type 0 where
  pub profile_is : judged.program.profile ≡ profile
  pub encodes : Encodes bytes judged.program
  pub judged_is : judged ≡ judged_by version judged.program helpers
  pub accepts : Accepts judged

-- the first slot at fault, with its lowest code: of the bytes, or of the program that they encode
abbrev pub IsRefusedCode : Profile → Version → List ℕ → HelperSet → ℕ → ℕ → Type 0
IsRefusedCode profile version bytes helpers slot code =
    AreRefusedAs profile bytes slot code ⊎ ((p : ProgramOf) × (p.profile ≡ profile) × Encodes bytes p × ((c : RuleCode) × (code ≡ code_number c) × Refuses (judged_by version p helpers) slot c))

-- memory was refused, or that is the fault
abbrev pub IsAcceptFault : Profile → Version → List ℕ → HelperSet → VerifyFault → Type 0
IsAcceptFault profile version bytes helpers (VerifyFault.NoMemory refused) = Unit {0}
IsAcceptFault profile version bytes helpers (VerifyFault.Refused r) = IsRefusedCode profile version bytes helpers r.slot r.code
