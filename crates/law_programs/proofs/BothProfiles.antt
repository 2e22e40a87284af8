-- What profile 1 relates bytes to, profile 2 relates them to as well.
use Rattle.std.proofs.Common.{◌≡◌, ℕ, List, refl, sym, subst}
use Rattle.law_programs.specs.Words.{Insn, Profile, ProgramOf, program_in, SameAreAccepted, SameAreRefused, SameIsMeant, Encodes, in_profile}
use Rattle.law_programs.specs.BothProfiles.{AreAlike, BytesMeanTheSame}

-- a profile's bytes are one program
abbrev pub OneProgram : Type 0
OneProgram = (bytes : List ℕ) (p q : ProgramOf) → p.profile ≡ q.profile → Encodes bytes p → Encodes bytes q → p ≡ q

-- bytes of profile 1 are those of the same instructions in profile 2
abbrev pub ReadAlike : Type 0
ReadAlike = (bytes : List ℕ) (p : ProgramOf) → p.profile ≡ Profile.One → Encodes bytes p → Encodes bytes (in_profile Profile.Two p)

alike : SameAreAccepted → SameAreRefused → SameIsMeant → (profile : Profile) (is : List Insn) → profile ≡ Profile.One → AreAlike (program_in profile is) (program_in Profile.Two is)
alike accepted refused meant profile is e =
    subst (λ (w : Profile). AreAlike (program_in w is) (program_in Profile.Two is)) (sym e)
    (record { insns = refl; accepted = accepted is; refused = refused is; meant = meant is })

pub mean_the_same : OneProgram → ReadAlike → SameAreAccepted → SameAreRefused → SameIsMeant → BytesMeanTheSame
mean_the_same one read accepted refused meant bytes p e is =
    let there = read bytes p e is in
    record {
      q = in_profile Profile.Two p;
      of_two = refl;
      read = there;
      no_other = λ r f h. one bytes r (in_profile Profile.Two p) f h there;
      alike = alike accepted refused meant p.profile p.insns e;
    }
