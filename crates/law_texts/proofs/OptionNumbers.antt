-- What the numbers of a command line's options name.
use Rattle.std.proofs.Common.{◌≡◌, ◌<◌, Some, None, refl, arith}
use Rattle.std.proofs.lemmas.Bool.Decides.{nat_tests}
use Rattle.clap.specs.Words.{Text}
use Rattle.law_texts.specs.Words.{count_number, profile_named, version_of}
use Rattle.law_texts.specs.OptionNumbers.{OptionsNameProfiles, OptionsNameVersions}

no_profile : (text : Text) → 2 < count_number text → profile_named (Some text) ≡ None
no_profile text more = grind (arith, nat_tests)

no_version : (text : Text) → 2 < count_number text → version_of (Some text) ≡ None
no_version text more = grind (arith, nat_tests)

pub name_profiles : OptionsNameProfiles
name_profiles = record { left_out = refl; one = refl; two = refl; zero = refl; more = no_profile }

pub name_versions : OptionsNameVersions
name_versions = record { left_out = refl; one = refl; two = refl; zero = refl; more = no_version }
