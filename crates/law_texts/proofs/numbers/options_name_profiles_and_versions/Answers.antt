use Rattle.law_texts.proofs.OptionNumbers.{name_profiles, name_versions}
use Rattle.law_texts.proofs.numbers.options_name_profiles_and_versions.Goals as goal

pub returns : goal.returns
returns c = record { profiles = name_profiles; versions = name_versions }
