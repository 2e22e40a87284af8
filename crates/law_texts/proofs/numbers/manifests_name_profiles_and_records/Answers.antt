use Rattle.law_texts.proofs.ManifestNumbers.{name_profiles, only_two, name_records}
use Rattle.law_texts.proofs.numbers.manifests_name_profiles_and_records.Goals as goal

pub returns : goal.returns
returns c = record { profiles = name_profiles; members = only_two; records = name_records }
