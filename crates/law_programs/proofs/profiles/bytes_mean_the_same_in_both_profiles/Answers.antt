use Rattle.law_programs.proofs.BothProfiles.{mean_the_same}
use Rattle.law_programs.proofs.profiles.bytes_mean_the_same_in_both_profiles.Goals as goal

pub returns : goal.returns
returns c = mean_the_same c.either_program_or_fault.ensures.one_program c.profiles_read_alike.ensures c.profiles_agree.ensures.accepted c.profiles_agree.ensures.refused c.profiles_agree.ensures.meant
