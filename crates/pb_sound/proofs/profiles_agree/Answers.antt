use Rattle.pb_sound.proofs.ProfilesAgree as agree
use Rattle.pb_sound.proofs.profiles_agree.Goals as goal

pub returns-clause-programs : goal.returns-clause-programs
returns-clause-programs c = agree.one_is_of_two

pub returns-clause-accepted : goal.returns-clause-accepted
returns-clause-accepted c = agree.same_accepted

pub returns-clause-refused : goal.returns-clause-refused
returns-clause-refused c = agree.same_refused

pub returns-clause-meant : goal.returns-clause-meant
returns-clause-meant c = agree.same_meant
