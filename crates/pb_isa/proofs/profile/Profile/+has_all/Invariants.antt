use Rattle.std.proofs.Common.{length}
use Rattle.pb_isa.proofs.profile.Profile.+has_all.Given as goal

abbrev pub decreases-has_all : goal.decreases-has_all
decreases-has_all l = length l.insns.now
