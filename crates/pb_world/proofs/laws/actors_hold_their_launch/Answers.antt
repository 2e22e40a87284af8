use Rattle.pb_world.proofs.GivenJobs.{jobs_are_given, busy_actors_are_left, busy_actors_are_told, refused_jobs_end}
use Rattle.pb_world.proofs.laws.actors_hold_their_launch.Goals as goal

pub returns-clause-given : goal.returns-clause-given
returns-clause-given c = jobs_are_given

pub returns-clause-busy : goal.returns-clause-busy
returns-clause-busy c = busy_actors_are_left

pub returns-clause-told : goal.returns-clause-told
returns-clause-told c = busy_actors_are_told

pub returns-clause-refused : goal.returns-clause-refused
returns-clause-refused c = refused_jobs_end
