use Rattle.pb_generations.proofs.KnownJobs.{runs_name_known, changes_name_known}
use Rattle.pb_generations.proofs.jobs_name_known_cells.Goals as goal

pub returns-clause-runs : goal.returns-clause-runs
returns-clause-runs c = runs_name_known c.plans_converse.ensures.converses c.plans_converse.ensures.ends

pub returns-clause-changes : goal.returns-clause-changes
returns-clause-changes c = changes_name_known
