use Rattle.std.proofs.Common.{Ok, subst, sym}
use Rattle.pb_registry.specs.Judging.{ReadsManifest}
use Rattle.percobpf_keep.proofs.table.new_keeper.Goals as goal

pub returns-clause-manifest : goal.returns-clause-manifest
returns-clause-manifest c = subst (λ l. ReadsManifest c.args.manifest.now (Ok l)) (sym c.in_ok-keeper.ensures.observers) c.in_ok-observers.ensures.read
