use Rattle.std.proofs.Common.{Ok, subst, sym}
use Rattle.pb_registry.specs.Judging.{ReadsManifest}
use Rattle.percobpf_keep.proofs.service.serve_file.Goals as goal

pub open_and_serve-done-requires-clause-manifest : goal.open_and_serve-done-requires-clause-manifest
open_and_serve-done-requires-clause-manifest g c = subst (λ l. ReadsManifest c.args.manifest.now (Ok l)) (sym c.in_ok-keeper.ensures.observers) c.requires.read
