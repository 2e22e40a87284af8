use Rattle.std.proofs.Common.{IfNone, None, Ok, Option, Some, subst, sym}
use Rattle.pb_registry.specs.Judging.{ReadsManifest}
use Rattle.percobpf_keep.proofs.anew.open_and_compact.Goals as goal

-- what is so of none follows from what is so of none
if_none : {A P Q : Type 0} (o : Option A) → (P → Q) → IfNone o P → IfNone o Q
if_none None f is = f is
if_none (Some x) f is = tt

pub observe_manifest-requires-clause-same : goal.observe_manifest-requires-clause-same
observe_manifest-requires-clause-same c =
    let kept = subst (λ l. ReadsManifest c.args.own.now (Ok l)) (sym c.in_ok-found.ensures.observers) c.requires.own_manifest in
    if_none c.args.observers (λ e. subst (λ t. ReadsManifest t (Ok c.open_log.new.keeper.state.observers)) e kept) c.requires.same
