use Rattle.std.proofs.Common.{◌≡◌, ◌++◌, ◌∷◌, ◌+◌, [], List, take, ap, subst, sym, ◌∙◌}
use Rattle.std.specs.List.{flat_map, AllByRecursion}
use Rattle.std.proofs.lemmas.List.{take_all, take_more, flat_map_more}
use Rattle.pb_snapshots.specs.Words.{Cell, Revision}
use Rattle.pb_snapshots.specs.Snapshot.{version_bytes}
use Rattle.pb_snapshots.proofs.Lists.{FitsIfOwn, recursion_push, all_own_fit}
use Rattle.pb_snapshots.proofs.writing.push_versions.Goals as goal

pub loop-version-preserved : goal.loop-version-preserved
loop-version-preserved c =
    let xs = c.args.versions.now in
    let i = c.loop-version.version-index in
    let old = c.args.bytes.now.items in
    let x = c.version-item.result in
    let more : take (i + 1) xs ≡ take i xs ++ x ∷ [] = take_more xs i x c.loop-version-test.true ∙ ap (λ (y : Cell × Revision). take i xs ++ y ∷ []) (sym c.version-item.is) in
    record {
      added = c.in_ok-push_version.ensures.added ∙ ap (λ t. t ++ version_bytes x) c.loop-version.invariant.added ∙ flat_map_more version_bytes old (take i xs) x ∙ ap (λ (t : List (Cell × Revision)). old ++ flat_map version_bytes t) (sym more);
      fits = subst (AllByRecursion FitsIfOwn) (sym more) (recursion_push FitsIfOwn (take i xs) x c.loop-version.invariant.fits c.in_ok-push_version.ensures.fits);
    }

pub returns-clause-fits : goal.returns-clause-fits
returns-clause-fits c own =
    let xs = c.args.versions.now in
    all_own_fit xs (subst (AllByRecursion FitsIfOwn) (take_all c.loop-version.version-index xs c.loop-version-test.false) c.loop-version.invariant.fits) own
