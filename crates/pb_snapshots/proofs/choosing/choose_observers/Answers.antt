use Rattle.std.proofs.Common.{refl, sym, ap, ◌∙◌, subst}
use Rattle.pb_snapshots.specs.Words.{chosen_stats}
use Rattle.pb_snapshots.specs.ChosenWalks.{AreChosenVersions}
use Rattle.pb_snapshots.proofs.choosing.choose_observers.Goals as goal

pub returns-clause-chosen : goal.returns-clause-chosen
returns-clause-chosen c =
    let places = c.args.places.now in
    let cells = c.in_ok-cells.cells.items in
    let listed : AreChosenVersions places c.deref.result.now cells = subst (AreChosenVersions places c.deref.result.now) (sym c.in_ok-cells.ensures) c.in_ok-versions.ensures in
    let are : AreChosenVersions places c.args.snapshot.now.cells.items cells = subst (λ l. AreChosenVersions places l cells) c.deref.ensures.value listed in
    record {
      clock = refl;
      stats = c.in_ok-stats.ensures ∙ ap (chosen_stats places) c.deref-2.ensures.value;
      each = are.each;
      all = λ x y v stays has. are.all y v (x, stays, has);
    }

pub returns-clause-rising : goal.returns-clause-rising
returns-clause-rising c = (subst (AreChosenVersions c.args.places.now c.deref.result.now) (sym c.in_ok-cells.ensures) c.in_ok-versions.ensures).rising
