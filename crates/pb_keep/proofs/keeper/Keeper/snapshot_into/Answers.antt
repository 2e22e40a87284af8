use Rattle.std.proofs.Common.{◌∷◌, [], arith, subst, sym, ◌∙◌}
use Rattle.pb_snapshots.specs.Snapshot.{snapshot_value}
use Rattle.pb_keep.specs.Words.{IsAtRest, SnapshotOf, header, kept_table}
use Rattle.pb_keep.specs.Anew.{WhyNotAnew}
use Rattle.pb_keep.specs.Kept.{head}
use Rattle.pb_keep.proofs.Causing.{no_log, no_record, not_taken}
use Rattle.pb_keep.proofs.Mapping.{passed_on}
use Rattle.pb_keep.proofs.Records.{no_changes}
use Rattle.pb_keep.proofs.keeper.Keeper.snapshot_into.Goals as goal

pub returns-in_err-snapshot-clause-cause : goal.returns-in_err-snapshot-clause-cause
returns-in_err-snapshot-clause-cause g c =
    let k = c.args.self.now in
    let table = kept_table k.state k.stats.items in
    let was = g.E.Disk.faults c.args.log.now.disk in
    let file = g.E.Disk.seen c.args.log.now.disk in
    let first = head c.args.limit c.args.manifest.now in
    passed_on c.from_residual.result c.from_residual.ensures.1
    (λ e is clean. subst (λ f. WhyNotAnew k.waiting.items.items table first was was file f) (sym is) (not_taken k.waiting.items.items table first file was was c.in_err-snapshot.field-0.0 c.in_err-snapshot.ensures.why))

pub returns-in_err-record-clause-cause : goal.returns-in_err-record-clause-cause
returns-in_err-record-clause-cause g c =
    let k = c.args.self.now in
    let table = kept_table k.state k.stats.items in
    let was = g.E.Disk.faults c.args.log.now.disk in
    let file = g.E.Disk.seen c.args.log.now.disk in
    let first = head c.args.limit c.args.manifest.now in
    passed_on c.from_residual-in_err-record.result c.from_residual-in_err-record.ensures.1
    (λ e is clean. subst (λ f. WhyNotAnew k.waiting.items.items table first was was file f) (sym is) (no_record k.waiting.items.items table first file was was (snapshot_value c.in_ok-snapshot.snapshot) c.in_ok-snapshot.ensures.taken c.in_err-record.field-0.0 c.in_err-record.ensures.why))

pub returns-in_err-begin_log-clause-cause : goal.returns-in_err-begin_log-clause-cause
returns-in_err-begin_log-clause-cause g c =
    let k = c.args.self.now in
    let table = kept_table k.state k.stats.items in
    let was = g.E.Disk.faults c.args.log.now.disk in
    let faults = g.E.Disk.faults c.begin_log.new.log.disk in
    let file = g.E.Disk.seen c.args.log.now.disk in
    let first = head c.args.limit c.args.manifest.now in
    passed_on c.from_residual-in_err-begin_log.result c.from_residual-in_err-begin_log.ensures.1
    (λ e is clean. subst (λ f. WhyNotAnew k.waiting.items.items table first was faults file f) (sym is) (no_log k.waiting.items.items table first file was faults c.in_err-begin_log.field-0.0 (c.in_err-begin_log.ensures.why clean)))

pub returns-clause-begun : goal.returns-clause-begun
returns-clause-begun g c = λ clean.
    let s : SnapshotOf = snapshot_value c.in_ok-snapshot.snapshot in
    let log = c.begin_log.new.log in
    record {
      snapshot = s;
      taken = c.in_ok-snapshot.ensures.taken;
      log = record {
        fits = c.in_ok-record.ensures.fits;
        scripts = [];
        at_rest = subst (λ r. IsAtRest (g.E.Disk.seen log.disk) (g.E.Disk.may_leave log.disk) log.end (header (head c.args.limit c.args.manifest.now) ∷ r ∷ [])) (c.deref.ensures.value ∙ c.in_ok-record.ensures.bytes) (c.in_ok-begin_log.ensures.begun clean);
        make = no_changes;
        texts = tt;
      };
      room = c.in_ok-snapshot.ensures.room;
      count = (let same = c.in_ok-snapshot.snapshot.cells.ok.0 in omega (arith, c.len.ensures, same));
    }

pub returns-clause-versions : goal.returns-clause-versions
returns-clause-versions g c = record {
  snapshot = snapshot_value c.in_ok-snapshot.snapshot;
  taken = c.in_ok-snapshot.ensures.taken;
  rising = c.in_ok-snapshot.ensures.rising;
  count = (let same = c.in_ok-snapshot.snapshot.cells.ok.0 in omega (arith, c.len.ensures, same));
}
