use Rattle.std.proofs.Common.{◌≡◌, IfSome, subst}
use Rattle.pb_snapshots.specs.Snapshot.{snapshot_value}
use Rattle.pb_keep.specs.Words.{FitsSnapshot, snapshot_bytes}
use Rattle.pb_keep.proofs.compact.record_of.Goals as goal

pub returns-clause-bytes : goal.returns-clause-bytes
returns-clause-bytes c = subst (λ r. IfSome r (λ v. v.items ≡ snapshot_bytes (snapshot_value c.args.snapshot.now))) c.in-Some.is c.in_ok-record.ensures.bytes

pub returns-clause-fits : goal.returns-clause-fits
returns-clause-fits c = subst (λ r. IfSome r (λ v. FitsSnapshot (snapshot_value c.args.snapshot.now))) c.in-Some.is c.in_ok-record.ensures.fits
