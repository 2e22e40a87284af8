use Rattle.std.proofs.Common.{◌≡◌, ◌∷◌, ◌++◌, [], ℕ, List, IsTrue, length, inl, inr, sym, subst}
use Rattle.pb_log.specs.Records.{IsLog, IsReadable}
use Rattle.pb_keep.specs.Copies.{records_of, HasCount, WhyNoCopy}
use Rattle.pb_keep.specs.Kept.{head, head_of, reported_count, snapshot_records, HasChanges, IsLogOf}
use Rattle.pb_keep.specs.Words.{IsAtRest, header}
use Rattle.pb_keep.proofs.Copying.{as_counted, crash_of_copy, log_of_copy, no_copy, own_count, some_stay, still_log}
use Rattle.pb_keep.proofs.Mapping.{any_ok, if_err, on_ok, passed_on}
use Rattle.pb_keep.proofs.Putting.{log_has_changes, rest_is_log}
use Rattle.pb_keep.proofs.copies.copy_log.Goals as goal

pub returns-clause-copied : goal.returns-clause-copied
returns-clause-copied g c = λ origin changes log.
    let old = c.args.log.now in
    let mid = c.copy_into.new.copy in
    let new = c.count_log.new.log in
    let seen = g.E.Disk.seen mid.disk in
    let left = g.E.Disk.may_leave mid.disk in
    as_counted (IsTrue (g.D.Disk.is_clean c.copy_into.new.self.disk)) (IsTrue (g.E.Disk.is_clean new.disk)) ((head_of origin ≡ head c.args.limit c.args.manifest.now) × HasChanges origin changes seen)
    (HasCount c.args.limit c.args.manifest.now seen) (λ n. IsLogOf origin changes (g.E.Disk.seen new.disk) (g.E.Disk.may_leave new.disk) new.end × (n ≡ reported_count (length changes)))
    c.count_log.result c.count_log.ensures.count
    (λ clean clean_copy n h.
    let rest : IsAtRest seen left mid.end (records_of origin log.scripts) = c.in_ok-copy_into.ensures.copied (records_of origin log.scripts) log.at_rest clean (c.count_log.ensures.clean clean_copy) in
    let copy : IsLogOf origin changes seen left mid.end = log_of_copy origin changes (g.D.Disk.seen old.disk) (g.D.Disk.may_leave old.disk) old.end log seen left mid.end rest in
    (own_count c.files_have_one_reading.ensures origin changes seen left mid.end copy c.args.limit c.args.manifest.now n h, log_has_changes origin changes seen left mid.end copy))
    (λ both. c.count_log.ensures.opened origin changes both.0 both.1)

pub returns-clause-readable : goal.returns-clause-readable
returns-clause-readable g c = λ origin changes log.
    let mid = c.copy_into.new.copy in
    let rs = records_of origin log.scripts in
    on_ok c.count_log.result
    (λ alone clean clean_copy.
    let still = c.count_log.ensures.clean clean_copy in
    let rest : IsAtRest (g.E.Disk.seen mid.disk) (g.E.Disk.may_leave mid.disk) mid.end rs = c.in_ok-copy_into.ensures.copied rs log.at_rest clean still in
    let its : IsLog (g.E.Disk.seen mid.disk) rs = rest_is_log (g.E.Disk.seen mid.disk) (g.E.Disk.may_leave mid.disk) mid.end rs rest in
    subst (λ f. IsReadable f rs) (sym (alone clean_copy (header (head_of origin)) (snapshot_records origin.snapshot ++ log.scripts) its)) (c.in_ok-copy_into.ensures.readable rs log.at_rest clean still))
    c.count_log.ensures.read_alone

-- ---- what a crash leaves

pub returns-in_err-copy_into-clause-crash : goal.returns-in_err-copy_into-clause-crash
returns-in_err-copy_into-clause-crash g c = λ origin changes log clean clean_copy none file left.
    let old = c.args.log.now in
    crash_of_copy origin changes (g.D.Disk.seen old.disk) (g.D.Disk.may_leave old.disk) old.end log file (c.copy_into.ensures.crash (records_of origin log.scripts) log.at_rest clean none file left)

pub returns-clause-crash : goal.returns-clause-crash
returns-clause-crash g c = λ origin changes log clean clean_copy none file left.
    let old = c.args.log.now in
    let mid = c.copy_into.new.copy in
    let rs = records_of origin log.scripts in
    let rest : IsAtRest (g.E.Disk.seen mid.disk) (g.E.Disk.may_leave mid.disk) mid.end rs = c.in_ok-copy_into.ensures.copied rs log.at_rest clean (c.count_log.ensures.clean clean_copy) in
    let its : IsLog (g.E.Disk.seen mid.disk) rs = rest_is_log (g.E.Disk.seen mid.disk) (g.E.Disk.may_leave mid.disk) mid.end rs rest in
    crash_of_copy origin changes (g.D.Disk.seen old.disk) (g.D.Disk.may_leave old.disk) old.end log file (inr (some_stay origin log.scripts file (header (head c.args.limit c.args.manifest.now)) (c.count_log.ensures.records clean_copy rs its file left)))

-- ---- what stays as it was

pub returns-clause-empty : goal.returns-clause-empty
returns-clause-empty g c = any_ok c.count_log.result (λ clean_copy. c.in_ok-copy_into.ensures.empty (c.count_log.ensures.clean clean_copy))

pub returns-clause-kept_copy : goal.returns-clause-kept_copy
returns-clause-kept_copy g c = λ clean_copy some. absurd (some (c.in_ok-copy_into.ensures.empty (c.count_log.ensures.clean clean_copy)))

pub returns-in_err-copy_into-clause-same : goal.returns-in_err-copy_into-clause-same
returns-in_err-copy_into-clause-same g c = λ origin changes log.
    let old = c.args.log.now in
    let new = c.copy_into.new.self in
    still_log origin changes (g.D.Disk.seen old.disk) (g.D.Disk.may_leave old.disk) old.end log (g.D.Disk.seen new.disk) (g.D.Disk.may_leave new.disk) new.end c.copy_into.ensures.seen c.copy_into.ensures.end c.copy_into.ensures.kept

pub returns-clause-same : goal.returns-clause-same
returns-clause-same g c = λ origin changes log.
    let old = c.args.log.now in
    let new = c.copy_into.new.self in
    still_log origin changes (g.D.Disk.seen old.disk) (g.D.Disk.may_leave old.disk) old.end log (g.D.Disk.seen new.disk) (g.D.Disk.may_leave new.disk) new.end c.copy_into.ensures.seen c.copy_into.ensures.end c.copy_into.ensures.kept

-- ---- why there is none

pub returns-in_err-copy_into-clause-cause : goal.returns-in_err-copy_into-clause-cause
returns-in_err-copy_into-clause-cause g c = λ origin changes log.
    let old = c.args.log.now in
    let was = c.args.copy.now.disk in
    passed_on c.from_residual.result c.from_residual.ensures.1
    (λ e is clean clean_copy. subst (λ f. WhyNoCopy origin c.args.limit c.args.manifest.now (g.D.Disk.faults old.disk) (g.D.Disk.faults c.copy_into.new.self.disk) (g.E.Disk.faults was) (g.E.Disk.faults c.copy_into.new.copy.disk) old.end (g.E.Disk.seen was) f) (sym is)
    (inl (c.in_err-copy_into.ensures.cause (records_of origin log.scripts) log.at_rest clean clean_copy)))

pub returns-clause-cause : goal.returns-clause-cause
returns-clause-cause g c = λ origin changes log.
    let old = c.args.log.now in
    let was = c.args.copy.now.disk in
    let mid = c.copy_into.new.copy in
    let new = c.count_log.new.log in
    let seen = g.E.Disk.seen mid.disk in
    let left = g.E.Disk.may_leave mid.disk in
    let rs = records_of origin log.scripts in
    let faults = g.D.Disk.faults c.copy_into.new.self.disk in
    if_err c.count_log.result
    (λ e why clean clean_copy.
    let still = c.count_log.ensures.clean clean_copy in
    let rest : IsAtRest seen left mid.end rs = c.in_ok-copy_into.ensures.copied rs log.at_rest clean still in
    let copy : IsLogOf origin changes seen left mid.end = log_of_copy origin changes (g.D.Disk.seen old.disk) (g.D.Disk.may_leave old.disk) old.end log seen left mid.end rest in
    subst (λ n. WhyNoCopy origin c.args.limit c.args.manifest.now (g.D.Disk.faults old.disk) faults n (g.E.Disk.faults new.disk) old.end (g.E.Disk.seen was) e) c.in_ok-copy_into.ensures.faultless
    (no_copy c.files_have_one_reading.ensures origin changes seen left mid.end copy c.args.limit c.args.manifest.now (g.D.Disk.faults old.disk) faults (g.E.Disk.faults mid.disk) (g.E.Disk.faults new.disk) old.end (g.E.Disk.seen was)
    (c.in_ok-copy_into.ensures.readable rs log.at_rest clean still) e (why clean_copy)))
    c.count_log.ensures.cause
