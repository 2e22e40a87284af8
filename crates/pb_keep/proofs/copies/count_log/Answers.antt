use Rattle.std.proofs.Common.{◌≡◌, ◌⊎◌, ◌∷◌, [], List, ℕ, map, inl, Ok, ap, refl, sym, subst, ◌∙◌}
use Rattle.pb_log.specs.Records.{IsLog}
use Rattle.pb_log.proofs.ReadableFiles.{unwritten_left}
use Rattle.pb_keep.specs.Causes.{IsOfLogFile, IsOfReading}
use Rattle.pb_keep.specs.Copies.{WhyNotCounted}
use Rattle.pb_keep.specs.Kept.{changes_of, head, origin_of, HasChanges}
use Rattle.pb_keep.specs.Words.{HasRecords, IsAtRest, WhyNotOpened, header}
use Rattle.pb_keep.proofs.Causing.{read_not_of_file}
use Rattle.pb_keep.proofs.Copying.{counted_log, is_counted, why_not_counted}
use Rattle.pb_keep.proofs.Mapping.{any_ok, if_err, if_ok, passed_on}
use Rattle.pb_keep.proofs.Putting.{kept_changes}
use Rattle.pb_keep.proofs.Records.{same_records}
use Rattle.pb_keep.proofs.copies.count_log.Goals as goal

pub returns-clause-count : goal.returns-clause-count
returns-clause-count g c =
    let all = map (λ v. v.items) c.in_ok-records.records.items in
    let scripts = map (λ v. v.items) c.drop_snapshot.new.records.items in
    if_ok c.count_changes.result
    (λ n h clean. record {
      records = all;
      has = subst (λ m. HasRecords m all (g.D.Disk.seen c.args.log.now.disk)) (c.deref.ensures.value ∙ c.in_ok-head.ensures.exact) (c.in_ok-records.ensures.records clean);
      scripts = scripts;
      parts = c.drop_snapshot.ensures.parts;
      changes = h.0;
      make = ap (λ l. changes_of (map (λ v. v.items) l)) (sym c.deref-2.ensures.value) ∙ h.1;
      count = h.2;
    })
    c.count_changes.ensures.counted

-- ---- the log that is open then

pub returns-clause-at_rest : goal.returns-clause-at_rest
returns-clause-at_rest g c = λ records has.
    let file = g.D.Disk.seen c.args.log.now.disk in
    let log = c.open.new.self in
    let m = head c.args.limit c.args.manifest.now in
    let all = map (λ v. v.items) c.in_ok-records.records.items in
    any_ok c.count_changes.result
    (λ clean. subst (λ rs. IsAtRest (g.D.Disk.seen log.disk) (g.D.Disk.may_leave log.disk) log.end (header m ∷ rs)) (same_records c.files_have_one_reading.ensures m all records file (subst (λ h. HasRecords h all file) (c.deref.ensures.value ∙ c.in_ok-head.ensures.exact) (c.in_ok-records.ensures.records clean)) has)
    (subst (λ h. IsAtRest (g.D.Disk.seen log.disk) (g.D.Disk.may_leave log.disk) log.end (header h ∷ all)) (c.deref.ensures.value ∙ c.in_ok-head.ensures.exact) (c.in_ok-records.ensures.at_rest clean)))

pub returns-clause-read_alone : goal.returns-clause-read_alone
returns-clause-read_alone g c = any_ok c.count_changes.result c.in_ok-records.ensures.read_alone

pub returns-clause-opened : goal.returns-clause-opened
returns-clause-opened g c = λ origin changes same had.
    let file = g.D.Disk.seen c.args.log.now.disk in
    let log = c.open.new.self in
    let m = head c.args.limit c.args.manifest.now in
    let all = map (λ v. v.items) c.in_ok-records.records.items in
    let scripts = map (λ v. v.items) c.drop_snapshot.new.records.items in
    if_ok c.count_changes.result
    (λ n h clean.
    let has : HasRecords m all file = subst (λ h. HasRecords h all file) (c.deref.ensures.value ∙ c.in_ok-head.ensures.exact) (c.in_ok-records.ensures.records clean) in
    let rest : IsAtRest (g.D.Disk.seen log.disk) (g.D.Disk.may_leave log.disk) log.end (header m ∷ all) = subst (λ h. IsAtRest (g.D.Disk.seen log.disk) (g.D.Disk.may_leave log.disk) log.end (header h ∷ all)) (c.deref.ensures.value ∙ c.in_ok-head.ensures.exact) (c.in_ok-records.ensures.at_rest clean) in (
      counted_log c.files_have_one_reading.ensures m file all scripts has c.drop_snapshot.ensures.parts origin changes same had (g.D.Disk.seen log.disk) (g.D.Disk.may_leave log.disk) log.end rest,
      is_counted c.files_have_one_reading.ensures m file all scripts has c.drop_snapshot.ensures.parts origin changes same had h.0 n (ap (λ l. changes_of (map (λ v. v.items) l)) (sym c.deref-2.ensures.value) ∙ h.1) h.2,
    ))
    c.count_changes.ensures.counted

-- ---- why it isn't

pub returns-in_err-records-clause-cause : goal.returns-in_err-records-clause-cause
returns-in_err-records-clause-cause g c =
    let file = g.D.Disk.seen c.args.log.now.disk in
    let was = g.D.Disk.faults c.args.log.now.disk in
    let now = g.D.Disk.faults c.open.new.self.disk in
    passed_on c.from_residual-in_err-records.result c.from_residual-in_err-records.ensures.1
    (λ e is clean. subst (λ f. WhyNotCounted c.args.limit c.args.manifest.now was now file f) (sym is)
    (subst (λ h. WhyNotOpened h was now file c.in_err-records.field-0.0) (c.deref.ensures.value ∙ c.in_ok-head.ensures.exact) (c.in_err-records.ensures.cause clean)))

pub returns-clause-cause : goal.returns-clause-cause
returns-clause-cause g c =
    let file = g.D.Disk.seen c.args.log.now.disk in
    let all = map (λ v. v.items) c.in_ok-records.records.items in
    let scripts = map (λ v. v.items) c.drop_snapshot.new.records.items in
    if_err c.count_changes.result
    (λ e of clean. why_not_counted c.args.limit c.args.manifest.now (g.D.Disk.faults c.args.log.now.disk) (g.D.Disk.faults c.open.new.self.disk) file all scripts
    (subst (λ h. HasRecords h all file) (c.deref.ensures.value ∙ c.in_ok-head.ensures.exact) (c.in_ok-records.ensures.records clean)) c.drop_snapshot.ensures.parts e (subst (λ l. IsOfReading (map (λ v. v.items) l) e) c.deref-2.ensures.value of))
    c.count_changes.ensures.why

-- ---- what a fault leaves of the file

pub returns-in_err-head-clause-same : goal.returns-in_err-head-clause-same
returns-in_err-head-clause-same g c =
    let file = g.D.Disk.seen c.args.log.now.disk in
    passed_on c.from_residual.result c.from_residual.ensures.1
    (λ e is. subst (λ f. IsOfLogFile f → file ≡ file) (sym is) (λ of. refl))

pub returns-in_err-records-clause-same : goal.returns-in_err-records-clause-same
returns-in_err-records-clause-same g c =
    let file = g.D.Disk.seen c.args.log.now.disk in
    passed_on c.from_residual-in_err-records.result c.from_residual-in_err-records.ensures.1
    (λ e is. subst (λ f. IsOfLogFile f → g.D.Disk.seen c.open.new.self.disk ≡ file) (sym is) c.in_err-records.ensures.kept)

pub returns-clause-same : goal.returns-clause-same
returns-clause-same g c =
    if_err c.count_changes.result
    (λ e why of. absurd (read_not_of_file (map (λ v. v.items) c.deref-2.result.now) e why of))
    c.count_changes.ensures.why

-- ---- what a crash leaves

pub returns-in_err-head-clause-records : goal.returns-in_err-head-clause-records
returns-in_err-head-clause-records g c clean rs its f left = inl (subst (λ x. IsLog x rs) (sym (c.requires.restarted f left)) its)

pub returns-in_err-records-clause-records : goal.returns-in_err-records-clause-records
returns-in_err-records-clause-records g c clean rs its f left =
    subst (λ h. IsLog f rs ⊎ ((rs ≡ []) × IsLog f (header h ∷ []))) (c.deref.ensures.value ∙ c.in_ok-head.ensures.exact) (c.open.ensures.crash clean rs its f left)

pub returns-clause-records : goal.returns-clause-records
returns-clause-records g c clean rs its f left =
    subst (λ h. IsLog f rs ⊎ ((rs ≡ []) × IsLog f (header h ∷ []))) (c.deref.ensures.value ∙ c.in_ok-head.ensures.exact) (c.open.ensures.crash clean rs its f left)

pub returns-in_err-head-clause-crash : goal.returns-in_err-head-clause-crash
returns-in_err-head-clause-crash g c clean snapshot changes h f left =
    subst (λ x. HasChanges (origin_of c.args.limit c.args.manifest.now snapshot) changes x) (sym (c.requires.restarted f left)) h

pub returns-in_err-records-clause-crash : goal.returns-in_err-records-clause-crash
returns-in_err-records-clause-crash g c clean snapshot changes h f left =
    kept_changes c.args.limit c.args.manifest.now snapshot changes (g.D.Disk.seen c.args.log.now.disk) f h (λ rs its. returns-in_err-records-clause-records g c clean rs its f left)

pub returns-clause-crash : goal.returns-clause-crash
returns-clause-crash g c clean snapshot changes h f left =
    kept_changes c.args.limit c.args.manifest.now snapshot changes (g.D.Disk.seen c.args.log.now.disk) f h (λ rs its. returns-clause-records g c clean rs its f left)

-- ---- the gates that it leaves

pub returns-in_err-head-clause-shut : goal.returns-in_err-head-clause-shut
returns-in_err-head-clause-shut g c mixes clean rs readable f left =
    unwritten_left (g.D.Disk.seen c.args.log.now.disk) rs (g.D.Disk.may_leave c.args.log.now.disk) readable c.requires.restarted f left

pub returns-in_err-records-clause-shut : goal.returns-in_err-records-clause-shut
returns-in_err-records-clause-shut g c mixes clean rs readable f left = c.open.ensures.shut mixes clean rs readable f left

pub returns-clause-shut : goal.returns-clause-shut
returns-clause-shut g c mixes clean rs readable f left = c.open.ensures.shut mixes clean rs readable f left
