use Rattle.std.proofs.Common.{◌≡◌, ◌⊎◌, ◌∷◌, [], inl, map, refl, subst, sym, ◌∙◌}
use Rattle.pb_log.specs.Records.{IsLog}
use Rattle.pb_log.proofs.ReadableFiles.{unwritten_left}
use Rattle.pb_keep.specs.Causes.{IsOfLogFile, WhyNotMadeAgain}
use Rattle.pb_keep.specs.Conversations.{KeeperView}
use Rattle.pb_keep.specs.Kept.{head, origin_of, HasChanges}
use Rattle.pb_keep.specs.Words.{HasRecords, IsAtRest, WhyNotOpened, header, kept_table}
use Rattle.pb_keep.proofs.Causing.{first_not_of_file, made_not_of_file, not_begun, not_made_again}
use Rattle.pb_keep.proofs.Mapping.{both_oks, if_err, if_ok, passed_on}
use Rattle.pb_keep.proofs.Putting.{kept_changes}
use Rattle.pb_keep.proofs.Serving.{serves_none}
use Rattle.pb_keep.proofs.keeper.Keeper.open.Goals as goal

pub returns-clause-kept : goal.returns-clause-kept
returns-clause-kept g c = λ written.
    let log = c.open.new.self in
    let b = c.in_ok-self.ensures.begun in
    let first = kept_table c.begin.new.state c.begin.new.stats.items in
    both_oks c.make_records_anew.result
    (λ n h texts clean. record {
      origin = origin_of c.args.self.now.limit c.args.manifest.now b.snapshot;
      limit_is = refl;
      manifest_is = refl;
      first = first;
      first_is = b.first_is;
      changes = h.0;
      had = record {
        fits = b.fits;
        scripts = map (λ v. v.items) c.begin.new.records.items;
        has = subst (λ rs. HasRecords (head c.args.self.now.limit c.args.manifest.now) rs (g.D.Disk.seen c.args.self.now.log.disk)) b.records_are (subst (λ h. HasRecords h (map (λ v. v.items) c.in_ok-records.records.items) (g.D.Disk.seen c.args.self.now.log.disk)) (c.deref.ensures.value ∙ c.in_ok-head.ensures.exact) (c.in_ok-records.ensures.records clean));
        make = h.1;
        texts = texts;
      };
      log = record {
        fits = b.fits;
        scripts = map (λ v. v.items) c.begin.new.records.items;
        at_rest = subst (λ rs. IsAtRest (g.D.Disk.seen log.disk) (g.D.Disk.may_leave log.disk) log.end (header (head c.args.self.now.limit c.args.manifest.now) ∷ rs)) b.records_are
            (subst (λ h. IsAtRest (g.D.Disk.seen log.disk) (g.D.Disk.may_leave log.disk) log.end (header h ∷ map (λ v. v.items) c.in_ok-records.records.items)) (c.deref.ensures.value ∙ c.in_ok-head.ensures.exact) (c.in_ok-records.ensures.at_rest clean));
        make = h.1;
        texts = texts;
      };
      since = b.since_is;
      keeps = λ past began. (h.2 first [] (c.tables_keep_their_changes.ensures.beginning c.args.self.now.limit past first began)).leads;
      count = h.3;
    })
    c.make_records_anew.ensures.keeps c.make_records_anew.ensures.texts

pub returns-clause-serves : goal.returns-clause-serves
returns-clause-serves g c = λ written idle.
    let log = c.open.new.self in
    let made = c.make_records_anew.new in
    let new : KeeperView = record { seen = g.D.Disk.seen log.disk; may_leave = g.D.Disk.may_leave log.disk; end = log.end; table = kept_table made.state made.stats.items; since = c.in_ok-self.field-0.0; limit = c.args.self.now.limit; waiting = c.args.self.now.waiting; written = written } in
    if_ok c.make_records_anew.result
    (λ n opened clean.
    let o = opened clean in
    (o, λ past began. serves_none o.origin o.first o.changes new o.since (sym o.limit_is) o.log (record { past = past; began = began; leads = o.keeps past began }) idle))
    (returns-clause-kept g c written)

pub returns-in_err-records-clause-cause : goal.returns-in_err-records-clause-cause
returns-in_err-records-clause-cause g c =
    let old = c.args.self.now in
    passed_on c.from_residual-in_err-records.result c.from_residual-in_err-records.ensures.1
    (λ e is clean. subst (λ f. WhyNotMadeAgain old.limit old.state.observers c.args.manifest.now (g.D.Disk.faults old.log.disk) (g.D.Disk.faults c.open.new.self.disk) (g.D.Disk.seen old.log.disk) old.state f) (sym is)
    (subst (λ h. WhyNotOpened h (g.D.Disk.faults old.log.disk) (g.D.Disk.faults c.open.new.self.disk) (g.D.Disk.seen old.log.disk) c.in_err-records.field-0.0) (c.deref.ensures.value ∙ c.in_ok-head.ensures.exact) (c.in_err-records.ensures.cause clean)))

pub returns-in_err-self-clause-cause : goal.returns-in_err-self-clause-cause
returns-in_err-self-clause-cause g c =
    let old = c.args.self.now in
    passed_on c.from_residual-in_err-self.result c.from_residual-in_err-self.ensures.1
    (λ e is clean. subst (λ f. WhyNotMadeAgain old.limit old.state.observers c.args.manifest.now (g.D.Disk.faults old.log.disk) (g.D.Disk.faults c.open.new.self.disk) (g.D.Disk.seen old.log.disk) c.begin.new.state f) (sym is)
    (not_begun old.limit old.state.observers c.args.manifest.now (g.D.Disk.faults old.log.disk) (g.D.Disk.faults c.open.new.self.disk) (g.D.Disk.seen old.log.disk) (map (λ v. v.items) c.in_ok-records.records.items) c.begin.new.state c.in_err-self.field-0.0 c.in_err-self.ensures.why (subst (λ h. HasRecords h (map (λ v. v.items) c.in_ok-records.records.items) (g.D.Disk.seen c.args.self.now.log.disk)) (c.deref.ensures.value ∙ c.in_ok-head.ensures.exact) (c.in_ok-records.ensures.records clean))))

pub returns-clause-cause : goal.returns-clause-cause
returns-clause-cause g c =
    let old = c.args.self.now in
    let b = c.in_ok-self.ensures.begun in
    if_err c.make_records_anew.result
    (λ e of clean. not_made_again c.files_have_one_reading.ensures c.snapshots_are_no_texts.ensures c.tables_keep_their_changes.ensures.beginning old.limit old.state.observers c.args.manifest.now (g.D.Disk.faults old.log.disk) (g.D.Disk.faults c.open.new.self.disk) c.in_ok-self.field-0.0 (g.D.Disk.seen old.log.disk)
    (map (λ v. v.items) c.in_ok-records.records.items) (map (λ v. v.items) c.begin.new.records.items) (kept_table c.begin.new.state c.begin.new.stats.items) c.make_records_anew.new.state b (subst (λ h. HasRecords h (map (λ v. v.items) c.in_ok-records.records.items) (g.D.Disk.seen c.args.self.now.log.disk)) (c.deref.ensures.value ∙ c.in_ok-head.ensures.exact) (c.in_ok-records.ensures.records clean)) e of)
    c.make_records_anew.ensures.why

-- ---- what a fault leaves of the file

pub returns-in_err-head-clause-same : goal.returns-in_err-head-clause-same
returns-in_err-head-clause-same g c =
    let file = g.D.Disk.seen c.args.self.now.log.disk in
    passed_on c.from_residual.result c.from_residual.ensures.1
    (λ e is. subst (λ f. IsOfLogFile f → file ≡ file) (sym is) (λ of. refl))

pub returns-in_err-records-clause-same : goal.returns-in_err-records-clause-same
returns-in_err-records-clause-same g c =
    let file = g.D.Disk.seen c.args.self.now.log.disk in
    passed_on c.from_residual-in_err-records.result c.from_residual-in_err-records.ensures.1
    (λ e is. subst (λ f. IsOfLogFile f → g.D.Disk.seen c.open.new.self.disk ≡ file) (sym is) c.in_err-records.ensures.kept)

pub returns-in_err-self-clause-same : goal.returns-in_err-self-clause-same
returns-in_err-self-clause-same g c =
    let old = c.args.self.now in
    passed_on c.from_residual-in_err-self.result c.from_residual-in_err-self.ensures.1
    (λ e is. subst (λ f. IsOfLogFile f → g.D.Disk.seen c.open.new.self.disk ≡ g.D.Disk.seen old.log.disk) (sym is)
    (λ of. absurd (first_not_of_file old.state.observers (map (λ v. v.items) c.in_ok-records.records.items) c.in_err-self.field-0.0 c.in_err-self.ensures.why of)))

pub returns-clause-same : goal.returns-clause-same
returns-clause-same g c =
    let old = kept_table c.begin.new.state c.begin.new.stats.items in
    if_err c.make_records_anew.result
    (λ e why of. absurd (made_not_of_file c.args.self.now.limit (map (λ v. v.items) c.begin.new.records.items) old c.make_records_anew.new.state e why of))
    c.make_records_anew.ensures.why

-- ---- what a crash leaves

pub returns-in_err-head-clause-records : goal.returns-in_err-head-clause-records
returns-in_err-head-clause-records g c clean rs its f left = inl (subst (λ x. IsLog x rs) (sym (c.requires.restarted f left)) its)

pub returns-in_err-records-clause-records : goal.returns-in_err-records-clause-records
returns-in_err-records-clause-records g c clean rs its f left =
    subst (λ h. IsLog f rs ⊎ ((rs ≡ []) × IsLog f (header h ∷ []))) (c.deref.ensures.value ∙ c.in_ok-head.ensures.exact) (c.open.ensures.crash clean rs its f left)

pub returns-in_err-self-clause-records : goal.returns-in_err-self-clause-records
returns-in_err-self-clause-records g c clean rs its f left =
    subst (λ h. IsLog f rs ⊎ ((rs ≡ []) × IsLog f (header h ∷ []))) (c.deref.ensures.value ∙ c.in_ok-head.ensures.exact) (c.open.ensures.crash clean rs its f left)

pub returns-clause-records : goal.returns-clause-records
returns-clause-records g c clean rs its f left =
    subst (λ h. IsLog f rs ⊎ ((rs ≡ []) × IsLog f (header h ∷ []))) (c.deref.ensures.value ∙ c.in_ok-head.ensures.exact) (c.open.ensures.crash clean rs its f left)

pub returns-in_err-head-clause-crash : goal.returns-in_err-head-clause-crash
returns-in_err-head-clause-crash g c clean snapshot changes h f left =
    subst (λ x. HasChanges (origin_of c.args.self.now.limit c.args.manifest.now snapshot) changes x) (sym (c.requires.restarted f left)) h

pub returns-in_err-records-clause-crash : goal.returns-in_err-records-clause-crash
returns-in_err-records-clause-crash g c clean snapshot changes h f left =
    kept_changes c.args.self.now.limit c.args.manifest.now snapshot changes (g.D.Disk.seen c.args.self.now.log.disk) f h (λ rs its. returns-in_err-records-clause-records g c clean rs its f left)

pub returns-in_err-self-clause-crash : goal.returns-in_err-self-clause-crash
returns-in_err-self-clause-crash g c clean snapshot changes h f left =
    kept_changes c.args.self.now.limit c.args.manifest.now snapshot changes (g.D.Disk.seen c.args.self.now.log.disk) f h (λ rs its. returns-in_err-self-clause-records g c clean rs its f left)

pub returns-clause-crash : goal.returns-clause-crash
returns-clause-crash g c clean snapshot changes h f left =
    kept_changes c.args.self.now.limit c.args.manifest.now snapshot changes (g.D.Disk.seen c.args.self.now.log.disk) f h (λ rs its. returns-clause-records g c clean rs its f left)

-- ---- the gates that it leaves

pub returns-in_err-head-clause-shut : goal.returns-in_err-head-clause-shut
returns-in_err-head-clause-shut g c mixes clean rs readable f left =
    unwritten_left (g.D.Disk.seen c.args.self.now.log.disk) rs (g.D.Disk.may_leave c.args.self.now.log.disk) readable c.requires.restarted f left

pub returns-in_err-records-clause-shut : goal.returns-in_err-records-clause-shut
returns-in_err-records-clause-shut g c mixes clean rs readable f left = c.open.ensures.shut mixes clean rs readable f left

pub returns-in_err-self-clause-shut : goal.returns-in_err-self-clause-shut
returns-in_err-self-clause-shut g c mixes clean rs readable f left = c.open.ensures.shut mixes clean rs readable f left

pub returns-clause-shut : goal.returns-clause-shut
returns-clause-shut g c mixes clean rs readable f left = c.open.ensures.shut mixes clean rs readable f left
