use Rattle.std.proofs.Common.{◌≡◌, ◌⊎◌, ◌∙◌, ◌∷◌, [], Ok, inl, ap, map, refl, subst, sym}
use Rattle.pb_log.specs.Records.{IsLog}
use Rattle.pb_log.proofs.ReadableFiles.{unwritten_left}
use Rattle.pb_keep.specs.Causes.{IsOfLogFile, IsOfReading, WhyNotMadeAgain}
use Rattle.pb_keep.specs.Kept.{changes_of, head, origin_of, AreTexts, HasChanges}
use Rattle.pb_keep.specs.Words.{HasRecords, IsAtRest, WhyNotOpened, header, kept_table}
use Rattle.pb_keep.proofs.Causing.{first_not_of_file, not_begun, read_not_of_file}
use Rattle.pb_keep.proofs.FirstOpening.{has_log, not_counted, stopped_in_making}
use Rattle.pb_keep.proofs.Mapping.{passed_on}
use Rattle.pb_keep.proofs.Putting.{kept_changes}
use Rattle.pb_keep.proofs.keeper.Keeper.open_first.Goals as goal

pub returns-in-Ok-clause-made : goal.returns-in-Ok-clause-made
returns-in-Ok-clause-made g c = λ written clean.
    let log = c.open.new.self in
    let b = c.in_ok-self.ensures.begun in
    let file = g.D.Disk.seen c.args.self.now.log.disk in
    let first = kept_table c.begin.new.state c.begin.new.stats.items in
    let scripts = map (λ v. v.items) c.begin.new.records.items in
    let counted = c.in_ok-all.ensures.counted in
    let reads : changes_of scripts ≡ Ok counted.0 = ap (λ l. changes_of (map (λ v. v.items) l)) (sym c.deref-2.ensures.value) ∙ counted.1 in
    let texts : AreTexts scripts = subst (λ l. AreTexts (map (λ v. v.items) l)) c.deref-2.ensures.value c.in_ok-all.ensures.texts in
    let made = c.in-Ok.ensures.first counted.0 reads in
    record {
      found = has_log c.args.self.now.limit c.args.self.now.state.observers c.args.manifest.now file (map (λ v. v.items) c.in_ok-records.records.items) scripts c.in_ok-self.field-0.0 first counted.0 b (subst (λ h. HasRecords h (map (λ v. v.items) c.in_ok-records.records.items) (g.D.Disk.seen c.args.self.now.log.disk)) (c.deref.ensures.value ∙ c.in_ok-head.ensures.exact) (c.in_ok-records.ensures.records clean)) reads texts;
      log = record {
        fits = b.fits;
        scripts = scripts;
        at_rest = subst (λ rs. IsAtRest (g.D.Disk.seen log.disk) (g.D.Disk.may_leave log.disk) log.end (header (head c.args.self.now.limit c.args.manifest.now) ∷ rs)) b.records_are
            (subst (λ h. IsAtRest (g.D.Disk.seen log.disk) (g.D.Disk.may_leave log.disk) log.end (header h ∷ map (λ v. v.items) c.in_ok-records.records.items)) (c.deref.ensures.value ∙ c.in_ok-head.ensures.exact) (c.in_ok-records.ensures.at_rest clean));
        make = reads;
        texts = texts;
      };
      since = b.since_is;
      keeps = λ past began. (made.keeps first [] (c.tables_keep_their_changes.ensures.beginning c.args.self.now.limit past first began)).leads;
      made_is = made.count;
      all_is = counted.2;
    }

pub returns-clause-made : goal.returns-clause-made
returns-clause-made g c = λ written clean.
    let b = c.in_ok-self.ensures.begun in
    let file = g.D.Disk.seen c.args.self.now.log.disk in
    let first = kept_table c.begin.new.state c.begin.new.stats.items in
    let scripts = map (λ v. v.items) c.begin.new.records.items in
    let counted = c.in_ok-all.ensures.counted in
    let reads : changes_of scripts ≡ Ok counted.0 = ap (λ l. changes_of (map (λ v. v.items) l)) (sym c.deref-2.ensures.value) ∙ counted.1 in
    let texts : AreTexts scripts = subst (λ l. AreTexts (map (λ v. v.items) l)) c.deref-2.ensures.value c.in_ok-all.ensures.texts in
    let some = c.in-Err.ensures.some counted.0 reads in
    record {
      found = has_log c.args.self.now.limit c.args.self.now.state.observers c.args.manifest.now file (map (λ v. v.items) c.in_ok-records.records.items) scripts c.in_ok-self.field-0.0 first counted.0 b (subst (λ h. HasRecords h (map (λ v. v.items) c.in_ok-records.records.items) (g.D.Disk.seen c.args.self.now.log.disk)) (c.deref.ensures.value ∙ c.in_ok-head.ensures.exact) (c.in_ok-records.ensures.records clean)) reads texts;
      done = some.done;
      rest = some.rest;
      parts = some.parts;
      reached = some.reached;
      keeps = λ past began. (some.keeps first [] (c.tables_keep_their_changes.ensures.beginning c.args.self.now.limit past first began)).leads;
      left = some.left;
      made_is = some.count;
      of_making = stopped_in_making scripts counted.0 reads texts c.in-Err.fault c.in-Err.ensures.why;
      right = λ past began. c.in-Err.ensures.right first [] (c.tables_keep_their_changes.ensures.beginning c.args.self.now.limit past first began);
    }

pub returns-in_err-records-clause-cause : goal.returns-in_err-records-clause-cause
returns-in_err-records-clause-cause g c =
    let old = c.args.self.now in
    passed_on c.from_residual-in_err-records.result c.from_residual-in_err-records.ensures.1
    (λ e is clean. subst (λ f. WhyNotMadeAgain old.limit old.state.observers c.args.manifest.now (g.D.Disk.faults old.log.disk) (g.D.Disk.faults c.open.new.self.disk) (g.D.Disk.seen old.log.disk) old.state f) (sym is)
    (subst (λ h. WhyNotOpened h (g.D.Disk.faults old.log.disk) (g.D.Disk.faults c.open.new.self.disk) (g.D.Disk.seen old.log.disk) c.in_err-records.field-0.0) (c.deref.ensures.value ∙ c.in_ok-head.ensures.exact) (c.in_err-records.ensures.cause clean)))

pub returns-in_err-self-clause-cause : goal.returns-in_err-self-clause-cause
returns-in_err-self-clause-cause g c =
    let old = c.args.self.now in
    passed_on c.from_residual-in_err-self.result c.from_residual-in_err-self.ensures.1
    (λ e is clean. subst (λ f. WhyNotMadeAgain old.limit old.state.observers c.args.manifest.now (g.D.Disk.faults old.log.disk) (g.D.Disk.faults c.open.new.self.disk) (g.D.Disk.seen old.log.disk) c.begin.new.state f) (sym is)
    (not_begun old.limit old.state.observers c.args.manifest.now (g.D.Disk.faults old.log.disk) (g.D.Disk.faults c.open.new.self.disk) (g.D.Disk.seen old.log.disk) (map (λ v. v.items) c.in_ok-records.records.items) c.begin.new.state c.in_err-self.field-0.0 c.in_err-self.ensures.why (subst (λ h. HasRecords h (map (λ v. v.items) c.in_ok-records.records.items) (g.D.Disk.seen c.args.self.now.log.disk)) (c.deref.ensures.value ∙ c.in_ok-head.ensures.exact) (c.in_ok-records.ensures.records clean))))

pub returns-in_err-all-clause-cause : goal.returns-in_err-all-clause-cause
returns-in_err-all-clause-cause g c =
    let old = c.args.self.now in
    passed_on c.from_residual-in_err-all.result c.from_residual-in_err-all.ensures.1
    (λ e is clean. subst (λ f. WhyNotMadeAgain old.limit old.state.observers c.args.manifest.now (g.D.Disk.faults old.log.disk) (g.D.Disk.faults c.open.new.self.disk) (g.D.Disk.seen old.log.disk) c.begin.new.state f) (sym is)
    (not_counted c.files_have_one_reading.ensures c.snapshots_are_no_texts.ensures old.limit old.state.observers c.args.manifest.now (g.D.Disk.faults old.log.disk) (g.D.Disk.faults c.open.new.self.disk) c.in_ok-self.field-0.0 (g.D.Disk.seen old.log.disk)
    (map (λ v. v.items) c.in_ok-records.records.items) (map (λ v. v.items) c.begin.new.records.items) (kept_table c.begin.new.state c.begin.new.stats.items) c.begin.new.state c.in_ok-self.ensures.begun
    (subst (λ h. HasRecords h (map (λ v. v.items) c.in_ok-records.records.items) (g.D.Disk.seen old.log.disk)) (c.deref.ensures.value ∙ c.in_ok-head.ensures.exact) (c.in_ok-records.ensures.records clean)) c.in_err-all.field-0.0
    (subst (λ l. IsOfReading (map (λ v. v.items) l) c.in_err-all.field-0.0) c.deref-2.ensures.value c.in_err-all.ensures.why)))

-- ---- what a fault leaves of the file

pub returns-in_err-head-clause-same : goal.returns-in_err-head-clause-same
returns-in_err-head-clause-same g c =
    let file = g.D.Disk.seen c.args.self.now.log.disk in
    passed_on c.from_residual.result c.from_residual.ensures.1
    (λ e is. subst (λ f. IsOfLogFile f → file ≡ file) (sym is) (λ of. refl))

pub returns-in_err-records-clause-same : goal.returns-in_err-records-clause-same
returns-in_err-records-clause-same g c =
    let file = g.D.Disk.seen c.args.self.now.log.disk in
    passed_on c.from_residual-in_err-records.result c.from_residual-in_err-records.ensures.1
    (λ e is. subst (λ f. IsOfLogFile f → g.D.Disk.seen c.open.new.self.disk ≡ file) (sym is) c.in_err-records.ensures.kept)

pub returns-in_err-self-clause-same : goal.returns-in_err-self-clause-same
returns-in_err-self-clause-same g c =
    let old = c.args.self.now in
    passed_on c.from_residual-in_err-self.result c.from_residual-in_err-self.ensures.1
    (λ e is. subst (λ f. IsOfLogFile f → g.D.Disk.seen c.open.new.self.disk ≡ g.D.Disk.seen old.log.disk) (sym is)
    (λ of. absurd (first_not_of_file old.state.observers (map (λ v. v.items) c.in_ok-records.records.items) c.in_err-self.field-0.0 c.in_err-self.ensures.why of)))

pub returns-in_err-all-clause-same : goal.returns-in_err-all-clause-same
returns-in_err-all-clause-same g c =
    let old = c.args.self.now in
    passed_on c.from_residual-in_err-all.result c.from_residual-in_err-all.ensures.1
    (λ e is. subst (λ f. IsOfLogFile f → g.D.Disk.seen c.open.new.self.disk ≡ g.D.Disk.seen old.log.disk) (sym is)
    (λ of. absurd (read_not_of_file (map (λ v. v.items) c.deref-2.result.now) c.in_err-all.field-0.0 c.in_err-all.ensures.why of)))

-- ---- what a crash leaves

pub returns-in_err-head-clause-records : goal.returns-in_err-head-clause-records
returns-in_err-head-clause-records g c clean rs its f left = inl (subst (λ x. IsLog x rs) (sym (c.requires.restarted f left)) its)

pub returns-in_err-head-clause-crash : goal.returns-in_err-head-clause-crash
returns-in_err-head-clause-crash g c clean snapshot changes h f left =
    subst (λ x. HasChanges (origin_of c.args.self.now.limit c.args.manifest.now snapshot) changes x) (sym (c.requires.restarted f left)) h

pub returns-in_err-records-clause-records : goal.returns-in_err-records-clause-records
returns-in_err-records-clause-records g c clean rs its f left =
    subst (λ h. IsLog f rs ⊎ ((rs ≡ []) × IsLog f (header h ∷ []))) (c.deref.ensures.value ∙ c.in_ok-head.ensures.exact) (c.open.ensures.crash clean rs its f left)

pub returns-in_err-records-clause-crash : goal.returns-in_err-records-clause-crash
returns-in_err-records-clause-crash g c clean snapshot changes h f left =
    kept_changes c.args.self.now.limit c.args.manifest.now snapshot changes (g.D.Disk.seen c.args.self.now.log.disk) f h (λ rs its. returns-in_err-records-clause-records g c clean rs its f left)

pub returns-in_err-self-clause-records : goal.returns-in_err-self-clause-records
returns-in_err-self-clause-records g c clean rs its f left =
    subst (λ h. IsLog f rs ⊎ ((rs ≡ []) × IsLog f (header h ∷ []))) (c.deref.ensures.value ∙ c.in_ok-head.ensures.exact) (c.open.ensures.crash clean rs its f left)

pub returns-in_err-self-clause-crash : goal.returns-in_err-self-clause-crash
returns-in_err-self-clause-crash g c clean snapshot changes h f left =
    kept_changes c.args.self.now.limit c.args.manifest.now snapshot changes (g.D.Disk.seen c.args.self.now.log.disk) f h (λ rs its. returns-in_err-self-clause-records g c clean rs its f left)

pub returns-in_err-all-clause-records : goal.returns-in_err-all-clause-records
returns-in_err-all-clause-records g c clean rs its f left =
    subst (λ h. IsLog f rs ⊎ ((rs ≡ []) × IsLog f (header h ∷ []))) (c.deref.ensures.value ∙ c.in_ok-head.ensures.exact) (c.open.ensures.crash clean rs its f left)

pub returns-in_err-all-clause-crash : goal.returns-in_err-all-clause-crash
returns-in_err-all-clause-crash g c clean snapshot changes h f left =
    kept_changes c.args.self.now.limit c.args.manifest.now snapshot changes (g.D.Disk.seen c.args.self.now.log.disk) f h (λ rs its. returns-in_err-all-clause-records g c clean rs its f left)

pub returns-in-Ok-clause-records : goal.returns-in-Ok-clause-records
returns-in-Ok-clause-records g c clean rs its f left =
    subst (λ h. IsLog f rs ⊎ ((rs ≡ []) × IsLog f (header h ∷ []))) (c.deref.ensures.value ∙ c.in_ok-head.ensures.exact) (c.open.ensures.crash clean rs its f left)

pub returns-in-Ok-clause-crash : goal.returns-in-Ok-clause-crash
returns-in-Ok-clause-crash g c clean snapshot changes h f left =
    kept_changes c.args.self.now.limit c.args.manifest.now snapshot changes (g.D.Disk.seen c.args.self.now.log.disk) f h (λ rs its. returns-in-Ok-clause-records g c clean rs its f left)

pub returns-clause-records : goal.returns-clause-records
returns-clause-records g c clean rs its f left =
    subst (λ h. IsLog f rs ⊎ ((rs ≡ []) × IsLog f (header h ∷ []))) (c.deref.ensures.value ∙ c.in_ok-head.ensures.exact) (c.open.ensures.crash clean rs its f left)

pub returns-clause-crash : goal.returns-clause-crash
returns-clause-crash g c clean snapshot changes h f left =
    kept_changes c.args.self.now.limit c.args.manifest.now snapshot changes (g.D.Disk.seen c.args.self.now.log.disk) f h (λ rs its. returns-clause-records g c clean rs its f left)

-- ---- the gates that it leaves

pub returns-in_err-head-clause-shut : goal.returns-in_err-head-clause-shut
returns-in_err-head-clause-shut g c mixes clean rs readable f left =
    unwritten_left (g.D.Disk.seen c.args.self.now.log.disk) rs (g.D.Disk.may_leave c.args.self.now.log.disk) readable c.requires.restarted f left

pub returns-in_err-records-clause-shut : goal.returns-in_err-records-clause-shut
returns-in_err-records-clause-shut g c mixes clean rs readable f left = c.open.ensures.shut mixes clean rs readable f left

pub returns-in_err-self-clause-shut : goal.returns-in_err-self-clause-shut
returns-in_err-self-clause-shut g c mixes clean rs readable f left = c.open.ensures.shut mixes clean rs readable f left

pub returns-in_err-all-clause-shut : goal.returns-in_err-all-clause-shut
returns-in_err-all-clause-shut g c mixes clean rs readable f left = c.open.ensures.shut mixes clean rs readable f left

pub returns-in-Ok-clause-shut : goal.returns-in-Ok-clause-shut
returns-in-Ok-clause-shut g c mixes clean rs readable f left = c.open.ensures.shut mixes clean rs readable f left

pub returns-clause-shut : goal.returns-clause-shut
returns-clause-shut g c mixes clean rs readable f left = c.open.ensures.shut mixes clean rs readable f left
