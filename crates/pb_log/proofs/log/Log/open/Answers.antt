use Rattle.std.proofs.Common.{◌≡◌, ◌∷◌, ◌<◌, [], ℕ, List, IsTrue, length, map, ap, sym, ◌∙◌, subst, arith, Vec, Global}
use Rattle.pb_log.specs.declared.fault.LogFault.{LogFault}
use Rattle.pb_log.specs.Records.{IsLog, IsAtRest}
use Rattle.pb_log.specs.Header.{header, WhyNotOurs}
use Rattle.pb_log.specs.Causes.{IsOfTheFile, WhyNotOpened}
use Rattle.pb_log.proofs.OpenedFiles.{first_split, has_a_record, no_records, fresh_has_none, others_are_kept, same_readable, header_crash, why_not_found, why_no_header_put, put_is_not_of_file, why_not_ours, err_if, is_zero, is_some_number}
use Rattle.pb_log.proofs.OneReading.{one_reading}
use Rattle.pb_log.proofs.ReadableFiles.{shut_or_new}
use Rattle.pb_log.proofs.log.Log.open.Goals as goal

pub returns-in_err-records-clause-cause : goal.returns-in_err-records-clause-cause
returns-in_err-records-clause-cause g c =
    let file = g.D.Disk.seen c.args.self.now.disk in
    let old = g.D.Disk.faults c.args.self.now.disk in let new = g.D.Disk.faults c.recover.new.disk in
    err_if c.from_residual.result c.in_err-records.field-0.0 (λ (e : LogFault). IsTrue (g.D.Disk.is_clean c.recover.new.disk) → WhyNotOpened c.args.manifest.now old new file e) c.from_residual.ensures.1
    (λ clean. why_not_found c.args.manifest.now file old new c.in_err-records.field-0.0 (c.in_err-records.ensures.cause clean))

-- ---- a log without a record gets its header

pub returns-in_err-put-clause-crash : goal.returns-in_err-put-clause-crash
returns-in_err-put-clause-crash g c clean rs its f left =
    let file = g.D.Disk.seen c.args.self.now.disk in
    let own = map (λ (v : Vec ℕ Global). v.items) c.in_ok-records.records.items in
    let none : own ≡ [] = no_records c.in_ok-records.records.items (omega (arith, is_zero c.in_ok-records.records.len c.is_empty.result c.is_empty.ensures c.if-is_empty.true, c.in_ok-records.records.ok)) in
    let still : IsTrue (g.D.Disk.is_clean c.recover.new.disk) = sym c.put.ensures.clean ∙ clean in
    let rest : IsAtRest (g.D.Disk.seen c.recover.new.disk) (g.D.Disk.may_leave c.recover.new.disk) c.in_ok-records.end [] = subst (λ (l : List (List ℕ)). IsAtRest (g.D.Disk.seen c.recover.new.disk) (g.D.Disk.may_leave c.recover.new.disk) c.in_ok-records.end l) none (c.in_ok-records.ensures.at_rest still) in
    let same : c.deref.result.now ≡ header c.args.manifest.now = c.deref.ensures.value ∙ c.in_ok-header.ensures in
    header_crash file f c.deref.result.now (header c.args.manifest.now) own rs none (c.in_ok-records.ensures.read still) its same (c.put.ensures.crash [] rest f left)

pub returns-in_err-put-clause-cause : goal.returns-in_err-put-clause-cause
returns-in_err-put-clause-cause g c =
    let old = g.D.Disk.faults c.args.self.now.disk in let new = g.D.Disk.faults c.put.new.self.disk in
    err_if c.from_residual-in_err-put.result c.in_err-put.field-0.0 (λ (e : LogFault). IsTrue (g.D.Disk.is_clean c.put.new.self.disk) → WhyNotOpened c.args.manifest.now old new (g.D.Disk.seen c.args.self.now.disk) e) c.from_residual-in_err-put.ensures.1
    (λ clean.
    let file = g.D.Disk.seen c.args.self.now.disk in
    let own = map (λ (v : Vec ℕ Global). v.items) c.in_ok-records.records.items in
    let none : own ≡ [] = no_records c.in_ok-records.records.items (omega (arith, is_zero c.in_ok-records.records.len c.is_empty.result c.is_empty.ensures c.if-is_empty.true, c.in_ok-records.records.ok)) in
    let still : IsTrue (g.D.Disk.is_clean c.recover.new.disk) = sym c.put.ensures.clean ∙ clean in
    let rest : IsAtRest (g.D.Disk.seen c.recover.new.disk) (g.D.Disk.may_leave c.recover.new.disk) c.in_ok-records.end [] = subst (λ (l : List (List ℕ)). IsAtRest (g.D.Disk.seen c.recover.new.disk) (g.D.Disk.may_leave c.recover.new.disk) c.in_ok-records.end l) none (c.in_ok-records.ensures.at_rest still) in
    why_no_header_put c.args.manifest.now file old (g.D.Disk.faults c.recover.new.disk) new c.in_ok-records.end c.in_err-put.field-0.0 c.in_ok-records.ensures.faultless rest.ends_at c.in_err-put.ensures.cause)

pub returns-in_err-put-clause-kept : goal.returns-in_err-put-clause-kept
returns-in_err-put-clause-kept g c =
    err_if c.from_residual-in_err-put.result c.in_err-put.field-0.0 (λ (e : LogFault). IsOfTheFile e → g.D.Disk.seen c.put.new.self.disk ≡ g.D.Disk.seen c.args.self.now.disk) c.from_residual-in_err-put.ensures.1
    (λ of. absurd (put_is_not_of_file (g.D.Disk.faults c.recover.new.disk) (g.D.Disk.faults c.put.new.self.disk) c.in_ok-records.end c.in_err-put.field-0.0 c.in_err-put.ensures.cause of))

pub returns-then-is_empty-clause-crash : goal.returns-then-is_empty-clause-crash
returns-then-is_empty-clause-crash g c clean rs its f left =
    let file = g.D.Disk.seen c.args.self.now.disk in
    let own = map (λ (v : Vec ℕ Global). v.items) c.in_ok-records.records.items in
    let none : own ≡ [] = no_records c.in_ok-records.records.items (omega (arith, is_zero c.in_ok-records.records.len c.is_empty.result c.is_empty.ensures c.if-is_empty.true, c.in_ok-records.records.ok)) in
    let still : IsTrue (g.D.Disk.is_clean c.recover.new.disk) = sym c.put.ensures.clean ∙ clean in
    let rest : IsAtRest (g.D.Disk.seen c.recover.new.disk) (g.D.Disk.may_leave c.recover.new.disk) c.in_ok-records.end [] = subst (λ (l : List (List ℕ)). IsAtRest (g.D.Disk.seen c.recover.new.disk) (g.D.Disk.may_leave c.recover.new.disk) c.in_ok-records.end l) none (c.in_ok-records.ensures.at_rest still) in
    let same : c.deref.result.now ≡ header c.args.manifest.now = c.deref.ensures.value ∙ c.in_ok-header.ensures in
    header_crash file f c.deref.result.now (header c.args.manifest.now) own rs none (c.in_ok-records.ensures.read still) its same (c.put.ensures.crash [] rest f left)

pub returns-then-is_empty-clause-records : goal.returns-then-is_empty-clause-records
returns-then-is_empty-clause-records g c clean =
    let file = g.D.Disk.seen c.args.self.now.disk in
    let own = map (λ (v : Vec ℕ Global). v.items) c.in_ok-records.records.items in
    let none : own ≡ [] = no_records c.in_ok-records.records.items (omega (arith, is_zero c.in_ok-records.records.len c.is_empty.result c.is_empty.ensures c.if-is_empty.true, c.in_ok-records.records.ok)) in
    let still : IsTrue (g.D.Disk.is_clean c.recover.new.disk) = sym c.put.ensures.clean ∙ clean in
    fresh_has_none file c.args.manifest.now own none (c.in_ok-records.ensures.read still)

pub returns-then-is_empty-clause-readable : goal.returns-then-is_empty-clause-readable
returns-then-is_empty-clause-readable g c clean all its =
    let file = g.D.Disk.seen c.args.self.now.disk in
    let own = map (λ (v : Vec ℕ Global). v.items) c.in_ok-records.records.items in
    let still : IsTrue (g.D.Disk.is_clean c.recover.new.disk) = sym c.put.ensures.clean ∙ clean in
    same_readable file own all (c.in_ok-records.ensures.read still) (c.in_ok-records.ensures.records still) its

pub returns-then-is_empty-clause-at_rest : goal.returns-then-is_empty-clause-at_rest
returns-then-is_empty-clause-at_rest g c clean =
    let file = g.D.Disk.seen c.args.self.now.disk in
    let own = map (λ (v : Vec ℕ Global). v.items) c.in_ok-records.records.items in
    let none : own ≡ [] = no_records c.in_ok-records.records.items (omega (arith, is_zero c.in_ok-records.records.len c.is_empty.result c.is_empty.ensures c.if-is_empty.true, c.in_ok-records.records.ok)) in
    let still : IsTrue (g.D.Disk.is_clean c.recover.new.disk) = sym c.put.ensures.clean ∙ clean in
    let rest : IsAtRest (g.D.Disk.seen c.recover.new.disk) (g.D.Disk.may_leave c.recover.new.disk) c.in_ok-records.end [] = subst (λ (l : List (List ℕ)). IsAtRest (g.D.Disk.seen c.recover.new.disk) (g.D.Disk.may_leave c.recover.new.disk) c.in_ok-records.end l) none (c.in_ok-records.ensures.at_rest still) in
    let same : c.deref.result.now ≡ header c.args.manifest.now = c.deref.ensures.value ∙ c.in_ok-header.ensures in
    subst (λ (l : List (List ℕ)). IsAtRest (g.D.Disk.seen c.put.new.self.disk) (g.D.Disk.may_leave c.put.new.self.disk) c.put.new.self.end l) (ap (λ (x : List ℕ). x ∷ []) same ∙ ap (λ (l : List (List ℕ)). header c.args.manifest.now ∷ l) (sym none)) (c.in_ok-put.ensures.acknowledged [] rest)

pub returns-then-is_empty-clause-other : goal.returns-then-is_empty-clause-other
returns-then-is_empty-clause-other g c clean longer =
    let still : IsTrue (g.D.Disk.is_clean c.recover.new.disk) = sym c.put.ensures.clean ∙ clean in
    let bytes = c.in_ok-records.ensures.bytes still in
    let items = ap length c.in_ok-header.ensures in
    omega (arith, longer.long, bytes, items, c.len.ensures, c.in_ok-header.header.ok, c.if-len.false)

pub returns-then-is_empty-clause-read_alone : goal.returns-then-is_empty-clause-read_alone
returns-then-is_empty-clause-read_alone g c clean first others its =
    let file = g.D.Disk.seen c.args.self.now.disk in
    let own = map (λ (v : Vec ℕ Global). v.items) c.in_ok-records.records.items in
    let none : own ≡ [] = no_records c.in_ok-records.records.items (omega (arith, is_zero c.in_ok-records.records.len c.is_empty.result c.is_empty.ensures c.if-is_empty.true, c.in_ok-records.records.ok)) in
    let still : IsTrue (g.D.Disk.is_clean c.recover.new.disk) = sym c.put.ensures.clean ∙ clean in
    absurd (has_a_record first others ((one_reading file (first ∷ others) own its (c.in_ok-records.ensures.read still)).0 ∙ none))

-- ---- any other has one

pub returns-in_err-compare_header-clause-cause : goal.returns-in_err-compare_header-clause-cause
returns-in_err-compare_header-clause-cause g c =
    let file = g.D.Disk.seen c.args.self.now.disk in
    let own = map (λ (v : Vec ℕ Global). v.items) c.in_ok-records.records.items in
    let others = map (λ (v : Vec ℕ Global). v.items) c.remove-first.new.self.items in
    let first = c.remove-first.result.items in
    let some : 0 < length c.in_ok-records.records.items = omega (arith, is_some_number c.in_ok-records.records.len c.is_empty.result c.is_empty.ensures c.if-is_empty.false, c.in_ok-records.records.ok) in
    let split : own ≡ first ∷ others = first_split c.in_ok-records.records.items c.remove-first.new.self.items c.remove-first.result some c.remove-first.ensures.value c.remove-first.ensures.items in
    let old = g.D.Disk.faults c.args.self.now.disk in let new = g.D.Disk.faults c.recover.new.disk in
    let e = c.in_err-compare_header.field-0.0 in
    err_if c.from_residual-in_err-compare_header.result e (λ (f : LogFault). IsTrue (g.D.Disk.is_clean c.recover.new.disk) → WhyNotOpened c.args.manifest.now old new file f) c.from_residual-in_err-compare_header.ensures.1
    (λ clean. why_not_ours c.args.manifest.now file first others old new e (subst (λ (l : List (List ℕ)). IsLog file l) split (c.in_ok-records.ensures.read clean)) (subst (λ (x : List ℕ). WhyNotOurs c.args.manifest.now x e) c.deref-2.ensures.value c.in_err-compare_header.ensures.err))

pub returns-in_err-compare_header-clause-kept : goal.returns-in_err-compare_header-clause-kept
returns-in_err-compare_header-clause-kept g c =
    err_if c.from_residual-in_err-compare_header.result c.in_err-compare_header.field-0.0 (λ (e : LogFault). IsOfTheFile e → g.D.Disk.seen c.recover.new.disk ≡ g.D.Disk.seen c.args.self.now.disk) c.from_residual-in_err-compare_header.ensures.1
    (λ of. c.in_ok-records.ensures.read_alone (is_some_number c.in_ok-records.records.len c.is_empty.result c.is_empty.ensures c.if-is_empty.false))

pub returns-clause-records : goal.returns-clause-records
returns-clause-records g c clean =
    let file = g.D.Disk.seen c.args.self.now.disk in
    let own = map (λ (v : Vec ℕ Global). v.items) c.in_ok-records.records.items in
    let others = map (λ (v : Vec ℕ Global). v.items) c.remove-first.new.self.items in
    let first = c.remove-first.result.items in
    let some : 0 < length c.in_ok-records.records.items = omega (arith, is_some_number c.in_ok-records.records.len c.is_empty.result c.is_empty.ensures c.if-is_empty.false, c.in_ok-records.records.ok) in
    let split : own ≡ first ∷ others = first_split c.in_ok-records.records.items c.remove-first.new.self.items c.remove-first.result some c.remove-first.ensures.value c.remove-first.ensures.items in
    let ours : first ≡ header c.args.manifest.now = sym c.deref-2.ensures.value ∙ c.in_ok-compare_header.ensures.ok in
    others_are_kept file c.args.manifest.now first own others (c.in_ok-records.ensures.read clean) split ours

pub returns-clause-readable : goal.returns-clause-readable
returns-clause-readable g c clean all its =
    same_readable (g.D.Disk.seen c.args.self.now.disk) (map (λ (v : Vec ℕ Global). v.items) c.in_ok-records.records.items) all (c.in_ok-records.ensures.read clean) (c.in_ok-records.ensures.records clean) its

pub returns-clause-at_rest : goal.returns-clause-at_rest
returns-clause-at_rest g c clean =
    let file = g.D.Disk.seen c.args.self.now.disk in
    let own = map (λ (v : Vec ℕ Global). v.items) c.in_ok-records.records.items in
    let others = map (λ (v : Vec ℕ Global). v.items) c.remove-first.new.self.items in
    let first = c.remove-first.result.items in
    let some : 0 < length c.in_ok-records.records.items = omega (arith, is_some_number c.in_ok-records.records.len c.is_empty.result c.is_empty.ensures c.if-is_empty.false, c.in_ok-records.records.ok) in
    let split : own ≡ first ∷ others = first_split c.in_ok-records.records.items c.remove-first.new.self.items c.remove-first.result some c.remove-first.ensures.value c.remove-first.ensures.items in
    let ours : first ≡ header c.args.manifest.now = sym c.deref-2.ensures.value ∙ c.in_ok-compare_header.ensures.ok in
    subst (λ (l : List (List ℕ)). IsAtRest (g.D.Disk.seen c.recover.new.disk) (g.D.Disk.may_leave c.recover.new.disk) c.in_ok-records.end l) (split ∙ ap (λ (x : List ℕ). x ∷ others) ours) (c.in_ok-records.ensures.at_rest clean)

pub returns-clause-other : goal.returns-clause-other
returns-clause-other g c clean longer =
    let file = g.D.Disk.seen c.args.self.now.disk in
    let own = map (λ (v : Vec ℕ Global). v.items) c.in_ok-records.records.items in
    let others = map (λ (v : Vec ℕ Global). v.items) c.remove-first.new.self.items in
    let first = c.remove-first.result.items in
    let some : 0 < length c.in_ok-records.records.items = omega (arith, is_some_number c.in_ok-records.records.len c.is_empty.result c.is_empty.ensures c.if-is_empty.false, c.in_ok-records.records.ok) in
    let split : own ≡ first ∷ others = first_split c.in_ok-records.records.items c.remove-first.new.self.items c.remove-first.result some c.remove-first.ensures.value c.remove-first.ensures.items in
    has_a_record first others (sym split ∙ (one_reading file own [] (c.in_ok-records.ensures.read clean) longer.none).0)

pub returns-clause-read_alone : goal.returns-clause-read_alone
returns-clause-read_alone g c clean first others its =
    c.in_ok-records.ensures.read_alone (is_some_number c.in_ok-records.records.len c.is_empty.result c.is_empty.ensures c.if-is_empty.false)

-- ---- the gates that a crash leaves

pub returns-in_err-records-clause-shut : goal.returns-in_err-records-clause-shut
returns-in_err-records-clause-shut g c mixes clean rs readable f left = c.recover.ensures.shut clean rs readable f left

pub returns-in_err-put-clause-shut : goal.returns-in_err-put-clause-shut
returns-in_err-put-clause-shut g c mixes clean rs readable f left =
    let own = map (λ (v : Vec ℕ Global). v.items) c.in_ok-records.records.items in
    let none : own ≡ [] = no_records c.in_ok-records.records.items (omega (arith, is_zero c.in_ok-records.records.len c.is_empty.result c.is_empty.ensures c.if-is_empty.true, c.in_ok-records.records.ok)) in
    let still : IsTrue (g.D.Disk.is_clean c.recover.new.disk) = sym c.put.ensures.clean ∙ clean in
    let rest : IsAtRest (g.D.Disk.seen c.recover.new.disk) (g.D.Disk.may_leave c.recover.new.disk) c.in_ok-records.end [] = subst (λ (l : List (List ℕ)). IsAtRest (g.D.Disk.seen c.recover.new.disk) (g.D.Disk.may_leave c.recover.new.disk) c.in_ok-records.end l) none (c.in_ok-records.ensures.at_rest still) in
    shut_or_new [] c.deref.result.now f (c.put.ensures.shut mixes [] rest f left)

pub returns-then-is_empty-clause-shut : goal.returns-then-is_empty-clause-shut
returns-then-is_empty-clause-shut g c mixes clean rs readable f left =
    let own = map (λ (v : Vec ℕ Global). v.items) c.in_ok-records.records.items in
    let none : own ≡ [] = no_records c.in_ok-records.records.items (omega (arith, is_zero c.in_ok-records.records.len c.is_empty.result c.is_empty.ensures c.if-is_empty.true, c.in_ok-records.records.ok)) in
    let still : IsTrue (g.D.Disk.is_clean c.recover.new.disk) = sym c.put.ensures.clean ∙ clean in
    let rest : IsAtRest (g.D.Disk.seen c.recover.new.disk) (g.D.Disk.may_leave c.recover.new.disk) c.in_ok-records.end [] = subst (λ (l : List (List ℕ)). IsAtRest (g.D.Disk.seen c.recover.new.disk) (g.D.Disk.may_leave c.recover.new.disk) c.in_ok-records.end l) none (c.in_ok-records.ensures.at_rest still) in
    shut_or_new [] c.deref.result.now f (c.put.ensures.shut mixes [] rest f left)

pub returns-in_err-compare_header-clause-shut : goal.returns-in_err-compare_header-clause-shut
returns-in_err-compare_header-clause-shut g c mixes clean rs readable f left = c.recover.ensures.shut clean rs readable f left

pub returns-clause-shut : goal.returns-clause-shut
returns-clause-shut g c mixes clean rs readable f left = c.recover.ensures.shut clean rs readable f left
