use Rattle.std.proofs.Common.{◌≡◌, ◌∷◌, ℕ, List, IsTrue, map, drop, slice_get, ap, sym, ◌∙◌, subst, Vec, Global}
use Rattle.pb_log.specs.declared.fault.LogFault.{LogFault}
use Rattle.pb_log.specs.Records.{IsLog}
use Rattle.pb_log.specs.Header.{WhyNoHeader, header}
use Rattle.pb_log.specs.Causes.{WhyNoManifest}
use Rattle.pb_log.proofs.OpenedFiles.{err_if, first_of, same_readable, why_no_manifest}
use Rattle.pb_log.proofs.log.Log.read_manifest.Goals as goal

pub returns-in_err-manifest_of-in-Some-clause-cause : goal.returns-in_err-manifest_of-in-Some-clause-cause
returns-in_err-manifest_of-in-Some-clause-cause g c =
    let file = g.D.Disk.seen c.args.self.now.disk in
    let own = c.in_ok-records.records.items in
    let first = c.in-Some.first.now in
    let old = g.D.Disk.faults c.args.self.now.disk in let new = g.D.Disk.faults c.find_records.new.disk in
    let e = c.in_err-manifest_of-in-Some.field-0.0 in
    let split = first_of own first (c.in-Some.ensures.value ∙ ap (λ (l : List (Vec ℕ Global)). slice_get l 0) c.deref.ensures.value) in
    err_if c.from_residual-in_err-manifest_of-in-Some.result e (λ (f : LogFault). IsTrue (g.D.Disk.is_clean c.find_records.new.disk) → WhyNoManifest old new file f) c.from_residual-in_err-manifest_of-in-Some.ensures.1
    (λ clean. why_no_manifest file first.items (map (λ (v : Vec ℕ Global). v.items) (drop 1 own)) old new e (subst (λ (l : List (List ℕ)). IsLog file l) split (c.in_ok-records.ensures.read clean)) (subst (λ (x : List ℕ). WhyNoHeader x e) c.deref-in-Some.ensures.value c.in_err-manifest_of-in-Some.ensures.err))

pub returns-in-Some-clause-manifest : goal.returns-in-Some-clause-manifest
returns-in-Some-clause-manifest g c clean =
    let file = g.D.Disk.seen c.args.self.now.disk in
    let own = c.in_ok-records.records.items in
    let first = c.in-Some.first.now in
    let others = map (λ (v : Vec ℕ Global). v.items) (drop 1 own) in
    let split = first_of own first (c.in-Some.ensures.value ∙ ap (λ (l : List (Vec ℕ Global)). slice_get l 0) c.deref.ensures.value) in
    let ours : first.items ≡ header c.in_ok-to_vec-in-Some.field-0.items = sym c.deref-in-Some.ensures.value ∙ c.in_ok-manifest_of-in-Some.ensures.ok ∙ ap header (sym (c.in_ok-to_vec-in-Some.ensures.items_if_clones_equal (λ x y e. e))) in
    (others, subst (λ (l : List (List ℕ)). IsLog file l) (split ∙ ap (λ (x : List ℕ). x ∷ others) ours) (c.in_ok-records.ensures.read clean))

pub returns-in-Some-clause-readable : goal.returns-in-Some-clause-readable
returns-in-Some-clause-readable g c clean all its =
    same_readable (g.D.Disk.seen c.args.self.now.disk) (map (λ (v : Vec ℕ Global). v.items) c.in_ok-records.records.items) all (c.in_ok-records.ensures.read clean) (c.in_ok-records.ensures.records clean) its

pub returns-clause-readable : goal.returns-clause-readable
returns-clause-readable g c clean all its =
    same_readable (g.D.Disk.seen c.args.self.now.disk) (map (λ (v : Vec ℕ Global). v.items) c.in_ok-records.records.items) all (c.in_ok-records.ensures.read clean) (c.in_ok-records.ensures.records clean) its
