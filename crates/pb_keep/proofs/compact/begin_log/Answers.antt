use Rattle.std.proofs.Common.{◌≡◌, ◌≤◌, ◌+◌, ◌∷◌, [], length, arith, IsTrue, map, subst, sym, ◌∙◌}
use Rattle.pb_log.specs.Records.{blocks}
use Rattle.pb_keep.specs.Words.{IsAtRest, HasRecords, WhyNotOpened, WhyNotPut, header}
use Rattle.pb_keep.specs.Anew.{WhyNotBegun}
use Rattle.pb_keep.specs.Kept.{head}
use Rattle.pb_keep.proofs.Causing.{begins_low, head_low, put_as_opened}
use Rattle.pb_keep.proofs.Mapping.{passed_on}
use Rattle.pb_keep.proofs.Scripts.{empty_list, no_items}
use Rattle.pb_keep.proofs.compact.begin_log.Goals as goal

pub returns-then-not-is_empty-clause-why : goal.returns-then-not-is_empty-clause-why
returns-then-not-is_empty-clause-why g c = λ clean. (
  map (λ v. v.items) c.in_ok-open.field-0.items,
  λ e. (let none = no_items (λ v. v.items) c.in_ok-open.field-0.items e in grind (arith, none, c.is_empty.ensures, c.if-not-is_empty.true)),
  subst (λ h. HasRecords h (map (λ v. v.items) c.in_ok-open.field-0.items) (g.E.Disk.seen c.args.log.now.disk)) (c.deref.ensures.value ∙ c.in_ok-head.ensures.exact) (c.in_ok-open.ensures.records clean),
)

pub returns-in_err-open-clause-why : goal.returns-in_err-open-clause-why
returns-in_err-open-clause-why g c =
    let was = g.E.Disk.faults c.args.log.now.disk in
    let faults = g.E.Disk.faults c.open.new.self.disk in
    passed_on c.from_residual-in_err-open.result c.from_residual-in_err-open.ensures.1
    (λ e is clean. subst (λ f. WhyNotBegun (head c.args.limit c.args.manifest.now) was faults (g.E.Disk.seen c.args.log.now.disk) f) (sym is)
    (subst (λ h. WhyNotOpened h was faults (g.E.Disk.seen c.args.log.now.disk) c.in_err-open.field-0.0) (c.deref.ensures.value ∙ c.in_ok-head.ensures.exact) (c.in_err-open.ensures.cause clean)))

pub returns-in_err-put-clause-why : goal.returns-in_err-put-clause-why
returns-in_err-put-clause-why g c =
    let manifest = head c.args.limit c.args.manifest.now in
    let opened = c.open.new.self in
    let was = g.E.Disk.faults c.args.log.now.disk in
    let faults = g.E.Disk.faults c.put.new.self.disk in
    let file = g.E.Disk.seen c.args.log.now.disk in
    let none : c.in_ok-open.field-0.items ≡ [] = empty_list c.in_ok-open.field-0.items (grind (arith, c.is_empty.ensures, c.if-not-is_empty.false)) in
    let same : WhyNotPut (g.E.Disk.faults opened.disk) faults opened.end c.in_err-put.field-0.0 → WhyNotPut was faults opened.end c.in_err-put.field-0.0 =
    λ why. subst (λ n. WhyNotPut n faults opened.end c.in_err-put.field-0.0) c.in_ok-open.ensures.faultless why in
    passed_on c.from_residual-in_err-put.result c.from_residual-in_err-put.ensures.1
    (λ e is clean.
    let still : IsTrue (g.E.Disk.is_clean opened.disk) = subst IsTrue c.put.ensures.clean clean in
    let ends : opened.end ≡ length (blocks 0 (header manifest ∷ [])) = subst (λ l. opened.end ≡ length (blocks 0 (header manifest ∷ map (λ v. v.items) l))) none
    (subst (λ h. opened.end ≡ length (blocks 0 (header h ∷ map (λ v. v.items) c.in_ok-open.field-0.items))) (c.deref.ensures.value ∙ c.in_ok-head.ensures.exact) (c.in_ok-open.ensures.at_rest still).ends_at) in
    subst (λ f. WhyNotBegun manifest was faults file f) (sym is)
    (put_as_opened manifest was faults opened.end file c.in_err-put.field-0.0 (begins_low manifest opened.end (head_low c.args.manifest.now manifest c.requires.short (subst (λ l. length l ≤ length c.args.manifest.now + 27) c.in_ok-head.ensures.exact c.in_ok-head.ensures.short)) ends) (same c.in_err-put.ensures.cause)))

pub returns-clause-begun : goal.returns-clause-begun
returns-clause-begun g c = λ clean.
    let manifest = head c.args.limit c.args.manifest.now in
    let opened = c.open.new.self in
    let still : IsTrue (g.E.Disk.is_clean opened.disk) = subst IsTrue c.in_ok-put.ensures.clean clean in
    let none : c.in_ok-open.field-0.items ≡ [] = empty_list c.in_ok-open.field-0.items (grind (arith, c.is_empty.ensures, c.if-not-is_empty.false)) in
    let before : IsAtRest (g.E.Disk.seen opened.disk) (g.E.Disk.may_leave opened.disk) opened.end (header manifest ∷ []) =
    subst (λ l. IsAtRest (g.E.Disk.seen opened.disk) (g.E.Disk.may_leave opened.disk) opened.end (header manifest ∷ map (λ v. v.items) l)) none
    (subst (λ h. IsAtRest (g.E.Disk.seen opened.disk) (g.E.Disk.may_leave opened.disk) opened.end (header h ∷ map (λ v. v.items) c.in_ok-open.field-0.items)) (c.deref.ensures.value ∙ c.in_ok-head.ensures.exact) (c.in_ok-open.ensures.at_rest still)) in
    c.in_ok-put.ensures.acknowledged (header manifest ∷ []) before
