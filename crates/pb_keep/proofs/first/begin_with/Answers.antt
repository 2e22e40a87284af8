use Rattle.std.proofs.Common.{arith, ◌≡◌, ◌∷◌, [], length, Some, IfSome, ap, refl, subst, sym, ◌∙◌}
use Rattle.std.proofs.lemmas.List.{length-replicate}
use Rattle.pb_keeper.specs.Stats.{no_runs}
use Rattle.pb_state.specs.CarriedOver.{WhyNotCarried}
use Rattle.pb_snapshots.specs.Snapshot.{snapshot_value}
use Rattle.pb_keep.specs.Words.{FitsSnapshot, IsCarriedOver, SnapshotOf, snapshot_bytes}
use Rattle.pb_keep.specs.Causes.{IsOfFirst}
use Rattle.pb_keep.proofs.Mapping.{passed_on}
use Rattle.pb_keep.proofs.Origins.{why_not_carried}
use Rattle.pb_keep.proofs.first.begin_with.Goals as goal

pub returns-clause-begun : goal.returns-clause-begun
returns-clause-begun g c =
    let observers = c.args.state.now.observers in
    let bytes = c.args.record.now in
    let s : SnapshotOf = snapshot_value c.in-Some.snapshot in
    let is : bytes ≡ snapshot_bytes s = subst (λ r. IfSome r (λ z. bytes ≡ snapshot_bytes (snapshot_value z))) c.in-Some.is c.in_ok-snapshot.ensures.bytes in
    let fits : FitsSnapshot s = subst (λ r. IfSome r (λ z. FitsSnapshot (snapshot_value z))) c.in-Some.is c.in_ok-snapshot.ensures.fits in
    let cells : IsCarriedOver observers c.args.state.now.seats s.clock s.cells c.carry_over.new.self = subst (λ l. IsCarriedOver observers c.args.state.now.seats s.clock l c.carry_over.new.self) c.deref.ensures.value c.in_ok-carry_over.ensures.ok in
    let as_many : length s.stats ≡ length observers = omega (arith, c.if-len.false, c.len.ensures, c.len-2.ensures) ∙ ap (λ t. length t.stats) c.requires.opened ∙ length-replicate (length observers) no_runs in
    record {
      snapshot = Some s;
      fits = fits;
      records_are = ap (λ b. b ∷ []) is;
      first_is = ((c.carry_over.new.self, subst (λ n. IsCarriedOver observers n s.clock s.cells c.carry_over.new.self) (ap (λ t. t.state.seats) c.requires.opened) cells, c.in_ok-mark_behind.ensures.ok), (refl, as_many));
      since_is = refl;
      taken_off = λ e. refl;
    }

pub returns-in_err-carry_over-clause-why : goal.returns-in_err-carry_over-clause-why
returns-in_err-carry_over-clause-why g c =
    let observers = c.args.state.now.observers in
    let bytes = c.args.record.now in
    let s : SnapshotOf = snapshot_value c.in-Some.snapshot in
    let is : bytes ≡ snapshot_bytes s = subst (λ r. IfSome r (λ z. bytes ≡ snapshot_bytes (snapshot_value z))) c.in-Some.is c.in_ok-snapshot.ensures.bytes in
    let fits : FitsSnapshot s = subst (λ r. IfSome r (λ z. FitsSnapshot (snapshot_value z))) c.in-Some.is c.in_ok-snapshot.ensures.fits in
    let e = c.in_err-carry_over.field-0.0 in
    let w = c.in_err-carry_over.ensures.err in
    let why : WhyNotCarried observers s.clock s.cells w.0 e = subst (λ l. WhyNotCarried observers s.clock l w.0 e) c.deref.ensures.value w.2 in
    passed_on c.from_residual-in_err-carry_over.result c.from_residual-in_err-carry_over.ensures.1
    (λ f same. subst (λ z. IsOfFirst observers (bytes ∷ []) z) (sym same) (why_not_carried observers bytes c.requires.begins_so c.records_are_of_one_snapshot.ensures s is fits w.0 e why))
