use Rattle.std.proofs.Common.{◌<◌, ap, refl, subst, sym}
use Rattle.pb_state.specs.CarriedOver.{WhyNotCarried}
use Rattle.pb_snapshots.specs.Snapshot.{snapshot_value}
use Rattle.pb_keep.specs.Words.{IsCarriedOver, IsSnapshotTaken, KeptTable, SnapshotOf, kept_table, last_timestamp}
use Rattle.pb_keep.specs.Changed.{WhyNotChanged}
use Rattle.pb_keep.proofs.Causing.{not_changed_for_memory}
use Rattle.pb_keep.proofs.Mapping.{passed_on}
use Rattle.pb_keep.proofs.keeper.Keeper.choose_into.Goals as goal

pub returns-in_err-snapshot-clause-cause : goal.returns-in_err-snapshot-clause-cause
returns-in_err-snapshot-clause-cause g c = λ limit past changes first began leads.
    let k = c.args.self.now in
    passed_on c.from_residual.result c.from_residual.ensures.1
    (λ e is. subst (λ z. WhyNotChanged k.waiting.items.items k.state k.state z) (sym is) c.in_err-snapshot.ensures.why)

pub returns-in_err-carry_over-clause-cause : goal.returns-in_err-carry_over-clause-cause
returns-in_err-carry_over-clause-cause g c = λ limit past changes first began leads.
    let k = c.args.self.now in
    let front = c.args.state.now.observers in
    let s : SnapshotOf = snapshot_value c.in_ok-snapshot.snapshot in
    let u : SnapshotOf = snapshot_value c.in_ok-chosen.chosen in
    let old : KeptTable = kept_table k.state k.stats.items in
    let taken : IsSnapshotTaken old s = c.in_ok-snapshot.ensures.taken in
    let e = c.in_err-carry_over.field-0.0 in
    let w = c.in_err-carry_over.ensures.err in
    let why : WhyNotCarried front u.clock u.cells w.0 e = subst (λ l. WhyNotCarried front u.clock l w.0 e) c.deref.ensures.value w.2 in
    passed_on c.from_residual-in_err-carry_over.result c.from_residual-in_err-carry_over.ensures.1
    (λ f is. subst (λ z. WhyNotChanged k.waiting.items.items k.state k.state z) (sym is)
    (not_changed_for_memory k.waiting.items.items k.state k.state e
    (c.chosen_are_accepted.ensures limit first changes old s u c.args.places.now front (record { past = past; began = began; leads = leads }) c.requires.chosen taken c.in_ok-chosen.ensures.chosen c.in_ok-chosen.ensures.rising w.0 e why)))

pub returns-clause-chosen : goal.returns-clause-chosen
returns-clause-chosen g c = λ limit past changes first began leads.
    let k = c.args.self.now in
    let front = c.args.state.now.observers in
    let s : SnapshotOf = snapshot_value c.in_ok-snapshot.snapshot in
    let u : SnapshotOf = snapshot_value c.in_ok-chosen.chosen in
    let old : KeptTable = kept_table k.state k.stats.items in
    let over = c.carry_over.new.self in
    let new : KeptTable = kept_table c.mark_behind.new.self c.in_ok-chosen.chosen.stats.items in
    let taken : IsSnapshotTaken old s = c.in_ok-snapshot.ensures.taken in
    let cells : IsCarriedOver front c.args.state.now.seats u.clock u.cells over = subst (λ l. IsCarriedOver front c.args.state.now.seats u.clock l over) c.deref.ensures.value c.in_ok-carry_over.ensures.ok in
    let carried : IsCarriedOver front 1 u.clock u.cells over = subst (λ n. IsCarriedOver front n u.clock u.cells over) (ap (λ t. t.seats) c.requires.opened) cells in
    let room : old.state.clock < last_timestamp = c.in_ok-snapshot.ensures.room in
    c.chosen_begin.ensures limit past changes first old new s u over c.args.places.now front began leads room c.requires.chosen taken c.in_ok-chosen.ensures.chosen carried c.in_ok-mark_behind.ensures.ok refl
