use Rattle.std.proofs.Common.{arith, ◌≡◌, ◌+◌, ◌++◌, length, ap, ◌∙◌, subst, sym}
use Rattle.std.proofs.lemmas.List.{length-append}
use Rattle.pb_keeper.specs.Made.{catching_up_bound}
use Rattle.pb_keeper.specs.Keeps.{IsChosenOf}
use Rattle.pb_keep.specs.Words.{KeptTable, StateOf, kept_table}
use Rattle.pb_keep.specs.Changed.{WhyNotChanged}
use Rattle.pb_keep.proofs.Causing.{not_changed_by_stop}
use Rattle.pb_keep.proofs.Mapping.{passed_on}
use Rattle.pb_keep.proofs.keeper.Keeper.change_observers.Goals as goal

pub returns-in_err-drained-clause-cause : goal.returns-in_err-drained-clause-cause
returns-in_err-drained-clause-cause g c = λ limit past changes first began leads.
    let k = c.args.self.now in
    let front = c.args.state.observers in
    let old : KeptTable = kept_table k.state k.stats.items in
    let between : KeptTable = kept_table c.replace.new.dest c.in-Ok.stats.items in
    let chosen : IsChosenOf c.args.places.now front old between =
    subst (λ z. IsChosenOf c.args.places.now front old (kept_table z c.in-Ok.stats.items)) (sym c.replace.ensures.after) (c.in-Ok.ensures.chosen limit past changes first began leads) in
    passed_on c.from_residual-in_err-drained.result c.from_residual-in_err-drained.ensures.1
    (λ e is. subst (λ f. WhyNotChanged k.waiting.items.items k.state c.observe_also.new.state f) (sym is)
    (not_changed_by_stop k.waiting.items.items k.state c.observe_also.new.state c.in_err-drained.field-0.0
    (c.in_err-drained.ensures.stops limit past changes first old c.args.places.now front began leads c.in-Ok.ensures.room chosen)))

pub returns-clause-changed : goal.returns-clause-changed
returns-clause-changed g c = λ limit past changes first began leads.
    let k = c.args.self.now in
    let front = c.args.state.observers in
    let old : KeptTable = kept_table k.state k.stats.items in
    let between : KeptTable = kept_table c.replace.new.dest c.in-Ok.stats.items in
    let chosen : IsChosenOf c.args.places.now front old between =
    subst (λ z. IsChosenOf c.args.places.now front old (kept_table z c.in-Ok.stats.items)) (sym c.replace.ensures.after) (c.in-Ok.ensures.chosen limit past changes first began leads) in
    let first_ones : length c.observers.result.now ≡ length front = ap length c.observers.ensures.observers ∙ ap (λ (z : StateOf). length z.observers) c.replace.ensures.after ∙ ap length c.in-Ok.ensures.observers in
    let is = c.len.ensures in
    let same = c.args.more.ok.0 in
    let many : c.len.result ≡ length c.args.more.items = omega (arith, is, same) in
    let all : length c.observers.result.now + c.len.result ≡ length (front ++ c.args.more.items) = (λ i. first_ones i + many i) ∙ sym (length-append front c.args.more.items) in
    record {
      room = c.in-Ok.ensures.room;
      between = between;
      chosen = chosen;
      caught_up = c.in_ok-drained.ensures.caught_up.0;
      bound = c.in_ok-drained.ensures.caught_up.1 ∙ c.catching_up_bound-bound.ensures ∙ (λ i. catching_up_bound (c.in_ok-entries.ensures i) (all i));
      count = c.in_ok-drained.ensures.caught_up.2;
    }

pub returns-clause-begins : goal.returns-clause-begins
returns-clause-begins g c = λ limit past changes first began leads.
    let k = c.args.self.now in
    let front = c.args.state.observers in
    let old : KeptTable = kept_table k.state k.stats.items in
    let between : KeptTable = kept_table c.replace.new.dest c.in-Ok.stats.items in
    let chosen : IsChosenOf c.args.places.now front old between =
    subst (λ z. IsChosenOf c.args.places.now front old (kept_table z c.in-Ok.stats.items)) (sym c.replace.ensures.after) (c.in-Ok.ensures.chosen limit past changes first began leads) in
    c.in_ok-drained.ensures.begins limit past changes first old c.args.places.now front began leads c.in-Ok.ensures.room chosen
