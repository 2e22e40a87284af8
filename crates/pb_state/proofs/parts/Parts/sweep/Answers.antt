use Rattle.std.proofs.Common.{◌≡◌, List, sym, ap, subst, ◌∙◌}
use Rattle.std.specs.FinMap as map
use Rattle.pb_state.specs.Words.{Entries, ObserverOf, StateOf, is_marked, AllUpToDate}
use Rattle.pb_state.proofs.NewState.{new_entries}
use Rattle.pb_state.proofs.parts.Parts.sweep.Goals as goal

pub returns-clause-taken : goal.returns-clause-taken
returns-clause-taken g c =
    let e : c.self.inside.table.contents.entries ≡ c.args.self.now.entries = ap (λ (s : StateOf). s.entries) c.self.view_is in
    let m : c.self.inside.table.contents.marks ≡ c.args.self.now.marks = ap (λ (s : StateOf). s.marks) c.self.view_is in
    let o : c.deref.result.now ≡ c.args.self.now.observers = c.deref.ensures.value ∙ ap (λ (s : StateOf). s.observers) c.self.view_is in
    record {
      allowed = c.requires.allowed;
      taken = record {
        marked = ap (λ marks. is_marked marks c.args.cell.now) (sym m) ∙ sym c.is_marked.ensures ∙ c.if-not-is_marked.false;
        up_to_date = subst (λ (p : List ObserverOf × Entries). AllUpToDate p.0 p.1 c.args.cell.now) (λ i. (o i, e i)) c.if-is_behind.ensures;
        new_is = new_entries c.self.inside.table c.apply.new.self c.self.inside.observers.items c.self.inside.clock c.self.inside.seats c.self.inside.transactions
            (λ m. m) (λ os m. map.remove m c.args.cell.now) (c.in_ok-apply.ensures.ok ∙ c.unmark_edits.ensures.unmarked c.self.inside.table.contents) c.args.self.now c.self.view_is;
      };
    }
