use Rattle.std.proofs.Common.{List, MatchBool, subst}
use Rattle.pb_state.specs.Words.{AllUpToDate, ObserverOf, SomeBehind, StateOf}
use Rattle.pb_state.proofs.parts.Parts.is_behind.Goals as goal

pub returns : goal.returns
returns g c =
    let cell = c.args.cell.now in
    let e = c.self.inside.table.contents.entries in
    let here : MatchBool c.is_behind.result (SomeBehind c.self.inside.observers.items e cell) (AllUpToDate c.self.inside.observers.items e cell) =
    subst (λ (os : List ObserverOf). MatchBool c.is_behind.result (SomeBehind os e cell) (AllUpToDate os e cell)) c.deref.ensures.value c.is_behind.ensures in
    subst (λ (z : StateOf). MatchBool c.is_behind.result (SomeBehind z.observers z.entries cell) (AllUpToDate z.observers z.entries cell)) c.self.view_is here
