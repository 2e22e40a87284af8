-- A list of events of a sound world has one outcome.
use Rattle.std.proofs.Common.{[], ◌∷◌, refl, sym, ◌∙◌, subst}
use Rattle.law_worlds.specs.Words.{RunsTo, IsSoundWorld, EventsKeepSound}
use Rattle.law_worlds.specs.Outcomes.{EventsHaveOneOutcome, RunsHaveOneOutcome}

-- event by event, each from the world that the one before it left
pub runs_once : EventsHaveOneOutcome → EventsKeepSound → RunsHaveOneOutcome
runs_once one keep w [] [] v [] u s x y = record { notes = refl; world = x ∙ sym y }
runs_once one keep w (e ∷ es) (n ∷ ns) v (m ∷ ms) u s x y =
    let first = one w e n x.0 m y.0 s x.1 y.1 in
    let sound : IsSoundWorld x.0 = keep w (e ∷ []) (n ∷ []) x.0 s (x.0, x.1, refl) in
    let rest = runs_once one keep x.0 es ns v ms u sound x.2 (subst (λ z. RunsTo z es ms u) (sym first.world) y.2) in
    record { notes = λ i. first.note i ∷ rest.notes i; world = rest.world }
runs_once one keep w [] (n ∷ ns) v ms u s x y = absurd x
runs_once one keep w [] [] v (m ∷ ms) u s x y = absurd y
runs_once one keep w (e ∷ es) [] v ms u s x y = absurd x
runs_once one keep w (e ∷ es) (n ∷ ns) v [] u s x y = absurd y
