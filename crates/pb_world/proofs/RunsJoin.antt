-- Runs of events, joined and parted.
use Rattle.std.proofs.Common.{[], ◌∷◌, refl, ap, subst}
use Rattle.pb_world.specs.Events.{RunsTo}
use Rattle.pb_world.specs.Headline.{RunsJoin, RunsPart}

-- event by event of the first list
pub runs_join : RunsJoin
runs_join w [] [] m fs ks v r t = subst (λ x. RunsTo x fs ks v) r t
runs_join w (e ∷ es) (n ∷ ns) m fs ks v r t = (r.0, r.1, runs_join r.0 es ns m fs ks v r.2 t)
runs_join w [] (n ∷ ns) m fs ks v r t = absurd r
runs_join w (e ∷ es) [] m fs ks v r t = absurd r

-- the world between is the one after the last event of the first part
pub runs_part : RunsPart
runs_part w [] fs ns v r = record { between = w; before = []; after = ns; first = refl; rest = r; notes = refl }
runs_part w (e ∷ es) fs [] v r = absurd r
runs_part w (e ∷ es) fs (n ∷ ns) v r =
    let p = runs_part r.0 es fs ns v r.2 in
    record { between = p.between; before = n ∷ p.before; after = p.after; first = (r.0, r.1, p.first); rest = p.rest; notes = ap (λ l. n ∷ l) p.notes }
