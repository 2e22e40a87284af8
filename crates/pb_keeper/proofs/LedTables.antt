-- Changes that led from one table to another, as one conversation.
use Rattle.std.proofs.Common.{arith, ℕ, List, [], ◌∷◌, ◌++◌, refl, subst}
use Rattle.std.specs.FinMap as map
use Rattle.pb_keeper.specs.Words.{Writes, ObserverOf, no_part, one_part}
use Rattle.pb_keeper.specs.Keeps.{KeepsFrom, none_made, one_made}
use Rattle.pb_keeper.specs.Leads.{SaidLeads}
use Rattle.pb_keeper.specs.Made.{IsMade, runs_within}
use Rattle.pb_keeper.specs.Stats.{Counted, KeptTable}
use Rattle.pb_keeper.proofs.EachPart.{AreMade}
use Rattle.pb_keeper.proofs.Leading.{leads_none, leads_on, leads_observers}
use Rattle.pb_keeper.proofs.Statistics.{counted_none, counted_on}

-- one conversation of the only seat made these changes
abbrev pub IsLed : KeptTable → List Writes → KeptTable → Type 0
IsLed first changes table = SaidLeads (Counted first.state.observers first.stats table.stats (AreMade first.state.observers changes)) first.state table.state

pub led_by : (limit : ℕ) (first : KeptTable) (changes : List Writes) (table : KeptTable) → KeepsFrom limit first changes table → IsLed first changes table
led_by limit first changes table none_made = leads_none first.state (counted_none tt no_part)
led_by limit first changes table (one_made before batch between new k is) =
    let was = led_by limit first before between k in
    let bound = runs_within limit (map.len between.state.entries) in
    leads_on was (subst (λ (l : List ObserverOf). SaidLeads (Counted l between.stats table.stats (IsMade l bound batch is.commit)) between.state table.state) (leads_observers first.state between.state was) is.leads)
    (λ said more x y. counted_on x y (λ p q. one_part before (before ++ batch ∷ []) said more p (record { batch = batch; commit = is.commit; bound = bound; few = omega arith; now_is = refl; made = q })))
