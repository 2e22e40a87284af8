-- The shared table as a tree of numbers, as what is kept in a model has to have one.
use Rattle.std.specs.Prelude.{ℕ, List, refl}
use Rattle.std.specs.Coded.{Coded, code_by, coded×, coded_ℕ, coded_list}
use Rattle.pb_core.specs.Words.{StateOf, state_code, Entry}
use Rattle.pb_history.specs.contracts.entry.Entry as entry
use Rattle.pb_core.specs.Calls.{SharedOf}

-- journal, state, clock as opened, and limit
abbrev pub shared_code : Coded SharedOf
shared_code =
    code_by (List Entry × (StateOf × (ℕ × (ℕ × ℕ)))) (coded× (coded_list entry.the_row.coded) (coded× state_code (coded× coded_ℕ (coded× coded_ℕ coded_ℕ))))
    (λ s. (s.journal, (s.state, (s.opened, (s.limit, s.places)))))
    (λ p. record { journal = p.0; state = p.1.0; opened = p.1.1.0; limit = p.1.1.1.0; places = p.1.1.1.1 })
    (λ _. refl)
