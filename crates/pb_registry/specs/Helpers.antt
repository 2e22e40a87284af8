-- The helpers of an observer, by their numbers. A set is named by a list, so that a helper which is named twice is a
-- fault and not one name too many.
use Rattle.std.specs.Prelude.{ℕ, Bool, true, not, ◌&&◌, ◌==◌, nat_lt, nat_le, if◌then◌else◌, List, [], ◌∷◌, Option, Some, None}
use Rattle.std.specs.List.{list_any}
use Rattle.pb_registry.specs.Words.{HelperSet}

-- a helper's number
abbrev pub is_helper : ℕ → Bool
is_helper n = nat_lt 0 n && nat_le n 4

-- whether a number stands in the list
abbrev pub is_named : ℕ → List ℕ → Bool
is_named n ns = list_any (λ m. m == n) ns

-- each is a helper's, and none stands twice
abbrev pub are_helpers : List ℕ → Bool
are_helpers [] = true
are_helpers (n ∷ ns) = is_helper n && (not (is_named n ns) && are_helpers ns)

-- the set of these helpers
abbrev pub helper_set : List ℕ → HelperSet
helper_set ns = record { read = is_named 1 ns; write = is_named 2 ns; delete = is_named 3 ns; start = is_named 4 ns }

-- the helpers of these numbers, where there is one to each, named once
abbrev pub helpers_of : List ℕ → Option HelperSet
helpers_of ns = if are_helpers ns then Some (helper_set ns) else None
