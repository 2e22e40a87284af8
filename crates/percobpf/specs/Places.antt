-- Where spares go, and of which sort they are. Sorts are determined by swaps and not by parity, as each swap replaces what
-- the one before it put there. `spares_for` promises them.
use Rattle.std.specs.Prelude.{ℕ, ◌==◌, ◌+◌, ◌/◌, ◌%◌, zero, suc, Bool, not, List, [], ◌∷◌, ◌++◌}
use Rattle.pb_memtablet.specs.declared.either.EitherTablet.{EitherTablet}
use Rattle.pb_memtablet.specs.Either.{is_slab_inside}

-- whether the tablet at a place is a slab after so many swaps there
abbrev pub is_slab : ℕ → ℕ → Bool
is_slab place zero = place == 1
is_slab place (suc swaps) = not (is_slab place swaps)

-- a spare's place, and whether it is a slab
abbrev pub placed : ℕ × EitherTablet → ℕ × Bool
placed s = (s.0, is_slab_inside s.1)

-- the spare of this number: at each place they are swapped in one after another
abbrev pub spare_at : ℕ → ℕ × Bool
spare_at number = (number % 2, is_slab (number % 2) (number / 2 + 1))

-- so many spares, in order
abbrev pub spares : ℕ → List (ℕ × Bool)
spares zero = []
spares (suc number) = spares number ++ spare_at number ∷ []
