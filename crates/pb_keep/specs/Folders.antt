-- A folder in memory.
use Rattle.std.specs.Prelude.{ℕ, List, [], Option, Some, None}

-- what the new file has while it is closed, and nothing while it is open
abbrev pub seen_of_closed : {F : Type 0} → (F → List ℕ) → Option F → List ℕ
seen_of_closed seen None = []
seen_of_closed seen (Some file) = seen file

-- what a crash may leave of it
abbrev pub leaves_of_closed : {F : Type 0} → (F → List ℕ → Type 0) → Option F → List ℕ → Type 0
leaves_of_closed may_leave None c = ⊥
leaves_of_closed may_leave (Some file) c = may_leave file c
