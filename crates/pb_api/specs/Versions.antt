-- Which numbers a caller may pass.
use Rattle.std.specs.Prelude.{◌≤◌, ◌<◌, ◌↔◌, ℕ, Option, IsSome}

-- the numbers from one on and below another stand for something, and no others do
abbrev pub StandFrom : {A : Type 0} → ℕ → ℕ → (ℕ → Option A) → Type 0
StandFrom first end stands_for = (n : ℕ) → IsSome (stands_for n) ↔ ((first ≤ n) × (n < end))
