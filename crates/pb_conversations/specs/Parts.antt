-- Conversations part after part. A part leads from one place to another. A place is what the next part depends on: how often something was
-- tried, the last mark that was found, where a plan stands.
use Rattle.std.specs.Prelude.{◌≡◌, ℕ, ◌+◌, List, [], ◌++◌}

-- parts from one place to another, one after another
pub data IsOfParts {S E : Type 0} (Part : S → S → List E → Type 0) (s : S) : S → List E → Type 0 where
  no_part : IsOfParts Part s s []
  one_part : (t u : S) (said more : List E) → IsOfParts Part s t said → Part t u more → IsOfParts Part s u (said ++ more)

-- parts, and then this where they lead: what ends them, or a part of which there is just a beginning
pub record EndsIn {S E : Type 0} (Part : S → S → List E → Type 0) (Last : S → List E → Type 0) (s : S) (said : List E) : Type 0 where
  pub at : S
  pub before : List E
  pub parts : IsOfParts Part s at before
  pub last : List E
  pub ends : Last at last
  pub said_is : said ≡ before ++ last

-- the next one of parts that are counted from 0
abbrev pub IsNextOf : {E : Type 0} → (ℕ → List E → Type 0) → ℕ → ℕ → List E → Type 0
IsNextOf {E} Part n m said = (m ≡ n + 1) × Part n said

-- a beginning of what is whole so: with some rest it is that
abbrev pub IsBeginningOf : {E : Type 0} → (List E → Type 0) → List E → Type 0
IsBeginningOf {E} Whole said = (rest : List E) × Whole (said ++ rest)
