-- Lists of codes: what holds of each code of a list, and which codes stand in it.
use Rattle.std.proofs.Common.{◌≡◌, Bool, true, [], ◌∷◌, refl, arith, All, Contains}
use Rattle.std.proofs.lemmas.List.Elements.{All-nil, All-cons}
use Rattle.law_programs.specs.Words.{RuleCode, when}

pub each_one : (P : RuleCode → Type 0) (d : RuleCode) → P d → All P (d ∷ [])
each_one P d h = All-cons P d [] h (All-nil P)

-- what holds of a code where its rule is broken holds of each code that is listed for it
pub each_when : (P : RuleCode → Type 0) (b : Bool) (d : RuleCode) → (b ≡ true → P d) → All P (when b d)
each_when x b d h = grind arith

pub stands_one : (d : RuleCode) → Contains (d ∷ []) d
stands_one d = (0, omega arith, refl)

-- a code is listed where its rule is broken
pub when_contains : (b : Bool) (d : RuleCode) → b ≡ true → Contains (when b d) d
when_contains b d e = grind arith
