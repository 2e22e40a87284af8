-- The lowest code of rules that stand one after the other.
use Rattle.std.proofs.Common.{arith, ◌≡◌, List, ◌++◌}
use Rattle.std.specs.Option.{option_or}
use Rattle.pb_helpers.specs.declared.code.RuleCode.{RuleCode}
use Rattle.pb_helpers.specs.Codes.{lowest_code}

-- it is the lowest of the first ones, or else of the second: so `or` of two results finds it
pub lowest_append : (xs ys : List RuleCode) → lowest_code (xs ++ ys) ≡ option_or (lowest_code xs) (lowest_code ys)
lowest_append xs ys = grind arith
