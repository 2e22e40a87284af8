-- The lowest code of a rule is found part by part: by `or`, in the order in which the definition lists the codes.
use Rattle.std.proofs.Common.{◌≡◌, List, ◌++◌, Option}
use Rattle.std.specs.Option.{option_or}
use Rattle.pb_verify.specs.Words.{RuleCode, lowest_code}
use Rattle.pb_helpers.proofs.LowestCode.{lowest_append}

-- the lowest of two lists of codes, and of more
pub or_two : (a b : List RuleCode) {ra rb r : Option RuleCode} → ra ≡ lowest_code a → rb ≡ lowest_code b → r ≡ option_or ra rb → r ≡ lowest_code (a ++ b)
or_two a b ea eb e = simp lowest_append cc

pub or_three : (a b c : List RuleCode) {ra rb rc r1 r2 : Option RuleCode} → ra ≡ lowest_code a → rb ≡ lowest_code b → rc ≡ lowest_code c → r1 ≡ option_or ra rb → r2 ≡ option_or r1 rc → r2 ≡ lowest_code ((a ++ b) ++ c)
or_three a b c ea eb ec e1 e2 = or_two (a ++ b) c (or_two a b ea eb e1) ec e2

pub or_four : (a b c d : List RuleCode) {ra rb rc rd r1 r2 r3 : Option RuleCode} → ra ≡ lowest_code a → rb ≡ lowest_code b → rc ≡ lowest_code c → rd ≡ lowest_code d → r1 ≡ option_or ra rb → r2 ≡ option_or r1 rc → r3 ≡ option_or r2 rd → r3 ≡ lowest_code (((a ++ b) ++ c) ++ d)
or_four a b c d ea eb ec ed e1 e2 e3 = or_two ((a ++ b) ++ c) d (or_three a b c ea eb ec e1 e2) ed e3

pub or_five : (a b c d e : List RuleCode) {ra rb rc rd re r1 r2 r3 r4 : Option RuleCode} → ra ≡ lowest_code a → rb ≡ lowest_code b → rc ≡ lowest_code c → rd ≡ lowest_code d → re ≡ lowest_code e → r1 ≡ option_or ra rb → r2 ≡ option_or r1 rc → r3 ≡ option_or r2 rd → r4 ≡ option_or r3 re → r4 ≡ lowest_code ((((a ++ b) ++ c) ++ d) ++ e)
or_five a b c d e ea eb ec ed ee e1 e2 e3 e4 = or_two (((a ++ b) ++ c) ++ d) e (or_four a b c d ea eb ec ed e1 e2 e3) ee e4
