-- The codes of the verifier's rules. They are this project's own profile. A definition lists all codes that an
-- instruction breaks, by rising number, so that the lowest is the first, whatever order a body tests them in.
use Rattle.std.specs.Prelude.{ℕ, ◌≤◌, Bool, true, false, List, [], ◌∷◌, map, Option, Some, None}
use Rattle.pb_helpers.specs.declared.code.RuleCode.{RuleCode}

-- the number by which a code is reported
abbrev pub code_number : RuleCode → ℕ
code_number RuleCode.ReadsUnset = 21
code_number RuleCode.WritesR10 = 22
code_number RuleCode.PointerArithmetic = 23
code_number RuleCode.PointerStored = 24
code_number RuleCode.OutsideStack = 25
code_number RuleCode.UnwrittenByte = 26
code_number RuleCode.OutsideRecord = 27
code_number RuleCode.WritesRecord = 28
code_number RuleCode.ThroughNumber = 29
code_number RuleCode.NotDeclared = 30
code_number RuleCode.WrongArgument = 31
code_number RuleCode.BackwardJump = 32
code_number RuleCode.JumpOutside = 33
code_number RuleCode.JumpIntoPair = 34
code_number RuleCode.Unreachable = 35
code_number RuleCode.FallsOff = 36
code_number RuleCode.ExitsWithPointer = 37
code_number RuleCode.PointerCompared = 38

-- a code is listed where its rule is broken
abbrev pub when : Bool → RuleCode → List RuleCode
when true code = code ∷ []
when false code = []

-- of codes that are listed lowest first
abbrev pub lowest_code : List RuleCode → Option RuleCode
lowest_code [] = None
lowest_code (c ∷ cs) = Some c

-- the numbers rise from low to high; one can stand there twice
abbrev pub RisesWithin : ℕ → ℕ → List ℕ → Type 0
RisesWithin low high [] = low ≤ high
RisesWithin low high (n ∷ ns) = (low ≤ n) × RisesWithin n high ns

-- the codes are listed lowest first, all from low to high
abbrev pub CodesRiseWithin : ℕ → ℕ → List RuleCode → Type 0
CodesRiseWithin low high cs = RisesWithin low high (map code_number cs)
