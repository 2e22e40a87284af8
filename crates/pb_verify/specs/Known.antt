-- What is known before each slot of a program, accepted or not: the contract of `frames` cites it. It is what the
-- verifier knows, so that `percobpf_story frames` and `explain` can show why a program is refused.
use Rattle.std.specs.Prelude.{ℕ, List, Option, Some, None}
use Rattle.pb_verify.specs.Words.{Insn, insn_at, Frame, in_at}

-- before an instruction; a second slot has none
abbrev pub known_by : Option Insn → Option Frame → Option Frame
known_by None f = None
known_by (Some i) f = f

-- the frame before slot n, where an instruction begins there and earlier ones lead to it
abbrev pub known_at : List Insn → ℕ → Option Frame
known_at p n = known_by (insn_at p n) (in_at p n)
