-- The frame with which each slot is reached, and the verdict of the rules on a whole program. A frame is a fold over the frames
-- after all earlier slots, in their order, since `verify` goes forward once; that the order doesn't matter is a law
-- (`FramesAreMeets`). `Accepts` and `Refuses` are what the contracts of `verify` and of all crates above speak of.
use Rattle.std.specs.Prelude.{◌≡◌, ℕ, zero, suc, ◌+◌, ◌<◌, Bool, false, ◌||◌, if◌then◌else◌, List, [], ◌∷◌, ◌++◌, Option, Some, None, nat_eq}
use Rattle.pb_accepted.specs.Words.{Insn, slots, insn_at, JudgedOf, Frame, join, entry_frame, RuleCode, lowest_code}
use Rattle.pb_accepted.specs.Rules.{insn_rules}
use Rattle.pb_accepted.specs.Following.{after, leads}

-- what two ways to a slot both say; where only one leads there, what that one says
abbrev pub merge : Option Frame → Option Frame → Option Frame
merge None g = g
merge (Some f) None = Some f
merge (Some f) (Some g) = Some (join f g)

-- n is one of these slots, which are those that an instruction leads to
abbrev pub has_slot : List ℕ → ℕ → Bool
has_slot [] n = false
has_slot (m ∷ ms) n = nat_eq n m || has_slot ms n

-- the frame after the instruction of slot m, if it leads to slot n
abbrev pub if_leads : Option Insn → ℕ → ℕ → Option Frame → Option Frame
if_leads None m n f = None
if_leads (Some i) m n f = if has_slot (leads m i) n then f else None

-- the join of what is known and of the frames after the slots from m on that lead to n
abbrev pub gather : List Insn → ℕ → ℕ → Option Frame → List (Option Frame) → Option Frame
gather p n m known [] = known
gather p n m known (f ∷ fs) = gather p n (m + 1) (merge known (if_leads (insn_at p m) m n f)) fs

-- the frame before slot n, where these are the frames after the slots before it: at entry nothing came before
abbrev pub frame_before : List Insn → ℕ → List (Option Frame) → Option Frame
frame_before p n fs = if nat_eq n 0 then Some entry_frame else gather p n 0 None fs

-- the frame after an instruction; none after a second slot, and none where nothing led to it
abbrev pub frame_after : Option Insn → Option Frame → Option Frame
frame_after (Some i) (Some f) = Some (after f i)
frame_after _ _ = None

-- the frames after the first n slots; none after a second slot, and none where nothing leads
unfoldable pub outs : List Insn → ℕ → List (Option Frame)
outs p zero = []
outs p (suc n) = outs p n ++ frame_after (insn_at p n) (frame_before p n (outs p n)) ∷ []

-- the frame before slot n, the join of those after every earlier instruction that leads to it; none where there is no such
unfoldable pub in_at : List Insn → ℕ → Option Frame
in_at p n = frame_before p n (outs p n)

-- the codes at a slot: a second slot has no rules, and an instruction that nothing leads to breaks one
abbrev pub codes_at : JudgedOf → ℕ → Option Insn → Option Frame → List RuleCode
codes_at j n None f = []
codes_at j n (Some i) None = RuleCode.Unreachable ∷ []
codes_at j n (Some i) (Some f) = insn_rules j n f i

-- the codes that are reported for slot n: none if the rules hold there
abbrev pub faults : JudgedOf → ℕ → List RuleCode
faults j n = codes_at j n (insn_at j.program.insns n) (in_at j.program.insns n)

-- the rules hold at every slot
abbrev pub Accepts : JudgedOf → Type 0
Accepts j = (n : ℕ) → n < slots j.program.insns → faults j n ≡ []

-- n is the least slot whose rules fail, and c the lowest code there
pub record Refuses (j : JudgedOf) (n : ℕ) (c : RuleCode) : Type 0 where
  pub inside : n < slots j.program.insns
  pub code : lowest_code (faults j n) ≡ Some c
  pub before : (m : ℕ) → m < n → faults j m ≡ []
