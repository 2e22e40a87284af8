-- States of one program at two placements that are alike, and what an instruction does from them.
use Rattle.std.specs.Prelude.{◌≡◌, ℕ, ◌+◌, Option, IsTrue}
use Rattle.pb_sound.specs.Words.{Insn, Placement, State, Reply, IsReply, Outcome, Goes, Asks, Ends, Kind, Frame, kind_of, has_byte, after}

-- a number is the same; where pointers point follows from the frame
abbrev pub SameNumber : Kind → Option ℕ → Option ℕ → Type 0
SameNumber Kind.Unset v w = Unit {0}
SameNumber Kind.Number v w = v ≡ w
SameNumber (Kind.Stack k) v w = Unit {0}
SameNumber (Kind.Record k) v w = Unit {0}

-- states at two placements: one slot, the same writes, numbers and written bytes
pub record Alike (a b : Placement) (f : Frame) (s t : State) : Type 0 where
  pub slot : s.slot ≡ t.slot
  pub writes : s.writes ≡ t.writes
  pub reg : (r : ℕ) → SameNumber (kind_of f r) (s.regs r) (t.regs r)
  pub byte : (i : ℕ) → IsTrue (has_byte f i) → s.stack (a.stack + i) ≡ t.stack (b.stack + i)

-- both go on to states that are alike after the instruction, with each reply where they ask, or end with the same
abbrev pub Agree : Placement → Placement → Frame → Insn → Outcome → Outcome → Type 0
Agree a b f i (Goes s) (Goes t) = Alike a b (after f i) s t
Agree a b f i (Asks x go) (Asks y on) = (x ≡ y) × ((r : Reply) → IsReply r → Alike a b (after f i) (go r) (on r))
Agree a b f i (Ends v ws) (Ends w us) = (v ≡ w) × (ws ≡ us)
Agree a b f i o n = ⊥
