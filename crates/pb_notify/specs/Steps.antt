-- What the instructions of a run's machine do: one, which a world notes for each, or all up to the next ask or the
-- exit, as a worker has them done. The second is defined by the first, so that both have one meaning.
use Rattle.std.specs.Prelude.{◌≡◌, ℕ, ◌≤◌, length}
use Rattle.pb_notify.specs.Words.{slots, Placement, IsPlacement, Position, Moved, MachinePhase, Went, EndsAt, Moves, IsAskOrEnd, Meant, Declared}
use Rattle.pb_notify.specs.Machines.{ExitLeaves}

-- no run does more instructions than its program has slots
pub record WentOn (v w : Position) : Type 0 where
  pub went : Went v w
  pub most : w.taken ≤ slots w.judged.program.insns

-- the exit, with register 0, and what the run of this observer declares
pub record ExitsAs (o : ℕ) (v : Position) (r : ℕ) (what : Declared) : Type 0 where
  pub left : Meant
  pub leaves : ExitLeaves v left
  pub result : r ≡ left.result
  pub declares : what ≡ Declared.Run o left

-- what one instruction does where the machine stands, also at the exit
pub record MovesOn (v : Position) (m : Moved) (w : Position) : Type 0 where
  pub going : v.phase ≡ MachinePhase.Going
  pub moves : Moves v m w
  pub most : w.taken ≤ slots w.judged.program.insns

-- ---- all instructions up to the next ask or the exit

-- any number of instructions after which it goes on
pub data Proceeds (v : Position) : Position → Type 0 where
  at_first : Proceeds v v
  one_more : (u w : Position) → Proceeds v u → WentOn u w → Proceeds v w

-- what the first one that asks or ends does, after all before it
pub record FollowsOn (v : Position) (m : Moved) (w : Position) : Type 0 where
  pub last : Position
  pub proceeds : Proceeds v last
  pub stops : IsAskOrEnd m
  pub moves : MovesOn last m w

-- the next instruction is the exit
abbrev pub IsAtExit : Position → Type 0
IsAtExit v = (r : ℕ) × ((a : Placement) → IsPlacement (length v.bytes) a → EndsAt v r a)
