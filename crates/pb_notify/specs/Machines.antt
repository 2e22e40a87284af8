-- Machines of runs, seen by their positions, and what their exit leaves. At its exit a machine is seen before it
-- until that is declared, since memory may be refused then, and the exit is tried again.
use Rattle.std.specs.Prelude.{◌≡◌, ℕ, ◌+◌, ◌<◌, ◌≤◌, true, false, List, [], ◌∷◌, ◌++◌, length}
use Rattle.pb_notify.specs.Words.{JudgedOf, slots, Placement, IsPlacement, Ask, ask_of, reply_of, MachinePhase, Position, EndsAt, RepliedWith, IsAtSlot, Meant, IsMeant, Answer, value_in}
use Rattle.pb_isa.specs.Machine as machine
use Rattle.pb_helpers.specs.declared.ask.Reply.{Reply}
use Rattle.pb_notify.specs.declared.machine.Standing.{Standing}

-- before its first instruction
abbrev pub first_position : JudgedOf → List ℕ → ℕ → Position
first_position judged bytes start = record { judged = judged; bytes = bytes; start = start; talk = []; taken = 0; phase = MachinePhase.Going }

-- after its ask was replied to
abbrev pub after_reply : Position → Ask → machine.Reply → Position
after_reply v q r = record v { talk = v.talk ++ (ask_of q, r) ∷ []; taken = v.taken + 1; phase = MachinePhase.Going }

-- the instruction that asked is done, with what the read of its cell was answered
pub record HearsReply (v : Position) (q : Ask) (a : Answer) (w : Position) : Type 0 where
  pub reply : Reply
  pub reply_is : reply_of reply ≡ value_in a
  pub told : RepliedWith v q reply w
  pub most : w.taken ≤ slots w.judged.program.insns

-- what it leaves where its next instruction is the exit: the program's meaning of what it was given and of its replies
pub record ExitLeaves (v : Position) (f : Meant) : Type 0 where
  pub judged : f.judged ≡ v.judged
  pub bytes : f.bytes ≡ v.bytes
  pub start : f.start ≡ v.start
  pub talk : f.talk ≡ v.talk
  pub ends : (a : Placement) → IsPlacement (length v.bytes) a → EndsAt v f.result a
  pub meant : IsMeant f
  pub few : v.taken < slots v.judged.program.insns

-- ---- how a machine is kept

-- before the exit that left this
abbrev pub exit_at : Meant → ℕ → Position
exit_at f taken = record { judged = f.judged; bytes = f.bytes; start = f.start; talk = f.talk; taken = taken; phase = MachinePhase.Going }

-- and after it
abbrev pub ended_at : Meant → ℕ → Position
ended_at f taken = record { judged = f.judged; bytes = f.bytes; start = f.start; talk = f.talk; taken = taken + 1; phase = MachinePhase.Over f.result }

-- where a machine is seen: one that has exited, before its exit, until it does that again
abbrev pub position_in : Standing → Position
position_in (Standing.Running v) = v
position_in (Standing.Exited f taken slot false) = exit_at f taken
position_in (Standing.Exited f taken slot true) = ended_at f taken

-- what is kept of an exit is what that exit leaves, with its slot
abbrev pub IsKept : Standing → Type 0
IsKept (Standing.Running v) = Unit {0}
IsKept (Standing.Exited f taken slot again) = ExitLeaves (exit_at f taken) f × IsAtSlot (exit_at f taken) slot
