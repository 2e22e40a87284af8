-- What an instruction does if its rules hold: the step of the proof that nothing is stuck, for one instruction and any state that
-- fits the frame before it.
use Rattle.std.specs.Prelude.{◌≡◌, ℕ, ◌<◌, IsTrue, is_some}
use Rattle.pb_sound.specs.Words.{COLUMNS, Insn, insn_at, Environment, State, Reply, IsReply, Outcome, Goes, Asks, Ends, Stuck, Frame, after, leads, has_slot}
use Rattle.pb_sound.specs.Fits.{FitsFrame}

-- the state is at a slot that the instruction i at slot n leads to, the first of an instruction, and what is known after i is so
pub record Arrives (e : Environment) (f : Frame) (n : ℕ) (i : Insn) (t : State) : Type 0 where
  pub leads : IsTrue (has_slot (leads n i) t.slot)
  pub first : IsTrue (is_some (insn_at e.judged.program.insns t.slot))
  pub fits : FitsFrame e (after f i) t

-- never stuck: it arrives, for each reply where it asks for a cell of a column up to 15; and exit alone ends
abbrev pub GoesOn : Environment → Frame → ℕ → Insn → Outcome → Type 0
GoesOn e f n i (Goes t) = Arrives e f n i t
GoesOn e f n i (Asks a go) = (a.column < COLUMNS) × ((r : Reply) → IsReply r → Arrives e f n i (go r))
GoesOn e f n i (Ends v ws) = i ≡ Insn.Exit
GoesOn e f n i Stuck = ⊥
