-- Where the rules of an instruction hold, the machine goes on.
use Rattle.std.proofs.Common.{arith, ◌≡◌, []}
use Rattle.pb_sound.specs.Words.{Insn, IsPlaced, Environment, State, does, act, Frame, insn_rules}
use Rattle.pb_sound.specs.Fits.{FitsFrame}
use Rattle.pb_sound.specs.Outcomes.{GoesOn}
use Rattle.pb_sound.proofs.Registers.{IsFollowed}
use Rattle.pb_sound.proofs.Arithmetic.{alu_on, mov_sx_on, neg_on, load_imm_on}
use Rattle.pb_sound.proofs.Loads.{load_on}
use Rattle.pb_sound.proofs.Stores.{store_imm_on, store_on}
use Rattle.pb_sound.proofs.Jumps.{jump_on, jump_if_on, exit_on}
use Rattle.pb_sound.proofs.Calls.{call_on}

-- every instruction, by its kind
does_on : (e : Environment) (f : Frame) (s : State) (i : Insn) → IsPlaced e → IsFollowed e.judged.program.insns s.slot i → insn_rules e.judged s.slot f i ≡ [] → FitsFrame e f s → GoesOn e f s.slot i (does e s i)
does_on e f s i pl a b t = grind (arith, alu_on, mov_sx_on, neg_on, load_imm_on, load_on, store_imm_on, store_on, jump_on, jump_if_on, call_on, exit_on)

-- and so it is at a slot where that instruction stands
pub acts_on : (e : Environment) (f : Frame) (s : State) (i : Insn) → IsPlaced e → IsFollowed e.judged.program.insns s.slot i → insn_rules e.judged s.slot f i ≡ [] → FitsFrame e f s → GoesOn e f s.slot i (act e s)
unfolding act
acts_on e f s i pl a b t = rw a.at (does_on e f s i pl a b t)
