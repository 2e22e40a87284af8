-- What an instruction does in the cells copies what it does by the definitions.
use Rattle.std.specs.Prelude.{◌≡◌}
use Rattle.pb_sound.specs.Words.{Insn, Environment, State, Reply, IsReply, Outcome, Goes, Asks, Ends, Stuck, does}
use Rattle.pb_sound.specs.Cells.{Cells, CellsOutcome, CellsGo, CellsAsk, CellsEnd, IsSafe, cells_act}
use Rattle.pb_sound.specs.Mirrors.{Mirrors, IsHere}

-- unless the definitions are stuck, it does the same
abbrev pub Copies : Environment → Type 0 → Outcome → CellsOutcome → Type 0
Copies e safe Stuck n = Unit {0}
Copies e safe (Goes t) (CellsGo d) = safe × Mirrors e d t
Copies e safe (Asks a go) (CellsAsk b on) = safe × (a ≡ b) × ((r : Reply) → IsReply r → Mirrors e (on r) (go r))
Copies e safe (Ends v ws) (CellsEnd w us) = (w ≡ v) × (us ≡ ws)
Copies e safe o n = ⊥

-- of any instruction, accepted or not: so acceptance comes in later, and once
abbrev pub CellsCopy : Type 0
CellsCopy = (e : Environment) (c : Cells) (s : State) (i : Insn) → IsHere e → Mirrors e c s → Copies e (IsSafe c i) (does e s i) (cells_act e.start c i)
