-- What fits a frame fits one that says less.
use Rattle.std.proofs.Common.{arith, ◌≡◌, ◌≢◌, ℕ, Option, refl}
use Rattle.pb_sound.specs.Words.{Kind, Frame, kind_of, Environment, State, Fact, HasKind, HasByte, Says}
use Rattle.pb_sound.specs.Fits.{Holds, FitsFrame}

-- g says no more than f
abbrev pub SaysLess : Frame → Frame → Type 0
SaysLess g f = (x : Fact) → Says g x → Says f x

holds_less : (e : Environment) (f : Frame) (r : ℕ) (v : Option ℕ) (k : Kind) → (k ≢ Kind.Unset → kind_of f r ≡ k) → Holds e (kind_of f r) v → Holds e k v
holds_less e f r v k same h = grind arith

-- so a state that fits the frame after an instruction fits the one before the next slot
pub fits_less : (e : Environment) (g f : Frame) (s : State) → SaysLess g f → FitsFrame e f s → FitsFrame e g s
fits_less e g f s less t = record {
  reg = λ r. holds_less e f r (s.regs r) (kind_of g r) (λ set. (less (HasKind r (kind_of g r)) (record { kind = refl; set = set })).kind) (t.reg r);
  byte = λ i w. t.byte i (less (HasByte i) w);
}
