-- The frame before a slot states what is known on every way to it, and no more. This is defined by single facts and without an
-- order of slots, so that the verifier's pass could go another way and keep it; the laws of `pb_sound` stand on it.
use Rattle.std.specs.Prelude.{◌≡◌, ◌↔◌, ℕ, ◌<◌, List, Option, Some, None, IsTrue, IfSome}
use Rattle.pb_accepted.specs.Words.{Insn, insn_at, Kind, Frame, entry_frame, has_byte, KnowsKind}
use Rattle.pb_accepted.specs.Arriving.{in_at, frame_after, if_leads}

-- the frame after the instruction of slot m
abbrev pub out_at : List Insn → ℕ → Option Frame
out_at p m = frame_after (insn_at p m) (in_at p m)

-- the instruction of the earlier slot m leads to slot n, and this is the frame after it
pub record IsWay (p : List Insn) (n m : ℕ) (f : Frame) : Type 0 where
  pub earlier : m < n
  pub leads : if_leads (insn_at p m) m n (out_at p m) ≡ Some f

-- what a frame says: the kind of a register, and that a byte is written
pub data Fact : Type 0 where
  HasKind : ℕ → Kind → Fact
  HasByte : ℕ → Fact

-- the frame says this fact
abbrev pub Says : Frame → Fact → Type 0
Says f (HasKind r k) = KnowsKind f r k
Says f (HasByte i) = IsTrue (has_byte f i)

-- entry is the only way to the first slot. The frame before a later one states exactly the facts that every way to it states, and
-- if there is no frame, there is no way
pub record IsMeetOfWays (p : List Insn) : Type 0 where
  pub first : in_at p 0 ≡ Some entry_frame
  pub later : (n : ℕ) → 0 < n → IfSome (in_at p n) (λ f. (x : Fact) → Says f x ↔ ((m : ℕ) (g : Frame) → IsWay p n m g → Says g x))
  pub none : (n m : ℕ) (g : Frame) → 0 < n → in_at p n ≡ None → ¬ (IsWay p n m g)

-- it holds of every list of instructions, accepted or not
abbrev pub FramesAreMeets : Type 0
FramesAreMeets = (p : List Insn) → IsMeetOfWays p
