-- The frames after the slots, one slot more at a time: the steps of the verifier's loop.
use Rattle.std.proofs.Common.{◌≡◌, ℕ, suc, ◌+◌, List, [], ◌∷◌, ◌++◌, refl, zero, add-one, length, length-append, arith}
use Rattle.pb_accepted.specs.Words.{Insn, insn_at}
use Rattle.pb_accepted.specs.Arriving.{outs, in_at, frame_before, frame_after}

-- one slot more adds the frame after its instruction
pub outs_more : (p : List Insn) (n : ℕ) → outs p (n + 1) ≡ outs p n ++ frame_after (insn_at p n) (in_at p n) ∷ []
unfolding outs in_at
outs_more p n = rw add-one refl

-- the frame before a slot, folded over the frames after all earlier ones
pub in_is : (p : List Insn) (n : ℕ) → in_at p n ≡ frame_before p n (outs p n)
unfolding in_at
in_is p n = refl

pub outs_none : (p : List Insn) → outs p 0 ≡ []
unfolding outs
outs_none p = refl

pub length-outs : (p : List Insn) (n : ℕ) → length (outs p n) ≡ n
unfolding outs
length-outs p zero = refl
length-outs p (suc n) = simp length-append (let h = length-outs p n in omega arith)
