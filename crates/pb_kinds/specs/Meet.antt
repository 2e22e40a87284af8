-- The join is the meet of two frames: a fact stands in it exactly if both have it. This is stated beside `join`, since a
-- definition that forgot too much or kept too much would be wrong in the same way as its body.
use Rattle.std.specs.Prelude.{◌≡◌, ◌≢◌, ◌↔◌, ℕ, IsTrue}
use Rattle.pb_kinds.specs.declared.frame.Kind.{Kind}
use Rattle.pb_kinds.specs.declared.frame.Frame.{Frame}
use Rattle.pb_kinds.specs.Frames.{kind_of, has_byte, join}

-- the register is known to be of this kind, which is one that says something
pub record KnowsKind (f : Frame) (r : ℕ) (k : Kind) : Type 0 where
  pub kind : kind_of f r ≡ k
  pub set : k ≢ Kind.Unset

-- f knows of each register and each byte what a and b both know
pub record IsMeet (a b f : Frame) : Type 0 where
  pub kinds : (r : ℕ) (k : Kind) → KnowsKind f r k ↔ (KnowsKind a r k × KnowsKind b r k)
  pub bytes : (i : ℕ) → IsTrue (has_byte f i) ↔ (IsTrue (has_byte a i) × IsTrue (has_byte b i))

-- of any two frames
abbrev pub JoinsAreMeets : Type 0
JoinsAreMeets = (a b : Frame) → IsMeet a b (join a b)
