use Rattle.std.proofs.Common.{◌≡◌, ℕ, ◌<◌, take, Some, slice_get}
use Rattle.pb_state.specs.Words.{Cell, Revision}
use Rattle.pb_state.specs.CarriedOver.{AreVersionsBy, IsCarriedOver, MayFollow}
use Rattle.pb_state.proofs.parts.Parts.carry_over.Given as goal

-- the state has begun with the versions before the place, each of which may come next after those before it
abbrev pub invariant-loop-place : goal.invariant-loop-place
invariant-loop-place g l = record {
  carried : IsCarriedOver l.fn.self.observers l.fn.self.seats l.last.0 (take l.place l.cells) l.self;
  versions : AreVersionsBy l.last.0 (take l.place l.cells);
  ordered : (n : ℕ) (c : Cell × Revision) → n < l.place → slice_get l.cells n ≡ Some c → MayFollow l.fn.self.observers l.last.0 (take n l.cells) c;
}
