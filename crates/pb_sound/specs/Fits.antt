-- What a frame states about the machine at a placement. The proof that nothing is stuck goes by it: the frame before a slot fits
-- the state of every run that comes there.
use Rattle.std.specs.Prelude.{◌≡◌, ℕ, ◌+◌, Option, Some, IsTrue}
use Rattle.pb_sound.specs.Words.{STACK_BYTES, Environment, State, address, Kind, Frame, kind_of, has_byte}

-- there is a value
abbrev pub HasValue : Option ℕ → Type 0
HasValue v = (x : ℕ) × (v ≡ Some x)

-- what a register of this kind holds: a pointer's distance is from the end of the stack, or from the record's first byte
abbrev pub Holds : Environment → Kind → Option ℕ → Type 0
Holds e Kind.Unset v = Unit {0}
Holds e Kind.Number v = HasValue v
Holds e (Kind.Stack k) v = v ≡ Some (address (e.place.stack + STACK_BYTES) k)
Holds e (Kind.Record k) v = v ≡ Some (address e.place.record_at k)

-- all that the frame says is so: registers are of their kinds, and written bytes have a value
pub record FitsFrame (e : Environment) (f : Frame) (s : State) : Type 0 where
  pub reg : (r : ℕ) → Holds e (kind_of f r) (s.regs r)
  pub byte : (i : ℕ) → IsTrue (has_byte f i) → HasValue (s.stack (e.place.stack + i))
