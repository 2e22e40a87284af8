-- Frames: what is known of the registers and the stack bytes before an instruction. RFC 9669 has no verifier: the kinds
-- are this project's own profile. Rules, frames after an instruction and the resolved operations are all said by them.
use Rattle.std.specs.Prelude.{ℕ, pos, Bool, true, false, ◌&&◌, if◌then◌else◌, List, [], ◌∷◌, replicate, slice_index_or}
use Rattle.std.specs.Ordering.{int_eq}
use Rattle.pb_isa.specs.declared.limits.TheConstants.{STACK_BYTES}
use Rattle.pb_kinds.specs.declared.frame.Kind.{Kind}
use Rattle.pb_kinds.specs.declared.frame.Frame.{Frame}

-- what is known of a register, by its number
abbrev pub kind_of : Frame → ℕ → Kind
kind_of f r = slice_index_or f.kinds r Kind.Unset

-- whether a stack byte is written, counted from the lowest; beyond the end of the list none is, so that no proof has to
-- know how many flags a frame has
abbrev pub has_byte : Frame → ℕ → Bool
has_byte f i = slice_index_or f.written i false

-- at entry register 1 points to the record and register 10 to the end of the stack, and no byte is written
unfoldable pub entry_frame : Frame
entry_frame = record {
  kinds = Kind.Unset ∷ Kind.Record (pos 0) ∷ Kind.Unset ∷ Kind.Unset ∷ Kind.Unset ∷ Kind.Unset ∷ Kind.Unset ∷ Kind.Unset ∷ Kind.Unset ∷ Kind.Unset ∷ Kind.Stack (pos 0) ∷ [];
  written = replicate STACK_BYTES false;
}

-- pointers are of one kind only where they point to one place
abbrev pub same_kind : Kind → Kind → Bool
same_kind Kind.Unset Kind.Unset = true
same_kind Kind.Number Kind.Number = true
same_kind (Kind.Stack k) (Kind.Stack m) = int_eq k m
same_kind (Kind.Record k) (Kind.Record m) = int_eq k m
same_kind _ _ = false

-- what two kinds both say: unequal ones say nothing together
abbrev pub meet : Kind → Kind → Kind
meet a b = if same_kind a b then a else Kind.Unset

-- element by element
abbrev pub pointwise : {A : Type 0} → (A → A → A) → List A → List A → List A
pointwise f (a ∷ r) (b ∷ s) = f a b ∷ pointwise f r s
pointwise f [] s = []
pointwise f (a ∷ r) [] = []

-- of each register what both frames say
abbrev pub meet_kinds : List Kind → List Kind → List Kind
meet_kinds = pointwise meet

-- a byte is written where both say so
abbrev pub meet_bytes : List Bool → List Bool → List Bool
meet_bytes = pointwise (λ a b. a && b)

-- what both frames say; the law `joins_are_meets` says it without the lists
unfoldable pub join : Frame → Frame → Frame
join a b = record { kinds = meet_kinds a.kinds b.kinds; written = meet_bytes a.written b.written }

-- nothing is known, so that a read of the register breaks 21
abbrev pub is_unset : Kind → Bool
is_unset Kind.Unset = true
is_unset _ = false

-- it holds a number
abbrev pub is_number_kind : Kind → Bool
is_number_kind Kind.Number = true
is_number_kind _ = false

-- it points to stack or record; most arithmetic with it, storing it and comparing it break rules of their own
abbrev pub is_pointer : Kind → Bool
is_pointer (Kind.Stack k) = true
is_pointer (Kind.Record k) = true
is_pointer _ = false
