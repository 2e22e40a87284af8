-- The helpers by number, and which of them a program may call. RFC 9669 leaves helpers to the platform (section 4.3.1).
-- They stand below the crate of helpers, since the machine does what they do.
use Rattle.std.specs.Prelude.{ℤ, pos, Bool, false, cond, Option, Some, None, refl}
use Rattle.std.specs.Ordering.{int_eq}
use Rattle.std.specs.Coded.{Coded, code_by, coded×, coded_bool}

-- what a program may ask of the table: a cell's value, a write, a deletion, or its own start timestamp
pub data Helper : Type 0 where
  Read : Helper
  Write : Helper
  Delete : Helper
  Start : Helper

-- the helpers that a program may call
pub record HelperSet : Type 0 where
  pub read : Bool
  pub write : Bool
  pub delete : Bool
  pub start : Bool

-- a program that is declared none computes, and neither reads nor writes a cell
abbrev pub no_helpers : HelperSet
no_helpers = record { read = false; write = false; delete = false; start = false }

-- a set as a tree, by which two are compared
abbrev pub helper_code : Coded HelperSet
helper_code =
    code_by (Bool × (Bool × (Bool × Bool)))
    (coded× coded_bool (coded× coded_bool (coded× coded_bool coded_bool)))
    (λ h. (h.read, (h.write, (h.delete, h.start))))
    (λ p. record { read = p.0; write = p.1.0; delete = p.1.1.0; start = p.1.1.1 })
    (λ _. refl)

-- 1 reads, 2 writes, 3 deletes and 4 returns the start
abbrev pub helper_of : ℤ → Option Helper
helper_of k = cond (int_eq k (pos 1)) (Some Read) (cond (int_eq k (pos 2)) (Some Write) (cond (int_eq k (pos 3)) (Some Delete) (cond (int_eq k (pos 4)) (Some Start) None)))

-- whether a program may call it
abbrev pub has_helper : HelperSet → Helper → Bool
has_helper h Read = h.read
has_helper h Write = h.write
has_helper h Delete = h.delete
has_helper h Start = h.start

-- a helper that isn't declared is as one that there isn't: a call of either is refused with the same code
abbrev pub if_declared : HelperSet → Option Helper → Option Helper
if_declared h None = None
if_declared h (Some x) = cond (has_helper h x) (Some x) None

-- the declared helper of this number
abbrev pub declared_helper : HelperSet → ℤ → Option Helper
declared_helper h k = if_declared h (helper_of k)
