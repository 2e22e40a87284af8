-- What the tests of the rules decide.
use Rattle.std.proofs.Common.{◌≡◌, ℕ, zero, suc, ◌+◌, ◌<◌, Bool, true, false, not, ◌&&◌, ℤ, pos, negsuc, ◌+ℤ◌, ◌≤ℤ◌, int_le, T, refl, ap, subst, arith, Decides, is_none, nat_le, Option, None}
use Rattle.std.proofs.lemmas.Float.{T_from_true}
use Rattle.std.proofs.lemmas.Bool.{true_from_ne_false}
use Rattle.std.proofs.lemmas.Bool.Decides.{Decides-and}
use Rattle.law_programs.specs.Words.{Size, Kind, Frame, has_byte, is_unset, is_number_kind, is_pointer, in_stack, in_record, from_low, has_bytes, are_written, is_place, bytes_of}
use Rattle.law_programs.specs.Operands.{IsStackPointer, IsPointer}
use Rattle.law_programs.specs.Touches.{size_bytes, LieInStack, LieInRecord, SomeUnwritten}

-- ---- kinds

pub Decides-unset : (k : Kind) → Decides (is_unset k) (k ≡ Kind.Unset)
Decides-unset k = grind arith

pub Decides-number : (k : Kind) → Decides (is_number_kind k) (k ≡ Kind.Number)
Decides-number k = grind arith

pub Decides-pointer : (k : Kind) → Decides (is_pointer k) (IsPointer k)
Decides-pointer k = grind arith

-- ---- ranges

Decides-le : (a b : ℤ) → Decides (int_le a b) (a ≤ℤ b)
Decides-le a b = ((λ h. record { le = T_from_true _ h }), (λ h. true_from_ne_false (int_le a b) (λ e. subst T e h.le)))

-- the test of bytes in the stack decides whether they lie there
pub Decides-stack : (z : ℤ) (n : ℕ) → Decides (in_stack z n) (LieInStack z n)
Decides-stack z n = Decides-and _ _ (Decides-le (negsuc 511) z) (Decides-le (z +ℤ pos n) (pos 0))

pub Decides-record : (size : ℕ) (z : ℤ) (n : ℕ) → Decides (in_record size z n) (LieInRecord size z n)
Decides-record size z n = Decides-and _ _ (Decides-le (pos 0) z) (Decides-le (z +ℤ pos n) (pos size))

-- a load or a store moves so many bytes
pub bytes_are : (z : Size) → size_bytes z ≡ bytes_of z
bytes_are z = grind arith

-- ---- written bytes

abbrev SomeFrom : Frame → ℕ → ℕ → Type 0
SomeFrom f i n = (k : ℕ) × (k < n) × (has_byte f (i + k) ≡ false)

unwritten_from : (f : Frame) (i n : ℕ) → has_bytes f i n ≡ false → SomeFrom f i n
unwritten_from f i zero e = cc
unwritten_from f i (suc n) e = by (unwritten_from f (i + 1) n) (has_byte f i) refl e
  where
    by : (has_bytes f (i + 1) n ≡ false → SomeFrom f (i + 1) n) → (b : Bool) → has_byte f i ≡ b → (b && has_bytes f (i + 1) n) ≡ false → SomeFrom f i (suc n)
    by later true h e = let s = later e in (s.0 + 1, omega arith, (let a : i + (s.0 + 1) ≡ i + 1 + s.0 = omega arith in rw a s.2))
    by later false h e = (0, omega arith, (let a : i + 0 ≡ i = omega arith in rw a h))

not_from : (f : Frame) (i n k : ℕ) → k < n → has_byte f (i + k) ≡ false → has_bytes f i n ≡ false
not_from f i zero k l e = absurd (omega arith)
not_from f i (suc n) zero l e = grind arith
not_from f i (suc n) (suc k) l e = later (has_byte f i) (not_from f (i + 1) n k (omega arith) (let a : i + 1 + k ≡ i + suc k = omega arith in rw a e))
  where
    later : (b : Bool) → has_bytes f (i + 1) n ≡ false → (b && has_bytes f (i + 1) n) ≡ false
    later true h = h
    later false h = refl

-- where the bytes aren't all written there is one that isn't
pub some_unwritten : (f : Frame) (z : ℤ) (n : ℕ) → not (are_written f z n) ≡ true → SomeUnwritten f z n
some_unwritten f z n e = grind (arith, unwritten_from)

pub not_written : (f : Frame) (z : ℤ) (n : ℕ) → SomeUnwritten f z n → not (are_written f z n) ≡ true
not_written f z n s = ap not (not_from f (from_low z) n s.0 s.1 s.2)

-- ---- numbers

pub lt_from : (n m : ℕ) → nat_le n m ≡ false → m < n
lt_from n m h = grind arith

pub Decides-none : {A : Type 0} (o : Option A) → Decides (is_none o) (o ≡ None)
Decides-none o = grind arith
