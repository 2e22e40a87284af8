-- Addresses at a distance from a place.
use Rattle.std.proofs.Common.{◌≡◌, ℕ, ◌<◌, ◌≤◌, Bool, true, ℤ, pos, negsuc, ◌+ℤ◌, neg_ℤ, ◌≤ℤ◌, ◌+◌, int_le, ◌&&◌, arith}
use Rattle.std.proofs.lemmas.Float.{T_from_true}
use Rattle.std.proofs.lemmas.Int.{ints}
use Rattle.pb_sound.specs.Words.{STACK_BYTES, alu, word, AluOp, Width, address, lies_in, in_record, from_low}
use Rattle.pb_base.proofs.Logic.{test_is_true as t_true}

-- two distances one after the other are their sum
pub moved_word : (b : ℕ) (k z : ℤ) → address (address b k) z ≡ address b (k +ℤ z)
moved_word b k z = grind arith

-- what is subtracted is added as its negative
pub sub_is : (a : ℕ) (z : ℤ) → alu AluOp.Sub Width.Bits64 a (word z) ≡ address a (neg_ℤ z)
sub_is a z = grind arith

pub plus_zero : (z : ℤ) → z +ℤ pos 0 ≡ z
plus_zero z = omega (arith, ints)

pub le_from : (a b : ℤ) → int_le a b ≡ true → a ≤ℤ b
le_from a b h = record { le = T_from_true _ h }

pub le_to : (a b : ℤ) → a ≤ℤ b → int_le a b ≡ true
le_to a b h = t_true _ h.le

le_more : (a : ℤ) (m k : ℕ) → m ≤ k → a ≤ℤ pos m → a ≤ℤ pos k
le_more a m k more h = grind arith

both_true : (a b c : Bool) → (a && b) ≡ true → (b ≡ true → c ≡ true) → (a && c) ≡ true
both_true a b c e f = grind arith

-- what lies in a record lies in a larger one
pub in_larger_record : (m k : ℕ) (z : ℤ) (n : ℕ) → m ≤ k → in_record m z n ≡ true → in_record k z n ≡ true
in_larger_record m k z n more h = both_true (int_le (pos 0) z) (int_le (z +ℤ pos n) (pos m)) (int_le (z +ℤ pos n) (pos k)) h (λ e. le_to (z +ℤ pos n) (pos k) (le_more (z +ℤ pos n) m k more (le_from (z +ℤ pos n) (pos m) e)))

-- stack bytes at a distance from the stack's end lie where their place from the lowest one says
pub stack_at : (b n : ℕ) (z : ℤ) → 0 < n → negsuc 511 ≤ℤ z → (z +ℤ pos n) ≤ℤ pos 0 → b + STACK_BYTES < 18446744073709551616 → (address (b + STACK_BYTES) z ≡ b + from_low z) × (from_low z + n ≤ STACK_BYTES)
stack_at b n z some l h f = grind arith

-- n bytes between the ends of a region lie in it
pub lies_between : (base len x n : ℕ) → base ≤ x → x + n ≤ base + len → lies_in base len x n ≡ true
lies_between base len x n a b = grind arith
