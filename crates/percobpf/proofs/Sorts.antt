-- Of which sort the tablet at a place is, by whether the number of swaps there is even.
use Rattle.std.proofs.Common.{◌≡◌, ℕ, ◌%◌, zero, suc, Bool, true, false, refl, arith, ◌∙◌, ◌==◌, not}
use Rattle.percobpf.specs.Places.{is_slab}

-- a tablet that is replaced twice is of its first sort again
twice : (b : Bool) → not (not b) ≡ b
twice true = refl
twice false = refl

-- so after an even number of swaps the tablet at a place is of its first sort
pub slab_after_even : (place n : ℕ) → n % 2 ≡ 0 → is_slab place n ≡ (place == 1)
slab_after_even place zero e = refl
slab_after_even place (suc zero) e = absurd cc
slab_after_even place (suc (suc n)) e = twice (is_slab place n) ∙ slab_after_even place n (omega (arith, e))

-- and after an odd number of the other
pub slab_after_odd : (place n : ℕ) → n % 2 ≡ 1 → is_slab place n ≡ not (place == 1)
slab_after_odd place zero e = absurd cc
slab_after_odd place (suc zero) e = refl
slab_after_odd place (suc (suc n)) e = twice (is_slab place n) ∙ slab_after_odd place n (omega (arith, e))
