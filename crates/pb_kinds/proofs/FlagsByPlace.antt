-- Flags by their places, and as parts of their list: definitions ask place by place, and the code takes slices.
use Rattle.std.proofs.Common.{◌≡◌, ℕ, zero, suc, ◌+◌, ◌≤◌, Bool, true, List, [], ◌∷◌, ◌++◌, length, take, drop, replicate, refl, ap, arith, add-one, drop-cons}
use Rattle.std.specs.List.{list_all}
use Rattle.pb_kinds.specs.declared.frame.Frame.{Frame}
use Rattle.pb_kinds.specs.Ranges.{has_bytes, set_flags}

-- flags from a place on, asked one by one, are all set where that part of the list is
pub all_by_place : (f : Frame) (i n : ℕ) → i + n ≤ length f.written → has_bytes f i n ≡ list_all (λ b. b) (take n (drop i f.written))
all_by_place f i zero l = refl
all_by_place f i (suc n) l = grind (arith, add-one, drop-cons, f.written, all_by_place f (i + 1) n (omega arith))

-- setting flags from a place on leaves what stands before and after them
pub set_by_parts : (w : List Bool) (i n : ℕ) → i ≤ length w → set_flags w i n ≡ take i w ++ replicate n true ++ drop (i + n) w
set_by_parts w zero n l = let e : 0 + n ≡ n = omega arith in rw e refl
set_by_parts [] (suc i) n l = absurd (omega arith)
set_by_parts (b ∷ w) (suc i) n l = let e : suc i + n ≡ suc (i + n) = omega arith in rw e (ap (λ t. b ∷ t) (set_by_parts w i n (omega arith)))
